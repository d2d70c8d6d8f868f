-- Spellings, by what follows a name in a word that begins with it.
use Rattle.std.proofs.Common.{◌≡◌, ◌↔◌, ℕ, Bool, IsTrue, List, [], ◌++◌, sym, subst, ◌∙◌, append-nil}
use Rattle.std.proofs.lemmas.List.{append_cancel_left}
use Rattle.std.specs.List.{AllByRecursion}
use Rattle.rule_schemes.specs.Reading.{IsEnding, IsSpelling}

pub spelled_by_ending : (name word ending : List ℕ) (r : Bool) → word ≡ name ++ ending → (IsTrue r ↔ AllByRecursion IsEnding ending) → IsTrue r ↔ IsSpelling name word
spelled_by_ending name word ending r is ends = (
  λ t. (ending, is, ends.0 t),
  λ spells. ends.1 (subst (AllByRecursion IsEnding) (append_cancel_left name spells.0 ending (sym spells.1 ∙ is)) spells.2),
)

-- a name is its own spelling
pub IsSpelling_itself : (name : List ℕ) → IsSpelling name name
IsSpelling_itself name = ([], sym (append-nil name), tt)
