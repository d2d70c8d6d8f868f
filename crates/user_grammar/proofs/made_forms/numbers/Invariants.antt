use Rattle.std.proofs.Common.{◌≡◌, ◌++◌, ℕ, List, map, drop}
use Rattle.user_grammar.specs.Indexed.{names_in}
use Rattle.user_grammar.specs.Names.{AllDiffer}
use Rattle.user_grammar.specs.Production.{AreNumbers}
use Rattle.user_grammar.proofs.made_forms.numbers.Given as goal

-- the words that are left have the numbers that are left
abbrev pub invariant-loop-word : goal.invariant-loop-word
invariant-loop-word l =
    AllDiffer (names_in l.own) → (binds : List ℕ) → AreNumbers (names_in l.own) (map (λ word. word.now) l.words) binds
    → (left : List ℕ) × AreNumbers (names_in l.own) (map (λ word. word.now) (drop l.word-index l.words)) left × (l.all ++ left ≡ binds)
