-- Looking a text up among others.
use Rattle.std.proofs.Common.{◌≡◌, ◌↔◌, ℕ, true, false, ◌||◌, IsTrue, List, [], ◌∷◌, inl, inr, ap, ◌∙◌}
use Rattle.std.proofs.Math.Bool.{or-true}
use Rattle.std.proofs.lemmas.Bool.{or_cases}
use Rattle.std.proofs.lemmas.Slice.Eq.{bytes_eq-Decides}
use Rattle.std.specs.List.{list_any}
use Rattle.std.specs.Str.{bytes_eq}
use Rattle.binding_terms.specs.Numbered.{AnyByRecursion}

pub found_among : (texts : List (List ℕ)) (text : List ℕ) → IsTrue (list_any (λ one. bytes_eq one text) texts) ↔ AnyByRecursion (λ one. one ≡ text) texts
found_among [] text = (λ found. (let no : false ≡ true = found in cc), λ among. absurd among)
found_among (one ∷ texts) text =
    let rest = list_any (λ (one : List ℕ). bytes_eq one text) texts in (
      λ found. elim (or_cases (bytes_eq one text) rest found) [
        | inl here ↦ inl ((bytes_eq-Decides one text).0 here)
        | inr later ↦ inr ((found_among texts text).0 later)
      ],
      λ among. elim among [
        | inl here ↦ ap (λ b. b || rest) ((bytes_eq-Decides one text).1 here)
        | inr later ↦ ap (λ b. bytes_eq one text || b) ((found_among texts text).1 later) ∙ or-true (bytes_eq one text)
      ],
    )
