-- Schemes become others exactly where their equations hold.
use Rattle.std.proofs.Common.{◌≡◌, ℕ, List, [], ◌∷◌, length, map, refl, arith}
use Rattle.std.specs.List.{AllByRecursion}
use Rattle.binding_terms.proofs.Lists.{cons_head, cons_tail}
use Rattle.scheme_terms.specs.SchemeTree.{SchemeTree}
use Rattle.scheme_terms.specs.Substituting.{applied}
use Rattle.pattern_unify.specs.FitInto.{Becomes}
use Rattle.proof_kernel.specs.Equating.{equated}

module _ (metas : List SchemeTree) (knowns : List ℕ) (ls : List ℕ) where
  pub become : (ss ts : List SchemeTree) → length ss ≡ length ts → AllByRecursion (Becomes metas knowns) (equated ls ss ts) → map (applied metas knowns (length ls)) ss ≡ ts
  become [] [] same h = refl
  become [] (t ∷ ts) same h = absurd (let no : ⊥ = omega (arith, same) in no)
  become (s ∷ ss) [] same h = absurd (let no : ⊥ = omega (arith, same) in no)
  become (s ∷ ss) (t ∷ ts) same h =
      let fewer : length ss ≡ length ts = omega (arith, same) in
      let rest = become ss ts fewer h.1 in
      λ i. h.0 i ∷ rest i

  pub becoming : (ss ts : List SchemeTree) → map (applied metas knowns (length ls)) ss ≡ ts → AllByRecursion (Becomes metas knowns) (equated ls ss ts)
  becoming [] ts h = tt
  becoming (s ∷ ss) [] h = tt
  becoming (s ∷ ss) (t ∷ ts) h = (cons_head h, becoming ss ts (cons_tail h))
