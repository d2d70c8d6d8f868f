-- Each scheme inside is smaller than what holds it.
use Rattle.std.proofs.Common.{◌≡◌, ℕ, zero, suc, ◌+◌, ◌<◌, ◌≤◌, List, [], ◌∷◌, length, map, get_or, ap, arith}
use Rattle.scheme_terms.specs.SchemeTree.{SchemeTree, meta, known, local, con, Values, no_values, value, Parts, no_parts, part, values}
use Rattle.scheme_terms.specs.View.{scheme, scheme_part, scheme_parts, scheme_level, part_level}
use Rattle.scheme_terms.specs.declared.scheme.Scheme.{Scheme}
use Rattle.scheme_terms.specs.declared.scheme.Scheme.TheFolds.{fold_out-SArg}
use Rattle.scheme_terms.specs.declared.scheme.SArg.{SArg}

abbrev mutual
  pub size : SchemeTree → ℕ
  size (meta m vs) = suc (values_size vs)
  size (known k) = 1
  size (local i) = 1
  size (con p xs) = suc (parts_size xs)

  pub values_size : Values → ℕ
  values_size no_values = 0
  values_size (value s vs) = size s + values_size vs

  pub parts_size : Parts → ℕ
  parts_size no_parts = 0
  parts_size (part n s xs) = size s + parts_size xs

part_same : (x : SArg) → size (scheme_part x).1 ≡ size (scheme x.body)
part_same x = ap (λ (y : ℕ × SchemeTree). size y.1) (fold_out-SArg SchemeTree (ℕ × SchemeTree) scheme_level part_level x)

-- a part is no larger than all of them
pub smaller_part : (args : List SArg) (i : ℕ) (a : SArg) → i < length args → a ≡ get_or args i a
    → size (scheme (get_or args i a).body) ≤ parts_size (scheme_parts args)
smaller_part [] i a h e = absurd (let no : ⊥ = omega arith in no)
smaller_part (x ∷ xs) zero a h e = omega (arith, part_same x)
smaller_part (x ∷ xs) (suc i) a h e = omega (arith, smaller_part xs i a (omega arith) e)

-- an argument is no larger than all of them
pub smaller_value : (args : List Scheme) (i : ℕ) (a : Scheme) → i < length args → a ≡ get_or args i a
    → size (scheme (get_or args i a)) ≤ values_size (values (map scheme args))
smaller_value [] i a h e = absurd (let no : ⊥ = omega arith in no)
smaller_value (x ∷ xs) zero a h e = omega arith
smaller_value (x ∷ xs) (suc i) a h e = omega (arith, smaller_value xs i a (omega arith) e)
