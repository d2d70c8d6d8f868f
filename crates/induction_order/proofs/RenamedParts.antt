-- A renamed part, found on the way down.
use Rattle.std.proofs.Common.{◌≡◌, ◌↔◌, ◌+◌, ℕ, inl, inr, refl, sym, subst, arith}
use Rattle.scheme_terms.specs.SchemeTree.{SchemeTree, meta, known, local, con, Parts, no_parts, part}
use Rattle.induction_order.specs.Order.{IsPartUnder, IsAmongParts, IsRenamedPart}
use Rattle.induction_order.specs.Renaming.{IsRenamed, HasRenamed, HasRenamedAmong}

mutual
  found_part : (d : ℕ) (arg whole : SchemeTree) → HasRenamed d arg whole → (s : SchemeTree) × (k : ℕ) × IsPartUnder s k whole × IsRenamed (d + k) arg s
  found_part d arg (meta m vs) h = absurd h
  found_part d arg (known k) h = absurd h
  found_part d arg (local i) h = absurd h
  found_part d arg (con p xs) h = found_among d arg xs h

  found_among : (d : ℕ) (arg : SchemeTree) (xs : Parts) → HasRenamedAmong d arg xs → (s : SchemeTree) × (k : ℕ) × IsAmongParts s k xs × IsRenamed (d + k) arg s
  found_among d arg no_parts h = absurd h
  found_among d arg (part n t xs) (inl (inl is)) = (t, n, inl (refl, refl), is)
  found_among d arg (part n t xs) (inl (inr h)) =
      let found = found_part (d + n) arg t h in
      let deep : d + n + found.1 ≡ d + (n + found.1) = omega arith in
      (found.0, n + found.1, inr (inl (found.1, refl, found.2)), subst (λ k. IsRenamed k arg found.0) deep found.3)
  found_among d arg (part n t xs) (inr h) =
      let found = found_among d arg xs h in
      (found.0, found.1, inr (inr found.2), found.3)

mutual
  part_has : (d : ℕ) (arg whole s : SchemeTree) (k : ℕ) → IsPartUnder s k whole → IsRenamed (d + k) arg s → HasRenamed d arg whole
  part_has d arg (meta m vs) s k place is = absurd place
  part_has d arg (known l) s k place is = absurd place
  part_has d arg (local i) s k place is = absurd place
  part_has d arg (con p xs) s k place is = among_has d arg xs s k place is

  among_has : (d : ℕ) (arg : SchemeTree) (xs : Parts) (s : SchemeTree) (k : ℕ) → IsAmongParts s k xs → IsRenamed (d + k) arg s → HasRenamedAmong d arg xs
  among_has d arg no_parts s k place is = absurd place
  among_has d arg (part n t xs) s k (inl here) is =
      inl (inl (subst (λ m. IsRenamed (d + m) arg t) here.0 (subst (IsRenamed (d + k) arg) (sym here.1) is)))
  among_has d arg (part n t xs) s k (inr (inl inside)) is =
      let deep : d + k ≡ d + n + inside.0 = omega (arith, inside.1) in
      inl (inr (part_has (d + n) arg t s inside.0 inside.2 (subst (λ m. IsRenamed m arg s) deep is)))
  among_has d arg (part n t xs) s k (inr (inr after)) is = inr (among_has d arg xs s k after is)

pub has_renamed_part : (arg value : SchemeTree) → HasRenamed 0 arg value ↔ IsRenamedPart arg value
has_renamed_part arg value = (there, back)
  where
    there : HasRenamed 0 arg value → IsRenamedPart arg value
    there h =
        let found = found_part 0 arg value h in
        let is : IsRenamed found.1 arg found.0 = subst (λ m. IsRenamed m arg found.0) (let e : 0 + found.1 ≡ found.1 = omega arith in e) found.3 in
        record { inner = found.0; binders = found.1; place = found.2; to = is.0; distinct = is.1; same = is.2 }

    back : IsRenamedPart arg value → HasRenamed 0 arg value
    back h =
        let is : IsRenamed h.binders arg h.inner = (h.to, h.distinct, h.same) in
        part_has 0 arg value h.inner h.binders h.place (subst (λ m. IsRenamed m arg h.inner) (let e : h.binders ≡ 0 + h.binders = omega arith in e) is)
