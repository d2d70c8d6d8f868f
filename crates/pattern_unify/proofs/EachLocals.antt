-- What holds of each free local of a scheme, and what renamings of the locals tell of them.
use Rattle.std.proofs.Common.{◌≡◌, ◌⊎◌, ℕ, ◌+◌, ◌-◌, ◌<◌, ◌≤◌, inl, inr, refl, ap, sym, ◌∙◌, subst, arith}
use Rattle.std.proofs.lemmas.Bool.{cases_lt}
use Rattle.std.proofs.lemmas.Bool.Decides.{nat_tests}
use Rattle.binding_terms.specs.Tree.{raised}
use Rattle.scheme_terms.specs.SchemeTree.{SchemeTree, meta, known, local, con, Values, no_values, value, Parts, no_parts, part, under, filled, filled_values, filled_parts}
use Rattle.scheme_terms.proofs.SchemeFilling.{under_at, under_past, under_under, under_none}

-- it holds of each free local of the scheme, which is below so many binders
abbrev mutual
  pub EachLocal : (ℕ → Type 0) → (binders : ℕ) → SchemeTree → Type 0
  EachLocal P d (meta m vs) = EachLocalOfValues P d vs
  EachLocal P d (known k) = Unit {0}
  EachLocal P d (local i) = (i < d) ⊎ P (i - d)
  EachLocal P d (con p xs) = EachLocalOfParts P d xs

  pub EachLocalOfValues : (ℕ → Type 0) → (binders : ℕ) → Values → Type 0
  EachLocalOfValues P d no_values = Unit {0}
  EachLocalOfValues P d (value s vs) = EachLocal P d s × EachLocalOfValues P d vs

  pub EachLocalOfParts : (ℕ → Type 0) → (binders : ℕ) → Parts → Type 0
  EachLocalOfParts P d no_parts = Unit {0}
  EachLocalOfParts P d (part n s xs) = EachLocal P (d + n) s × EachLocalOfParts P d xs

module _ (P Q : ℕ → Type 0) (so : (i : ℕ) → P i → Q i) where
  mutual
    pub each_so : (d : ℕ) (s : SchemeTree) → EachLocal P d s → EachLocal Q d s
    each_so d (meta m vs) h = each_value_so d vs h
    each_so d (known k) h = tt
    each_so d (local i) (inl h) = inl h
    each_so d (local i) (inr h) = inr (so (i - d) h)
    each_so d (con p xs) h = each_part_so d xs h

    each_value_so : (d : ℕ) (vs : Values) → EachLocalOfValues P d vs → EachLocalOfValues Q d vs
    each_value_so d no_values h = tt
    each_value_so d (value s vs) h = (each_so d s h.0, each_value_so d vs h.1)

    each_part_so : (d : ℕ) (xs : Parts) → EachLocalOfParts P d xs → EachLocalOfParts Q d xs
    each_part_so d no_parts h = tt
    each_part_so d (part n s xs) h = (each_so (d + n) s h.0, each_part_so d xs h.1)

-- a renamed local below binders
pub renamed_near : (r : ℕ → ℕ) (d i : ℕ) → i < d → under d (λ j. local (r j)) i ≡ local i
renamed_near r d i h = under_at d (λ j. local (r j)) i h

pub renamed_far : (r : ℕ → ℕ) (d i : ℕ) → d ≤ i → under d (λ j. local (r j)) i ≡ local (r (i - d) + d)
renamed_far r d i h =
    let e : raised 0 d (r (i - d)) ≡ r (i - d) + d = grind (arith, nat_tests) in
    under_past d (λ j. local (r j)) i h ∙ ap local e

local_same : (i j : ℕ) → local i ≡ local j → i ≡ j
local_same i j e = cc

meta_same : (m n : ℕ) (vs ws : Values) → meta m vs ≡ meta n ws → vs ≡ ws
meta_same m n vs ws e = cc

con_same : (p q : ℕ) (xs ys : Parts) → con p xs ≡ con q ys → xs ≡ ys
con_same p q xs ys e = cc

value_same : (s t : SchemeTree) (vs ws : Values) → value s vs ≡ value t ws → (s ≡ t) × (vs ≡ ws)
value_same s t vs ws e = (cc, cc)

part_same : (m n : ℕ) (s t : SchemeTree) (xs ys : Parts) → part m s xs ≡ part n t ys → (s ≡ t) × (xs ≡ ys)
part_same m n s t xs ys e = (cc, cc)

-- renamings that make the same of a scheme agree on its free locals
module _ (r q : ℕ → ℕ) where
  mutual
    pub renamings_told : (d : ℕ) (s : SchemeTree) → filled (under d (λ i. local (r i))) s ≡ filled (under d (λ i. local (q i))) s → EachLocal (λ i. r i ≡ q i) d s
    renamings_told d (meta m vs) e = renamings_told_values d vs (meta_same m m (filled_values (under d (λ i. local (r i))) vs) (filled_values (under d (λ i. local (q i))) vs) e)
    renamings_told d (known k) e = tt
    renamings_told d (local i) e = at (cases_lt i d)
      where
        at : (i < d) ⊎ (d ≤ i) → (i < d) ⊎ (r (i - d) ≡ q (i - d))
        at (inl near) = inl near
        at (inr far) =
            let same : r (i - d) + d ≡ q (i - d) + d = local_same (r (i - d) + d) (q (i - d) + d) (sym (renamed_far r d i far) ∙ e ∙ renamed_far q d i far) in
            inr (omega (arith, same))
    renamings_told d (con p xs) e = renamings_told_parts d xs (con_same p p (filled_parts (under d (λ i. local (r i))) xs) (filled_parts (under d (λ i. local (q i))) xs) e)

    renamings_told_values : (d : ℕ) (vs : Values) → filled_values (under d (λ i. local (r i))) vs ≡ filled_values (under d (λ i. local (q i))) vs →
        EachLocalOfValues (λ i. r i ≡ q i) d vs
    renamings_told_values d no_values e = tt
    renamings_told_values d (value s vs) e =
        let same = value_same (filled (under d (λ i. local (r i))) s) (filled (under d (λ i. local (q i))) s) (filled_values (under d (λ i. local (r i))) vs) (filled_values (under d (λ i. local (q i))) vs) e in
        (renamings_told d s same.0, renamings_told_values d vs same.1)

    renamings_told_parts : (d : ℕ) (xs : Parts) → filled_parts (under d (λ i. local (r i))) xs ≡ filled_parts (under d (λ i. local (q i))) xs →
        EachLocalOfParts (λ i. r i ≡ q i) d xs
    renamings_told_parts d no_parts e = tt
    renamings_told_parts d (part n s xs) e =
        let same = part_same n n (filled (under n (under d (λ i. local (r i)))) s) (filled (under n (under d (λ i. local (q i)))) s)
        (filled_parts (under d (λ i. local (r i))) xs) (filled_parts (under d (λ i. local (q i))) xs) e in (
          renamings_told (d + n) s
              (ap (λ f. filled f s) (sym (under_under d n (λ i. local (r i)))) ∙ same.0 ∙ ap (λ f. filled f s) (under_under d n (λ i. local (q i)))),
          renamings_told_parts d xs same.1,
        )

-- a renaming that keeps each free local makes the scheme itself
module _ (r : ℕ → ℕ) where
  mutual
    renamed_itself : (d : ℕ) (s : SchemeTree) → EachLocal (λ i. r i ≡ i) d s → filled (under d (λ i. local (r i))) s ≡ s
    renamed_itself d (meta m vs) h = ap (meta m) (renamed_values_themselves d vs h)
    renamed_itself d (known k) h = refl
    renamed_itself d (local i) h = at (cases_lt i d) h
      where
        at : (i < d) ⊎ (d ≤ i) → (i < d) ⊎ (r (i - d) ≡ i - d) → under d (λ j. local (r j)) i ≡ local i
        at (inl near) g = renamed_near r d i near
        at (inr far) (inl near) = renamed_near r d i near
        at (inr far) (inr same) = renamed_far r d i far ∙ ap local (let e : r (i - d) + d ≡ i = omega (arith, same, far) in e)
    renamed_itself d (con p xs) h = ap (con p) (renamed_parts_themselves d xs h)

    renamed_values_themselves : (d : ℕ) (vs : Values) → EachLocalOfValues (λ i. r i ≡ i) d vs → filled_values (under d (λ i. local (r i))) vs ≡ vs
    renamed_values_themselves d no_values h = refl
    renamed_values_themselves d (value s vs) h =
        ap (λ t. value t (filled_values (under d (λ i. local (r i))) vs)) (renamed_itself d s h.0) ∙ ap (value s) (renamed_values_themselves d vs h.1)

    renamed_parts_themselves : (d : ℕ) (xs : Parts) → EachLocalOfParts (λ i. r i ≡ i) d xs → filled_parts (under d (λ i. local (r i))) xs ≡ xs
    renamed_parts_themselves d no_parts h = refl
    renamed_parts_themselves d (part n s xs) h =
        ap (λ t. part n t (filled_parts (under d (λ i. local (r i))) xs)) (ap (λ f. filled f s) (under_under d n (λ i. local (r i))) ∙ renamed_itself (d + n) s h.0)
        ∙ ap (part n s) (renamed_parts_themselves d xs h.1)

  pub renamed_same : (s : SchemeTree) → EachLocal (λ i. r i ≡ i) 0 s → filled (λ i. local (r i)) s ≡ s
  renamed_same s h = ap (λ f. filled f s) (sym (under_none (λ i. local (r i)))) ∙ renamed_itself 0 s h

-- what holds of the locals of a renamed scheme holds of the renamed locals
module _ (P : ℕ → Type 0) (r : ℕ → ℕ) (b : ℕ) where
  mutual
    each_renamed_below : (d : ℕ) (s : SchemeTree) → EachLocal P (b + d) (filled (under d (λ i. local (r i))) s) → EachLocal (λ i. (r i < b) ⊎ P (r i - b)) d s
    each_renamed_below d (meta m vs) h = each_value_renamed_below d vs h
    each_renamed_below d (known k) h = tt
    each_renamed_below d (local i) h = at (cases_lt i d)
      where
        at : (i < d) ⊎ (d ≤ i) → (i < d) ⊎ ((r (i - d) < b) ⊎ P (r (i - d) - b))
        at (inl near) = inl near
        at (inr far) =
            let there : EachLocal P (b + d) (local (r (i - d) + d)) = subst (EachLocal P (b + d)) (renamed_far r d i far) h in
            inr (elim there [
              | inl below ↦ inl (omega (arith, below))
              | inr holds ↦ inr (subst P (let e : r (i - d) + d - (b + d) ≡ r (i - d) - b = omega arith in e) holds)
            ])
    each_renamed_below d (con p xs) h = each_part_renamed_below d xs h

    each_value_renamed_below : (d : ℕ) (vs : Values) → EachLocalOfValues P (b + d) (filled_values (under d (λ i. local (r i))) vs) →
        EachLocalOfValues (λ i. (r i < b) ⊎ P (r i - b)) d vs
    each_value_renamed_below d no_values h = tt
    each_value_renamed_below d (value s vs) h = (each_renamed_below d s h.0, each_value_renamed_below d vs h.1)

    each_part_renamed_below : (d : ℕ) (xs : Parts) → EachLocalOfParts P (b + d) (filled_parts (under d (λ i. local (r i))) xs) →
        EachLocalOfParts (λ i. (r i < b) ⊎ P (r i - b)) d xs
    each_part_renamed_below d no_parts h = tt
    each_part_renamed_below d (part n s xs) h = (
      each_renamed_below (d + n) s
          (subst (λ k. EachLocal P k (filled (under (d + n) (λ i. local (r i))) s)) (let e : b + d + n ≡ b + (d + n) = omega arith in e)
          (subst (λ f. EachLocal P (b + d + n) (filled f s)) (under_under d n (λ i. local (r i))) h.0)),
      each_part_renamed_below d xs h.1,
    )

  pub each_renamed : (s : SchemeTree) → EachLocal P b (filled (λ i. local (r i)) s) → EachLocal (λ i. (r i < b) ⊎ P (r i - b)) 0 s
  each_renamed s h =
      each_renamed_below 0 s
      (subst (λ k. EachLocal P k (filled (under 0 (λ i. local (r i))) s)) (let e : b ≡ b + 0 = omega arith in e)
      (subst (λ f. EachLocal P b (filled f s)) (sym (under_none (λ i. local (r i)))) h))

-- where a renaming goes only to locals of which it holds
module _ (P : ℕ → Type 0) (r : ℕ → ℕ) (goes : (i : ℕ) → P (r i)) where
  mutual
    goes_there_below : (d : ℕ) (s : SchemeTree) → EachLocal P d (filled (under d (λ i. local (r i))) s)
    goes_there_below d (meta m vs) = values_go_there d vs
    goes_there_below d (known k) = tt
    goes_there_below d (local i) = at (cases_lt i d)
      where
        at : (i < d) ⊎ (d ≤ i) → EachLocal P d (under d (λ j. local (r j)) i)
        at (inl near) = subst (EachLocal P d) (sym (renamed_near r d i near)) (inl near)
        at (inr far) =
            subst (EachLocal P d) (sym (renamed_far r d i far)) (inr (subst P (let e : r (i - d) ≡ r (i - d) + d - d = omega arith in e) (goes (i - d))))
    goes_there_below d (con p xs) = parts_go_there d xs

    values_go_there : (d : ℕ) (vs : Values) → EachLocalOfValues P d (filled_values (under d (λ i. local (r i))) vs)
    values_go_there d no_values = tt
    values_go_there d (value s vs) = (goes_there_below d s, values_go_there d vs)

    parts_go_there : (d : ℕ) (xs : Parts) → EachLocalOfParts P d (filled_parts (under d (λ i. local (r i))) xs)
    parts_go_there d no_parts = tt
    parts_go_there d (part n s xs) = (
      subst (λ f. EachLocal P (d + n) (filled f s)) (sym (under_under d n (λ i. local (r i)))) (goes_there_below (d + n) s),
      parts_go_there d xs,
    )

  pub goes_there : (s : SchemeTree) → EachLocal P 0 (filled (λ i. local (r i)) s)
  goes_there s = subst (λ f. EachLocal P 0 (filled f s)) (under_none (λ i. local (r i))) (goes_there_below 0 s)
