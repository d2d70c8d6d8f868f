-- What a renaming of locals and a step of a run make of schemes of patterns is of patterns.
use Rattle.std.proofs.Common.{◌≡◌, ◌⊎◌, inl, inr, ℕ, zero, suc, ◌+◌, ◌-◌, ◌<◌, ◌≤◌, Bool, true, false, ◌==◌, if◌then◌else◌, List, [], ◌∷◌, ap, sym, ◌∙◌, subst, arith}
use Rattle.std.proofs.lemmas.Bool.{cases_lt}
use Rattle.scheme_terms.specs.SchemeTree.{SchemeTree, meta, known, local, con, Values, no_values, value, values, Parts, no_parts, part, under, filled, filled_values, filled_parts, AreDistinctLocals, IsApart}
use Rattle.scheme_terms.specs.Substituting.{scheme_for, argument_or_local, applied, applied_values, applied_parts, params, parameters, LocalsBelow, ValuesBelow, PartsBelow}
use Rattle.scheme_terms.specs.Demands.{numbers, variable_of}
use Rattle.scheme_terms.specs.declared.scheme.MetaDecl.{MetaDecl}
use Rattle.scheme_terms.proofs.Lowering.{renaming, arguments_rename, numbers_different, numbers_below, variable_back}
use Rattle.scheme_terms.proofs.Makings.{applied_locals}
use Rattle.scheme_terms.proofs.SchemeFilling.{under_under, under_none}
use Rattle.pattern_unify.specs.CommonLaws.{IsOfPatterns, PartsAreOfPatterns}
use Rattle.pattern_unify.specs.State.{metas_but}
use Rattle.pattern_unify.proofs.EachLocals.{EachLocal, EachLocalOfValues, EachLocalOfParts, renamed_near, renamed_far}
use Rattle.pattern_unify.proofs.MovedNames.{own_distinct}

-- what holds of all numbers holds of each local
mutual
  each_always : (P : ℕ → Type 0) → ((i : ℕ) → P i) → (d : ℕ) (s : SchemeTree) → EachLocal P d s
  each_always P h d (meta m vs) = each_value_always P h d vs
  each_always P h d (known k) = tt
  each_always P h d (local i) = inr (h (i - d))
  each_always P h d (con p xs) = each_part_always P h d xs

  each_value_always : (P : ℕ → Type 0) → ((i : ℕ) → P i) → (d : ℕ) (vs : Values) → EachLocalOfValues P d vs
  each_value_always P h d no_values = tt
  each_value_always P h d (value s vs) = (each_always P h d s, each_value_always P h d vs)

  each_part_always : (P : ℕ → Type 0) → ((i : ℕ) → P i) → (d : ℕ) (xs : Parts) → EachLocalOfParts P d xs
  each_part_always P h d no_parts = tt
  each_part_always P h d (part n s xs) = (each_always P h (d + n) s, each_part_always P h d xs)

-- a renaming that is one to one on the locals that stand there
module _ (P : ℕ → Type 0) (r : ℕ → ℕ) (one : (i j : ℕ) → P i → P j → r i ≡ r j → i ≡ j) where
  abbrev goes : (d : ℕ) → ℕ → SchemeTree
  goes d = under d (λ i. local (r i))

  local_same : (i j : ℕ) → local i ≡ local j → i ≡ j
  local_same i j e = cc

  one_to_one : (d i j : ℕ) → (i < d) ⊎ P (i - d) → (j < d) ⊎ P (j - d) → goes d i ≡ goes d j → i ≡ j
  one_to_one d i j pi pj e = at (cases_lt i d) (cases_lt j d) pi pj
    where
      at : (i < d) ⊎ (d ≤ i) → (j < d) ⊎ (d ≤ j) → (i < d) ⊎ P (i - d) → (j < d) ⊎ P (j - d) → i ≡ j
      at (inl near) (inl close) pi pj = local_same i j (sym (renamed_near r d i near) ∙ e ∙ renamed_near r d j close)
      at (inl near) (inr far) pi pj =
          let same : i ≡ r (j - d) + d = local_same i (r (j - d) + d) (sym (renamed_near r d i near) ∙ e ∙ renamed_far r d j far) in omega (arith, near, same)
      at (inr far) (inl near) pi pj =
          let same : r (i - d) + d ≡ j = local_same (r (i - d) + d) j (sym (renamed_far r d i far) ∙ e ∙ renamed_near r d j near) in omega (arith, near, same)
      at (inr far) (inr beyond) (inl near) pj = absurd (let no : ⊥ = omega (arith, far, near) in no)
      at (inr far) (inr beyond) (inr pi) (inl near) = absurd (let no : ⊥ = omega (arith, beyond, near) in no)
      at (inr far) (inr beyond) (inr pi) (inr pj) =
          let same : r (i - d) + d ≡ r (j - d) + d = local_same (r (i - d) + d) (r (j - d) + d) (sym (renamed_far r d i far) ∙ e ∙ renamed_far r d j beyond) in
          let inner : i - d ≡ j - d = one (i - d) (j - d) pi pj (omega (arith, same)) in
          omega (arith, inner, far, beyond)

  -- the local that a local becomes
  became : (d i : ℕ) → (k : ℕ) × (goes d i ≡ local k)
  became d i = at (cases_lt i d)
    where
      at : (i < d) ⊎ (d ≤ i) → (k : ℕ) × (goes d i ≡ local k)
      at (inl near) = (i, renamed_near r d i near)
      at (inr far) = (r (i - d) + d, renamed_far r d i far)

  apart_kept : (d i k : ℕ) (vs : Values) → (i < d) ⊎ P (i - d) → goes d i ≡ local k → EachLocalOfValues P d vs → AreDistinctLocals vs → IsApart i vs →
      IsApart k (filled_values (goes d) vs)
  apart_kept d i k no_values pi e each distinct apart = tt
  apart_kept d i k (value (local j) vs) pi e each distinct apart =
      ((λ same. apart.0 (ap local (one_to_one d j i each.0 pi (same ∙ sym e)))), apart_kept d i k vs pi e each.1 distinct.1 apart.1)
  apart_kept d i k (value (meta m ws) vs) pi e each distinct apart = absurd distinct
  apart_kept d i k (value (known l) vs) pi e each distinct apart = absurd distinct
  apart_kept d i k (value (con p xs) vs) pi e each distinct apart = absurd distinct

  distinct_kept : (d : ℕ) (vs : Values) → EachLocalOfValues P d vs → AreDistinctLocals vs → AreDistinctLocals (filled_values (goes d) vs)
  distinct_kept d no_values each distinct = tt
  distinct_kept d (value (local i) vs) each distinct =
      let new = became d i in
      subst (λ s. AreDistinctLocals (value s (filled_values (goes d) vs))) (sym new.1)
      (apart_kept d i new.0 vs each.0 new.1 each.1 distinct.1 distinct.0, distinct_kept d vs each.1 distinct.1)
  distinct_kept d (value (meta m ws) vs) each distinct = absurd distinct
  distinct_kept d (value (known l) vs) each distinct = absurd distinct
  distinct_kept d (value (con p xs) vs) each distinct = absurd distinct

  mutual
    renamed_below : (d : ℕ) (s : SchemeTree) → EachLocal P d s → IsOfPatterns s → IsOfPatterns (filled (goes d) s)
    renamed_below d (meta m vs) each h = distinct_kept d vs each h
    renamed_below d (known k) each h = tt
    renamed_below d (local i) each h = let new = became d i in subst IsOfPatterns (sym new.1) tt
    renamed_below d (con p xs) each h = renamed_parts_below d xs each h

    renamed_parts_below : (d : ℕ) (xs : Parts) → EachLocalOfParts P d xs → PartsAreOfPatterns xs → PartsAreOfPatterns (filled_parts (goes d) xs)
    renamed_parts_below d no_parts each h = tt
    renamed_parts_below d (part n s xs) each h = (
      subst (λ f. IsOfPatterns (filled f s)) (sym (under_under d n (λ i. local (r i)))) (renamed_below (d + n) s each.0 h.0),
      renamed_parts_below d xs each.1 h.1,
    )

  pub renamed_patterns : (s : SchemeTree) → EachLocal P 0 s → IsOfPatterns s → IsOfPatterns (filled (λ i. local (r i)) s)
  renamed_patterns s each h = subst (λ f. IsOfPatterns (filled f s)) (under_none (λ i. local (r i))) (renamed_below 0 s each h)

-- where patterns are put in for metavariables of patterns
module _ (ss : List SchemeTree) (ks : List ℕ) (all : (m : ℕ) → IsOfPatterns (scheme_for ss m)) where
  argument_patterns : (d m : ℕ) (vs : Values) → ValuesBelow d vs → AreDistinctLocals vs → IsOfPatterns (applied ss ks d (meta m vs))
  argument_patterns d m vs low distinct =
      subst (λ f. IsOfPatterns (filled f (scheme_for ss m))) shape
      (renamed_patterns (λ i. Unit {0}) (renaming d (numbers vs)) one (scheme_for ss m) (each_always (λ i. Unit {0}) (λ i. tt) 0 (scheme_for ss m)) (all m))
    where
      shape : ◌≡◌ {A = ℕ → SchemeTree} (λ i. local (renaming d (numbers vs) i)) (argument_or_local d (applied_values ss ks d vs))
      shape = (λ k i. sym (arguments_rename d (numbers vs) i) k) ∙ ap (argument_or_local d) (sym (applied_locals ss ks d vs distinct))

      one : (i j : ℕ) → Unit {0} → Unit {0} → renaming d (numbers vs) i ≡ renaming d (numbers vs) j → i ≡ j
      one i j pi pj e =
          sym (variable_back (numbers vs) d (numbers_different vs distinct) (numbers_below d vs distinct low) i)
          ∙ ap (variable_of (numbers vs) d) e ∙ variable_back (numbers vs) d (numbers_different vs distinct) (numbers_below d vs distinct low) j

  mutual
    pub applied_patterns : (d : ℕ) (s : SchemeTree) → LocalsBelow d s → IsOfPatterns s → IsOfPatterns (applied ss ks d s)
    applied_patterns d (meta m vs) low h = argument_patterns d m vs low h
    applied_patterns d (known k) low h = tt
    applied_patterns d (local i) low h = tt
    applied_patterns d (con p xs) low h = applied_parts_patterns d xs low h

    applied_parts_patterns : (d : ℕ) (xs : Parts) → PartsBelow d xs → PartsAreOfPatterns xs → PartsAreOfPatterns (applied_parts ss ks d xs)
    applied_parts_patterns d no_parts low h = tt
    applied_parts_patterns d (part n s xs) low h = (applied_patterns (d + n) s low.0 h.0, applied_parts_patterns d xs low.1 h.1)

-- each metavariable for itself but one
pub put_patterns : (m : ℕ) (s : SchemeTree) → IsOfPatterns s → (n : ℕ) (decls : List MetaDecl) (k : ℕ) → IsOfPatterns (scheme_for (metas_but m s n decls) k)
put_patterns m s h n [] k = tt
put_patterns m s h n (d ∷ decls) zero = at (n == m)
  where
    at : (b : Bool) → IsOfPatterns (if b then s else meta n (values (parameters (params d))))
    at true = h
    at false = own_distinct (params d)
put_patterns m s h n (d ∷ decls) (suc k) = put_patterns m s h (suc n) decls k
