-- The substitution that gives each name what is asked of it is the only one that can fit.
use Rattle.std.proofs.Common.{◌≡◌, ◌⊎◌, ℕ, suc, ◌+◌, ◌<◌, ◌≤◌, List, [], ◌∷◌, ◌++◌, length, Some, None, slice_get, unwrap_or, inl, inr, refl, ap, ◌∙◌, sym, subst, append-nil, arith}
use Rattle.std.specs.List.{AllByRecursion, AllZip}
use Rattle.std.proofs.lemmas.Bool.{cases_lt}
use Rattle.std.proofs.lemmas.Option.{slice_get_within, slice_get_past}
use Rattle.std.proofs.lemmas.Slice.Zip.{AllZip-long}
use Rattle.binding_terms.specs.Numbered.{AnyByRecursion, AllNumbered}
use Rattle.binding_terms.specs.Signature.{Signature}
use Rattle.binding_terms.proofs.Lists.{some_within, numbered_at}
use Rattle.scheme_terms.specs.SchemeTree.{SchemeTree, local, StrictIn}
use Rattle.scheme_terms.specs.Forms.{Names, Substitution, KnownVariable}
use Rattle.scheme_terms.specs.SchemeScope.{IsScheme, params_scope}
use Rattle.scheme_terms.specs.Substituting.{scheme_for, applied, knowns_from, IsKnownValue}
use Rattle.scheme_terms.specs.Demands.{Demands}
use Rattle.scheme_terms.specs.declared.scheme.MetaDecl.{MetaDecl}
use Rattle.scheme_terms.proofs.SchemeFacts.{scheme_below}
use Rattle.scheme_terms.proofs.Makings.{applied_making, demand_is_value, strict_demands}
use Rattle.scheme_terms.proofs.StrictTyped.{strict_is_scheme}
use Rattle.pattern_unify.specs.Equations.{SchemeEquation}
use Rattle.pattern_unify.specs.FitInto.{AreSidesInto, AreToFitInto, Becomes, IsFitInto, IsOnlyFitInto}
use Rattle.pattern_unify.specs.Asked.{IsAsked, AreAsked}
use Rattle.pattern_unify.proofs.Places.{same_lists}

-- what holds of one equation and what holds of each, at one equation
pub one_of : {A : Type 0} (P Q R : A → Type 0) (xs : List A) → AnyByRecursion P xs → AllByRecursion Q xs → AllByRecursion R xs → (x : A) × P x × Q x × R x
one_of P Q R [] h q r = absurd h
one_of P Q R (x ∷ xs) (inl h) q r = (x, h, q.0, r.0)
one_of P Q R (x ∷ xs) (inr h) q r = one_of P Q R xs h q.1 r.1

module _ (ss : List SchemeTree) (ks : List ℕ) (m : ℕ) where
  -- a name with a strict occurrence is asked for something where the sides become the same
  strict_asks : (eqs : List SchemeEquation) → AnyByRecursion (λ e. StrictIn m e.left) eqs → AllByRecursion (Becomes ss ks) eqs → (v : SchemeTree) × IsAsked eqs m v
  strict_asks [] h become = absurd h
  strict_asks (e ∷ es) (inl h) become =
      let found = strict_demands (applied_making ss ks) m (length e.locals) e.left e.right become.0 h in (found.0, inl found.1)
  strict_asks (e ∷ es) (inr h) become = let found = strict_asks es h become.1 in (found.0, inr found.1)

-- a list of schemes, from what holds of each
typed_zip : (R : MetaDecl → SchemeTree → Type 0) (decls : List MetaDecl) (ss : List SchemeTree) → length ss ≡ length decls →
    ((m : ℕ) (decl : MetaDecl) → slice_get decls m ≡ Some decl → R decl (scheme_for ss m)) → AllZip R decls ss
typed_zip R [] [] long h = tt
typed_zip R [] (s ∷ ss) long h = absurd (let no : ⊥ = omega (arith, long) in no)
typed_zip R (decl ∷ decls) [] long h = absurd (let no : ⊥ = omega (arith, long) in no)
typed_zip R (decl ∷ decls) (s ∷ ss) long h = (h 0 decl refl, typed_zip R decls ss (omega (arith, long)) (λ m d e. h (suc m) d e))

-- known variables that keep their numbers, told one by one and as two lists
keep_numbers : (R : KnownVariable → ℕ → Type 0) (n : ℕ) (decls : List KnownVariable) → AllNumbered (λ k decl. R decl k) n decls → AllZip R decls (knowns_from n decls)
keep_numbers R n [] h = tt
keep_numbers R n (decl ∷ decls) h = (h.0, keep_numbers R (suc n) decls h.1)

numbers_kept : (R : KnownVariable → ℕ → Type 0) (n : ℕ) (decls : List KnownVariable) → AllZip R decls (knowns_from n decls) → AllNumbered (λ k decl. R decl k) n decls
numbers_kept R n [] h = tt
numbers_kept R n (decl ∷ decls) h = (h.0, numbers_kept R (suc n) decls h.1)

module _ (sig : Signature) (from into : Names) (eqs : List SchemeEquation) (owed : AreToFitInto sig from into eqs) where
  abbrev IsTyped : Names → MetaDecl → SchemeTree → Type 0
  IsTyped names decl s = IsScheme sig names (params_scope decl) decl.cat.0 s

  -- where the sides become the same, a name's scheme is what is asked of it
  value_is : (by : Substitution) → IsFitInto sig from into eqs by → (m : ℕ) (v : SchemeTree) → IsAsked eqs m v → scheme_for by.metas m ≡ v
  value_is by fit m v asked =
      let one = one_of (λ e. Demands m (length e.locals) e.left e.right v) (AreSidesInto sig from into) (Becomes by.metas by.knowns) eqs asked owed.sides fit.equal in
      demand_is_value (applied_making by.metas by.knowns) m (length one.0.locals) one.0.left one.0.right v
      (scheme_below sig from one.0.locals one.2.0 one.0.left one.2.1) one.3 one.1

  strict_at : (m : ℕ) → m < length from.metas → AnyByRecursion (λ e. StrictIn m e.left) eqs
  strict_at m below =
      let decl = some_within from.metas m below in
      subst (λ k. AnyByRecursion (λ e. StrictIn k e.left) eqs) (let e : 0 + m ≡ m = omega arith in e)
      (numbered_at (λ k (d : MetaDecl). AnyByRecursion (λ e. StrictIn k e.left) eqs) 0 from.metas m decl.0 owed.strict decl.1)

  pub none_asked : AreAsked eqs (length from.metas) None → IsOnlyFitInto sig from into eqs None
  none_asked none by fit =
      let found = strict_asks by.metas by.knowns none.0 eqs (strict_at none.0 none.1) fit.equal in none.2 found.0 found.1

  found_at : (ss : List SchemeTree) (m : ℕ) → m < length ss → slice_get ss m ≡ Some (scheme_for ss m)
  found_at ss m below = let found = some_within ss m below in found.1 ∙ ap Some (sym (ap (λ o. unwrap_or o (local 0)) found.1))

  abbrev kept_knowns : List ℕ
  kept_knowns = knowns_from 0 from.knowns

  -- what is looked at once each metavariable has what is asked of it
  abbrev pub IsFound : Substitution → Type 0
  IsFound by = AllNumbered (λ k decl. IsKnownValue by decl k) 0 from.knowns × AllByRecursion (Becomes by.metas by.knowns) eqs

  module _ (vs : List SchemeTree) (asked : AreAsked eqs (length from.metas) (Some vs)) where
    abbrev pub answer : Substitution
    answer = record { metas = vs; knowns = kept_knowns; into = into }

    asked_at : (m : ℕ) → m < length from.metas → IsAsked eqs m (scheme_for vs m)
    asked_at m below =
        subst (λ k. IsAsked eqs k (scheme_for vs m)) (let e : 0 + m ≡ m = omega arith in e)
        (numbered_at (IsAsked eqs) 0 vs m (scheme_for vs m) asked.1 (found_at vs m (let long = asked.0 in omega (arith, below, long))))

    same_at : (by : Substitution) → IsFitInto sig from into eqs by → (m : ℕ) → (m < length from.metas) ⊎ (length from.metas ≤ m) → slice_get by.metas m ≡ slice_get vs m
    same_at by fit m (inl below) =
        let long = AllZip-long (IsTyped by.into) from.metas by.metas fit.kept.metas in
        found_at by.metas m (omega (arith, below, long)) ∙ ap Some (value_is by fit m (scheme_for vs m) (asked_at m below))
        ∙ sym (found_at vs m (let same = asked.0 in omega (arith, below, same)))
    same_at by fit m (inr past) =
        let long = AllZip-long (IsTyped by.into) from.metas by.metas fit.kept.metas in
        slice_get_past by.metas m (omega (arith, past, long)) ∙ sym (slice_get_past vs m (let same = asked.0 in omega (arith, past, same)))

    -- every substitution that fits is this one
    pub only_one : (by : Substitution) → IsFitInto sig from into eqs by → by ≡ answer
    only_one by fit =
        let first : by.metas ≡ vs = same_lists by.metas vs (λ m. same_at by fit m (cases_lt m (length from.metas))) in
        let second = fit.knowns in
        let third = fit.into_is in
        λ i. record { metas = first i; knowns = second i; into = third i }

    pub none_fits : (IsFound answer → ⊥) → IsOnlyFitInto sig from into eqs None
    none_fits other by fit =
        other (subst IsFound (only_one by fit)
        (numbers_kept (IsKnownValue by) 0 from.knowns (subst (AllZip (IsKnownValue by) from.knowns) fit.knowns fit.kept.knowns), fit.equal))

    -- each value is of its name's category, since a left side with a strict occurrence of the name becomes a right side
    value_typed : AllByRecursion (Becomes vs kept_knowns) eqs → (m : ℕ) (decl : MetaDecl) → slice_get from.metas m ≡ Some decl → IsTyped into decl (scheme_for vs m)
    value_typed become m decl named =
        let one = one_of (λ e. StrictIn m e.left) (AreSidesInto sig from into) (Becomes vs kept_knowns) eqs
        (strict_at m (slice_get_within from.metas m decl named)) owed.sides become in
        let right : IsScheme sig into (one.0.locals ++ []) one.2.0 (applied vs kept_knowns (length one.0.locals) one.0.left) =
        subst (λ ls. IsScheme sig into ls one.2.0 (applied vs kept_knowns (length one.0.locals) one.0.left)) (sym (append-nil one.0.locals))
        (subst (IsScheme sig into one.0.locals one.2.0) (sym one.3) one.2.2) in
        subst (λ ls. IsScheme sig into ls decl.cat.0 (scheme_for vs m)) (append-nil (params_scope decl))
        (strict_is_scheme [] [] (λ i c e. e) sig from into (applied_making vs kept_knowns) m decl named one.0.locals one.2.0 one.0.left one.1 one.2.1 right)

    pub one_fits : IsFound answer → IsOnlyFitInto sig from into eqs (Some answer)
    one_fits fits = (
      record {
        into_is = refl;
        kept = record {
          metas = typed_zip (IsTyped into) from.metas vs asked.0 (λ m decl named. value_typed fits.1 m decl named);
          knowns = keep_numbers (IsKnownValue answer) 0 from.knowns fits.0;
        };
        knowns = refl;
        equal = fits.1;
      },
      only_one,
    )
