-- A metavariable that becomes a scheme over its parameters: the substitutions that make the two sides the same are those through this step.
use Rattle.std.proofs.Common.{◌≡◌, ℕ, zero, suc, ◌+◌, ◌-◌, ◌<◌, ◌≤◌, Bool, true, false, ◌==◌, nat_lt, if◌then◌else◌, List, [], ◌∷◌, length, map, get_or, slice_get, unwrap_or, inl, inr, refl, ap, sym, ◌∙◌, subst, arith}
use Rattle.std.specs.List.{AllZip}
use Rattle.std.proofs.lemmas.Bool.{cases_lt}
use Rattle.std.proofs.lemmas.Bool.Decides.{nat_tests}
use Rattle.binding_terms.specs.Signature.{Signature}
use Rattle.scheme_terms.specs.SchemeTree.{SchemeTree, meta, known, local, con, Values, no_values, value, values, listed, filled, AreDistinctLocals, IsApart}
use Rattle.scheme_terms.specs.Forms.{Names, KnownVariable}
use Rattle.scheme_terms.specs.SchemeScope.{IsScheme, params_scope}
use Rattle.scheme_terms.specs.Substituting.{applied, argument_or_local, scheme_for, known_for, params, parameters, knowns_from, LocalsBelow, ValuesBelow}
use Rattle.scheme_terms.specs.Demands.{numbers, parameter_of, variable_of, lowered}
use Rattle.scheme_terms.specs.declared.scheme.MetaDecl.{MetaDecl}
use Rattle.scheme_terms.proofs.AppliedSchemes.{applied_filled}
use Rattle.scheme_terms.proofs.Lowering.{arguments_rename, renaming, renaming_at, renaming_past, variable_at}
use Rattle.scheme_terms.proofs.Makings.{applied_making, applied_locals, demand_is_value}
use Rattle.scheme_terms.proofs.SchemeFacts.{length_params, scheme_below}
use Rattle.scheme_terms.proofs.SchemeSubstitutions.{filled_agree, filled_local}
use Rattle.pattern_unify.specs.Patterns.{parameter_at, over_parameters}
use Rattle.pattern_unify.specs.State.{metas_but}

-- a scheme over the parameters of a pattern is the scheme with its locals renamed back

pub count_of : (vs : Values) → AreDistinctLocals vs → length (numbers vs) ≡ length (listed vs)
count_of no_values h = refl
count_of (value (local i) vs) h = ap suc (count_of vs h.1)
count_of (value (meta m ws) vs) h = absurd h
count_of (value (known k) vs) h = absurd h
count_of (value (con p xs) vs) h = absurd h

parameters_same : (vs : Values) → AreDistinctLocals vs → (i : ℕ) → parameter_at vs i ≡ parameter_of (numbers vs) i
parameters_same no_values h i = refl
parameters_same (value (local a) vs) h i =
    ap (λ n. if a == i then n else parameter_at vs i) (sym (count_of vs h.1))
    ∙ ap (λ n. if a == i then length (numbers vs) else n) (parameters_same vs h.1 i)
parameters_same (value (meta m ws) vs) h i = absurd h
parameters_same (value (known k) vs) h i = absurd h
parameters_same (value (con p xs) vs) h i = absurd h

pub over_is_lowered : (vs : Values) (d : ℕ) (t : SchemeTree) → AreDistinctLocals vs → LocalsBelow d t → over_parameters vs t ≡ lowered (numbers vs) d t
over_is_lowered vs d t h below =
    filled_agree d (λ i. local (parameter_at vs i)) (λ i. local (variable_of (numbers vs) d i))
    (λ i within. ap local (parameters_same vs h i ∙ sym (variable_at (numbers vs) d i within))) t below

module _ (ss : List SchemeTree) (ks : List ℕ) where
  -- renaming back goes before or after putting in
  lowered_after : (args : List ℕ) (d : ℕ) (t : SchemeTree) → LocalsBelow d t →
      applied ss ks (length args) (lowered args d t) ≡ lowered args d (applied ss ks d t)
  lowered_after args d t below =
      applied_filled ss ks (length args) d (λ i. local (variable_of args d i)) t below ∙ ap (λ f. filled f (applied ss ks d t)) (λ k i. at i (nat_lt i d) k)
    where
      at : (i : ℕ) (b : Bool) → (if b then local (if b then parameter_of args i else i - d + length args) else local (i - d + length args))
          ≡ local (if b then parameter_of args i else i - d + length args)
      at i true = refl
      at i false = refl

  -- a substitution that makes a pattern and a scheme the same makes the scheme over the parameters the metavariable's value
  pub value_over : (m d : ℕ) (vs : Values) (t : SchemeTree) → AreDistinctLocals vs → ValuesBelow d vs → LocalsBelow d t →
      applied ss ks d (meta m vs) ≡ applied ss ks d t → applied ss ks (length (numbers vs)) (over_parameters vs t) ≡ scheme_for ss m
  value_over m d vs t h below_vs below same =
      ap (applied ss ks (length (numbers vs))) (over_is_lowered vs d t h below) ∙ lowered_after (numbers vs) d t below
      ∙ sym (demand_is_value (applied_making ss ks) m d (meta m vs) (applied ss ks d t) (lowered (numbers vs) d (applied ss ks d t)) below_vs same (refl, h, refl))

-- the parameters of a metavariable, in their order

apart_from_all : (n p : ℕ) → p ≤ n → IsApart n (values (parameters p))
apart_from_all n zero h = tt
apart_from_all n (suc p) h =
    ((λ e. let same : p ≡ n = cc in let no : ⊥ = omega (arith, same, h) in no), apart_from_all n p (omega (arith, h)))

pub parameters_distinct : (p : ℕ) → AreDistinctLocals (values (parameters p))
parameters_distinct zero = tt
parameters_distinct (suc p) = (apart_from_all p p (omega arith), parameters_distinct p)

parameter_number : (p k : ℕ) → k < p → get_or (numbers (values (parameters p))) k 0 ≡ p - 1 - k
parameter_number zero k h = absurd (let no : ⊥ = omega (arith, h) in no)
parameter_number (suc p) zero h = let e : p ≡ suc p - 1 - 0 = omega arith in e
parameter_number (suc p) (suc k) h = parameter_number p k (omega (arith, h)) ∙ (let e : p - 1 - k ≡ suc p - 1 - suc k = omega arith in e)

parameter_count : (p : ℕ) → length (numbers (values (parameters p))) ≡ p
parameter_count zero = refl
parameter_count (suc p) = ap suc (parameter_count p)

-- what stands for the parameters on their own places is each itself
pub own_renaming : (d p i : ℕ) → i < p → renaming d (numbers (values (parameters p))) i ≡ i
own_renaming d p i h =
    let long = parameter_count p in
    let within : length (numbers (values (parameters p))) - 1 - i < p = omega (arith, long, h) in
    renaming_at d (numbers (values (parameters p))) i (omega (arith, long, h))
    ∙ parameter_number p (length (numbers (values (parameters p))) - 1 - i) within
    ∙ (let e : p - 1 - (length (numbers (values (parameters p))) - 1 - i) ≡ i = omega (arith, long, h) in e)

pub all_renaming : (p i : ℕ) → renaming p (numbers (values (parameters p))) i ≡ i
all_renaming p i = elim (cases_lt i p) [
  | inl below ↦ own_renaming p p i below
  | inr past ↦
      let long = parameter_count p in
      renaming_past p (numbers (values (parameters p))) i (omega (arith, long, past))
      ∙ (let e : i - length (numbers (values (parameters p))) + p ≡ i = omega (arith, long, past) in e)
]

-- a metavariable on its own parameters becomes its value
pub own_value : (ss : List SchemeTree) (ks : List ℕ) (m p : ℕ) → LocalsBelow p (scheme_for ss m) → applied ss ks 0 (meta m (values (parameters p))) ≡ scheme_for ss m
own_value ss ks m p below =
    ap (λ ts. filled (argument_or_local 0 ts) (scheme_for ss m)) (applied_locals ss ks 0 (values (parameters p)) (parameters_distinct p))
    ∙ filled_agree p (argument_or_local 0 (map local (numbers (values (parameters p))))) local
    (λ i h. arguments_rename 0 (numbers (values (parameters p))) i ∙ ap local (own_renaming 0 p i h)) (scheme_for ss m) below
    ∙ filled_local (scheme_for ss m)

-- the step, followed by a substitution that gives the metavariable this value, is this substitution

module _ (sig : Signature) (into : Names) (all : List SchemeTree) (ks : List ℕ) (m : ℕ) (s : SchemeTree) (is : applied all ks 0 s ≡ scheme_for all m) where
  abbrev IsTyped : MetaDecl → SchemeTree → Type 0
  IsTyped decl t = IsScheme sig into (params_scope decl) decl.cat.0 t

  metas_through : (n : ℕ) (decls : List MetaDecl) (rest : List SchemeTree) → ((k : ℕ) → slice_get all (n + k) ≡ slice_get rest k) → AllZip IsTyped decls rest →
      map (applied all ks 0) (metas_but m s n decls) ≡ rest
  metas_through n [] [] at typed = refl
  metas_through n [] (t ∷ rest) at typed = absurd typed
  metas_through n (decl ∷ decls) [] at typed = absurd typed
  metas_through n (decl ∷ decls) (t ∷ rest) at typed =
      ap (λ x. x ∷ map (applied all ks 0) (metas_but m s (suc n) decls)) (here (n == m) refl)
      ∙ ap (λ xs. t ∷ xs) (metas_through (suc n) decls rest (λ k. ap (slice_get all) (let e : suc n + k ≡ n + suc k = omega arith in e) ∙ at (suc k)) typed.1)
    where
      found : scheme_for all n ≡ t
      found = ap (λ o. unwrap_or o (local 0)) (ap (slice_get all) (let e : n ≡ n + 0 = omega arith in e) ∙ at 0)

      below : LocalsBelow (params decl) (scheme_for all n)
      below = subst (λ x. LocalsBelow (params decl) x) (sym found) (subst (λ k. LocalsBelow k t) (length_params decl) (scheme_below sig into (params_scope decl) decl.cat.0 t typed.0))

      here : (b : Bool) → (n == m) ≡ b → applied all ks 0 (if b then s else meta n (values (parameters (params decl)))) ≡ t
      here true e = is ∙ ap (scheme_for all) (let same : m ≡ n = grind (arith, nat_tests) in same) ∙ found
      here false e = own_value all ks n (params decl) below ∙ found

  pub metas_same : (decls : List MetaDecl) → AllZip IsTyped decls all → map (applied all ks 0) (metas_but m s 0 decls) ≡ all
  metas_same decls typed = metas_through 0 decls all (λ k. ap (slice_get all) (let e : 0 + k ≡ k = omega arith in e)) typed

knowns_through : (R : KnownVariable → ℕ → Type 0) (all : List ℕ) (n : ℕ) (decls : List KnownVariable) (rest : List ℕ) → ((k : ℕ) → slice_get all (n + k) ≡ slice_get rest k) →
    AllZip R decls rest → map (known_for all) (knowns_from n decls) ≡ rest
knowns_through R all n [] [] at h = refl
knowns_through R all n [] (l ∷ rest) at h = absurd h
knowns_through R all n (decl ∷ decls) [] at h = absurd h
knowns_through R all n (decl ∷ decls) (l ∷ rest) at h =
    let found : known_for all n ≡ l = ap (λ o. unwrap_or o n) (ap (slice_get all) (let e : n ≡ n + 0 = omega arith in e) ∙ at 0) in
    ap (λ x. x ∷ map (known_for all) (knowns_from (suc n) decls)) found
    ∙ ap (λ xs. l ∷ xs) (knowns_through R all (suc n) decls rest (λ k. ap (slice_get all) (let e : suc n + k ≡ n + suc k = omega arith in e) ∙ at (suc k)) h.1)

pub knowns_same : (R : KnownVariable → ℕ → Type 0) (all : List ℕ) (decls : List KnownVariable) → AllZip R decls all → map (known_for all) (knowns_from 0 decls) ≡ all
knowns_same R all decls h = knowns_through R all 0 decls all (λ k. ap (slice_get all) (let e : 0 + k ≡ k = omega arith in e)) h
