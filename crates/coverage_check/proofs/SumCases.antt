-- The case of the rule for a successor on `n1 + n2 = n3`: one that is most general, and a name that is taken.
use Rattle.std.proofs.Common.{◌≡◌, ◌⊎◌, ◌<◌, ◌≤◌, ◌+◌, ◌-◌, ℕ, zero, suc, List, [], ◌∷◌, get_or, Option, Some, None, slice_get, unwrap_or, inl, inr, refl, ap, sym, subst, ◌∙◌, arith, codes}
use Rattle.std.specs.List.{AllZip}
use Rattle.std.proofs.lemmas.Bool.{cases_lt}
use Rattle.std.proofs.lemmas.Bool.Decides.{nat_tests}
use Rattle.binding_terms.specs.Tree as terms
use Rattle.binding_terms.specs.Tree.{Tree}
use Rattle.binding_terms.specs.Substitution as fillings
use Rattle.scheme_terms.specs.SchemeTree.{SchemeTree, meta, known, local, con, filled}
use Rattle.scheme_terms.specs.Forms.{Names, Substitution, Instance}
use Rattle.scheme_terms.proofs.SchemeSubstitutions.{filled_local}
use Rattle.scheme_terms.specs.SchemeScope.{IsScheme, params_scope}
use Rattle.scheme_terms.specs.Substituting.{composed, followed, argument_or_local, scheme_for, IsKnownValue}
use Rattle.scheme_terms.specs.Instance.{argument_or_root, IsMetaValue, IsKnownPlace}
use Rattle.scheme_terms.specs.declared.scheme.MetaDecl.{MetaDecl}
use Rattle.rule_schemes.specs.Sums.{nat, name_of, successor_scheme}
use Rattle.pattern_unify.specs.CommonInstance.{IsCommonInstance, IsCommonGroundInstance}
use Rattle.pattern_unify.specs.MostGeneral.{IsThrough, IsThroughOnce, IsGroundThrough, IsMostGeneralUpToReach}
use Rattle.case_split.specs.Worked.{three_names}
use Rattle.coverage_check.specs.Case.{head_of, IsWrittenMeta}
use Rattle.coverage_check.specs.Refinement.{StandsForItself, WrittenMetasStand, HoldsItsNames}
use Rattle.coverage_check.specs.Worked.{choice, good_scope, good_case, found, SuccessorIsMostGeneral, ThirdIsTaken}

no_argument : argument_or_local 0 [] ≡ local
no_argument = λ k i. (at i) k
  where
    at : (i : ℕ) → argument_or_local 0 [] i ≡ local i
    at i = grind (arith, nat_tests)

-- a scheme for a name without arguments is that scheme
pub bare_filled : (s : SchemeTree) → filled (argument_or_local 0 []) s ≡ s
bare_filled s = ap (λ f. filled f s) no_argument ∙ filled_local s

found_is_common : IsCommonInstance nat choice.names choice.equations found
found_is_common =
    record {
      scope = tt;
      schemes =
          record {
            metas = ((refl, (refl, (refl, tt), tt)), ((refl, tt), ((refl, (refl, (refl, tt), tt)), ((refl, tt), ((refl, tt), ((refl, tt), tt))))));
            knowns = tt;
          };
      equal = (refl, (refl, (refl, tt)));
    }

-- a scheme of numbers without locals
abbrev IsNumber : Names → SchemeTree → Type 0
IsNumber into s = IsScheme nat into [] 0 s

-- six values are six schemes
six : (into : Names) (ms : List SchemeTree) → AllZip (λ decl s. IsScheme nat into (params_scope decl) decl.cat.0 s) choice.names.metas ms →
    (ms ≡ scheme_for ms 0 ∷ (scheme_for ms 1 ∷ (scheme_for ms 2 ∷ (scheme_for ms 3 ∷ (scheme_for ms 4 ∷ (scheme_for ms 5 ∷ []))))))
    × IsNumber into (scheme_for ms 1) × IsNumber into (scheme_for ms 3) × IsNumber into (scheme_for ms 5)
six into [] h = absurd h
six into (a ∷ []) h = absurd h.1
six into (a ∷ (b ∷ [])) h = absurd h.1.1
six into (a ∷ (b ∷ (c ∷ []))) h = absurd h.1.1.1
six into (a ∷ (b ∷ (c ∷ (d ∷ [])))) h = absurd h.1.1.1.1
six into (a ∷ (b ∷ (c ∷ (d ∷ (e ∷ []))))) h = absurd h.1.1.1.1.1
six into (a ∷ (b ∷ (c ∷ (d ∷ (e ∷ (f ∷ [])))))) h = (refl, h.1.0, h.1.1.1.0, h.1.1.1.1.1.0)
six into (a ∷ (b ∷ (c ∷ (d ∷ (e ∷ (f ∷ (g ∷ rest))))))) h = absurd h.1.1.1.1.1.1

three : (into : Names) (ms : List SchemeTree) → AllZip (λ decl s. IsScheme nat into (params_scope decl) decl.cat.0 s) good_scope.metas ms →
    ms ≡ scheme_for ms 0 ∷ (scheme_for ms 1 ∷ (scheme_for ms 2 ∷ []))
three into [] h = absurd h
three into (a ∷ []) h = absurd h.1
three into (a ∷ (b ∷ [])) h = absurd h.1.1
three into (a ∷ (b ∷ (c ∷ []))) h = refl
three into (a ∷ (b ∷ (c ∷ (d ∷ rest)))) h = absurd h.1.1.1

-- no known variables become none
none : (by : Substitution) (ks : List ℕ) → AllZip (IsKnownValue by) [] ks → [] ≡ ks
none by [] h = refl
none by (k ∷ ks) h = absurd h

no_places : (inst : Instance) (ks : List (Option ℕ)) → AllZip (IsKnownPlace inst) [] ks → [] ≡ ks
no_places inst [] h = refl
no_places inst (k ∷ ks) h = absurd h

abbrev next_of : SchemeTree → SchemeTree
next_of s = successor_scheme s

abbrev found_after : Substitution → Substitution
found_after other =
    record {
      metas = scheme_for other.metas 1 ∷ (scheme_for other.metas 3 ∷ (scheme_for other.metas 5 ∷ []));
      knowns = [];
      into = other.into;
    }

-- the other substitution is the one found with this after it
goes_through : (other : Substitution) → IsCommonInstance nat choice.names choice.equations other → IsThrough nat found other (found_after other)
goes_through other h =
    record {
      schemes = record { metas = (parts.1, (parts.2, (parts.3, tt))); knowns = tt };
      same = λ k. record { metas = metas_are k; knowns = knowns_are k; into = other.into };
    }
  where
    s : ℕ → SchemeTree
    s i = scheme_for other.metas i

    parts : (other.metas ≡ scheme_for other.metas 0 ∷ (scheme_for other.metas 1 ∷ (scheme_for other.metas 2 ∷ (scheme_for other.metas 3 ∷ (scheme_for other.metas 4 ∷ (scheme_for other.metas 5 ∷ []))))))
        × IsNumber other.into (scheme_for other.metas 1) × IsNumber other.into (scheme_for other.metas 3) × IsNumber other.into (scheme_for other.metas 5)
    parts = six other.into other.metas h.schemes.metas

    knowns_are : [] ≡ other.knowns
    knowns_are = none other other.knowns h.schemes.knowns

    first : next_of (scheme_for other.metas 3) ≡ scheme_for other.metas 0
    first = sym (ap next_of (bare_filled (scheme_for other.metas 3))) ∙ (sym h.equal.0 ∙ bare_filled (scheme_for other.metas 0))

    second : scheme_for other.metas 1 ≡ scheme_for other.metas 4
    second = sym (bare_filled (scheme_for other.metas 1)) ∙ (h.equal.1.0 ∙ bare_filled (scheme_for other.metas 4))

    third : next_of (scheme_for other.metas 5) ≡ scheme_for other.metas 2
    third = sym (ap next_of (bare_filled (scheme_for other.metas 5))) ∙ (sym h.equal.1.1.0 ∙ bare_filled (scheme_for other.metas 2))

    p0 : next_of (filled (argument_or_local 0 []) (scheme_for other.metas 3)) ≡ scheme_for other.metas 0
    p0 = ap next_of (bare_filled (scheme_for other.metas 3)) ∙ first

    p1 : filled (argument_or_local 0 []) (scheme_for other.metas 1) ≡ scheme_for other.metas 1
    p1 = bare_filled (scheme_for other.metas 1)

    p2 : next_of (filled (argument_or_local 0 []) (scheme_for other.metas 5)) ≡ scheme_for other.metas 2
    p2 = ap next_of (bare_filled (scheme_for other.metas 5)) ∙ third

    p3 : filled (argument_or_local 0 []) (scheme_for other.metas 3) ≡ scheme_for other.metas 3
    p3 = bare_filled (scheme_for other.metas 3)

    p4 : filled (argument_or_local 0 []) (scheme_for other.metas 1) ≡ scheme_for other.metas 4
    p4 = bare_filled (scheme_for other.metas 1) ∙ second

    p5 : filled (argument_or_local 0 []) (scheme_for other.metas 5) ≡ scheme_for other.metas 5
    p5 = bare_filled (scheme_for other.metas 5)

    listed_are : (composed found (found_after other)).metas
        ≡ scheme_for other.metas 0 ∷ (scheme_for other.metas 1 ∷ (scheme_for other.metas 2 ∷ (scheme_for other.metas 3 ∷ (scheme_for other.metas 4 ∷ (scheme_for other.metas 5 ∷ [])))))
    listed_are = λ k. p0 k ∷ (p1 k ∷ (p2 k ∷ (p3 k ∷ (p4 k ∷ (p5 k ∷ [])))))

    metas_are : (composed found (found_after other)).metas ≡ other.metas
    metas_are = listed_are ∙ sym parts.0

-- and nothing else goes there
goes_once : (other second : Substitution) → IsThrough nat found other second → second ≡ found_after other
goes_once other second h =
    λ k. record { metas = metas_are k; knowns = sym (none second second.knowns h.schemes.knowns) k; into = ap (λ x. x.into) h.same k }
  where
    q0 : scheme_for second.metas 0 ≡ scheme_for other.metas 1
    q0 = sym (bare_filled (scheme_for second.metas 0)) ∙ ap (λ x. scheme_for x.metas 1) h.same

    q1 : scheme_for second.metas 1 ≡ scheme_for other.metas 3
    q1 = sym (bare_filled (scheme_for second.metas 1)) ∙ ap (λ x. scheme_for x.metas 3) h.same

    q2 : scheme_for second.metas 2 ≡ scheme_for other.metas 5
    q2 = sym (bare_filled (scheme_for second.metas 2)) ∙ ap (λ x. scheme_for x.metas 5) h.same

    listed_are : ◌≡◌ {A = List SchemeTree} (scheme_for second.metas 0 ∷ (scheme_for second.metas 1 ∷ (scheme_for second.metas 2 ∷ [])))
        (scheme_for other.metas 1 ∷ (scheme_for other.metas 3 ∷ (scheme_for other.metas 5 ∷ [])))
    listed_are = λ k. q0 k ∷ (q1 k ∷ (q2 k ∷ []))

    metas_are : second.metas ≡ (found_after other).metas
    metas_are = three second.into second.metas h.schemes.metas ∙ listed_are

pub every_other : (other : Substitution) → IsCommonInstance nat choice.names choice.equations other → IsThroughOnce nat found other
every_other other h = record { after = found_after other; through = goes_through other h; only = goes_once other }

-- the same of ground instances

term_under_itself_at : (n i : ℕ) → (i < n) ⊎ (n ≤ i) → fillings.under n terms.var i ≡ terms.var i
term_under_itself_at n i (inl h) = grind (arith, nat_tests)
term_under_itself_at n i (inr h) = past ∙ ap terms.var (let e : i - n + n ≡ i = omega arith in e)
  where
    raise : (j : ℕ) → terms.shifted 0 n (terms.var j) ≡ terms.var (j + n)
    raise j = grind (arith, nat_tests)

    past : fillings.under n terms.var i ≡ terms.var (i - n + n)
    past = (let e : fillings.under n terms.var i ≡ terms.shifted 0 n (terms.var (i - n)) = grind (arith, nat_tests) in e) ∙ raise (i - n)

term_under_itself : (n : ℕ) → fillings.under n terms.var ≡ terms.var
term_under_itself n = λ k i. term_under_itself_at n i (cases_lt i n) k

mutual
  term_itself : (t : Tree) → fillings.filled terms.var t ≡ t
  term_itself (terms.var i) = refl
  term_itself (terms.con p xs) = ap (terms.con p) (args_itself xs)

  args_itself : (xs : terms.Args) → fillings.filled_args terms.var xs ≡ xs
  args_itself terms.no_args = refl
  args_itself (terms.arg n t xs) =
      ap (λ f. terms.arg n (fillings.filled f t) (fillings.filled_args terms.var xs)) (term_under_itself n)
      ∙ (ap (λ x. terms.arg n x (fillings.filled_args terms.var xs)) (term_itself t) ∙ ap (terms.arg n t) (args_itself xs))

no_root : argument_or_root 0 [] ≡ terms.var
no_root = λ k i. (at i) k
  where
    at : (i : ℕ) → argument_or_root 0 [] i ≡ terms.var i
    at i = grind (arith, nat_tests)

-- a term for a name without arguments is that term
term_filled : (t : Tree) → fillings.filled (argument_or_root 0 []) t ≡ t
term_filled t = ap (λ f. fillings.filled f t) no_root ∙ term_itself t

abbrev IsGroundNumber : Instance → Option Tree → Type 0
IsGroundNumber inst g = IsMetaValue nat inst (name_of (codes "n")) g

given : (inst : Instance) (g : Option Tree) → IsGroundNumber inst g → g ≡ Some (unwrap_or g (terms.var 0))
given inst None h = absurd h
given inst (Some t) h = refl

-- the term at a place
abbrev term_at : List (Option Tree) → ℕ → Tree
term_at gs i = unwrap_or (unwrap_or (slice_get gs i) None) (terms.var 0)

abbrev Six : Instance → List (Option Tree) → Type 0
Six inst gs =
    (gs ≡ Some (term_at gs 0) ∷ (Some (term_at gs 1) ∷ (Some (term_at gs 2) ∷ (Some (term_at gs 3) ∷ (Some (term_at gs 4) ∷ (Some (term_at gs 5) ∷ []))))))
    × IsGroundNumber inst (Some (term_at gs 1)) × IsGroundNumber inst (Some (term_at gs 3)) × IsGroundNumber inst (Some (term_at gs 5))

six_given : (inst : Instance) (gs : List (Option Tree)) → AllZip (IsMetaValue nat inst) choice.names.metas gs → Six inst gs
six_given inst [] h = absurd h
six_given inst (a ∷ []) h = absurd h.1
six_given inst (a ∷ (b ∷ [])) h = absurd h.1.1
six_given inst (a ∷ (b ∷ (c ∷ []))) h = absurd h.1.1.1
six_given inst (a ∷ (b ∷ (c ∷ (d ∷ [])))) h = absurd h.1.1.1.1
six_given inst (a ∷ (b ∷ (c ∷ (d ∷ (e ∷ []))))) h = absurd h.1.1.1.1.1
six_given inst (a ∷ (b ∷ (c ∷ (d ∷ (e ∷ (f ∷ [])))))) h =
    let pa = given inst a h.0 in
    let pb = given inst b h.1.0 in
    let pc = given inst c h.1.1.0 in
    let pd = given inst d h.1.1.1.0 in
    let pe = given inst e h.1.1.1.1.0 in
    let pf = given inst f h.1.1.1.1.1.0 in (
      λ k. pa k ∷ (pb k ∷ (pc k ∷ (pd k ∷ (pe k ∷ (pf k ∷ []))))),
      subst (IsGroundNumber inst) pb h.1.0,
      subst (IsGroundNumber inst) pd h.1.1.1.0,
      subst (IsGroundNumber inst) pf h.1.1.1.1.1.0,
    )
six_given inst (a ∷ (b ∷ (c ∷ (d ∷ (e ∷ (f ∷ (g ∷ rest))))))) h = absurd h.1.1.1.1.1.1

three_given : (inst : Instance) (gs : List (Option Tree)) → AllZip (IsMetaValue nat inst) good_scope.metas gs →
    gs ≡ Some (term_at gs 0) ∷ (Some (term_at gs 1) ∷ (Some (term_at gs 2) ∷ []))
three_given inst [] h = absurd h
three_given inst (a ∷ []) h = absurd h.1
three_given inst (a ∷ (b ∷ [])) h = absurd h.1.1
three_given inst (a ∷ (b ∷ (c ∷ []))) h =
    let pa = given inst a h.0 in
    let pb = given inst b h.1.0 in
    let pc = given inst c h.1.1.0 in
    λ k. pa k ∷ (pb k ∷ (pc k ∷ []))
three_given inst (a ∷ (b ∷ (c ∷ (d ∷ rest)))) h = absurd h.1.1.1

abbrev next_term : Tree → Tree
next_term t = terms.con 1 (terms.arg 0 t terms.no_args)

abbrev ground_after : Instance → Instance
ground_after inst =
    record {
      metas = Some (term_at inst.metas 1) ∷ (Some (term_at inst.metas 3) ∷ (Some (term_at inst.metas 5) ∷ []));
      knowns = [];
      root = inst.root;
    }

ground_through : (inst : Instance) → IsCommonGroundInstance nat choice.names choice.equations inst → IsGroundThrough nat choice.names found inst (ground_after inst)
ground_through inst h =
    record {
      scope = record { root = h.scope.root; metas = (parts.1, (parts.2, (parts.3, tt))); knowns = tt };
      same = λ k. record { metas = metas_are k; knowns = knowns_are k; root = inst.root };
    }
  where
    parts : Six inst inst.metas
    parts = six_given inst inst.metas h.scope.metas

    knowns_are : [] ≡ inst.knowns
    knowns_are = no_places inst inst.knowns h.scope.knowns

    first : next_term (term_at inst.metas 3) ≡ term_at inst.metas 0
    first = sym (ap next_term (term_filled (term_at inst.metas 3))) ∙ (sym h.equal.0 ∙ term_filled (term_at inst.metas 0))

    second : term_at inst.metas 1 ≡ term_at inst.metas 4
    second = sym (term_filled (term_at inst.metas 1)) ∙ (h.equal.1.0 ∙ term_filled (term_at inst.metas 4))

    third : next_term (term_at inst.metas 5) ≡ term_at inst.metas 2
    third = sym (ap next_term (term_filled (term_at inst.metas 5))) ∙ (sym h.equal.1.1.0 ∙ term_filled (term_at inst.metas 2))

    p0 : next_term (fillings.filled (argument_or_root 0 []) (term_at inst.metas 3)) ≡ term_at inst.metas 0
    p0 = ap next_term (term_filled (term_at inst.metas 3)) ∙ first

    p1 : fillings.filled (argument_or_root 0 []) (term_at inst.metas 1) ≡ term_at inst.metas 1
    p1 = term_filled (term_at inst.metas 1)

    p2 : next_term (fillings.filled (argument_or_root 0 []) (term_at inst.metas 5)) ≡ term_at inst.metas 2
    p2 = ap next_term (term_filled (term_at inst.metas 5)) ∙ third

    p3 : fillings.filled (argument_or_root 0 []) (term_at inst.metas 3) ≡ term_at inst.metas 3
    p3 = term_filled (term_at inst.metas 3)

    p4 : fillings.filled (argument_or_root 0 []) (term_at inst.metas 1) ≡ term_at inst.metas 4
    p4 = term_filled (term_at inst.metas 1) ∙ second

    p5 : fillings.filled (argument_or_root 0 []) (term_at inst.metas 5) ≡ term_at inst.metas 5
    p5 = term_filled (term_at inst.metas 5)

    listed_are : (followed choice.names.metas found (ground_after inst)).metas
        ≡ Some (term_at inst.metas 0) ∷ (Some (term_at inst.metas 1) ∷ (Some (term_at inst.metas 2) ∷ (Some (term_at inst.metas 3) ∷ (Some (term_at inst.metas 4) ∷ (Some (term_at inst.metas 5) ∷ [])))))
    listed_are = λ k. Some (p0 k) ∷ (Some (p1 k) ∷ (Some (p2 k) ∷ (Some (p3 k) ∷ (Some (p4 k) ∷ (Some (p5 k) ∷ [])))))

    metas_are : (followed choice.names.metas found (ground_after inst)).metas ≡ inst.metas
    metas_are = listed_are ∙ sym parts.0

ground_once : (inst second : Instance) → IsGroundThrough nat choice.names found inst second → second ≡ ground_after inst
ground_once inst second h =
    λ k. record { metas = metas_are k; knowns = sym (no_places second second.knowns h.scope.knowns) k; root = ap (λ x. x.root) h.same k }
  where
    q0 : term_at second.metas 0 ≡ term_at inst.metas 1
    q0 = sym (term_filled (term_at second.metas 0)) ∙ ap (λ x. term_at x.metas 1) h.same

    q1 : term_at second.metas 1 ≡ term_at inst.metas 3
    q1 = sym (term_filled (term_at second.metas 1)) ∙ ap (λ x. term_at x.metas 3) h.same

    q2 : term_at second.metas 2 ≡ term_at inst.metas 5
    q2 = sym (term_filled (term_at second.metas 2)) ∙ ap (λ x. term_at x.metas 5) h.same

    listed_are : ◌≡◌ {A = List (Option Tree)} (Some (term_at second.metas 0) ∷ (Some (term_at second.metas 1) ∷ (Some (term_at second.metas 2) ∷ [])))
        (Some (term_at inst.metas 1) ∷ (Some (term_at inst.metas 3) ∷ (Some (term_at inst.metas 5) ∷ [])))
    listed_are = λ k. Some (q0 k) ∷ (Some (q1 k) ∷ (Some (q2 k) ∷ []))

    metas_are : second.metas ≡ (ground_after inst).metas
    metas_are = three_given second second.metas h.scope.metas ∙ listed_are

pub found_is_most_general : IsMostGeneralUpToReach nat choice.names choice.equations found
found_is_most_general =
    record {
      common = found_is_common;
      every = λ other reached h. every_other other h;
      ground_one = λ inst h. record { after = ground_after inst; through = ground_through inst h; only = ground_once inst };
    }

-- what the case writes: n2, n and n3'

writes_n2 : IsWrittenMeta three_names good_scope (head_of good_case) 0
writes_n2 = inl (inl (inr (inr (inl (inl refl)))))

writes_n : IsWrittenMeta three_names good_scope (head_of good_case) 1
writes_n = inl (inl (inr (inl (inl (inl refl)))))

writes_new : IsWrittenMeta three_names good_scope (head_of good_case) 2
writes_new = inl (inl (inr (inr (inr (inl (inl (inl refl)))))))

abbrev count : {A : Type 0} → Option A → ℕ
count None = 0
count (Some y) = 1

no_option : {A : Type 0} {x : A} → ◌≡◌ {A = Option A} None (Some x) → ⊥
no_option h = let e : ◌≡◌ {A = ℕ} 0 1 = ap count h in absurd (omega (arith, e))

abbrev the_decl : Option MetaDecl → MetaDecl
the_decl d = unwrap_or d (name_of [])

other_name : (d t decl there : MetaDecl) → ◌≡◌ {A = Option MetaDecl} (Some d) (Some decl) → ◌≡◌ {A = Option MetaDecl} (Some t) (Some there) →
    there.name ≡ decl.name → t.name ≡ d.name
other_name d t decl there at_d at_t spelled = ap (λ x. (the_decl x).name) at_t ∙ (spelled ∙ sym (ap (λ x. (the_decl x).name) at_d))

abbrev digit : List ℕ → ℕ
digit w = get_or w 1 0

abbrev quote : List ℕ → ℕ
quote w = get_or w 2 0

-- the outer name n2 stands for itself, and no other outer name is written
written_stand : WrittenMetasStand three_names found good_scope (head_of good_case)
written_stand zero zero decl there d t spelled w =
    let e : ◌≡◌ {A = ℕ} 50 49 = ap digit (other_name _ _ decl there d t spelled) in absurd (omega (arith, e))
written_stand zero (suc zero) decl there d t spelled w =
    let e : ◌≡◌ {A = ℕ} 0 49 = ap digit (other_name _ _ decl there d t spelled) in absurd (omega (arith, e))
written_stand zero (suc (suc zero)) decl there d t spelled w =
    let e : ◌≡◌ {A = ℕ} 51 49 = ap digit (other_name _ _ decl there d t spelled) in absurd (omega (arith, e))
written_stand (suc zero) zero decl there d t spelled w =
    subst (λ x. StandsForItself found 1 x 0) (ap the_decl d) (record { declared = refl; value = refl })
written_stand (suc zero) (suc zero) decl there d t spelled w =
    let e : ◌≡◌ {A = ℕ} 0 50 = ap digit (other_name _ _ decl there d t spelled) in absurd (omega (arith, e))
written_stand (suc zero) (suc (suc zero)) decl there d t spelled w =
    let e : ◌≡◌ {A = ℕ} 51 50 = ap digit (other_name _ _ decl there d t spelled) in absurd (omega (arith, e))
written_stand (suc (suc zero)) zero decl there d t spelled w =
    let e : ◌≡◌ {A = ℕ} 50 51 = ap digit (other_name _ _ decl there d t spelled) in absurd (omega (arith, e))
written_stand (suc (suc zero)) (suc zero) decl there d t spelled w =
    let e : ◌≡◌ {A = ℕ} 0 51 = ap digit (other_name _ _ decl there d t spelled) in absurd (omega (arith, e))
written_stand (suc (suc zero)) (suc (suc zero)) decl there d t spelled w =
    let e : ◌≡◌ {A = ℕ} 39 0 = ap quote (other_name _ _ decl there d t spelled) in absurd (omega (arith, e))
written_stand (suc (suc (suc m))) at decl there d t spelled w = absurd (no_option d)
written_stand m (suc (suc (suc at))) decl there d t spelled w = absurd (no_option t)

pub good_names : HoldsItsNames three_names found good_scope (head_of good_case)
good_names =
    record {
      written_metas = written_stand;
      written_knowns = λ k at decl there d t spelled w. absurd (no_option d);
      metas = (inl writes_n2, (inl writes_n, (inl writes_new, tt)));
      knowns = tt;
    }

-- the case is a most general one
pub good_case_is_most_general : SuccessorIsMostGeneral
good_case_is_most_general =
    record { rule = refl; place = refl; root = refl; into = refl; most_general = found_is_most_general; premises = refl; conclusion = refl; names = good_names }

abbrev kind : SchemeTree → ℕ
kind (meta m vs) = 0
kind (known k) = 1
kind (local i) = 2
kind (con p xs) = 3

pub n3_is_taken : ThirdIsTaken
n3_is_taken =
    record {
      decl = name_of (codes "n3");
      written =
          record {
            outer_name = refl;
            at = 1;
            there = name_of (codes "n3");
            in_scope = refl;
            spelled = refl;
            written = inl (inl (inr (inr (inr (inl (inl (inl refl)))))));
          };
      none = λ by general takes others.
          let e : ◌≡◌ {A = ℕ} 0 3 =
          ap kind (subst (λ x. filled (argument_or_local 0 []) x ≡ next_of (filled (argument_or_local 0 []) (scheme_for by.metas 5))) takes.1.value
          general.common.equal.1.1.0) in
          absurd (omega (arith, e));
    }
