-- A whole right proof with a block on cases, and its value: over a theory with one rule, z + z = z, every sum is that one.
use Rattle.std.specs.Prelude.{◌≡◌, ◌⊎◌, ℕ, ◌+◌, ◌-◌, nat_lt, Bool, true, false, if◌then◌else◌, List, [], ◌∷◌, Option, Some, None, codes, slice_get}
use Rattle.std.specs.List.{AllZip}
use Rattle.std.proofs.Common.{refl, ap, ap₂, sym, ◌∙◌, inl, inr, arith}
use Rattle.binding_terms.specs.Tree as terms
use Rattle.binding_terms.specs.Tree.{Tree, no_args}
use Rattle.binding_terms.specs.Substitution as trees
use Rattle.scheme_terms.specs.SchemeTree as schemes
use Rattle.scheme_terms.specs.SchemeTree.{SchemeTree, no_parts, filled}
use Rattle.scheme_terms.specs.Forms.{Names, Instance, ContextValue, Substitution}
use Rattle.scheme_terms.specs.Instance.{IsMetaValue, IsKnownPlace, argument_or_root, value_of as term_of, FitsScope}
use Rattle.scheme_terms.specs.Substituting.{argument_or_local, scheme_for, followed, IsSubstitution, IsKnownValue}
use Rattle.scheme_terms.specs.SchemeScope.{IsScheme, params_scope}
use Rattle.scheme_terms.specs.Context.{IsValue}
use Rattle.scheme_terms.specs.declared.scheme.MetaDecl.{MetaDecl}
use Rattle.scheme_terms.specs.declared.scheme.Root.TheVariants.{Closed}
use Rattle.rule_schemes.specs.Rules.{JudgmentScheme, Rule, Theory}
use Rattle.rule_schemes.specs.Derivation.{Derives}
use Rattle.rule_schemes.specs.Statement.{Theorem, given, derived}
use Rattle.rule_schemes.specs.Sums.{sum_scheme, nat, plus, closed_value, z, zero_sum}
use Rattle.proof_trees.specs.Steps.{step_subject, SplitHead, CaseHead, by_name}
use Rattle.proof_trees.specs.Tree.{Items, item, single, block, no_items, no_cases, one_case, Proof}
use Rattle.binding_terms.specs.Numbered.{AnyByRecursion}
use Rattle.pattern_unify.specs.CommonInstance.{IsCommonInstance, IsCommonGroundInstance}
use Rattle.pattern_unify.specs.MostGeneral.{IsThroughOnce, IsGroundThroughOnce, IsMostGeneralUpToReach}
use Rattle.case_split.specs.declared.choice.Place.{Place}
use Rattle.case_split.specs.declared.choice.Place.TheVariants.{Plain}
use Rattle.case_split.specs.Choice.{JudgmentChoice}
use Rattle.case_split.specs.Choices.{choices, rule_choice}
use Rattle.proof_trees.specs.Choices.{on_judgment, IsCovered}
use Rattle.proof_trees.specs.WrittenCases.{IsWrittenCase}
use Rattle.proof_trees.specs.Here.{Here, beginning, around_cases}
use Rattle.proof_trees.specs.Right.{IsProofScope, IsStepForm, IsRightHead, IsRightCaseHead, AreRightProofs, right_by_name}
use Rattle.proof_trees.specs.Value.{HasValue, value_of, makes_single, makes_block, makes_last, makes_same, this_case, taken_derivation}
use Rattle.proof_trees.proofs.Reaching.{never_tests}
use Rattle.proof_trees.specs.Worked.{never, zero_scheme, scope_of_names, three_names, given_form, giving}

-- z + z = z is the one rule
abbrev only : Rule
only = record { name = codes "only"; metas = []; premises = []; conclusion = sum_scheme zero_scheme zero_scheme zero_scheme }

abbrev zeros : Theory
zeros = record { sig = nat; judgments = plus ∷ []; rules = only ∷ [] }

abbrev zero_form : JudgmentScheme
zero_form = sum_scheme zero_scheme zero_scheme zero_scheme

-- theorem: forall d: n1 + n2 = n3 exists z + z = z, by case analysis on d
abbrev all_zero : Theorem
all_zero = record { name = codes "zero"; scope = three_names; inputs = given given_form ∷ []; outputs = zero_form ∷ []; targets = []; group = 0 }

abbrev split : SplitHead
split = record { line = 11; forms = []; subject = step_subject 0; named = (0, Plain) ∷ [] }

abbrev head : CaseHead
head = record { line = 12; number = 0; place = Plain; scope = scope_of_names []; premises = []; conclusion = Some zero_form; term = None }

abbrev body : Items
body = item (single (by_name 13 (zero_form ∷ []) (0 ∷ []))) no_items

abbrev proof : Proof
proof = record { body = item (block split (one_case head body 13 no_cases) 14) no_items; end = 14 }

abbrev start : Here
start = beginning all_zero three_names []

-- in the case each outer name stands for z
abbrev refine : Substitution
refine = record { metas = zero_scheme ∷ (zero_scheme ∷ (zero_scheme ∷ [])); knowns = []; into = scope_of_names [] }

abbrev choice : JudgmentChoice
choice = rule_choice never zeros three_names given_form 0 only

-- a scheme without arguments that becomes z is z
shape : SchemeTree → ℕ
shape (schemes.meta m vs) = 1
shape (schemes.known k) = 2
shape (schemes.local i) = 3
shape (schemes.con p no_parts) = 4
shape (schemes.con p (schemes.part n s xs)) = 5

number : SchemeTree → ℕ
number (schemes.con p xs) = p
number _ = 0

no_local : (b : Bool) (k : ℕ) → (if b then schemes.local 0 else schemes.local k) ≡ zero_scheme → ⊥
unfolding shape
no_local true k e = absurd (let apart : 3 ≡ 4 = ap shape e in omega (arith, apart))
no_local false k e = absurd (let apart : 3 ≡ 4 = ap shape e in omega (arith, apart))

is_zero : (s : SchemeTree) → filled (argument_or_local 0 []) s ≡ zero_scheme → s ≡ zero_scheme
unfolding shape number
is_zero (schemes.meta m vs) e = absurd (let apart : 1 ≡ 4 = ap shape e in omega (arith, apart))
is_zero (schemes.known k) e = absurd (let apart : 2 ≡ 4 = ap shape e in omega (arith, apart))
is_zero (schemes.local i) e = absurd (no_local (nat_lt i 0) (i - 0 + 0) e)
is_zero (schemes.con p no_parts) e = ap (λ n. schemes.con n no_parts) (ap number e)
is_zero (schemes.con p (schemes.part n s xs)) e = absurd (let apart : 5 ≡ 4 = ap shape e in omega (arith, apart))

-- the same of terms
shape_of : Tree → ℕ
shape_of (terms.var i) = 1
shape_of (terms.con p no_args) = 2
shape_of (terms.con p (terms.arg n t xs)) = 3

number_of : Tree → ℕ
number_of (terms.con p xs) = p
number_of _ = 0

no_variable : (b : Bool) (k : ℕ) → (if b then terms.var 0 else terms.var k) ≡ z → ⊥
unfolding shape_of
no_variable true k e = absurd (let apart : 1 ≡ 2 = ap shape_of e in omega (arith, apart))
no_variable false k e = absurd (let apart : 1 ≡ 2 = ap shape_of e in omega (arith, apart))

is_zero_term : (t : Tree) → trees.filled (argument_or_root 0 []) t ≡ z → t ≡ z
unfolding shape_of number_of
is_zero_term (terms.var i) e = absurd (no_variable (nat_lt i 0) (i - 0 + 0) e)
is_zero_term (terms.con p no_args) e = ap (λ n. terms.con n no_args) (ap number_of e)
is_zero_term (terms.con p (terms.arg n s xs)) e = absurd (let apart : 3 ≡ 2 = ap shape_of e in omega (arith, apart))

-- lists that go with empty ones, and with three names that become z
nothing_beside : {A B : Type 0} (P : A → B → Type 0) (ys : List B) → AllZip P [] ys → ys ≡ []
nothing_beside P [] h = refl
nothing_beside P (y ∷ ys) h = absurd h

three_schemes : (other : Substitution) → IsCommonInstance nat choice.names choice.equations other → other.metas ≡ refine.metas
three_schemes other common = of_metas other.metas common.schemes.metas common.equal.0 common.equal.1.0 common.equal.1.1.0
  where
    of_metas : (ms : List SchemeTree) → AllZip (λ (decl : MetaDecl) s. IsScheme nat other.into (params_scope decl) decl.cat.0 s) three_names.metas ms → filled (argument_or_local 0 []) (scheme_for ms 0) ≡ zero_scheme →
        filled (argument_or_local 0 []) (scheme_for ms 1) ≡ zero_scheme → filled (argument_or_local 0 []) (scheme_for ms 2) ≡ zero_scheme → ms ≡ refine.metas
    of_metas [] h e f g = absurd h
    of_metas (a ∷ []) h e f g = absurd h.1
    of_metas (a ∷ b ∷ []) h e f g = absurd h.1.1
    of_metas (a ∷ b ∷ c ∷ d ∷ ds) h e f g = absurd h.1.1.1
    of_metas (a ∷ b ∷ c ∷ []) h e f g =
        ap₂ (λ x xs. x ∷ xs) (is_zero a e) (ap₂ (λ x xs. x ∷ xs) (is_zero b f) (ap (λ x. x ∷ []) (is_zero c g)))

three_terms : (inst : Instance) → IsCommonGroundInstance nat choice.names choice.equations inst → inst.metas ≡ Some z ∷ (Some z ∷ (Some z ∷ []))
three_terms inst is_ground = of_metas inst.metas is_ground.scope.metas is_ground.equal.0 is_ground.equal.1.0 is_ground.equal.1.1.0
  where
    at : List (Option Tree) → ℕ → Tree
    at ms m = term_of (record { metas = ms; knowns = inst.knowns; root = inst.root }) m

    of_metas : (ms : List (Option Tree)) → AllZip (IsMetaValue nat inst) three_names.metas ms → trees.filled (argument_or_root 0 []) (at ms 0) ≡ z →
        trees.filled (argument_or_root 0 []) (at ms 1) ≡ z → trees.filled (argument_or_root 0 []) (at ms 2) ≡ z → ms ≡ Some z ∷ (Some z ∷ (Some z ∷ []))
    of_metas [] h e f g = absurd h
    of_metas (a ∷ []) h e f g = absurd h.1
    of_metas (a ∷ b ∷ []) h e f g = absurd h.1.1
    of_metas (a ∷ b ∷ c ∷ d ∷ ds) h e f g = absurd h.1.1.1
    of_metas (None ∷ b ∷ c ∷ []) h e f g = absurd h.0
    of_metas (Some a ∷ None ∷ c ∷ []) h e f g = absurd h.1.0
    of_metas (Some a ∷ Some b ∷ None ∷ []) h e f g = absurd h.1.1.0
    of_metas (Some a ∷ Some b ∷ Some c ∷ []) h e f g =
        ap₂ (λ x xs. Some x ∷ xs) (is_zero_term a e) (ap₂ (λ x xs. Some x ∷ xs) (is_zero_term b f) (ap (λ x. Some x ∷ []) (is_zero_term c g)))

-- z for each name is a most general common instance
is_most_general : IsMostGeneralUpToReach nat choice.names choice.equations refine
is_most_general =
    record {
      common = record {
        schemes = record { metas = ((refl, tt), ((refl, tt), ((refl, tt), tt))); knowns = tt };
        scope = tt;
        equal = (refl, (refl, (refl, tt)));
      };
      every = λ other reached common. one_other other (three_schemes other common) (nothing_beside (IsKnownValue other) other.knowns common.schemes.knowns);
      ground_one = λ inst is_ground. one_ground inst is_ground.scope.root (three_terms inst is_ground) (nothing_beside (IsKnownPlace inst) inst.knowns is_ground.scope.knowns);
    }
  where
    one_other : (other : Substitution) → other.metas ≡ refine.metas → other.knowns ≡ [] → IsThroughOnce nat refine other
    one_other other same none =
        record {
          after = record { metas = []; knowns = []; into = other.into };
          through = record { schemes = record { metas = tt; knowns = tt }; same = ap₂ (λ ms ks. record { metas = ms; knowns = ks; into = other.into }) (sym same) (sym none) };
          only = λ again is. unique again is.schemes (ap (λ (s : Substitution). s.into) is.same);
        }
      where
        unique : (again : Substitution) → IsSubstitution nat refine.into again → again.into ≡ other.into → again ≡ record { metas = []; knowns = []; into = other.into }
        unique again is into =
            ap₂ (λ ms ks. record { metas = ms; knowns = ks; into = again.into }) (nothing_beside (λ (decl : MetaDecl) s. IsScheme nat again.into (params_scope decl) decl.cat.0 s) again.metas is.metas) (nothing_beside (IsKnownValue again) again.knowns is.knowns)
            ∙ ap (λ (n : Names). record { metas = []; knowns = []; into = n }) into

    one_ground : (inst : Instance) → IsValue nat Closed inst.root → inst.metas ≡ Some z ∷ (Some z ∷ (Some z ∷ [])) → inst.knowns ≡ [] →
        IsGroundThroughOnce nat choice.names refine inst
    one_ground inst root same none =
        record {
          after = record { metas = []; knowns = []; root = inst.root };
          through = record { scope = record { root = root; metas = tt; knowns = tt }; same = ap₂ (λ ms ks. record { metas = ms; knowns = ks; root = inst.root }) (sym same) (sym none) };
          only = λ again is. unique again is.scope is.same;
        }
      where
        unique : (again : Instance) → FitsScope nat refine.into again → followed choice.names.metas refine again ≡ inst → again ≡ record { metas = []; knowns = []; root = inst.root }
        unique again fits is =
            ap₂ (λ ms ks. record { metas = ms; knowns = ks; root = again.root }) (nothing_beside (IsMetaValue nat again) again.metas fits.metas) (nothing_beside (IsKnownPlace again) again.knowns fits.knowns)
            ∙ ap (λ (v : ContextValue). record { metas = []; knowns = []; root = v }) (ap (λ (i : Instance). i.root) is)

some_of : {A : Type 0} → Option A → ℕ
some_of None = 0
some_of (Some x) = 1

none_there : {A : Type 0} (i : ℕ) (x : A) → slice_get [] i ≡ Some x → ⊥
unfolding some_of
none_there i x e = absurd (let apart : 0 ≡ 1 = ap some_of e in omega (arith, apart))

is_written_case : IsWrittenCase zeros three_names (on_judgment given_form) head refine
is_written_case =
    record {
      choice = choice;
      is_choice = (refl, (never, never_tests, inl refl));
      by = refine;
      is_case = (
        refl,
        record {
          rule = refl;
          place = refl;
          root = refl;
          into = refl;
          most_general = is_most_general;
          premises = refl;
          conclusion = refl;
          names = record {
            written_metas = λ m at decl there d t spelled w. absurd (none_there at there t);
            written_knowns = λ k at decl there d t spelled w. absurd (none_there k decl d);
            metas = tt;
            knowns = tt;
          };
        },
      );
      outer_names = refl;
    }

-- the one rule is the only choice
is_covered : IsCovered zeros three_names (on_judgment given_form) split.named
is_covered n place one is possible = named is.1.2
  where
    named : AnyByRecursion (λ c. c ≡ one) (choices is.1.0 zeros three_names given_form) → (◌≡◌ {A = ℕ × Place} (0, Plain) (n, place)) ⊎ ⊥
    named (inl e) = inl (ap (λ (c : JudgmentChoice). (c.rule, c.place)) e ∙ is.0)
    named (inr e) = absurd e

-- The whole proof is right,
abbrev all_zero_scope : IsProofScope all_zero three_names
all_zero_scope =
    record {
      root = refl;
      knowns = refl;
      goal_names = [];
      split = refl;
      of_inputs = (inl (inr (inl (inl refl))), (inl (inr (inr (inl (inl refl)))), (inl (inr (inr (inr (inl (inl refl))))), tt)));
      further = tt;
    }

zero_is_form : IsStepForm zeros (scope_of_names []) zero_form
zero_is_form = record { form_is = record { in_scope = (tt, refl, ((refl, tt), ((refl, tt), ((refl, tt), tt)))); root = tt; entries = omega arith }; may_stand = tt }

right_head : IsRightHead zeros (around_cases start split) split (on_judgment given_form)
right_head =
    record { forms = tt; subject_is = refl; in_scope = tt; numbers = ((omega arith, tt), tt); covered = is_covered }

right_case_head : IsRightCaseHead zeros (around_cases start split) (on_judgment given_form) head refine
right_case_head =
    record {
      scope = record { root = refl; differ = tt; knowns = tt };
      premises = tt;
      conclusion = zero_is_form;
      term = refl;
      is_case = is_written_case;
    }

pub block_is_right : AreRightProofs zeros (all_zero ∷ []) 0 (proof ∷ [])
block_is_right = (
  record {
    statement = all_zero;
    there = refl;
    scope = three_names;
    is_scope = all_zero_scope;
    right = (
      (
        on_judgment given_form,
        right_head,
        (tt, tt),
        (refl, (refine, right_case_head, (right_by_name (zero_is_form, tt) (refl, tt), tt), record { values = []; schemes = tt; same = refl }), tt),
      ),
      tt,
    );
    ends = tt;
  },
  tt,
)

-- and its value on z + z = z is that of its case, z + z = z itself.
zero_derives : Derives zeros zero_sum
zero_derives = (
  record {
    ordinary = λ h. h;
    inst = giving [];
    root = refl;
    scope = record { root = (refl, refl); metas = tt; knowns = tt };
    conclusion = record { same = refl; closed = (tt, (tt, (tt, tt))) };
    premises = tt;
  },
  tt,
)

abbrev zeros_given : Instance
zeros_given = giving (Some z ∷ (Some z ∷ (Some z ∷ [])))

pub block_has_value : HasValue zeros (all_zero ∷ []) (proof ∷ []) 0 closed_value (derived zero_sum ∷ []) (zero_sum ∷ [])
block_has_value =
    value_of all_zero proof three_names zeros_given refl refl all_zero_scope
    (record { root = (refl, refl); metas = ((refl, tt), ((refl, tt), ((refl, tt), tt))); knowns = tt })
    (record {
      value = refl;
      fits = record { root = (refl, refl); metas = ((λ h. (refl, tt)), ((λ h. (refl, tt)), ((λ h. (refl, tt)), tt))) };
      inputs = ((zero_derives, record { same = refl; closed = (tt, (tt, (tt, tt))) }), tt);
    })
    (makes_block (on_judgment given_form) refl
    (this_case refine (giving []) is_written_case
    (record { fits = record { root = (refl, refl); metas = tt; knowns = tt }; agrees = refl })
    (taken_derivation refl (refl, refl, record { same = refl; closed = (tt, (tt, (tt, tt))) }, tt))
    (makes_single (makes_same (zero_sum ∷ []) (refl, tt)) makes_last))
    makes_last)
