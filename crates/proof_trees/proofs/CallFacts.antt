-- The induction hypothesis in case s n of an induction on n1: a call with new names, which is ordered; and a code that comes first.
use Rattle.scheme_terms.specs.SchemeScope.{NamesDiffer}
use Rattle.scheme_terms.specs.Forms.{Instance}
use Rattle.rule_schemes.specs.Statement.{Theorem, derived}
use Rattle.rule_schemes.specs.Sums.{closed_value, z, zero_sum}
use Rattle.rule_schemes.proofs.Sums.{zero_sum_derives}
use Rattle.proof_trees.specs.Steps.{Simple, by_call, step_argument}
use Rattle.proof_trees.specs.Tree.{Proof, item, single, no_items}
use Rattle.proof_trees.specs.Here.{beginning}
use Rattle.proof_trees.specs.Right.{IsRightStep, right_by_call, IsProofScope}
use Rattle.proof_trees.specs.Value.{HasValue, value_of, makes_single, makes_call, makes_last}
use Rattle.proof_trees.proofs.Reaching.{never_tests}
use Rattle.proof_trees.specs.Worked.{never, about_a_sum, three_names, given_form, twice, proof_of_two, giving, two_sum}
use Rattle.std.specs.Prelude.{get_or, codes, ◌≡◌, ◌<◌, ℕ, zero, suc, List, [], ◌∷◌, Some}
use Rattle.std.proofs.Common.{refl, ap, inl, inr, arith}
use Rattle.scheme_terms.specs.Forms.{Names, Substitution}
use Rattle.rule_schemes.specs.Statement.{IsOfInputs}
use Rattle.rule_schemes.specs.Sums.{name, sum_scheme, successor_scheme, sums}
use Rattle.sy_base.specs.declared.fault.Code.{Code}
use Rattle.sy_base.specs.declared.fault.Code.TheVariants.{NotTheGoal}
use Rattle.proof_trees.specs.Steps.{scheme_argument, scheme_subject, end_theorem}
use Rattle.induction_order.specs.declared.relation.Rel.TheVariants.{Less}
use Rattle.theorem_calls.specs.Raised.{tree_of, term_of}
use Rattle.theorem_calls.specs.Call.{with_fresh, IsFurther}
use Rattle.proof_trees.specs.Calls.{IsCall}
use Rattle.proof_trees.specs.Here.{Here, entering}
use Rattle.proof_trees.specs.Goals.{HasGoal, with_forms}
use Rattle.proof_trees.specs.Right.{IsOrdered}
use Rattle.proof_trees.specs.Standings.{within}
use Rattle.proof_trees.specs.Faults.{Judges, Applies, cannot_stand, lacks_goal, IsFirstCode, place_of_code}
use Rattle.proof_trees.specs.Worked.{n3, total, in_total, refine_total_s, term_head_s, two, once, in_p}

-- lemma total on n, n2 gives n + n2 = n3, with a new name n3
abbrev scope_s : Names
scope_s = refine_total_s.into

abbrev by : Substitution
by = record { metas = name 1 ∷ (name 0 ∷ (name 2 ∷ [])); knowns = []; into = with_fresh scope_s (n3 ∷ []) }

first_input : IsFurther total 0 → ⊥
first_input h = h.1 (inl refl)

second_input : IsFurther total 1 → ⊥
second_input h = h.1 (inr (inl refl))

third_is_further : IsFurther total 2
third_is_further = (inl (inr (inr (inr (inl (inl refl))))), not_of_inputs)
  where
    not_of_inputs : IsOfInputs total 2 → ⊥
    not_of_inputs (inl e) = absurd (omega (arith, e))
    not_of_inputs (inr (inl e)) = absurd (omega (arith, e))
    not_of_inputs (inr (inr h)) = h

pub hypothesis_is_call : IsCall sums scope_s (n3 ∷ []) total (term_of (name 1) ∷ (term_of (name 0) ∷ [])) (sum_scheme (name 1) (name 0) (name 2) ∷ []) []
hypothesis_is_call =
    record {
      counts = (refl, refl);
      entries = 0;
      root = record { excess = refl; entries = refl; no_new = λ m from h. h; roots = tt };
      values = by;
      names = 2 ∷ [];
      called = record {
        reaches = never;
        tests = never_tests;
        by = by;
        is_instance = record {
          into = refl;
          counted = refl;
          schemes = ((λ h. (refl, tt)), ((λ h. (refl, tt)), ((λ h. (refl, tt)), tt)));
          knowns = refl;
          inputs = (refl, (refl, tt));
          outputs = refl;
          new_names = inr (first_input, inr (second_input, inl (third_is_further, (refl, omega arith, tt, tt), refl)));
          different = (tt, tt);
          no_other = λ m from below. inl (omega (arith, from, below));
        };
        into = refl;
        metas = refl;
        knowns = refl;
      };
    }

-- There n is less than the target, so that the call is ordered; a call on s n itself is not.
abbrev in_case_s : Here
in_case_s = entering in_total (scheme_subject (name 0) 0) term_head_s refine_total_s

pub hypothesis_is_ordered : IsOrdered (total ∷ []) in_case_s 0 0 (scheme_argument (name 1) ∷ (scheme_argument (name 0) ∷ []))
hypothesis_is_ordered =
    inr (refl, record { marks = Less ∷ []; have = (record { inner = name 1; binders = 0; place = inl (refl, refl); to = λ i. i; distinct = λ i j h k a b e. e; same = refl }, tt); smaller = tt })

-- After the call s n + n2 = s n3 has the case's goal s n + n2 = n3, whose n3 is the goal's own.
pub goal_after_call : HasGoal sums (with_fresh scope_s (n3 ∷ [])) in_case_s.goal (sum_scheme (successor_scheme (name 1)) (name 0) (successor_scheme (name 2)) ∷ [])
goal_after_call = record { values = successor_scheme (name 2) ∷ []; schemes = ((refl, (refl, (refl, tt), tt)), tt); same = refl }

-- A proof that ends without its goal has that code first.
pub not_the_goal_first : (is : Judges) → (HasGoal sums in_p.scope in_p.goal (once ∷ []) → ⊥) →
    IsFirstCode is sums (two ∷ []) (within 0 in_p (with_forms (once ∷ [])) []) (end_theorem 12) NotTheGoal []
not_the_goal_first is lacks =
    record { applies = lacks_goal lacks; none_before = λ other told earlier applies. none other told earlier applies }
  where
    none : (other : Code) (told : List ℕ) → place_of_code other < 21 → Applies is sums (two ∷ []) (within 0 in_p (with_forms (once ∷ [])) []) (end_theorem 12) other told → ⊥
    none other told earlier (cannot_stand h) = h tt
    none other told earlier (lacks_goal h) = absurd (let no_place : ⊥ = omega (arith, earlier) in no_place)

-- A theorem whose proof is a call of the theorem before it is right,
abbrev uses : Theorem
uses = about_a_sum (codes "uses") [] 1 twice

abbrev the_call : Simple
the_call = by_call 15 (twice ∷ []) 0 (step_argument 0 ∷ []) []

abbrev proof_of_uses : Proof
proof_of_uses = record { body = item (single the_call) no_items; end = 15 }

abbrev in_uses : Here
in_uses = beginning uses three_names []

all_of_inputs : (m : ℕ) → m < 3 → IsOfInputs two m
all_of_inputs zero h = inl (inr (inl (inl refl)))
all_of_inputs (suc zero) h = inl (inr (inr (inl (inl refl))))
all_of_inputs (suc (suc zero)) h = inl (inr (inr (inr (inl (inl refl)))))
all_of_inputs (suc (suc (suc m))) h = absurd (let no_place : ⊥ = omega (arith, h) in no_place)

abbrev itself_by : Substitution
itself_by = record { metas = name 0 ∷ (name 1 ∷ (name 2 ∷ [])); knowns = []; into = three_names }

two_is_called : IsCall sums three_names [] two (tree_of given_form ∷ []) (twice ∷ []) []
two_is_called =
    record {
      counts = (refl, refl);
      entries = 0;
      root = record { excess = refl; entries = refl; no_new = λ m from h. h; roots = tt };
      values = itself_by;
      names = [];
      called = record {
        reaches = never;
        tests = never_tests;
        by = itself_by;
        is_instance = record {
          into = refl;
          counted = refl;
          schemes = ((λ h. (refl, tt)), ((λ h. (refl, tt)), ((λ h. (refl, tt)), tt)));
          knowns = refl;
          inputs = (refl, tt);
          outputs = refl;
          new_names = (none_further 0 (omega arith), (none_further 1 (omega arith), (none_further 2 (omega arith), refl)));
          different = tt;
          no_other = λ m from below. absurd (omega (arith, from, below));
        };
        into = refl;
        metas = refl;
        knowns = refl;
      };
    }
  where
    none_further : (m : ℕ) → m < 3 → IsFurther two m → ⊥
    none_further m h further = further.1 (all_of_inputs m h)

pub call_is_right : IsRightStep sums (two ∷ (uses ∷ [])) 1 in_uses the_call
call_is_right =
    right_by_call names_differ (
      record {
        form_is = record {
          in_scope = (tt, refl, ((refl, (refl, (refl, (refl, (refl, tt), tt)), tt)), ((refl, tt), ((refl, (refl, (refl, (refl, (refl, tt), tt)), tt)), tt))));
          root = tt;
          entries = omega arith;
        };
        may_stand = tt;
      },
      tt,
    )
    (tt, tt)
    (record { target = two; there = refl; handed = tree_of given_form ∷ []; are_handed = (refl, tt); first = []; is_call = two_is_called })
    (inl (omega arith))
  where
    digit : List ℕ → ℕ
    digit w = get_or w 1 0

    names_differ : NamesDiffer three_names
    names_differ = (
      ((λ e. absurd (let apart : 49 ≡ 50 = ap digit e in omega (arith, apart))), ((λ e. absurd (let apart : 49 ≡ 51 = ap digit e in omega (arith, apart))), tt)),
      (((λ e. absurd (let apart : 50 ≡ 51 = ap digit e in omega (arith, apart))), tt), (tt, tt)),
    )

-- and its value is the value of that theorem on the same derivation.
abbrev all_z : Instance
all_z = giving (Some z ∷ (Some z ∷ (Some z ∷ [])))

pub call_has_value : HasValue sums (two ∷ (uses ∷ [])) (proof_of_two ∷ (proof_of_uses ∷ [])) 0 closed_value (derived zero_sum ∷ []) (two_sum ∷ []) →
    HasValue sums (two ∷ (uses ∷ [])) (proof_of_two ∷ (proof_of_uses ∷ [])) 1 closed_value (derived zero_sum ∷ []) (two_sum ∷ [])
call_has_value of_two =
    value_of uses proof_of_uses three_names all_z refl refl uses_scope
    (record { root = (refl, refl); metas = ((refl, tt), ((refl, tt), ((refl, tt), tt))); knowns = tt })
    (record {
      value = refl;
      fits = record { root = (refl, refl); metas = ((λ h. (refl, tt)), ((λ h. (refl, tt)), ((λ h. (refl, tt)), tt))) };
      inputs = ((zero_sum_derives, record { same = refl; closed = (tt, (tt, (tt, tt))) }), tt);
    })
    (makes_single
    (makes_call two (tree_of given_form ∷ []) [] (derived zero_sum ∷ []) (two_sum ∷ []) refl (refl, tt) two_is_called (refl, tt) of_two
    (record {
      fits = record { root = (refl, refl); metas = ((refl, tt), ((refl, tt), ((refl, tt), tt))); knowns = tt };
      root = refl;
      knowns = refl;
      further = [];
      metas = refl;
    })
    (record { same = refl; closed = (((tt, tt), tt), (tt, (((tt, tt), tt), tt))) }, tt))
    makes_last)
  where
    uses_scope : IsProofScope uses three_names
    uses_scope =
        record {
          root = refl;
          knowns = refl;
          goal_names = [];
          split = refl;
          of_inputs = (inl (inr (inl (inl refl))), (inl (inr (inr (inl (inl refl)))), (inl (inr (inr (inr (inl (inl refl))))), tt)));
          further = tt;
        }
