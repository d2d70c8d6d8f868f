-- Small facts that show that the definitions mean what they should.
use Rattle.std.specs.Prelude.{◌≡◌, ◌⊎◌, ℕ, IsTrue, false, List, [], ◌∷◌, Option, Some, None, slice_index_or}
use Rattle.std.proofs.Common.{refl, ap, ap₂, inl, inr, arith}
use Rattle.scheme_terms.specs.SchemeTree.{SchemeTree, meta}
use Rattle.scheme_terms.specs.Forms.{Instance, Substitution}
use Rattle.rule_schemes.specs.Rules.{JudgmentScheme}
use Rattle.rule_schemes.specs.Sums.{name, successor_scheme, sums, plus_s, z, zero_sum, one_sum}
use Rattle.rule_schemes.proofs.Sums.{zero_sum_derives}
use Rattle.sy_base.specs.declared.fault.Code.TheVariants.{BadStep}
use Rattle.proof_trees.specs.Steps.{simple, begin_split, begin_case, end_case, end_split, step_argument}
use Rattle.proof_trees.specs.Tree.{levels_of_item, item, single, no_items, no_cases, one_case}
use Rattle.induction_order.specs.declared.relation.Rel.{Rel}
use Rattle.induction_order.specs.declared.relation.Rel.TheVariants.{Less, Equal, Unknown}
use Rattle.induction_order.specs.Order.{IsSmaller, IsTermRelation}
use Rattle.induction_order.specs.Sizes.{AreSized}
use Rattle.proof_trees.specs.Ranks.{HaveOneLength, Falls}
use Rattle.proof_trees.specs.Here.{Here, after_step, beginning}
use Rattle.proof_trees.specs.Right.{HaveRelations, IsRightStep, right_by_rule, IsProofScope}
use Rattle.proof_trees.specs.Statements.{AreGrouped, FollowsInGroup}
use Rattle.proof_trees.specs.Standings.{so_far, in_case, flattened_begun, outside, one_step, no_more_steps, begins, by_step, ends}
use Rattle.proof_trees.specs.Faults.{Judges, Applies, cannot_stand}
use Rattle.proof_trees.specs.Value.{Agrees, IsOfCase, value_of, makes_single, makes_node, makes_last}
use Rattle.proof_trees.specs.Laws.{OrderFalls}
use Rattle.proof_trees.specs.Worked.{three_names, once, two, step_once, step_twice, proof_of_two, given_form, about_a_sum, p, q, in_p, head_z, head_s, split_b, q_in_z, block_b, refine_z, giving, HasGoalInCase, LacksGoalInCase, LaterCallsEarlier, EarlierCallsLater, TwoIsRight, TwoLeads, TwoHasValue}

-- a begun block is a front of these steps
pub begun_flattened : flattened_begun (in_case no_items split_b (one_case head_z (item (single q_in_z) no_items) 14 no_cases) head_s (so_far no_items)) ≡
    begin_split split_b ∷ (begin_case head_z ∷ (simple q_in_z ∷ (end_case 14 ∷ (begin_case head_s ∷ []))))
begun_flattened = refl

-- the block is at the first level
pub block_level : levels_of_item block_b ≡ 1
block_level = refl

-- In case z of an induction on n1, z + n2 = n2 has the goal n1 + n2 = n3, whose name n3 is its own.
pub goal_in_case : HasGoalInCase
goal_in_case = record { values = name 0 ∷ []; schemes = ((refl, tt), tt); same = refl }

-- There z + z = z does not have it.
second_is_name : List JudgmentScheme → ℕ
second_is_name [] = 0
second_is_name (j ∷ js) = is_name (slice_index_or j.args 1 (name 0))
  where
    is_name : SchemeTree → ℕ
    is_name (meta m vs) = 1
    is_name _ = 0

pub not_the_goal : LacksGoalInCase
unfolding second_is_name
not_the_goal h = let apart : 1 ≡ 0 = ap second_is_name h.same in absurd (omega (arith, apart))

-- In case s n the part n is less than the target, whose present value is s n, and n2 is not.
pub part_is_less : IsTermRelation (name 1) (successor_scheme (name 1)) Less
part_is_less = record { inner = name 1; binders = 0; place = inl (refl, refl); to = λ i. i; distinct = λ i j h k a b e. e; same = refl }

-- A call on what is less is ordered, and one on what is equal only where the callee stands earlier.
pub less_is_ordered : IsSmaller (Less ∷ []) false
less_is_ordered = tt

pub equal_is_not_ordered : IsSmaller (Equal ∷ []) false → ⊥
equal_is_not_ordered h = cc

-- Two theorems of a group call each other on their own input: the later may call the earlier, the earlier may not call the later.
pub later_calls_earlier : LaterCallsEarlier
later_calls_earlier = inr (refl, record { marks = Equal ∷ []; have = (refl, tt); smaller = refl })

number_of : Option Rel → ℕ
number_of None = 0
number_of (Some Less) = 1
number_of (Some Equal) = 2
number_of (Some Unknown) = 3

no_marks : (marks : List Rel) → HaveRelations in_p (step_argument 0 ∷ []) 0 (0 ∷ []) marks → IsSmaller marks false → ⊥
unfolding number_of
no_marks [] have smaller = have
no_marks (Less ∷ marks) have smaller = let apart : 2 ≡ 1 = ap number_of have.0 in absurd (omega (arith, apart))
no_marks (Equal ∷ []) have smaller = equal_is_not_ordered smaller
no_marks (Equal ∷ mark ∷ marks) have smaller = have.1
no_marks (Unknown ∷ marks) have smaller = smaller

pub earlier_does_not_call_later : EarlierCallsLater → ⊥
earlier_does_not_call_later (inl h) = absurd (omega (arith, h))
earlier_does_not_call_later (inr h) = no_marks h.1.marks h.1.have h.1.smaller

-- The two are a group; a member with another number of targets would not be.
pub one_group : AreGrouped (p ∷ (q ∷ []))
one_group = (refl, (inl (refl, refl), tt))

pub other_targets : AreGrouped (p ∷ (about_a_sum q.name [] 0 given_form ∷ [])) → ⊥
other_targets h = not_following h.1.0
  where
    not_following : FollowsInGroup p (about_a_sum q.name [] 0 given_form) → ⊥
    not_following (inl e) = absurd (omega (arith, e.1))
    not_following (inr e) = absurd (omega (arith, e))

-- The instance of the case for z agrees with the outer one that gives z to all names, and z + z = z is of that case and not of the other.
pub agrees_in_z : Agrees sums three_names (giving (Some z ∷ (Some z ∷ (Some z ∷ [])))) head_z.scope refine_z (giving (Some z ∷ []))
agrees_in_z = record { fits = record { root = (refl, refl); metas = ((refl, tt), tt); knowns = tt }; agrees = refl }

pub zero_sum_of_case_z : IsOfCase sums (giving (Some z ∷ [])) head_z zero_sum
zero_sum_of_case_z = (refl, refl, record { same = refl; closed = (tt, (tt, (tt, tt))) }, tt)

pub zero_sum_of_no_other : (inner : Instance) → IsOfCase sums inner head_s zero_sum → ⊥
zero_sum_of_no_other inner h = absurd (omega (arith, h.0))

-- The proof of two steps is right,
abbrev once_by : Substitution
once_by = record { metas = name 0 ∷ (name 1 ∷ (name 2 ∷ [])); knowns = []; into = three_names }

abbrev twice_by : Substitution
twice_by = record { metas = successor_scheme (name 0) ∷ (name 1 ∷ (successor_scheme (name 2) ∷ [])); knowns = []; into = three_names }

abbrev in_two : Here
in_two = beginning two three_names []

once_is_right : IsRightStep sums (two ∷ []) 0 in_two step_once
once_is_right =
    right_by_rule (given_form ∷ [])
    (record {
      form_is = record { in_scope = (tt, refl, ((refl, (refl, (refl, tt), tt)), ((refl, tt), ((refl, (refl, (refl, tt), tt)), tt)))); root = tt; entries = omega arith };
      may_stand = tt;
    })
    (refl, tt)
    (record {
      rule = plus_s;
      there = refl;
      is_instance = inl (record {
        ordinary = λ h. h;
        higher = plus_s;
        raised = refl;
        by = once_by;
        into = refl;
        schemes = record { metas = ((refl, tt), ((refl, tt), ((refl, tt), tt))); knowns = tt };
        conclusion = refl;
        premises = refl;
      });
    })

twice_is_right : IsRightStep sums (two ∷ []) 0 (after_step in_two step_once) step_twice
twice_is_right =
    right_by_rule (once ∷ [])
    (record {
      form_is = record {
        in_scope = (tt, refl, ((refl, (refl, (refl, (refl, (refl, tt), tt)), tt)), ((refl, tt), ((refl, (refl, (refl, (refl, (refl, tt), tt)), tt)), tt))));
        root = tt;
        entries = omega arith;
      };
      may_stand = tt;
    })
    (refl, tt)
    (record {
      rule = plus_s;
      there = refl;
      is_instance = inl (record {
        ordinary = λ h. h;
        higher = plus_s;
        raised = refl;
        by = twice_by;
        into = refl;
        schemes = record { metas = ((refl, (refl, (refl, tt), tt)), ((refl, tt), ((refl, (refl, (refl, tt), tt)), tt))); knowns = tt };
        conclusion = refl;
        premises = refl;
      });
    })

abbrev two_scope : IsProofScope two three_names
two_scope =
    record {
      root = refl;
      knowns = refl;
      goal_names = [];
      split = refl;
      of_inputs = (inl (inr (inl (inl refl))), (inl (inr (inr (inl (inl refl)))), (inl (inr (inr (inr (inl (inl refl))))), tt)));
      further = tt;
    }

pub two_is_right : TwoIsRight
two_is_right = (
  record {
    statement = two;
    there = refl;
    scope = three_names;
    is_scope = two_scope;
    right = (once_is_right, (twice_is_right, tt));
    ends = record { values = []; schemes = tt; same = refl };
  },
  tt,
)

-- its steps lead from no theorem to one,
pub two_leads : TwoLeads
two_leads =
    one_step (begins refl two_scope)
    (one_step (by_step once_is_right)
    (one_step (by_step twice_is_right)
    (one_step (ends (record { values = []; schemes = tt; same = refl })) no_more_steps)))

-- and its value on z + z = z is s s z + z = s s z over s z + z = s z.
abbrev all_zero : Instance
all_zero = giving (Some z ∷ (Some z ∷ (Some z ∷ [])))

pub two_has_value : TwoHasValue
two_has_value =
    value_of two proof_of_two three_names all_zero refl refl two_scope
    (record { root = (refl, refl); metas = ((refl, tt), ((refl, tt), ((refl, tt), tt))); knowns = tt })
    (record {
      value = refl;
      fits = record { root = (refl, refl); metas = ((λ h. (refl, tt)), ((λ h. (refl, tt)), ((λ h. (refl, tt)), tt))) };
      inputs = ((zero_sum_derives, record { same = refl; closed = (tt, (tt, (tt, tt))) }), tt);
    })
    (makes_single (makes_node plus_s (zero_sum ∷ []) refl (λ h. h) (refl, tt))
    (makes_single (makes_node plus_s (one_sum ∷ []) refl (λ h. h) (refl, tt)) makes_last))

-- The end of a block cannot stand outside of a proof, whatever other crates are to say.
pub no_end_outside : (is : Judges) → Applies is sums (two ∷ []) (outside 0) (end_split 3) BadStep []
no_end_outside is = cannot_stand (λ h. h)

-- An ordered call has smaller sizes, or equal ones with the callee earlier.
same_length : (marks : List Rel) (own targets : List ℕ) → AreSized marks own targets → HaveOneLength own targets
same_length [] [] [] truth = tt
same_length [] [] (n ∷ ns) truth = absurd truth
same_length [] (m ∷ ms) ns truth = absurd truth
same_length (r ∷ rs) [] ns truth = absurd truth
same_length (r ∷ rs) (m ∷ ms) [] truth = absurd truth
same_length (r ∷ rs) (m ∷ ms) (n ∷ ns) truth = same_length rs ms ns truth.1

pub order_falls : OrderFalls
order_falls [] [] [] earlier truth smaller = inr (refl, smaller)
order_falls [] [] (n ∷ ns) earlier truth smaller = absurd truth
order_falls [] (m ∷ ms) ns earlier truth smaller = absurd truth
order_falls (r ∷ rs) [] ns earlier truth smaller = absurd truth
order_falls (r ∷ rs) (m ∷ ms) [] earlier truth smaller = absurd truth
order_falls (Less ∷ rs) (m ∷ ms) (n ∷ ns) earlier truth smaller = inl (inl (truth.0, same_length rs ms ns truth.1))
order_falls (Unknown ∷ rs) (m ∷ ms) (n ∷ ns) earlier truth smaller = absurd smaller
order_falls (Equal ∷ rs) (m ∷ ms) (n ∷ ns) earlier truth smaller = equal_first truth.0 (order_falls rs ms ns earlier truth.1 smaller)
  where
    equal_first : m ≡ n → Falls ms ns ⊎ ((ms ≡ ns) × IsTrue earlier) → Falls (m ∷ ms) (n ∷ ns) ⊎ (◌≡◌ {A = List ℕ} (m ∷ ms) (n ∷ ns) × IsTrue earlier)
    equal_first e (inl f) = inl (inr (e, f))
    equal_first e (inr both) = inr (ap₂ (λ x xs. x ∷ xs) e both.0, both.1)
