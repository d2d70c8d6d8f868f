-- Small proofs over the theory of sums, and what is to hold of them. To be held against docs/notation.md, 'Steps' and 'Runs'.
use Rattle.std.specs.Prelude.{◌≡◌, ℕ, Bool, false, List, [], ◌∷◌, Option, Some, None, codes}
use Rattle.binding_terms.specs.Tree.{Tree}
use Rattle.scheme_terms.specs.SchemeTree as schemes
use Rattle.scheme_terms.specs.SchemeTree.{SchemeTree, no_parts}
use Rattle.scheme_terms.specs.Forms.{Names, Instance, Substitution}
use Rattle.scheme_terms.specs.declared.scheme.MetaDecl.{MetaDecl}
use Rattle.scheme_terms.specs.declared.scheme.Root.TheVariants.{Closed}
use Rattle.rule_schemes.specs.Rules.{JudgmentScheme}
use Rattle.rule_schemes.specs.Derivation.{Derivation, node, no_more, subtree}
use Rattle.rule_schemes.specs.Statement.{Theorem, given, syntax_input}
use Rattle.rule_schemes.specs.Sums.{name, name_of, sum_scheme, successor_scheme, closed_value, z, s, sum, one_sum}
use Rattle.case_split.specs.declared.choice.Place.TheVariants.{Plain}
use Rattle.proof_trees.specs.Steps.{step_subject, Simple, by_rule, SplitHead, CaseHead}
use Rattle.proof_trees.specs.Tree.{Item, single, block, no_items, item, Cases, no_cases, one_case, Proof}
use Rattle.induction_order.specs.declared.relation.Rel.TheVariants.{Less, Unknown}
use Rattle.proof_trees.specs.Steps.{begin_theorem, end_theorem, simple, begin_split, begin_case, end_case, end_split, step_argument}
use Rattle.proof_trees.specs.Tree.{flattened_item, flattened_from}
use Rattle.proof_trees.specs.Here.{Here, held_at, after_item, around_cases, after_case, entering, refined_goal, beginning}
use Rattle.proof_trees.specs.Goals.{HasGoal}
use Rattle.proof_trees.specs.Right.{IsOrdered, AreRightProofs}
use Rattle.proof_trees.specs.Standings.{outside, Leads}
use Rattle.proof_trees.specs.Value.{HasValue}
use Rattle.rule_schemes.specs.Statement.{derived}
use Rattle.rule_schemes.specs.Sums.{sums, zero_sum}

-- no category of numbers has a variable
abbrev pub never : ℕ → ℕ → Bool
never c v = false

abbrev pub zero_scheme : SchemeTree
zero_scheme = schemes.con 0 no_parts

abbrev pub scope_of_names : List MetaDecl → Names
scope_of_names decls = record { root = Closed; metas = decls; knowns = [] }

abbrev pub n1 : MetaDecl
n1 = name_of (codes "n1")

abbrev pub n2 : MetaDecl
n2 = name_of (codes "n2")

abbrev pub n3 : MetaDecl
n3 = name_of (codes "n3")

abbrev pub three_names : Names
three_names = scope_of_names (n1 ∷ (n2 ∷ (n3 ∷ [])))

-- n1 + n2 = n3, s n1 + n2 = s n3 and s s n1 + n2 = s s n3
abbrev pub given_form : JudgmentScheme
given_form = sum_scheme (name 0) (name 1) (name 2)

abbrev pub once : JudgmentScheme
once = sum_scheme (successor_scheme (name 0)) (name 1) (successor_scheme (name 2))

abbrev pub twice : JudgmentScheme
twice = sum_scheme (successor_scheme (successor_scheme (name 0))) (name 1) (successor_scheme (successor_scheme (name 2)))

-- a statement of one derivation of n1 + n2 = n3 with this conclusion
abbrev pub about_a_sum : List ℕ → (targets : List ℕ) → (group : ℕ) → JudgmentScheme → Theorem
about_a_sum w targets group output =
    record { name = w; scope = three_names; inputs = given given_form ∷ []; outputs = output ∷ []; targets = targets; group = group }

-- theorem two: forall d: n1 + n2 = n3 exists s s n1 + n2 = s s n3, by two steps
abbrev pub two : Theorem
two = about_a_sum (codes "two") [] 0 twice

abbrev pub step_once : Simple
step_once = by_rule 11 once 1 (0 ∷ [])

abbrev pub step_twice : Simple
step_twice = by_rule 12 twice 1 (1 ∷ [])

abbrev pub proof_of_two : Proof
proof_of_two = record { body = item (single step_once) (item (single step_twice) no_items); end = 12 }

-- two members of one group, each of which calls the other on its own input
abbrev pub p : Theorem
p = about_a_sum (codes "p") (0 ∷ []) 0 given_form

abbrev pub q : Theorem
q = about_a_sum (codes "q") (0 ∷ []) 0 given_form

abbrev pub in_p : Here
in_p = beginning p three_names []

-- a block b with two cases, each of which names a step q
abbrev pub head_z : CaseHead
head_z =
    record {
      line = 12;
      number = 0;
      place = Plain;
      scope = scope_of_names (n2 ∷ []);
      premises = [];
      conclusion = Some (sum_scheme zero_scheme (name 0) (name 0));
      term = None;
    }

abbrev pub n1' : MetaDecl
n1' = name_of (codes "n1'")

abbrev pub n3' : MetaDecl
n3' = name_of (codes "n3'")

-- n2, n1' and n3' in the second case
abbrev pub head_s : CaseHead
head_s =
    record {
      line = 16;
      number = 1;
      place = Plain;
      scope = scope_of_names (n2 ∷ (n1' ∷ (n3' ∷ [])));
      premises = sum_scheme (name 1) (name 0) (name 2) ∷ [];
      conclusion = Some (sum_scheme (successor_scheme (name 1)) (name 0) (successor_scheme (name 2)));
      term = None;
    }

abbrev pub split_b : SplitHead
split_b = record { line = 11; forms = given_form ∷ []; subject = step_subject 0; named = (0, Plain) ∷ ((1, Plain) ∷ []) }

abbrev pub q_in_z : Simple
q_in_z = by_rule 14 (sum_scheme zero_scheme (name 0) (name 0)) 0 []

abbrev pub q_in_s : Simple
q_in_s = by_rule 19 (sum_scheme (successor_scheme (name 1)) (name 0) (successor_scheme (name 2))) 1 (2 ∷ [])

abbrev pub cases_b : Cases
cases_b = one_case head_z (item (single q_in_z) no_items) 14 (one_case head_s (item (single q_in_s) no_items) 19 no_cases)

abbrev pub block_b : Item
block_b = block split_b cases_b 20

-- what an outer name stands for in each of the cases
abbrev pub refine_z : Substitution
refine_z = record { metas = zero_scheme ∷ (name 0 ∷ (name 0 ∷ [])); knowns = []; into = head_z.scope }

abbrev pub refine_s : Substitution
refine_s = record { metas = successor_scheme (name 1) ∷ (name 0 ∷ (successor_scheme (name 2) ∷ [])); knowns = []; into = head_s.scope }

-- lemma total: forall n1 forall n2 exists n1 + n2 = n3
abbrev pub total : Theorem
total =
    record {
      name = codes "total";
      scope = three_names;
      inputs = syntax_input 0 ∷ (syntax_input 1 ∷ []);
      outputs = given_form ∷ [];
      targets = 0 ∷ [];
      group = 0;
    }

abbrev pub in_total : Here
in_total = beginning total (scope_of_names (n1 ∷ (n2 ∷ []))) (n3 ∷ [])

-- case z: n2 alone is in scope; case s n: n2 and n
abbrev pub refine_total_z : Substitution
refine_total_z = record { metas = zero_scheme ∷ (name 0 ∷ []); knowns = []; into = scope_of_names (n2 ∷ []) }

abbrev pub refine_total_s : Substitution
refine_total_s = record { metas = successor_scheme (name 1) ∷ (name 0 ∷ []); knowns = []; into = scope_of_names (n2 ∷ (name_of (codes "n") ∷ [])) }

abbrev pub term_head_z : CaseHead
term_head_z = record { line = 12; number = 0; place = Plain; scope = refine_total_z.into; premises = []; conclusion = None; term = Some zero_scheme }

abbrev pub term_head_s : CaseHead
term_head_s = record { line = 15; number = 1; place = Plain; scope = refine_total_s.into; premises = []; conclusion = None; term = Some (successor_scheme (name 1)) }

-- instances that give names these terms
abbrev pub giving : List (Option Tree) → Instance
giving ts = record { metas = ts; knowns = []; root = closed_value }

-- s s z + z = s s z, from z + z = z in two steps
abbrev pub two_sum : Derivation
two_sum = node 1 (sum (s (s z)) z (s (s z))) (subtree one_sum no_more)

-- a whole proof is its steps in order,
abbrev pub TwoIsItsSteps : Type 0
TwoIsItsSteps =
    flattened_from 0 (proof_of_two ∷ []) ≡ begin_theorem 0 ∷ (simple step_once ∷ (simple step_twice ∷ (end_theorem 12 ∷ [])))

-- and so is a block with its cases
abbrev pub BlockIsItsSteps : Type 0
BlockIsItsSteps =
    flattened_item block_b
    ≡ begin_split split_b ∷ (begin_case head_z ∷ (simple q_in_z ∷ (end_case 14 ∷ (begin_case head_s ∷ (simple q_in_s ∷ (end_case 19 ∷ (end_split 20 ∷ [])))))))

-- The input has the number 0 and the block b the number 1, which comes before those of its cases; within them b is out of scope. The second case
-- does not see the first one's step, 2; its premise has the number 3.
abbrev pub HasNumbersWithin : Type 0
HasNumbersWithin =
    (held_at (entering (around_cases in_p split_b) (step_subject 0) head_z refine_z) 1 ≡ None)
    × (held_at (entering (after_case (around_cases in_p split_b) 1) (step_subject 0) head_s refine_s) 2 ≡ None)
    × (held_at (entering (after_case (around_cases in_p split_b) 1) (step_subject 0) head_s refine_s) 3
    ≡ Some (record { judgment = sum_scheme (name 1) (name 0) (name 2); relations = Less ∷ [] }))

-- After the block b is in scope, and neither its cases' steps q, 2 and 4, nor their premises are.
abbrev pub HasNumbersAfter : Type 0
HasNumbersAfter =
    (held_at (after_item in_p block_b) 1 ≡ Some (record { judgment = given_form; relations = Unknown ∷ [] }))
    × (held_at (after_item in_p block_b) 2 ≡ None) × (held_at (after_item in_p block_b) 3 ≡ None) × (held_at (after_item in_p block_b) 4 ≡ None)

-- In case z of an induction on n1, where n1 stands for z, z + n2 = n2 has the goal n1 + n2 = n3, whose name n3 is its own; z + z = z does not.
abbrev pub HasGoalInCase : Type 0
HasGoalInCase =
    HasGoal sums (scope_of_names (n2 ∷ [])) (refined_goal refine_total_z in_total.goal) (sum_scheme zero_scheme (name 0) (name 0) ∷ [])

abbrev pub LacksGoalInCase : Type 0
LacksGoalInCase =
    HasGoal sums (scope_of_names (n2 ∷ [])) (refined_goal refine_total_z in_total.goal) (sum_scheme zero_scheme zero_scheme zero_scheme ∷ []) → ⊥

-- two theorems of a group call each other on their own input: the later may call the earlier, the earlier may not call the later
abbrev pub LaterCallsEarlier : Type 0
LaterCallsEarlier = IsOrdered (p ∷ (q ∷ [])) in_p 1 0 (step_argument 0 ∷ [])

abbrev pub EarlierCallsLater : Type 0
EarlierCallsLater = IsOrdered (p ∷ (q ∷ [])) in_p 0 1 (step_argument 0 ∷ [])

-- the proof of two steps is right, its steps lead from no theorem to one, and its value on z + z = z is s s z + z = s s z over s z + z = s z
abbrev pub TwoIsRight : Type 0
TwoIsRight = AreRightProofs sums (two ∷ []) 0 (proof_of_two ∷ [])

abbrev pub TwoLeads : Type 0
TwoLeads = Leads sums (two ∷ []) (outside 0) (flattened_from 0 (proof_of_two ∷ [])) (outside 1)

abbrev pub TwoHasValue : Type 0
TwoHasValue = HasValue sums (two ∷ []) (proof_of_two ∷ []) 0 closed_value (derived zero_sum ∷ []) (two_sum ∷ [])
