use Rattle.std.proofs.Common.{◌∙◌, ap, sym, subst, true≢false, slice_get}
use Rattle.binding_terms.proofs.Lists.{all_at}
use Rattle.rule_schemes.specs.Rules.{RuleFits, IsJudgment}
use Rattle.rule_schemes.specs.View.{theory}
use Rattle.derivation_check.proofs.NodeLemmas.{right_judged}
use Rattle.derivation_check.proofs.Walking.{leaf_case, node_case, no_rule}
use Rattle.derivation_check.proofs.check.is_right_node.Goals as goal

pub is_leaf-requires : goal.is_leaf-requires
is_leaf-requires c =
    let th = theory c.args.sys.now in
    record { fits = all_at (RuleFits th) th.rules _ _ c.always_so_far.ensures.rules c.in-Some.ensures; judged = c.in_ok-is_judgment.ensures.0 c.if-not-branch.false }

pub is_node-requires : goal.is_node-requires
is_node-requires c =
    let th = theory c.args.sys.now in
    record { fits = all_at (RuleFits th) th.rules _ _ c.always_so_far.ensures.rules c.in-Some.ensures; judged = c.in_ok-is_judgment.ensures.0 c.if-not-branch.false }

pub returns-then-not-branch : goal.returns-then-not-branch
returns-then-not-branch c = (
  λ h. absurd (true≢false (sym h)),
  λ right. absurd (true≢false (sym (c.in_ok-is_judgment.ensures.1
      (subst (IsJudgment (theory c.args.sys.now)) (sym c.conclusion-carried.ensures) (right_judged (theory c.args.sys.now) c.always_so_far.ensures c.args.tree.now right)))
      ∙ c.if-not-branch.true)),
)

pub returns-in_ok-right-in-Some-place : goal.returns-in_ok-right-in-Some-place
returns-in_ok-right-in-Some-place c =
    leaf_case (theory c.args.sys.now) c.args.tree.now c.in-Some-place.place _ _ _ _ c.conclusion-carried.ensures (sym c.place.ensures ∙ c.in-Some-place.is) c.rule.ensures c.in-Some.ensures
    c.in_ok-right-in-Some-place.ensures

pub returns-in_ok-right-in-None-place : goal.returns-in_ok-right-in-None-place
returns-in_ok-right-in-None-place c =
    node_case (theory c.args.sys.now) c.args.tree.now _ _ _ _ _ c.conclusion-carried.ensures c.subtrees.ensures (sym c.place.ensures ∙ c.in-None-place.is) c.rule.ensures c.in-Some.ensures
    c.in_ok-right-in-None-place.ensures

pub returns-in-None : goal.returns-in-None
returns-in-None c = (
  λ h. absurd (true≢false (sym h)),
  λ right. absurd (no_rule (theory c.args.sys.now) c.args.tree.now (ap (slice_get (theory c.args.sys.now).rules) (sym c.rule.ensures) ∙ c.in-None.ensures) right),
)
