use Rattle.std.proofs.Common.{◌∙◌, sym, true≢false}
use Rattle.std.proofs.lemmas.List.{length-map}
use Rattle.rule_schemes.specs.View.{theory, rule, judgment_scheme, judgment_value}
use Rattle.derivation_check.proofs.NodeLemmas.{other_length, carried_judgments}
use Rattle.derivation_check.proofs.node.is_node.Goals as goal

pub returns-then-len-trees : goal.returns-then-len-trees
returns-then-len-trees c = (
  λ h. absurd (true≢false (sym h)),
  λ n. absurd (other_length (theory c.args.sys.now) c.always_so_far.ensures (rule c.args.rule.now) (judgment_value c.args.conclusion.now) c.args.trees.now
      (λ e. c.if-len-trees.true (c.len.ensures ∙ sym (length-map c.args.rule.now.premises judgment_scheme) ∙ e)) n),
)

pub returns-then-not-branch : goal.returns-then-not-branch
returns-then-not-branch c = (
  λ h. absurd (true≢false (sym h)),
  λ n. absurd (true≢false (sym (c.in_ok-carry_judgments.ensures.1
      (carried_judgments (theory c.args.sys.now) c.always_so_far.ensures (rule c.args.rule.now) (judgment_value c.args.conclusion.now) c.args.trees.now c.requires.fits n)) ∙ c.if-not-branch.true)),
)
