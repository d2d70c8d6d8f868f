use Rattle.std.proofs.Common.{sym, true≢false, arith}
use Rattle.std.proofs.lemmas.List.{length-map}
use Rattle.scheme_terms.specs.View.{ground_entry}
use Rattle.rule_schemes.specs.View.{theory, rule, judgment_value}
use Rattle.derivation_check.proofs.LeafLemmas.{place_within}
use Rattle.derivation_check.proofs.leaf.is_leaf.Goals as goal

pub returns-then-place-len : goal.returns-then-place-len
returns-then-place-len c = (
  λ e. absurd (true≢false (sym e)),
  λ a.
      let within = place_within (theory c.args.sys.now) (rule c.args.rule.now) (judgment_value c.args.conclusion.now) c.args.place a in
      let long = length-map c.args.conclusion.now.ctx.entries ground_entry in
      absurd (omega (arith, within, long, c.if-place-len.true, c.len.ensures)),
)
