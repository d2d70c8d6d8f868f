use Rattle.std.proofs.Common.{map, sym, ◌∙◌, ap, true≢false}
use Rattle.std.specs.Prelude.{is_some}
use Rattle.std.proofs.lemmas.List.{length-map}
use Rattle.rule_schemes.specs.View.{judgment_scheme}
use Rattle.proof_trees.specs.Right.{IsCited}
use Rattle.proof_kernel.specs.View.{here}
use Rattle.proof_kernel.proofs.Comparing.{zip_counts}
use Rattle.proof_kernel.proofs.again.again_code.Goals as goal

pub returns-then-forms-of-clause-right : goal.returns-then-forms-of-clause-right
returns-then-forms-of-clause-right c = (
  λ e. absurd (true≢false (ap is_some e)),
  λ cited. absurd (c.if-forms-of.true (sym (sym (length-map c.args.of.now (λ id. id.0))
      ∙ zip_counts (IsCited (here c.args.here.now)) (map (λ id. id.0) c.args.of.now) (map judgment_scheme c.args.forms.now) cited
      ∙ length-map c.args.forms.now judgment_scheme))),
)
