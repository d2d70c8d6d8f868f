use Rattle.std.proofs.Common.{map, sym, ◌∙◌, true≢false}
use Rattle.std.proofs.lemmas.List.{length-map}
use Rattle.rule_schemes.specs.View.{judgment_scheme}
use Rattle.proof_trees.specs.Right.{IsCited}
use Rattle.proof_kernel.specs.View.{here}
use Rattle.proof_kernel.proofs.Comparing.{zip_counts}
use Rattle.proof_kernel.proofs.here.Here.are_cited.Goals as goal

pub returns-then-of-forms : goal.returns-then-of-forms
returns-then-of-forms c = (
  λ e. absurd (true≢false (sym e)),
  λ e. absurd (c.if-of-forms.true (sym (length-map c.args.of.now (λ id. id.0))
      ∙ zip_counts (IsCited (here c.args.self.now)) (map (λ id. id.0) c.args.of.now) (map judgment_scheme c.args.forms.now) e
      ∙ length-map c.args.forms.now judgment_scheme)),
)
