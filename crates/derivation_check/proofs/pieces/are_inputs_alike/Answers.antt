use Rattle.std.proofs.Common.{◌∙◌, sym, true≢false}
use Rattle.std.proofs.lemmas.List.{length-map}
use Rattle.scheme_terms.specs.View.{context_value}
use Rattle.rule_schemes.specs.View.{theory, statement_input}
use Rattle.derivation_check.specs.Fitting.{InputAlike}
use Rattle.derivation_check.specs.Pieces.{given_form}
use Rattle.derivation_check.proofs.PieceLists.{zip_long}
use Rattle.derivation_check.proofs.pieces.are_inputs_alike.Goals as goal

pub returns-then-inputs-forms : goal.returns-then-inputs-forms
returns-then-inputs-forms c = (
  λ e. absurd (true≢false (sym e)),
  λ h. absurd (c.if-inputs-forms.true
      (sym (length-map c.args.inputs.now statement_input) ∙ zip_long (InputAlike (theory c.args.sys.now) c.args.metas.now (context_value c.args.ctx.now)) _ _ h ∙ length-map c.args.forms.now given_form)),
)
