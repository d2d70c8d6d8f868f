use Rattle.std.proofs.Common.{Some, None, ap, sym, ◌∙◌}
use Rattle.std.specs.Option.{option_copied}
use Rattle.scheme_terms.specs.View.{scheme}
use Rattle.scheme_terms.specs.declared.scheme.Scheme.TheVariants.{Meta}
use Rattle.rule_schemes.specs.declared.rule.Input.TheVariants.{Given, Syntax}
use Rattle.proof_kernel.proofs.BeginningValues.{scheme_name, value_by}
use Rattle.proof_kernel.proofs.beginning.value_of.Goals as goal

pub returns-in-Some-Syntax : goal.returns-in-Some-Syntax
returns-in-Some-Syntax c =
    let m = c.in-Some-Syntax.m in
    ap Some (ap (λ xs. scheme (Meta m xs)) c.new.ensures ∙ scheme_name m)
    ∙ sym (value_by c.args.inputs.now c.args.target (Some (Syntax m)) (sym c.at.ensures ∙ ap option_copied c.in-Some-Syntax.is ∙ ap Some c.in-Some-Syntax.field-0-is))

pub returns-in-Some-Given : goal.returns-in-Some-Given
returns-in-Some-Given c =
    let form = c.in-Some-Given.field-0-0 in
    sym (value_by c.args.inputs.now c.args.target (Some (Given form)) (sym c.at.ensures ∙ ap option_copied c.in-Some-Given.is ∙ ap Some c.in-Some-Given.field-0-is))

pub returns-in-None : goal.returns-in-None
returns-in-None c = sym (value_by c.args.inputs.now c.args.target None (sym c.at.ensures ∙ ap option_copied c.in-None.is))
