use Rattle.std.proofs.Common.{◌↔◌, ◌∙◌, IsTrue, List, map, take, ap, sym, subst}
use Rattle.binding_terms.proofs.Lists.{take_map}
use Rattle.rule_schemes.specs.View.{theory, statement, statement_input}
use Rattle.rule_schemes.specs.declared.rule.Input.{Input}
use Rattle.scheme_terms.specs.View.{context_value}
use Rattle.derivation_check.specs.Fitting.{MakesInputs}
use Rattle.derivation_check.specs.Pieces.{given_form}
use Rattle.derivation_check.specs.Settling.{AreFormsOf}
use Rattle.derivation_check.proofs.FitLemmas.{forms_of_first}
use Rattle.derivation_check.proofs.giving.fit_so_far.Goals as goal

pub makes_inputs-requires : goal.makes_inputs-requires
makes_inputs-requires c =
    let th = theory c.args.sys.now in
    let st = statement c.args.statement.now in
    subst (λ (xs : List Input). AreFormsOf th st (map statement_input xs)) (sym (c.first_inputs-inputs.ensures ∙ ap (take c.args.count) c.as_slice.ensures))
    (forms_of_first th st c.args.statement.now.inputs c.args.count c.requires.inputs)

pub returns : goal.returns
returns c =
    let inputs = ap (map statement_input) (c.first_inputs-inputs.ensures ∙ ap (take c.args.count) c.as_slice.ensures) ∙ take_map statement_input c.args.count c.args.statement.now.inputs in
    let forms = ap (map given_form) c.first_forms-given.ensures ∙ take_map given_form c.args.count c.args.forms.now in
    subst (λ is. IsTrue c.in_ok-fit.fit ↔ MakesInputs (theory c.args.sys.now) c.args.statement.now.scope.metas (context_value c.args.ctx.now) is (take c.args.count (map given_form c.args.forms.now))) inputs
    (subst (λ xs. IsTrue c.in_ok-fit.fit ↔ MakesInputs (theory c.args.sys.now) c.args.statement.now.scope.metas (context_value c.args.ctx.now) (map statement_input c.first_inputs-inputs.result.now) xs) forms c.in_ok-fit.ensures)
