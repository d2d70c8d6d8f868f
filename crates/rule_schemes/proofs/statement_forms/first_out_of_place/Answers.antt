use Rattle.std.proofs.Common.{◌<◌, List, length, map, sym, subst}
use Rattle.std.specs.List.{AllByRecursion}
use Rattle.rule_schemes.specs.StatementFault.{given_forms, FormMayStand, IsFirstOutOfPlace}
use Rattle.rule_schemes.specs.View.{judgment_scheme, statement_input, statement, theory}
use Rattle.rule_schemes.specs.declared.rule.Input.{Input}
use Rattle.rule_schemes.specs.declared.rule.JScheme.{JScheme}
use Rattle.rule_schemes.proofs.StatementFaults.{given_in_range, outputs_in_range, first_front, first_behind}
use Rattle.rule_schemes.proofs.statement_forms.first_out_of_place.Goals as goal

pub first_input-requires : goal.first_input-requires
first_input-requires c =
    subst (λ (xs : List Input). AllByRecursion (λ p. p.judgment < length c.args.system.now.judgments) (given_forms (map statement_input xs))) (sym c.as_slice.ensures)
    (given_in_range (theory c.args.system.now) (statement c.args.of.now) (map statement_input c.args.of.now.inputs) c.requires.inputs)

pub returns-in-Some-clause-some : goal.returns-in-Some-clause-some
returns-in-Some-clause-some c =
    let st = statement c.args.of.now in
    first_front (theory c.args.system.now) c.args.of.now.scope.root (given_forms st.inputs) st.outputs c.in-Some.j.0
    (subst (λ (xs : List Input). IsFirstOutOfPlace (theory c.args.system.now) c.args.of.now.scope.root (given_forms (map statement_input xs)) c.in-Some.j.0) c.as_slice.ensures c.in-Some.ensures.some)

pub first_form-requires : goal.first_form-requires
first_form-requires c =
    subst (λ (js : List JScheme). AllByRecursion (λ p. p.judgment < length c.args.system.now.judgments) (map judgment_scheme js)) (sym c.as_slice-2.ensures)
    (outputs_in_range (theory c.args.system.now) (statement c.args.of.now) (map judgment_scheme c.args.of.now.outputs) c.requires.outputs)

pub returns-in-Some-first_form-clause-some : goal.returns-in-Some-first_form-clause-some
returns-in-Some-first_form-clause-some c =
    let st = statement c.args.of.now in
    first_behind (theory c.args.system.now) c.args.of.now.scope.root (given_forms st.inputs) st.outputs c.in-Some-first_form.j.0
    (subst (λ (xs : List Input). AllByRecursion (FormMayStand (theory c.args.system.now) c.args.of.now.scope.root) (given_forms (map statement_input xs))) c.as_slice.ensures c.in_default.ensures.none)
    (subst (λ (js : List JScheme). IsFirstOutOfPlace (theory c.args.system.now) c.args.of.now.scope.root (map judgment_scheme js) c.in-Some-first_form.j.0) c.as_slice-2.ensures c.in-Some-first_form.ensures.some)
