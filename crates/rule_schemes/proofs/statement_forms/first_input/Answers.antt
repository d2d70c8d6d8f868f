use Rattle.std.proofs.Common.{◌≡◌, ◌<◌, ◌+◌, ◌∷◌, [], ◌++◌, ◌∙◌, ℕ, List, length, map, drop, ap, sym, subst}
use Rattle.std.specs.List.{AllByRecursion}
use Rattle.std.proofs.lemmas.List.{drop_more}
use Rattle.binding_terms.proofs.Lists.{all_append, all_front, all_right}
use Rattle.rule_schemes.specs.Rules.{JudgmentScheme}
use Rattle.rule_schemes.specs.StatementFault.{given_forms, FormMayStand, IsFirstOutOfPlace}
use Rattle.rule_schemes.specs.View.{statement_input, theory}
use Rattle.rule_schemes.specs.declared.rule.Input.{Input}
use Rattle.rule_schemes.proofs.StatementFaults.{one_given, first_front, first_behind}
use Rattle.rule_schemes.proofs.statement_forms.first_input.Goals as goal

-- the first input of those that are left, before the others
left_parts : (inputs : List Input) (i : ℕ) (x : Input) → drop i inputs ≡ x ∷ drop (i + 1) inputs
    → given_forms (map statement_input (drop i inputs)) ≡ given_forms (statement_input x ∷ []) ++ given_forms (map statement_input (drop (i + 1) inputs))
left_parts inputs i x here = ap (λ xs. given_forms (map statement_input xs)) here ∙ one_given (statement_input x) (map statement_input (drop (i + 1) inputs))

pub out_of_place-requires : goal.out_of_place-requires
out_of_place-requires c =
    let inputs = c.args.inputs.now in
    let i = c.loop-input.input-index in
    let x = c.input-item.result in
    let here : drop i inputs ≡ x ∷ drop (i + 1) inputs = drop_more inputs i x c.loop-input-test.true ∙ ap (λ q. q ∷ drop (i + 1) inputs) (sym c.input-item.is) in
    let Range : JudgmentScheme → Type 0 = λ p. p.judgment < length c.args.system.now.judgments in
    all_front Range (given_forms (statement_input x ∷ [])) (given_forms (map statement_input (drop (i + 1) inputs)))
    (subst (AllByRecursion Range) (left_parts inputs i x here) c.loop-input.invariant.range)

pub loop-input-preserved : goal.loop-input-preserved
loop-input-preserved c =
    let inputs = c.args.inputs.now in
    let i = c.loop-input.input-index in
    let x = c.input-item.result in
    let th = theory c.args.system.now in
    let here : drop i inputs ≡ x ∷ drop (i + 1) inputs = drop_more inputs i x c.loop-input-test.true ∙ ap (λ q. q ∷ drop (i + 1) inputs) (sym c.input-item.is) in
    let one = given_forms (statement_input x ∷ []) in
    let rest = given_forms (map statement_input (drop (i + 1) inputs)) in
    let parts = left_parts inputs i x here in
    let Range : JudgmentScheme → Type 0 = λ p. p.judgment < length c.args.system.now.judgments in
    record {
      first = λ j h. c.loop-input.invariant.first j (subst (λ fs. IsFirstOutOfPlace th c.args.root fs j) (sym parts) (first_behind th c.args.root one rest j c.in_default.ensures.none h));
      all = λ h. c.loop-input.invariant.all (subst (AllByRecursion (FormMayStand th c.args.root)) (sym parts) (all_append (FormMayStand th c.args.root) one rest c.in_default.ensures.none h));
      range = all_right Range one rest (subst (AllByRecursion Range) parts c.loop-input.invariant.range);
    }

pub returns-in-Some-clause-some : goal.returns-in-Some-clause-some
returns-in-Some-clause-some c =
    let inputs = c.args.inputs.now in
    let i = c.loop-input.input-index in
    let x = c.input-item.result in
    let th = theory c.args.system.now in
    let here : drop i inputs ≡ x ∷ drop (i + 1) inputs = drop_more inputs i x c.loop-input-test.true ∙ ap (λ q. q ∷ drop (i + 1) inputs) (sym c.input-item.is) in
    c.loop-input.invariant.first c.in-Some.j.0
    (subst (λ fs. IsFirstOutOfPlace th c.args.root fs c.in-Some.j.0) (sym (left_parts inputs i x here))
    (first_front th c.args.root (given_forms (statement_input x ∷ [])) (given_forms (map statement_input (drop (i + 1) inputs))) c.in-Some.j.0 c.in-Some.ensures.some))
