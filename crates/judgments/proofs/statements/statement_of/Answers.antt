use Rattle.std.proofs.Common.{◌≡◌, map, ap, ◌∙◌}
use Rattle.std.proofs.lemmas.Result.{IfOk-weaker}
use Rattle.scheme_terms.specs.Forms.{Names}
use Rattle.proof_lexer.specs.View.{kind_and_text}
use Rattle.rule_schemes.specs.View.{theory, judgment_scheme}
use Rattle.notation_parser.specs.View.{reading_scope}
use Rattle.judgments.proofs.RuleAnswers.{plain_scope}
use Rattle.judgments.proofs.StatementAnswers.{none_collected, sorted_scope, found_statement}
use Rattle.judgments.proofs.statements.statement_of.Goals as goal

pub parts_of-requires : goal.parts_of-requires
parts_of-requires c =
    plain_scope (theory c.args.sys.now) _ c.in_ok-metas.metas (reading_scope c.scope_of-scope.result) c.requires (rw c.sig-2.ensures at c.in_ok-metas.ensures) c.scope_of-scope.ensures.settled

pub returns-in-None : goal.returns-in-None
returns-in-None c =
    none_collected (λ form. map kind_and_text form.now) (theory c.args.sys.now) c.requires c.args.inputs.now c.args.outputs.now c.args.group c.args.name.now.text.now c.in_ok-metas.metas
    (rw c.sig-2.ensures at c.in_ok-metas.ensures) (rw (c.in-None.is, c.scope_of-scope.ensures.scope) at c.in_ok-parts.ensures)

pub statement_over-requires : goal.statement_over-requires
statement_over-requires c =
    let collected = rw c.sig-2.ensures at c.in_ok-metas.ensures in
    let reads = rw (c.in-Some.is, c.scope_of-scope.ensures.scope) at c.in_ok-parts.ensures in
    let same : c.as_slice.result.now ≡ c.in_ok-metas.metas = c.as_slice.ensures ∙ c.metas_of-metas.ensures ∙ ap (λ (n : Names). n.metas) c.scope_of-scope.ensures.scope in
    sorted_scope (λ form. map kind_and_text form.now) (theory c.args.sys.now) c.requires c.args.inputs.now c.args.outputs.now c.in_ok-metas.metas
    (map judgment_scheme c.in-Some.parts.inputs.items) (map judgment_scheme c.in-Some.parts.outputs) _ _ _ collected reads.0 reads.1
    (rw (same, c.sig-in-Some.ensures) at c.in_ok-sorted-in-Some.ensures.of_inputs) (rw (same, c.sig-in-Some.ensures) at c.in_ok-sorted-in-Some.ensures.further) (rw same at c.in_ok-sorted-in-Some.ensures.unread)

pub returns-in_ok-sorted-in-Some : goal.returns-in_ok-sorted-in-Some
returns-in_ok-sorted-in-Some c =
    let collected = rw c.sig-2.ensures at c.in_ok-metas.ensures in
    let reads = rw (c.in-Some.is, c.scope_of-scope.ensures.scope) at c.in_ok-parts.ensures in
    let fit = (rw c.sig.ensures at c.names_fit.ensures).0 c.if-not-names_fit.false in
    let same : c.as_slice.result.now ≡ c.in_ok-metas.metas = c.as_slice.ensures ∙ c.metas_of-metas.ensures ∙ ap (λ (n : Names). n.metas) c.scope_of-scope.ensures.scope in
    IfOk-weaker _ _ _
    (λ found is. found_statement (λ form. map kind_and_text form.now) (theory c.args.sys.now) c.requires c.args.inputs.now c.args.outputs.now c.in_ok-metas.metas
    (map judgment_scheme c.in-Some.parts.inputs.items) (map judgment_scheme c.in-Some.parts.outputs)
    c.in_ok-sorted-in-Some.sorted.of_inputs c.in_ok-sorted-in-Some.sorted.further c.in_ok-sorted-in-Some.sorted.unread collected reads.0 reads.1
    (rw (same, c.sig-in-Some.ensures) at c.in_ok-sorted-in-Some.ensures.of_inputs) (rw (same, c.sig-in-Some.ensures) at c.in_ok-sorted-in-Some.ensures.further) (rw same at c.in_ok-sorted-in-Some.ensures.unread)
    c.args.group c.args.name.now.text.now fit.0 fit.1 found is)
    c.statement_over.ensures
