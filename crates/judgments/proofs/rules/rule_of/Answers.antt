use Rattle.std.proofs.Common.{◌≡◌, map, ap, sym, ◌∙◌, true, false}
use Rattle.std.proofs.lemmas.Result.{IfOk-weaker}
use Rattle.scheme_terms.specs.Forms.{Names}
use Rattle.proof_lexer.specs.View.{kind_and_text}
use Rattle.rule_schemes.specs.View.{theory, judgment_scheme}
use Rattle.notation_parser.specs.View.{reading_scope}
use Rattle.judgments.proofs.RuleAnswers.{plain_scope, joined_forms, no_rule, other_block, sorted_plain, found_rule}
use Rattle.judgments.proofs.rules.rule_of.Goals as goal

pub forms_of-requires : goal.forms_of-requires
forms_of-requires c =
    plain_scope (theory c.args.sys.now) _ c.in_ok-metas.metas (reading_scope c.scope_of-scope.result) c.requires (rw c.sig.ensures at c.in_ok-metas.ensures) c.scope_of-scope.ensures.settled

pub returns-then-not-is_of_block : goal.returns-then-not-is_of_block
returns-then-not-is_of_block c =
    let collected = rw (c.sig.ensures, ← joined_forms (λ form. map kind_and_text form.now) c.args.premises.now (map kind_and_text c.args.conclusion.now)) at c.in_ok-metas.ensures in
    let reads = rw (c.in-Some.is, c.scope_of-scope.ensures.scope) at c.in_ok-forms.ensures in
    other_block (theory c.args.sys.now) c.requires _ c.in_ok-metas.metas collected (judgment_scheme c.in-Some.forms.conclusion) reads.1
    (λ same. (let never : false ≡ true = sym c.if-not-is_of_block.true ∙ c.is_of_block.ensures.1 same in cc))

pub rule_over-requires : goal.rule_over-requires
rule_over-requires c =
    let collected = rw (c.sig.ensures, ← joined_forms (λ form. map kind_and_text form.now) c.args.premises.now (map kind_and_text c.args.conclusion.now)) at c.in_ok-metas.ensures in
    let same : c.as_slice.result.now ≡ c.in_ok-metas.metas = c.as_slice.ensures ∙ c.metas_of-metas.ensures ∙ ap (λ (n : Names). n.metas) c.scope_of-scope.ensures.scope in
    sorted_plain (theory c.args.sys.now) c.requires
    (record { block = c.args.block; name = c.args.name.now.text.now; premises = map (λ form. map kind_and_text form.now) c.args.premises.now; conclusion = map kind_and_text c.args.conclusion.now })
    c.in_ok-metas.metas _ _ _ collected (rw same at c.in_ok-sorted-in-Some.ensures.used) (rw same at c.in_ok-sorted-in-Some.ensures.unread)

pub returns-in_ok-sorted-in-Some : goal.returns-in_ok-sorted-in-Some
returns-in_ok-sorted-in-Some c =
    let collected = rw (c.sig.ensures, ← joined_forms (λ form. map kind_and_text form.now) c.args.premises.now (map kind_and_text c.args.conclusion.now)) at c.in_ok-metas.ensures in
    let reads = rw (c.in-Some.is, c.scope_of-scope.ensures.scope) at c.in_ok-forms.ensures in
    let same : c.as_slice.result.now ≡ c.in_ok-metas.metas = c.as_slice.ensures ∙ c.metas_of-metas.ensures ∙ ap (λ (n : Names). n.metas) c.scope_of-scope.ensures.scope in
    IfOk-weaker _ _ _
    (λ found is. found_rule (theory c.args.sys.now) c.requires
    (record { block = c.args.block; name = c.args.name.now.text.now; premises = map (λ form. map kind_and_text form.now) c.args.premises.now; conclusion = map kind_and_text c.args.conclusion.now })
    c.in_ok-metas.metas c.in_ok-sorted-in-Some.sorted.used c.in_ok-sorted-in-Some.sorted.unread (map judgment_scheme c.in-Some.forms.premises) (judgment_scheme c.in-Some.forms.conclusion) collected
    (rw same at c.in_ok-sorted-in-Some.ensures.used) (rw same at c.in_ok-sorted-in-Some.ensures.unread) reads.0 reads.1 (c.is_of_block.ensures.0 c.if-not-is_of_block.false) found is)
    c.rule_over.ensures

pub returns-in-None : goal.returns-in-None
returns-in-None c =
    let collected = rw (c.sig.ensures, ← joined_forms (λ form. map kind_and_text form.now) c.args.premises.now (map kind_and_text c.args.conclusion.now)) at c.in_ok-metas.ensures in
    no_rule (theory c.args.sys.now) c.requires
    (record { block = c.args.block; name = c.args.name.now.text.now; premises = map (λ form. map kind_and_text form.now) c.args.premises.now; conclusion = map kind_and_text c.args.conclusion.now })
    c.in_ok-metas.metas (record { each = collected.each; all = collected.all; differ = collected.differ }) (rw (c.in-None.is, c.scope_of-scope.ensures.scope) at c.in_ok-forms.ensures)
