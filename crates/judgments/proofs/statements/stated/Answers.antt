use Rattle.std.proofs.Common.{◌≡◌, ◌∙◌, sym, length, None}
use Rattle.rule_schemes.specs.View.{theory, statement as plain_statement}
use Rattle.judgments.specs.Texts.{group_of}
use Rattle.judgments.proofs.FileStatements.{targets_none, some_target, no_targets_at_all, none_assumed, same_theorem, alone_stated, alone_none}
use Rattle.judgments.proofs.statements.stated.Goals as goal
use Rattle.binding_terms.proofs.Lists.{none_where_not_some}

pub returns-then-len-ne0 : goal.returns-then-len-ne0
returns-then-len-ne0 c =
    rw c.in-Theorem.is
    (targets_none (theory c.args.sys.now) _ (some_target (λ name. name.now) c.in-Theorem.targets.items _ (λ e. c.if-len-ne0.true (c.len.ensures ∙ c.in-Theorem.targets.ok.0 ∙ e))))

pub returns-in_ok-alone-in-Some : goal.returns-in_ok-alone-in-Some
returns-in_ok-alone-in-Some c =
    let assumed : c.in-Theorem.assumes ≡ None = none_where_not_some c.in-Theorem.assumes (sym c.is_some.ensures ∙ c.if-is_some.false) in
    let empty : length c.in-Theorem.targets.items ≡ 0 = sym c.in-Theorem.targets.ok.0 ∙ sym c.len.ensures ∙ c.if-len-ne0.false in
    rw (c.in-Theorem.is, c.in_ok-alone-in-Some.ensures)
    (alone_stated (theory c.args.sys.now) _ _ (plain_statement c.in-Some.statement)
    (same_theorem (λ form. form.now) (group_of c.args.groups c.in-Theorem.joined) c.in-Theorem.name.now.text.now _ c.in-Theorem.inputs.items c.in-Theorem.outputs.items _
    (none_assumed (λ name. name.now) c.in-Theorem.assumes assumed)
    (no_targets_at_all (λ name. name.now) c.in-Theorem.targets.items _ empty (c.begins_without_target.ensures.0 c.if-not-begins_without_target.false)))
    (rw (c.in-Some.is, c.group_of-group.ensures, c.as_slice.ensures.value, c.as_slice-in-Theorem.ensures.value) at c.in_ok-statement-in-Theorem.ensures))

pub returns-in-None : goal.returns-in-None
returns-in-None c =
    let assumed : c.in-Theorem.assumes ≡ None = none_where_not_some c.in-Theorem.assumes (sym c.is_some.ensures ∙ c.if-is_some.false) in
    let empty : length c.in-Theorem.targets.items ≡ 0 = sym c.in-Theorem.targets.ok.0 ∙ sym c.len.ensures ∙ c.if-len-ne0.false in
    rw c.in-Theorem.is
    (alone_none (theory c.args.sys.now) _ _
    (same_theorem (λ form. form.now) (group_of c.args.groups c.in-Theorem.joined) c.in-Theorem.name.now.text.now _ c.in-Theorem.inputs.items c.in-Theorem.outputs.items _
    (none_assumed (λ name. name.now) c.in-Theorem.assumes assumed)
    (no_targets_at_all (λ name. name.now) c.in-Theorem.targets.items _ empty (c.begins_without_target.ensures.0 c.if-not-begins_without_target.false)))
    (rw (c.in-None.is, c.group_of-group.ensures, c.as_slice.ensures.value, c.as_slice-in-Theorem.ensures.value) at c.in_ok-statement-in-Theorem.ensures))
