use Rattle.std.proofs.Common.{◌≡◌, ◌∷◌, [], length, drop, ap, ◌∙◌}
use Rattle.scheme_terms.specs.View.{context_value}
use Rattle.rule_schemes.specs.Printing.{entries_tokens, no_labels, value_variables, with_entries}
use Rattle.derivation_text.specs.Page.{written}
use Rattle.derivation_text.specs.View.{plain_entries, variables}
use Rattle.derivation_text.proofs.Contexts.{entries_after_root}
use Rattle.derivation_text.proofs.Pages.{written_pair}
use Rattle.derivation_text.proofs.context.write_after_root.Goals as goal

pub returns : goal.returns
returns c =
    let sig = c.args.sig.now in
    let root = c.args.root.now in
    let value = c.args.value.now in
    let scope : variables c.in_ok-scope.scope.items ≡ value_variables sig (context_value root) =
    c.in_ok-scope.ensures ∙ ap (λ es. with_entries sig [] (plain_entries es)) c.as_slice.ensures in
    let rest : c.entries_after-rest.result.now ≡ drop (length root.entries) value.entries =
    c.entries_after-rest.ensures ∙ (λ k. drop (c.len.ensures k) (c.as_slice-2.ensures k)) in
    written_pair c.args.page.now c.token.new.self c.write_entries.new.page _ _
    (c.in_ok-token.ensures ∙ ap (λ name. written c.args.page.now (name ∷ [])) c.root_name.ensures)
    (c.in_ok-write_entries.ensures
    ∙ (λ k. written c.token.new.self (entries_tokens sig no_labels (scope k) ((ap plain_entries rest ∙ entries_after_root root value) k))))
