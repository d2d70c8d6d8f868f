use Rattle.std.proofs.Common.{◌+◌, drop, ap, ◌∙◌}
use Rattle.std.proofs.lemmas.List.{drop_all}
use Rattle.rule_schemes.specs.Printing.{entries_tokens, entry_tokens, no_labels, with_entry}
use Rattle.derivation_text.specs.Page.{written}
use Rattle.derivation_text.specs.View.{entry_scheme, plain_entries, variables}
use Rattle.derivation_text.proofs.Pages.{written_step, written_whole}
use Rattle.derivation_text.proofs.context.write_entries.Goals as goal
use Rattle.binding_terms.proofs.Lists.{drop_from}

pub loop-entry-preserved : goal.loop-entry-preserved
loop-entry-preserved c =
    let sig = c.args.sig.now in
    let entries = c.args.entries.now in
    let place = c.loop-entry.entry-index in
    ap (λ vs. written c.write_entry.new.page (entries_tokens sig no_labels vs (plain_entries (drop (place + 1) entries))))
    (c.in_ok-scope.ensures ∙ ap (λ vs. with_entry sig (variables vs) c.entry-item.result.prod.0) c.as_slice-in-loop-entry.ensures.value)
    ∙ written_step c.loop-entry.page c.write_entry.new.page _ _ _ _
    (c.in_ok-write_entry.ensures
    ∙ (λ k. written c.loop-entry.page (entry_tokens sig no_labels (variables (c.as_slice.ensures.value k)) (entry_scheme c.entry-item.result))))
    c.loop-entry.invariant
    (ap (λ es. entries_tokens sig no_labels (variables c.loop-entry.scope.items) (plain_entries es))
    (drop_from entries place c.entry-item.result c.loop-entry-test.true c.entry-item.is))

pub returns : goal.returns
returns c =
    written_whole c.loop-entry.page _ _ c.loop-entry.invariant
    (ap (λ es. entries_tokens c.args.sig.now no_labels (variables c.loop-entry.scope.items) (plain_entries es))
    (drop_all c.loop-entry.entry-index c.args.entries.now c.loop-entry-test.false))
