use Rattle.std.proofs.Common.{◌+◌, drop, map, ap, ◌∙◌}
use Rattle.std.proofs.lemmas.List.{drop_all}
use Rattle.rule_schemes.specs.Printing.{entries_tokens, entry_tokens, with_entry}
use Rattle.form_printing.specs.Page.{written}
use Rattle.scheme_terms.specs.View.{scheme_entry}
use Rattle.form_printing.specs.View.{shown, variables}
use Rattle.form_printing.proofs.Pages.{written_step, written_whole}
use Rattle.form_printing.proofs.context.write_entries.Goals as goal
use Rattle.binding_terms.proofs.Lists.{drop_from}

pub loop-entry-preserved : goal.loop-entry-preserved
loop-entry-preserved c =
    let sig = c.args.sig.now in
    let labels = shown sig c.args.labels.now in
    let entries = c.args.entries.now in
    let place = c.loop-entry.entry-index in
    ap (λ vs. written c.write_entry.new.page (entries_tokens sig labels vs (map scheme_entry (drop (place + 1) entries))))
    (c.in_ok-scope.ensures ∙ ap (λ vs. with_entry sig (variables vs) c.entry-item.result.prod.0) c.as_slice-in-loop-entry.ensures.value)
    ∙ written_step c.loop-entry.page c.write_entry.new.page _ _ _ _
    (c.in_ok-write_entry.ensures
    ∙ (λ k. written c.loop-entry.page (entry_tokens sig labels (variables (c.as_slice.ensures.value k)) (scheme_entry c.entry-item.result))))
    c.loop-entry.invariant
    (ap (λ es. entries_tokens sig labels (variables c.loop-entry.scope.items) (map scheme_entry es))
    (drop_from entries place c.entry-item.result c.loop-entry-test.true c.entry-item.is))

pub returns : goal.returns
returns c =
    written_whole c.loop-entry.page _ _ c.loop-entry.invariant
    (ap (λ es. entries_tokens c.args.sig.now (shown c.args.sig.now c.args.labels.now) (variables c.loop-entry.scope.items) (map scheme_entry es))
    (drop_all c.loop-entry.entry-index c.args.entries.now c.loop-entry-test.false))
