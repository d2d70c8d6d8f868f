use Rattle.std.proofs.Common.{[], sym, subst}
use Rattle.scheme_terms.specs.View.{scheme_parts}
use Rattle.rule_schemes.specs.Reading.{known_words}
use Rattle.rule_schemes.specs.Said.{IsBefore, AreBefore}
use Rattle.term_reader.specs.Firsts.{listed, AreFirst}
use Rattle.term_reader.specs.Splitting.{tokens_of, ReadsPieces}
use Rattle.term_reader.proofs.SplitLemmas.{if_ok}
use Rattle.notation_parser.specs.Shapes.{new_entry, entry_shape, ReadsInShape}
use Rattle.notation_parser.specs.View.{reading_scope}
use Rattle.notation_parser.proofs.ContextFirsts.{first_new}
use Rattle.notation_parser.proofs.contexts.new_contexts.Goals as goal

pub returns : goal.returns
returns c =
    let sheet = c.args.sheet.now in
    let scope = reading_scope c.args.scope.now in
    let ts = tokens_of sheet in
    let entry = entry_shape c.args.entry.now in
    let slots : AreFirst AreBefore (ReadsPieces sheet.sig.now sheet.metas.now ts (known_words sheet.sig.now 0 scope.names.knowns) [] entry.slots) (listed scheme_parts c.in_ok-slots.slots) =
    rw (c.as_slice-2.ensures, c.in_ok-vars.ensures, c.as_slice-3.ensures, c.as_slice.ensures) at c.in_ok-slots.ensures in
    if_ok c.with_knowns.result _ _
    (λ found e. subst (AreFirst IsBefore (ReadsInShape sheet.sig.now scope sheet.metas.now ts c.args.cat (new_entry entry))) (sym e)
    (first_new sheet.sig.now scope sheet.metas.now ts c.args.cat entry (listed scheme_parts c.in_ok-slots.slots) slots)) c.with_knowns.ensures
