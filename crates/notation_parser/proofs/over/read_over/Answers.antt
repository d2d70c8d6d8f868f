use Rattle.std.proofs.Common.{◌≡◌, map, ap}
use Rattle.rule_schemes.specs.Said.{want_term, want_judgment, want_context}
use Rattle.term_reader.specs.View.{token}
use Rattle.term_reader.proofs.SplitLemmas.{if_ok}
use Rattle.notation_parser.specs.View.{reading_scope, wanted}
use Rattle.notation_parser.proofs.KnownWords.{scope_words_allowed, known_words_allowed}
use Rattle.notation_parser.proofs.Wanted.{wanted_read}
use Rattle.notation_parser.proofs.over.read_over.Goals as goal

pub alone-requires-clause-scope : goal.alone-requires-clause-scope
alone-requires-clause-scope c =
    let scope = reading_scope c.args.scope.now in
    rw (c.as_slice-words.ensures, c.in_ok-owned.ensures, c.as_slice.ensures, c.as_slice-2.ensures)
    (scope_words_allowed c.args.sig.now c.args.scope.now.vars _, known_words_allowed c.args.sig.now c.args.scope.now.vars scope.names.knowns)

pub forms-requires-clause-scope : goal.forms-requires-clause-scope
forms-requires-clause-scope c =
    let scope = reading_scope c.args.scope.now in
    rw (c.as_slice-words.ensures, c.in_ok-owned.ensures, c.as_slice.ensures, c.as_slice-2.ensures)
    (scope_words_allowed c.args.sig.now c.args.scope.now.vars _, known_words_allowed c.args.sig.now c.args.scope.now.vars scope.names.knowns)

pub forms-requires-clause-fits : goal.forms-requires-clause-fits
forms-requires-clause-fits c = c.prods.ensures.fits

pub contexts-requires-clause-scope : goal.contexts-requires-clause-scope
contexts-requires-clause-scope c =
    let scope = reading_scope c.args.scope.now in
    rw (c.as_slice-words.ensures, c.in_ok-owned.ensures, c.as_slice.ensures, c.as_slice-2.ensures)
    (scope_words_allowed c.args.sig.now c.args.scope.now.vars _, known_words_allowed c.args.sig.now c.args.scope.now.vars scope.names.knowns)

pub returns-in-Term : goal.returns-in-Term
returns-in-Term c =
    let scope = reading_scope c.args.scope.now in
    let ts = map token c.args.tokens.now in
    let want : wanted c.args.want ≡ want_term c.in-Term.cat.0 = ap wanted c.in-Term.is in
    rw want (if_ok c.alone.result _ _ (λ found f. wanted_read c.args.sig.now c.args.judgments.now.items scope c.args.metas.now ts (want_term c.in-Term.cat.0) _ f) c.alone.ensures)

pub returns-in-Judgment : goal.returns-in-Judgment
returns-in-Judgment c =
    let scope = reading_scope c.args.scope.now in
    let ts = map token c.args.tokens.now in
    let want : wanted c.args.want ≡ want_judgment = ap wanted c.in-Judgment.is in
    rw want (if_ok c.forms.result _ _ (λ found f. wanted_read c.args.sig.now c.args.judgments.now.items scope c.args.metas.now ts want_judgment _ f)
    (rw c.as_slice-in-Judgment-2.ensures.value at c.forms.ensures))

pub returns : goal.returns
returns c =
    let scope = reading_scope c.args.scope.now in
    let ts = map token c.args.tokens.now in
    let want : wanted c.args.want ≡ want_context c.in-Context.cat.0 = ap wanted c.in-Context.is in
    rw want (if_ok c.contexts.result _ _ (λ found f. wanted_read c.args.sig.now c.args.judgments.now.items scope c.args.metas.now ts (want_context c.in-Context.cat.0) _ f) c.contexts.ensures)
