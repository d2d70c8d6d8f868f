use Rattle.std.proofs.Common.{◌≡◌, ◌≤◌, ◌++◌, length, subst, sym, arith, slice_range}
use Rattle.std.proofs.lemmas.List.{length-map}
use Rattle.rule_schemes.specs.Reading.{Variable, known_words}
use Rattle.rule_schemes.specs.Said.{IsBefore}
use Rattle.scheme_terms.specs.View.{scheme}
use Rattle.term_reader.specs.Chart.{MayBeVariable}
use Rattle.term_reader.specs.Firsts.{listed, AreFirst}
use Rattle.term_reader.specs.Ordered.{ReadsTermAt}
use Rattle.term_reader.specs.Splitting.{tokens_of}
use Rattle.term_reader.specs.View.{token}
use Rattle.term_reader.proofs.Ranges.{range_all}
use Rattle.notation_parser.specs.Forms.{IsTermRead}
use Rattle.notation_parser.specs.View.{reading_scope}
use Rattle.notation_parser.proofs.Wanted.{terms_read}
use Rattle.notation_parser.proofs.over.alone.Goals as goal
use Rattle.binding_terms.proofs.Lists.{all_append}

pub terms-requires-clause-vars : goal.terms-requires-clause-vars
terms-requires-clause-vars c =
    let sheet = c.args.sheet.now in
    let scope = reading_scope c.args.scope.now in
    rw (c.as_slice-3.ensures, c.in_ok-vars.ensures, c.as_slice-2.ensures, c.in_ok-own.ensures, c.as_slice.ensures, c.requires.knowns)
    (all_append (λ (v : Variable). MayBeVariable sheet.sig.now sheet.words.now v.cat v.word) scope.vars (known_words sheet.sig.now 0 scope.names.knowns) c.requires.scope.0 c.requires.scope.1)

pub returns : goal.returns
returns c =
    let sheet = c.args.sheet.now in
    let sig = sheet.sig.now in
    let scope = reading_scope c.args.scope.now in
    let ts = tokens_of sheet in
    let past : length ts ≤ length sheet.tokens.now = omega (arith, length-map sheet.tokens.now token) in
    let whole : slice_range ts 0 (length sheet.tokens.now) ≡ ts = range_all ts (length sheet.tokens.now) past in
    subst (AreFirst IsBefore (IsTermRead sig scope sheet.metas.now c.args.cat.0 ts)) (sym c.as_terms.ensures)
    (terms_read sig scope sheet.metas.now c.args.cat.0 ts _
    (subst (λ us. AreFirst IsBefore (ReadsTermAt sig sheet.metas.now (scope.vars ++ known_words sig 0 scope.names.knowns) c.args.cat.0 us) (listed scheme c.in_ok-found.found)) whole
    (rw (c.as_slice-3.ensures, c.in_ok-vars.ensures, c.as_slice-2.ensures, c.in_ok-own.ensures, c.as_slice.ensures, c.requires.knowns) at c.in_ok-found.ensures)))
