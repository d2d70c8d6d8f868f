use Rattle.std.proofs.Common.{◌≡◌, ◌≤◌, length, subst, sym, ◌∙◌, true≢false, slice_range, arith}
use Rattle.std.proofs.lemmas.List.{length-map}
use Rattle.term_reader.proofs.Ranges.{range_all}
use Rattle.rule_schemes.specs.Said.{IsBefore}
use Rattle.scheme_terms.specs.View.{scheme}
use Rattle.term_reader.specs.Firsts.{listed, AreFirst}
use Rattle.term_reader.specs.Cases.{IsMade}
use Rattle.notation_parser.specs.Forms.{IsFormOf}
use Rattle.term_reader.specs.Splitting.{tokens_of}
use Rattle.term_reader.specs.View.{token, in_scope}
use Rattle.term_reader.proofs.Finding.{AreFirst-same}
use Rattle.term_reader.proofs.SplitLemmas.{if_ok}
use Rattle.term_reader.proofs.TermCases.{made_in_splits}
use Rattle.term_reader.proofs.Usable.{usable_splits}
use Rattle.notation_parser.proofs.judgments.closed.Goals as goal

pub in_splits-requires-clause-usable : goal.in_splits-requires-clause-usable
in_splits-requires-clause-usable c =
    let sheet = c.args.sheet.now in
    let same : length sheet.tokens.now ≤ length sheet.tokens.now = omega arith in
    rw c.as_slice.ensures (usable_splits sheet 0 (length sheet.tokens.now) same c.args.items.now _ c.in_ok-all.ensures)

pub in_splits-requires-clause-in_order : goal.in_splits-requires-clause-in_order
in_splits-requires-clause-in_order c = rw c.as_slice.ensures (c.in_ok-all.ensures).in_order

pub returns-then-not-writes_nothing : goal.returns-then-not-writes_nothing
returns-then-not-writes_nothing c = λ w s h. true≢false (sym (c.writes_nothing.ensures.1 h.0) ∙ c.if-not-writes_nothing.true)

pub returns : goal.returns
returns c =
    let sheet = c.args.sheet.now in
    let vars = in_scope c.args.vars.now in
    let ts = tokens_of sheet in
    let long = length-map sheet.tokens.now token in
    let some : 0 ≤ length sheet.tokens.now = omega arith in
    let within : length sheet.tokens.now ≤ length ts = omega (arith, long) in
    let past : length ts ≤ length sheet.tokens.now = omega (arith, long) in
    let whole : slice_range ts 0 (length sheet.tokens.now) ≡ ts = range_all ts (length sheet.tokens.now) past in
    let nothing = c.writes_nothing.ensures.0 c.if-not-writes_nothing.false in
    if_ok c.in_splits.result _ _ (λ found f. AreFirst-same IsBefore _ (IsFormOf sheet.sig.now sheet.metas.now vars c.args.id.0 c.args.items.now ts) (listed scheme found)
    (λ w s. ((λ m. (nothing, m)), (λ m. m.1)))
    (subst (λ us. AreFirst IsBefore (IsMade sheet.sig.now sheet.metas.now vars c.args.id.0 c.args.id.0 c.args.items.now us) (listed scheme found)) whole
    (AreFirst-same IsBefore _ (IsMade sheet.sig.now sheet.metas.now vars c.args.id.0 c.args.id.0 c.args.items.now (slice_range ts 0 (length sheet.tokens.now))) (listed scheme found)
    (λ w s. made_in_splits sheet vars c.requires.vars 0 (length sheet.tokens.now) some within c.args.id.0 c.args.id c.args.items.now _ w s c.in_ok-all.ensures)
    (f c.args.id.0))))
    (rw c.as_slice.ensures at c.in_splits.ensures)
