use Rattle.std.proofs.Common.{◌≡◌, ◌≤◌, length, map, take, sym, subst, ◌∙◌, true≢false, arith}
use Rattle.std.proofs.lemmas.List.{take_all, length-map}
use Rattle.rule_schemes.specs.Said.{IsBefore}
use Rattle.term_reader.specs.Firsts.{listed, AreFirst}
use Rattle.term_reader.specs.Splitting.{Divided, split, tokens_of, AreKnown, AreWithin, AreSplits, IsSplit, Stands}
use Rattle.term_reader.specs.View.{token}
use Rattle.term_reader.proofs.Finding.{AreFirst-same}
use Rattle.term_reader.proofs.Usable.{split_at, usable_splits}
use Rattle.notation_parser.specs.Forms.{IsReadInSlots, IsOpenForm}
use Rattle.notation_parser.specs.View.{outcome, reading_scope}
use Rattle.notation_parser.proofs.OpenForms.{splits_apart, form_read, form_binders}
use Rattle.notation_parser.proofs.Several.{InOneOf, several_none, several_more, several_enough}
use Rattle.notation_parser.proofs.judgments.open.Goals as goal

pub in_slots-requires-clause-within : goal.in_slots-requires-clause-within
in_slots-requires-clause-within c =
    let sheet = c.args.sheet.now in
    let same : length sheet.tokens.now ≤ length sheet.tokens.now = omega arith in
    let all = c.as_slice-split-items.result.now in
    let splits = subst (λ xs. AreSplits (Stands sheet) (IsSplit sheet.sig.now (tokens_of sheet) (length sheet.tokens.now) c.args.items.now 0) (map split xs)) (sym c.as_slice-split-items.ensures) c.in_ok-all.ensures in
    let usable = split_at (λ (d : Divided). AreKnown sheet d.0 × AreWithin (length sheet.tokens.now) d.1) all c.loop-split.split-index c.split-item.result c.loop-split-test.true c.split-item.is
    (usable_splits sheet 0 (length sheet.tokens.now) same c.args.items.now (map split all) splits) in
    rw c.as_slice.ensures usable.1

pub loop-split-init : goal.loop-split-init
loop-split-init c =
    let sheet = c.args.sheet.now in
    several_none IsBefore (λ (d : Divided). IsReadInSlots sheet.sig.now (reading_scope c.args.scope.now) sheet.metas.now (tokens_of sheet) c.args.cat c.args.number d.1)

pub loop-split-preserved : goal.loop-split-preserved
loop-split-preserved c =
    let sheet = c.args.sheet.now in
    let scope = reading_scope c.args.scope.now in
    let all = c.as_slice-split-items.result.now in
    let splits = subst (λ xs. AreSplits (Stands sheet) (IsSplit sheet.sig.now (tokens_of sheet) (length sheet.tokens.now) c.args.items.now 0) (map split xs)) (sym c.as_slice-split-items.ensures) c.in_ok-all.ensures in
    several_more IsBefore split outcome (λ (d : Divided). IsReadInSlots sheet.sig.now scope sheet.metas.now (tokens_of sheet) c.args.cat c.args.number d.1) all
    c.loop-split.split-index c.split-item.result _ _ _ (splits_apart sheet scope c.args.cat c.args.number (map split all) splits.in_order)
    c.loop-split-test.true c.split-item.is c.loop-split.invariant (rw c.as_slice.ensures at c.in_ok-more.ensures) c.both-found.ensures

pub returns-then-not-writes_nothing : goal.returns-then-not-writes_nothing
returns-then-not-writes_nothing c = λ w x h. true≢false (sym (c.writes_nothing.ensures.1 (form_binders (h.7).0)) ∙ c.if-not-writes_nothing.true)

pub returns-then-are_two : goal.returns-then-are_two
returns-then-are_two c =
    let sheet = c.args.sheet.now in
    let scope = reading_scope c.args.scope.now in
    let ts = tokens_of sheet in
    let all = c.as_slice-split-items.result.now in
    let within : length sheet.tokens.now ≤ length ts = omega (arith, length-map sheet.tokens.now token) in
    let past : length ts ≤ length sheet.tokens.now = omega (arith, length-map sheet.tokens.now token) in
    let none = c.writes_nothing.ensures.0 c.if-not-writes_nothing.false in
    let splits = subst (λ xs. AreSplits (Stands sheet) (IsSplit sheet.sig.now (tokens_of sheet) (length sheet.tokens.now) c.args.items.now 0) (map split xs)) (sym c.as_slice-split-items.ensures) c.in_ok-all.ensures in
    AreFirst-same IsBefore (InOneOf (λ (d : Divided). IsReadInSlots sheet.sig.now scope sheet.metas.now ts c.args.cat c.args.number d.1) (map split all))
    (IsOpenForm sheet.sig.now scope sheet.metas.now c.args.cat c.args.number c.args.items.now ts) (listed outcome c.loop-split.found)
    (λ w x. form_read sheet scope c.args.cat c.args.number c.args.items.now (map split all) (length sheet.tokens.now) within past c.requires.fits c.requires.scope c.requires.asks none c.requires.one splits w x)
    (several_enough IsBefore split outcome (λ (d : Divided). IsReadInSlots sheet.sig.now scope sheet.metas.now ts c.args.cat c.args.number d.1) all
    c.loop-split.split-index c.loop-split.found (splits_apart sheet scope c.args.cat c.args.number (map split all) splits.in_order)
    (c.are_two.ensures.0 c.if-are_two.true) c.loop-split.invariant)

pub returns : goal.returns
returns c =
    let sheet = c.args.sheet.now in
    let scope = reading_scope c.args.scope.now in
    let ts = tokens_of sheet in
    let all = c.as_slice-split-items.result.now in
    let within : length sheet.tokens.now ≤ length ts = omega (arith, length-map sheet.tokens.now token) in
    let past : length ts ≤ length sheet.tokens.now = omega (arith, length-map sheet.tokens.now token) in
    let none = c.writes_nothing.ensures.0 c.if-not-writes_nothing.false in
    let splits = subst (λ xs. AreSplits (Stands sheet) (IsSplit sheet.sig.now (tokens_of sheet) (length sheet.tokens.now) c.args.items.now 0) (map split xs)) (sym c.as_slice-split-items.ensures) c.in_ok-all.ensures in
    let whole : take c.loop-split.split-index all ≡ all = take_all c.loop-split.split-index all c.loop-split-test.false in
    AreFirst-same IsBefore (InOneOf (λ (d : Divided). IsReadInSlots sheet.sig.now scope sheet.metas.now ts c.args.cat c.args.number d.1) (map split all))
    (IsOpenForm sheet.sig.now scope sheet.metas.now c.args.cat c.args.number c.args.items.now ts) (listed outcome c.loop-split.found)
    (λ w x. form_read sheet scope c.args.cat c.args.number c.args.items.now (map split all) (length sheet.tokens.now) within past c.requires.fits c.requires.scope c.requires.asks none c.requires.one splits w x)
    (subst (λ xs. AreFirst IsBefore (InOneOf (λ (d : Divided). IsReadInSlots sheet.sig.now scope sheet.metas.now ts c.args.cat c.args.number d.1) (map split xs)) (listed outcome c.loop-split.found))
    whole c.loop-split.invariant)
