use Rattle.std.proofs.Common.{◌≡◌, ◌≤◌, length, map, take, sym, subst, arith, slice_range}
use Rattle.std.proofs.lemmas.List.{take_all, length-map}
use Rattle.std.specs.List.{AllByRecursion}
use Rattle.rule_schemes.specs.Said.{IsBefore}
use Rattle.term_reader.specs.Firsts.{listed, AreFirst}
use Rattle.term_reader.specs.Splitting.{tokens_of}
use Rattle.term_reader.specs.View.{token}
use Rattle.term_reader.proofs.Finding.{AreFirst-same}
use Rattle.term_reader.proofs.Ranges.{range_all}
use Rattle.notation_parser.specs.Forms.{IsContextRead}
use Rattle.notation_parser.specs.Shapes.{AreShapes, IsUsable, context_shape}
use Rattle.notation_parser.specs.View.{outcome, reading_scope}
use Rattle.notation_parser.proofs.ContextForms.{AsContext, contexts_apart, context_as, contexts_read}
use Rattle.notation_parser.proofs.Several.{InOneOf, several_none, several_more, several_enough}
use Rattle.notation_parser.proofs.over.contexts.Goals as goal
use Rattle.binding_terms.proofs.Lists.{all_pick}

pub shapes-requires-clause-range : goal.shapes-requires-clause-range
shapes-requires-clause-range c = (omega arith, omega arith)

pub in_shape-requires-clause-usable : goal.in_shape-requires-clause-usable
in_shape-requires-clause-usable c =
    let sheet = c.args.sheet.now in
    subst (λ s. IsUsable sheet (context_shape s)) (sym c.shape-item.is)
    (all_pick context_shape (IsUsable sheet) c.as_slice-shape-items.result.now c.loop-shape.shape-index c.shape-item.result c.loop-shape-test.true
    (subst (λ xs. AllByRecursion (IsUsable sheet) (map context_shape xs)) (sym c.as_slice-shape-items.ensures) c.in_ok-all.ensures.usable))

pub loop-shape-init : goal.loop-shape-init
loop-shape-init c =
    let sheet = c.args.sheet.now in
    several_none IsBefore (AsContext sheet.sig.now (reading_scope c.args.scope.now) sheet.metas.now (tokens_of sheet) c.args.cat)

pub loop-shape-preserved : goal.loop-shape-preserved
loop-shape-preserved c =
    let sheet = c.args.sheet.now in
    let sig = sheet.sig.now in
    let scope = reading_scope c.args.scope.now in
    let ts = tokens_of sheet in
    let cat = c.args.cat in
    let shapes = subst (λ xs. AreShapes sig scope sheet.metas.now ts cat 0 (length sheet.tokens.now) (map context_shape xs)) (sym c.as_slice-shape-items.ensures) c.in_ok-all.ensures.shapes in
    several_more IsBefore context_shape outcome (AsContext sig scope sheet.metas.now ts cat) c.as_slice-shape-items.result.now
    c.loop-shape.shape-index c.shape-item.result _ _ _ (contexts_apart sig scope sheet.metas.now ts cat _ shapes.in_order)
    c.loop-shape-test.true c.shape-item.is c.loop-shape.invariant
    (subst (AreFirst IsBefore (AsContext sig scope sheet.metas.now ts cat (context_shape c.shape-item.result))) (sym c.as_contexts-more.ensures)
    (context_as sig scope sheet.metas.now ts cat (context_shape c.shape-item.result) _ c.in_ok-in_shape.ensures))
    c.both-found.ensures

pub returns-then-are_two : goal.returns-then-are_two
returns-then-are_two c =
    let sheet = c.args.sheet.now in
    let sig = sheet.sig.now in
    let scope = reading_scope c.args.scope.now in
    let ts = tokens_of sheet in
    let cat = c.args.cat in
    let items = c.as_slice-shape-items.result.now in
    let past : length ts ≤ length sheet.tokens.now = omega (arith, length-map sheet.tokens.now token) in
    let whole : slice_range ts 0 (length sheet.tokens.now) ≡ ts = range_all ts (length sheet.tokens.now) past in
    let shapes = subst (λ xs. AreShapes sig scope sheet.metas.now ts cat 0 (length sheet.tokens.now) (map context_shape xs)) (sym c.as_slice-shape-items.ensures) c.in_ok-all.ensures.shapes in
    subst (λ us. AreFirst IsBefore (IsContextRead sig scope sheet.metas.now cat us) (listed outcome c.loop-shape.found)) whole
    (AreFirst-same IsBefore (InOneOf (AsContext sig scope sheet.metas.now ts cat) (map context_shape items)) (IsContextRead sig scope sheet.metas.now cat (slice_range ts 0 (length sheet.tokens.now)))
    (listed outcome c.loop-shape.found) (λ w x. contexts_read sig scope sheet.metas.now ts cat 0 (length sheet.tokens.now) (map context_shape items) shapes w x)
    (several_enough IsBefore context_shape outcome (AsContext sig scope sheet.metas.now ts cat) items
    c.loop-shape.shape-index c.loop-shape.found (contexts_apart sig scope sheet.metas.now ts cat _ shapes.in_order)
    (c.are_two.ensures.0 c.if-are_two.true) c.loop-shape.invariant))

pub returns : goal.returns
returns c =
    let sheet = c.args.sheet.now in
    let sig = sheet.sig.now in
    let scope = reading_scope c.args.scope.now in
    let ts = tokens_of sheet in
    let cat = c.args.cat in
    let items = c.as_slice-shape-items.result.now in
    let past : length ts ≤ length sheet.tokens.now = omega (arith, length-map sheet.tokens.now token) in
    let whole : slice_range ts 0 (length sheet.tokens.now) ≡ ts = range_all ts (length sheet.tokens.now) past in
    let shapes = subst (λ xs. AreShapes sig scope sheet.metas.now ts cat 0 (length sheet.tokens.now) (map context_shape xs)) (sym c.as_slice-shape-items.ensures) c.in_ok-all.ensures.shapes in
    let all : take c.loop-shape.shape-index items ≡ items = take_all c.loop-shape.shape-index items c.loop-shape-test.false in
    subst (λ us. AreFirst IsBefore (IsContextRead sig scope sheet.metas.now cat us) (listed outcome c.loop-shape.found)) whole
    (AreFirst-same IsBefore (InOneOf (AsContext sig scope sheet.metas.now ts cat) (map context_shape items)) (IsContextRead sig scope sheet.metas.now cat (slice_range ts 0 (length sheet.tokens.now)))
    (listed outcome c.loop-shape.found) (λ w x. contexts_read sig scope sheet.metas.now ts cat 0 (length sheet.tokens.now) (map context_shape items) shapes w x)
    (subst (λ xs. AreFirst IsBefore (InOneOf (AsContext sig scope sheet.metas.now ts cat) (map context_shape xs)) (listed outcome c.loop-shape.found)) all c.loop-shape.invariant))
