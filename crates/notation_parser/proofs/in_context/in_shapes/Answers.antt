use Rattle.std.proofs.Common.{map, sym, subst}
use Rattle.std.proofs.lemmas.List.{take_all}
use Rattle.rule_schemes.specs.Said.{IsBefore, AreBefore}
use Rattle.term_reader.specs.Firsts.{listed}
use Rattle.term_reader.specs.Splitting.{slot_range, tokens_of}
use Rattle.notation_parser.specs.Forms.{IsReadInShape, IsReadInShapes}
use Rattle.notation_parser.specs.Fronts.{AreFirstAt, placed}
use Rattle.notation_parser.specs.Shapes.{IsUsable, context_shape}
use Rattle.notation_parser.specs.View.{reading_scope}
use Rattle.notation_parser.proofs.AroundShapes.{all_ranked, no_fronts}
use Rattle.notation_parser.proofs.PlaceOrder.{before_trans}
use Rattle.notation_parser.proofs.SeveralRanked.{ranked_none, ranked_more, ranked_enough}
use Rattle.notation_parser.proofs.in_context.in_shapes.Goals as goal
use Rattle.binding_terms.proofs.Lists.{all_pick}

pub in_one_shape-requires-clause-usable : goal.in_one_shape-requires-clause-usable
in_one_shape-requires-clause-usable c =
    let sheet = c.args.sheet.now in
    subst (λ s. IsUsable sheet (context_shape s)) (sym c.shape-item.is)
    (all_pick context_shape (IsUsable sheet) c.args.all.now c.loop-shape.shape-index c.shape-item.result c.loop-shape-test.true c.requires.usable)

pub loop-shape-init : goal.loop-shape-init
loop-shape-init c =
    let sheet = c.args.sheet.now in
    ranked_none IsBefore (IsReadInShape sheet.sig.now (reading_scope c.args.scope.now) sheet.metas.now (tokens_of sheet) c.args.cat c.args.number c.args.place (map slot_range c.args.slots.now))

pub loop-shape-preserved : goal.loop-shape-preserved
loop-shape-preserved c =
    let sheet = c.args.sheet.now in
    let scope = reading_scope c.args.scope.now in
    let ps = map slot_range c.args.slots.now in
    ranked_more AreBefore IsBefore before_trans context_shape placed (IsReadInShape sheet.sig.now scope sheet.metas.now (tokens_of sheet) c.args.cat c.args.number c.args.place ps) c.args.all.now
    c.loop-shape.shape-index c.shape-item.result _ _ _
    (all_ranked sheet.sig.now scope sheet.metas.now (tokens_of sheet) c.args.cat c.args.number c.args.place ps (map context_shape c.args.all.now) c.requires.sheet.names c.requires.in_order)
    c.loop-shape-test.true c.shape-item.is c.loop-shape.invariant c.in_ok-more.ensures c.merged-found.ensures

pub returns-then-are_full : goal.returns-then-are_full
returns-then-are_full c =
    let sheet = c.args.sheet.now in
    let scope = reading_scope c.args.scope.now in
    let ps = map slot_range c.args.slots.now in
    ranked_enough AreBefore IsBefore before_trans context_shape placed (IsReadInShape sheet.sig.now scope sheet.metas.now (tokens_of sheet) c.args.cat c.args.number c.args.place ps) c.args.all.now
    c.loop-shape.shape-index c.loop-shape.found
    (all_ranked sheet.sig.now scope sheet.metas.now (tokens_of sheet) c.args.cat c.args.number c.args.place ps (map context_shape c.args.all.now) c.requires.sheet.names c.requires.in_order)
    (no_fronts sheet.sig.now scope sheet.metas.now (tokens_of sheet) c.args.cat c.args.number c.args.place ps c.if-place-eq0.true)
    (c.are_full.ensures.0 c.if-are_full.true) c.loop-shape.invariant

pub returns : goal.returns
returns c =
    let sheet = c.args.sheet.now in
    subst (λ xs. AreFirstAt IsBefore (IsReadInShapes sheet.sig.now (reading_scope c.args.scope.now) sheet.metas.now (tokens_of sheet) c.args.cat c.args.number c.args.place (map slot_range c.args.slots.now) (map context_shape xs)) (listed placed c.loop-shape.found))
    (take_all c.loop-shape.shape-index c.args.all.now c.loop-shape-test.false) c.loop-shape.invariant
