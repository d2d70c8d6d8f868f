use Rattle.std.proofs.Common.{◌+◌, arith}
use Rattle.rule_schemes.specs.Said.{IsBefore}
use Rattle.term_reader.specs.Splitting.{tokens_of}
use Rattle.term_reader.proofs.Finding.{AreFirst-same, AreFirst-joined}
use Rattle.notation_parser.specs.Forms.{IsReadAs, IsReadAsAny}
use Rattle.notation_parser.specs.View.{reading_scope}
use Rattle.notation_parser.proofs.Judging.{IsReadBelow, one_judgment_more, all_judgments, judgments_in_order, judgments_enough}
use Rattle.notation_parser.proofs.judgments.forms.Goals as goal

pub loop-k-init : goal.loop-k-init
loop-k-init c = λ w x h. omega (arith, h.1)

pub loop-k-preserved : goal.loop-k-preserved
loop-k-preserved c =
    let sheet = c.args.sheet.now in
    let sig = sheet.sig.now in
    let js = c.args.judgments.now in
    let scope = reading_scope c.args.scope.now in
    let ms = sheet.metas.now in
    let ts = tokens_of sheet in
    let n = c.loop-k.k in
    AreFirst-same IsBefore _ (IsReadBelow sig js scope ms ts (n + 1)) _ (λ w x. one_judgment_more sig js scope ms ts n w x)
    (AreFirst-joined IsBefore (IsReadBelow sig js scope ms ts n) (IsReadAs sig js scope ms n ts) _ _ _
    (λ k l a x f g. judgments_in_order sig js scope ms ts n k l a x f g) c.both-found.ensures c.loop-k.invariant c.in_ok-more.ensures)

pub returns-then-are_two : goal.returns-then-are_two
returns-then-are_two c =
    let sheet = c.args.sheet.now in
    judgments_enough sheet.sig.now c.args.judgments.now (reading_scope c.args.scope.now) sheet.metas.now (tokens_of sheet) c.loop-k.k c.loop-k.found
    (c.are_two.ensures.0 c.if-are_two.true) c.loop-k.invariant

pub returns : goal.returns
returns c =
    let sheet = c.args.sheet.now in
    let sig = sheet.sig.now in
    let js = c.args.judgments.now in
    let scope = reading_scope c.args.scope.now in
    let ts = tokens_of sheet in
    AreFirst-same IsBefore _ (IsReadAsAny sig js scope sheet.metas.now ts) _
    (λ w x. all_judgments sig js scope sheet.metas.now ts c.loop-k.k w x c.loop-k-test.false) c.loop-k.invariant
