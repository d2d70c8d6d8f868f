use Rattle.std.proofs.Common.{◌+◌, ◌-◌, ◌*◌, ◌≤◌, map}
use Rattle.term_reader.specs.Splitting.{tokens_of}
use Rattle.notation_parser.specs.Shapes.{context_shape}
use Rattle.notation_parser.specs.ContextCases.{IsEnteredBelow, IsContextBelow, AreListed}
use Rattle.notation_parser.specs.View.{reading_scope}
use Rattle.std.proofs.Common.{drop}
use Rattle.notation_parser.proofs.shaping.+shapes.Given as goal

abbrev pub decreases-entered_at : goal.decreases-entered_at
decreases-entered_at l = 4 * (l.place - l.from) + 4

abbrev pub decreases-entered_by : goal.decreases-entered_by
decreases-entered_by l = 4 * (l.to - l.from) + 1

abbrev pub decreases-shapes_by : goal.decreases-shapes_by
decreases-shapes_by l = 4 * (l.to - l.from) + 2

abbrev pub decreases-shapes : goal.decreases-shapes
decreases-shapes l = 4 * (l.to - l.from) + 3

abbrev pub invariant-entered_by-loop-place : goal.invariant-entered_by-loop-place
invariant-entered_by-loop-place l =
    (l.place ≤ l.to) × AreListed l.sheet (reading_scope l.scope) l.cat
    (IsEnteredBelow l.place l.sheet.sig.now (reading_scope l.scope) l.sheet.metas.now l.cat (tokens_of l.sheet) l.from l.to l.prod.0 (drop 1 l.items))
    (map context_shape l.all)

abbrev pub invariant-shapes-loop-p : goal.invariant-shapes-loop-p
invariant-shapes-loop-p l =
    AreListed l.sheet (reading_scope l.scope) l.cat
    (IsContextBelow l.p l.sheet.sig.now (reading_scope l.scope) l.sheet.metas.now l.cat (tokens_of l.sheet) l.from l.to) (map context_shape l.all)
