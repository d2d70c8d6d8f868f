use Rattle.std.proofs.Common.{◌≡◌, ◌↔◌, [], drop}
use Rattle.binding_terms.specs.Signature.{binders}
use Rattle.notation_parser.proofs.judgments.writes_nothing.Given as goal

abbrev pub invariant-loop-item : goal.invariant-loop-item
invariant-loop-item l = (binders (drop l.item-index l.items) ≡ []) ↔ (binders l.items ≡ [])
