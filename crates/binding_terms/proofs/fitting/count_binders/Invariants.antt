use Rattle.std.proofs.Common.{◌≡◌, ◌+◌, ◌≤◌, drop, length}
use Rattle.binding_terms.specs.Signature.{binders}
use Rattle.binding_terms.proofs.fitting.count_binders.Given as goal

abbrev pub invariant-loop-item : goal.invariant-loop-item
invariant-loop-item l = record {
  few : l.count ≤ l.item-index;
  counted : l.count + length (binders (drop l.item-index l.items)) ≡ length (binders l.items);
}
