use Rattle.std.proofs.Common.{◌≤◌, ◌↔◌, drop, length}
use Rattle.binding_terms.specs.Signature.{binders, slots}
use Rattle.binding_terms.specs.Scope.{AreParts}
use Rattle.binding_terms.specs.Frames.{scope_of}
use Rattle.binding_terms.specs.View.{args_tree}
use Rattle.binding_terms.proofs.scope.+in_scope.Given as goal

abbrev pub invariant-are_parts-loop-item : goal.invariant-are_parts-loop-item
invariant-are_parts-loop-item l = record {
  in_range : l.next ≤ length l.args;
  rest : AreParts l.sig (scope_of l.scope) (binders l.items) (slots l.items) (args_tree l.args)
      ↔ AreParts l.sig (scope_of l.scope) (binders l.items) (slots (drop l.item-index l.items)) (args_tree (drop l.next l.args));
}
