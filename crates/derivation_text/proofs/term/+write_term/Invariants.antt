use Rattle.std.proofs.Common.{◌≡◌, ◌+◌, ◌*◌, ◌≤◌, drop}
use Rattle.binding_terms.specs.Tree.{nodes, arg_nodes}
use Rattle.binding_terms.specs.View.{tree, args_tree}
use Rattle.derivation_text.specs.Page.{written}
use Rattle.derivation_text.specs.View.{variables, items_tokens}
use Rattle.derivation_text.proofs.term.+write_term.Given as goal

abbrev pub invariant-write_items-loop-item : goal.invariant-write_items-loop-item
invariant-write_items-loop-item l = record {
  binders : l.next_binder ≤ l.item-index;
  slots : l.next_slot ≤ l.item-index;
  page : written l.page (items_tokens l.sig (variables l.scope) (variables l.binders) (variables (drop l.next_binder l.binders))
      (drop l.item-index l.items) (drop l.next_slot l.args))
      ≡ written l.initial.page (items_tokens l.sig (variables l.scope) (variables l.binders) (variables l.binders) l.items l.args);
}

abbrev pub decreases-write_term : goal.decreases-write_term
decreases-write_term a = 4 * nodes (tree a.term.now)

abbrev pub decreases-write_production : goal.decreases-write_production
decreases-write_production a = 4 * arg_nodes (args_tree a.args.now) + 3

abbrev pub decreases-write_items : goal.decreases-write_items
decreases-write_items a = 4 * arg_nodes (args_tree a.args.now) + 2

abbrev pub decreases-write_slot : goal.decreases-write_slot
decreases-write_slot a = 4 * arg_nodes (args_tree a.args.now) + 1
