use Rattle.std.proofs.Common.{◌≡◌, ◌+◌, ◌*◌, ◌≤◌, drop, map}
use Rattle.scheme_terms.specs.SchemeTree.{values}
use Rattle.scheme_terms.specs.View.{scheme, scheme_parts}
use Rattle.form_printing.specs.Page.{written}
use Rattle.rule_schemes.specs.Printing.{after_commas}
use Rattle.form_printing.specs.View.{shown, variables, items_tokens, values_tokens}
use Rattle.form_printing.proofs.Sizes.{size, values_size, parts_size}
use Rattle.form_printing.proofs.term.+write_scheme.Given as goal

abbrev pub invariant-write_items-loop-item : goal.invariant-write_items-loop-item
invariant-write_items-loop-item l = record {
  binders : l.next_binder ≤ l.item-index;
  slots : l.next_slot ≤ l.item-index;
  page : written l.page (items_tokens l.sig (shown l.sig l.labels) (variables l.scope) (variables l.binders) (variables (drop l.next_binder l.binders))
      (drop l.item-index l.items) (drop l.next_slot l.args))
      ≡ written l.initial.page (items_tokens l.sig (shown l.sig l.labels) (variables l.scope) (variables l.binders) (variables l.binders) l.items l.args);
}

-- what is left of the arguments is still to be written
abbrev pub invariant-write_further-loop-i : goal.invariant-write_further-loop-i
invariant-write_further-loop-i l =
    written l.page (after_commas (values_tokens l.sig (shown l.sig l.labels) (variables l.scope) (drop l.i l.args)))
    ≡ written l.initial.page (after_commas (values_tokens l.sig (shown l.sig l.labels) (variables l.scope) (drop 1 l.args)))

abbrev pub decreases-write_scheme : goal.decreases-write_scheme
decreases-write_scheme a = 4 * size (scheme a.form.now)

abbrev pub decreases-write_applied : goal.decreases-write_applied
decreases-write_applied a = 4 * values_size (values (map scheme a.args.now)) + 3

abbrev pub decreases-write_bracketed : goal.decreases-write_bracketed
decreases-write_bracketed a = 4 * values_size (values (map scheme a.args.now)) + 2

abbrev pub decreases-write_further : goal.decreases-write_further
decreases-write_further a = 4 * values_size (values (map scheme a.args.now)) + 1

abbrev pub decreases-write_production : goal.decreases-write_production
decreases-write_production a = 4 * parts_size (scheme_parts a.args.now) + 3

abbrev pub decreases-write_items : goal.decreases-write_items
decreases-write_items a = 4 * parts_size (scheme_parts a.args.now) + 2

abbrev pub decreases-write_slot : goal.decreases-write_slot
decreases-write_slot a = 4 * parts_size (scheme_parts a.args.now) + 1
