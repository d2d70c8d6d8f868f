use Rattle.std.proofs.Common.{◌≤◌, ◌↔◌, map, drop, length, reverse}
use Rattle.binding_terms.specs.Signature.{slots}
use Rattle.scheme_terms.specs.SchemeScope.{AreSchemes}
use Rattle.scheme_terms.specs.View.{names, scheme}
use Rattle.form_scopes.specs.Kept.{kept_slots}
use Rattle.form_scopes.proofs.arguments.are_arguments.Given as goal

abbrev pub invariant-loop-item : goal.invariant-loop-item
invariant-loop-item l = record {
  in_range : l.next ≤ length l.args;
  rest : AreSchemes l.sig (names l.scope) (reverse (map (λ c. c.0) l.locals)) (kept_slots l.fn.skip (slots l.items)) (map scheme l.args)
      ↔ AreSchemes l.sig (names l.scope) (reverse (map (λ c. c.0) l.locals)) (kept_slots l.left (slots (drop l.item-index l.items))) (map scheme (drop l.next l.args));
}
