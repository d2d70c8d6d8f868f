use Rattle.std.proofs.Common.{◌≤◌, ◌↔◌, map, drop, length}
use Rattle.binding_terms.specs.Signature.{binders, slots}
use Rattle.scheme_terms.specs.SchemeTree.{values}
use Rattle.scheme_terms.specs.SchemeScope.{AreValues, AreSchemeParts}
use Rattle.scheme_terms.specs.View.{names, scheme, scheme_parts}
use Rattle.form_scopes.specs.Locals.{categories}
use Rattle.form_scopes.proofs.scheme.+is_scheme_under.Given as goal

abbrev pub invariant-are_parts-loop-item : goal.invariant-are_parts-loop-item
invariant-are_parts-loop-item l = record {
  in_range : l.next ≤ length l.parts;
  rest : AreSchemeParts l.sig (names l.scope) (categories l.locals) (binders l.items) (slots l.items) (scheme_parts l.parts)
      ↔ AreSchemeParts l.sig (names l.scope) (categories l.locals) (binders l.items) (slots (drop l.item-index l.items)) (scheme_parts (drop l.next l.parts));
}

abbrev pub invariant-are_values-loop-param : goal.invariant-are_values-loop-param
invariant-are_values-loop-param l = record {
  in_range : l.next ≤ length l.args;
  rest : AreValues l.sig (names l.scope) (categories l.locals) (map (λ p. p.0) l.params) (values (map scheme l.args))
      ↔ AreValues l.sig (names l.scope) (categories l.locals) (map (λ p. p.0) (drop l.param-index l.params)) (values (map scheme (drop l.next l.args)));
}
