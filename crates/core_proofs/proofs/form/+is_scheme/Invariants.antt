use Rattle.std.proofs.Common.{◌≡◌, ◌≤◌, ◌↔◌, [], drop, length}
use Rattle.std.specs.List.{AllByRecursion}
use Rattle.binding_terms.specs.Signature.{binders, slots}
use Rattle.scheme_terms.specs.SchemeScope.{AreSchemeParts}
use Rattle.scheme_terms.specs.View.{names, scheme_parts}
use Rattle.core_proofs.proofs.form.+is_scheme.Given as goal

abbrev pub invariant-are_parts-loop-item : goal.invariant-are_parts-loop-item
invariant-are_parts-loop-item l = record {
  in_range : l.next ≤ length l.parts;
  binds : AllByRecursion (λ s. s.binds ≡ []) (slots (drop l.item-index l.items));
  rest : AreSchemeParts l.sig (names l.scope) [] (binders l.items) (slots l.items) (scheme_parts l.parts)
      ↔ AreSchemeParts l.sig (names l.scope) [] (binders l.items) (slots (drop l.item-index l.items)) (scheme_parts (drop l.next l.parts));
}
