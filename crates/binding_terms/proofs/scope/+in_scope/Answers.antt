use Rattle.std.proofs.Common.{◌≡◌, nat_eq, sym, ap, ◌∙◌, false, arith}
use Rattle.std.proofs.lemmas.List.{drop_all}
use Rattle.std.proofs.lemmas.Bool.Decides.{nat_tests}
use Rattle.binding_terms.specs.View.{tree}
use Rattle.binding_terms.specs.Signature.{binders}
use Rattle.binding_terms.specs.Frames.{scope_of}
use Rattle.binding_terms.proofs.Frames.{tree-Con, term_other, term_none, parts_end}
use Rattle.binding_terms.proofs.scope.+in_scope.Goals as goal

pub are_parts-returns : goal.are_parts-returns
are_parts-returns t c =
    let last = parts_end c.args.sig.now (scope_of c.args.scope.now) (binders c.args.items.now) c.args.args.now c.loop-item.next c.loop-item.invariant.in_range in
    let rest = rw (drop_all c.loop-item.item-index c.args.items.now c.loop-item-test.false) at c.loop-item.invariant.rest in
    (λ h. rest.1 (last.0 h), λ h. last.1 (rest.0 h))

pub is_term-returns-else-prod-cat : goal.is_term-returns-else-prod-cat
is_term-returns-else-prod-cat t c =
    let no : nat_eq c.in-Some-prod.prod.now.cat.0 c.args.cat.0 ≡ false = grind (arith, nat_tests) in
    term_other _ _ _ _ _ _ _ (ap tree c.in-Con.is ∙ tree-Con _ _) _ (sym c.in-Some-prod.ensures) c.if-prod-cat.false no

pub is_term-returns-in-None-prod : goal.is_term-returns-in-None-prod
is_term-returns-in-None-prod t c = term_none _ _ _ false _ _ _ (ap tree c.in-Con.is ∙ tree-Con _ _) (sym c.in-None-prod.ensures)
