use Rattle.std.proofs.Common.{◌≡◌, ◌==◌, ◌&&◌, take}
use Rattle.std.specs.List.{count_by}
use Rattle.binding_terms.specs.Signature.{is_empty_form}
use Rattle.binding_terms.proofs.fitting.Draft.count_empty_forms.Given as goal

abbrev pub invariant-loop-prod : goal.invariant-loop-prod
invariant-loop-prod l =
    l.count ≡ count_by (λ p. (p.cat.0 == l.number) && is_empty_form p) (take l.prod-index l.self.prods.now)
