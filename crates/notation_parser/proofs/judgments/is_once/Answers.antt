use Rattle.std.proofs.Common.{◌≡◌, ◌==◌, ap, ◌∙◌, sym, arith}
use Rattle.std.specs.Prelude.{count_by}
use Rattle.std.proofs.lemmas.Bool.{eqb-true, eq-eqb}
use Rattle.std.proofs.lemmas.List.{take_all}
use Rattle.binding_terms.specs.Signature.{slots}
use Rattle.notation_parser.proofs.Counts.{count_more}
use Rattle.notation_parser.proofs.judgments.is_once.Goals as goal

pub loop-item-preserved : goal.loop-item-preserved
loop-item-preserved c =
    let one = c.slots_of-count.ensures.one in
    let few = c.loop-item.invariant.1 in (
      count_more c.args.cat.0 c.args.items.now c.loop-item.item-index c.item-item.result c.loop-item.count c.slots_of-count.result c.loop-item-test.true c.item-item.is c.loop-item.invariant.0
          c.slots_of-count.ensures.count,
      omega (arith, one, few),
    )

pub returns : goal.returns
returns c =
    let all : c.loop-item.count ≡ count_by (λ s. s.cat == c.args.cat.0) (slots c.args.items.now) =
    c.loop-item.invariant.0 ∙ ap (λ xs. count_by (λ s. s.cat == c.args.cat.0) (slots xs)) (take_all c.loop-item.item-index c.args.items.now c.loop-item-test.false) in
    (λ t. sym all ∙ eqb-true c.loop-item.count 1 t, λ h. eq-eqb c.loop-item.count 1 (all ∙ h))
