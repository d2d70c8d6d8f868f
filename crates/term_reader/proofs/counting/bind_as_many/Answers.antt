use Rattle.std.proofs.Common.{◌≡◌, [], drop}
use Rattle.std.proofs.lemmas.List.{drop_all}
use Rattle.term_reader.proofs.Bound.{all_bound}
use Rattle.term_reader.proofs.counting.bind_as_many.Goals as goal

pub returns : goal.returns
returns c =
    let items = c.args.items.now in
    let none : drop c.loop-item.item-index items ≡ [] = drop_all c.loop-item.item-index items c.loop-item-test.false in
    let whole = rw none at c.loop-item.invariant.0 in
    let end = all_bound c.args.parts.now c.loop-item.at c.loop-item.invariant.1 in
    (λ t. whole.1 (end.0 t), λ b. end.1 (whole.0 b))
