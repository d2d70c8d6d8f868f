use Rattle.std.proofs.Common.{◌<◌, length, map, arith}
use Rattle.std.proofs.lemmas.List.{length-map}
use Rattle.scheme_terms.specs.View.{known_variable}
use Rattle.term_reader.specs.Splitting.{Divided}
use Rattle.term_reader.specs.View.{variable}
use Rattle.term_reader.proofs.Usable.{split_at}
use Rattle.notation_parser.proofs.NewEntries.{new_of_more}
use Rattle.notation_parser.proofs.heads.new_of_each.Goals as goal

pub new_shape-requires : goal.new_shape-requires
new_shape-requires c =
    let here = c.one-item.result in
    let some = split_at (λ (d : Divided). 0 < length d.0) c.args.found.now c.loop-one.one-index here c.loop-one-test.true c.one-item.is c.requires in
    omega (arith, some, length-map here.own variable)

pub loop-one-preserved : goal.loop-one-preserved
loop-one-preserved c =
    rw c.in_ok-push.ensures.ok
    (new_of_more (map known_variable c.args.scope.now.scope.knowns) c.args.prod.0 c.args.found.now c.loop-one.one-index c.one-item.result c.loop-one.all _
    c.loop-one-test.true c.one-item.is c.loop-one.invariant c.in_ok-new_shape.ensures)
