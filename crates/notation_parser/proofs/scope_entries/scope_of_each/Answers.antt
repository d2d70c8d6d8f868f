use Rattle.std.proofs.Common.{◌<◌, length, map, arith}
use Rattle.std.proofs.lemmas.List.{length-map}
use Rattle.scheme_terms.specs.View.{known_variable}
use Rattle.term_reader.specs.Splitting.{Divided}
use Rattle.term_reader.specs.View.{variable}
use Rattle.term_reader.proofs.Usable.{split_at}
use Rattle.notation_parser.proofs.ScopeEntries.{scope_more}
use Rattle.notation_parser.proofs.scope_entries.scope_of_each.Goals as goal

pub scope_shape-requires : goal.scope_shape-requires
scope_shape-requires c =
    let here = c.one-item.result in
    let some = split_at (λ (d : Divided). 0 < length d.0) c.args.found.now c.loop-one.one-index here c.loop-one-test.true c.one-item.is c.requires in
    omega (arith, some, length-map here.own variable)

pub loop-one-preserved : goal.loop-one-preserved
loop-one-preserved c =
    rw c.in_ok-append.ensures
    (scope_more (map known_variable c.args.knowns.now) c.args.prod.0 c.args.found.now c.loop-one.one-index c.one-item.result c.loop-one.all _
    c.loop-one-test.true c.one-item.is c.loop-one.invariant c.in_ok-scope_shape.ensures)
