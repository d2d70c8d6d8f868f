use Rattle.std.proofs.Common.{◌≡◌, map, take, ◌∙◌}
use Rattle.std.proofs.lemmas.List.{take_all}
use Rattle.scheme_terms.specs.View.{scheme_part}
use Rattle.term_reader.proofs.PartLemmas.{bare_parts}
use Rattle.term_reader.proofs.reading.bodies.Goals as goal

pub returns : goal.returns
returns c =
    let whole : take c.loop-part.part-index c.args.parts.now ≡ c.args.parts.now = take_all c.loop-part.part-index c.args.parts.now c.loop-part-test.false in
    rw whole at c.loop-part.invariant ∙ bare_parts (map scheme_part c.args.parts.now)
