use Rattle.std.proofs.Common.{◌≡◌, ◌++◌, map, take}
use Rattle.term_reader.specs.Splitting.{split, after}
use Rattle.term_reader.proofs.splitting.add_before.Given as goal

abbrev pub invariant-loop-rest : goal.invariant-loop-rest
invariant-loop-rest l =
    map split l.all ≡ map split l.fn.all ++ map (after (split l.first)) (map split (take l.rest-index l.more))
