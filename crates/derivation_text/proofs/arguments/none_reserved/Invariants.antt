use Rattle.std.proofs.Common.{◌↔◌, map, drop}
use Rattle.term_reader.specs.View.{token}
use Rattle.derivation_text.specs.Ending.{NoneReserved}
use Rattle.derivation_text.proofs.arguments.none_reserved.Given as goal

abbrev pub invariant-loop-one : goal.invariant-loop-one
invariant-loop-one l = NoneReserved (map token l.tokens) ↔ NoneReserved (map token (drop l.one-index l.tokens))
