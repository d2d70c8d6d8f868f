use Rattle.std.proofs.Common.{◌↔◌, drop}
use Rattle.std.specs.List.{AllByRecursion}
use Rattle.rule_schemes.specs.Reading.{IsEnding}
use Rattle.rule_schemes.proofs.spelling.are_endings.Given as goal

abbrev pub invariant-loop-byte : goal.invariant-loop-byte
invariant-loop-byte l = AllByRecursion IsEnding (drop l.byte-index l.bytes) ↔ AllByRecursion IsEnding l.bytes
