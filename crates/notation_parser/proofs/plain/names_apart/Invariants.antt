use Rattle.std.proofs.Common.{◌↔◌, drop}
use Rattle.term_reader.specs.Names.{NamesApart}
use Rattle.notation_parser.proofs.plain.names_apart.Given as goal

abbrev pub invariant-loop-i : goal.invariant-loop-i
invariant-loop-i l = NamesApart (drop l.i l.metas) ↔ NamesApart l.metas
