use Rattle.std.proofs.Common.{◌≡◌, ◌++◌, take}
use Rattle.notation_parser.proofs.reader.put_all.Given as goal

abbrev pub invariant-loop-decl : goal.invariant-loop-decl
invariant-loop-decl l = l.all ≡ l.initial.all ++ take l.decl-index l.more
