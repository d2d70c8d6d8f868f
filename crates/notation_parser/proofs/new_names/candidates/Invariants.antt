use Rattle.std.proofs.Common.{take, map}
use Rattle.term_reader.specs.View.{token}
use Rattle.notation_parser.specs.Candidates.{AreCandidatesUpTo}
use Rattle.notation_parser.proofs.new_names.candidates.Given as goal

abbrev pub invariant-loop-t : goal.invariant-loop-t
invariant-loop-t l = AreCandidatesUpTo l.sig l.metas (map token l.tokens) (map token (take l.t-index l.tokens)) l.found
