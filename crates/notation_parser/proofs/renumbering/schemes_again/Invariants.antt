use Rattle.std.proofs.Common.{◌≡◌, take, map}
use Rattle.scheme_terms.specs.View.{scheme}
use Rattle.notation_parser.specs.Renaming.{renamed}
use Rattle.notation_parser.specs.Used.{marks_before, moved}
use Rattle.notation_parser.proofs.renumbering.schemes_again.Given as goal

abbrev pub invariant-loop-one : goal.invariant-loop-one
invariant-loop-one l = map scheme l.all ≡ map (renamed (moved l.first_new (marks_before l.marks))) (map scheme (take l.one-index l.schemes))
