use Rattle.std.proofs.Common.{◌≡◌, take, map}
use Rattle.scheme_terms.specs.View.{known_variable}
use Rattle.notation_parser.specs.Renaming.{renamed_known}
use Rattle.notation_parser.specs.Used.{marks_before, moved}
use Rattle.notation_parser.proofs.renumbering.knowns_again.Given as goal

abbrev pub invariant-loop-known : goal.invariant-loop-known
invariant-loop-known l = map known_variable l.all ≡ map (renamed_known (moved l.first_new (marks_before l.marks))) (map known_variable (take l.known-index l.knowns))
