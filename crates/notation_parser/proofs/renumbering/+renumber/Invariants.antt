use Rattle.std.proofs.Common.{◌≡◌, take, map}
use Rattle.scheme_terms.specs.View.{scheme, scheme_part}
use Rattle.notation_parser.specs.Renaming.{renamed}
use Rattle.notation_parser.specs.Used.{marks_before, moved}
use Rattle.notation_parser.proofs.Again.{renamed_part}
use Rattle.notation_parser.proofs.renumbering.+renumber.Given as goal

abbrev pub invariant-values_again-loop-arg : goal.invariant-values_again-loop-arg
invariant-values_again-loop-arg l = map scheme l.all ≡ map (renamed (moved l.first_new (marks_before l.marks))) (map scheme (take l.arg-index l.args))

abbrev pub invariant-parts_again-loop-part : goal.invariant-parts_again-loop-part
invariant-parts_again-loop-part l = map scheme_part l.all ≡ map (renamed_part l.first_new l.marks) (map scheme_part (take l.part-index l.parts))
