use Rattle.std.proofs.Common.{◌≡◌, take, map}
use Rattle.scheme_terms.specs.View.{scheme_entry}
use Rattle.notation_parser.specs.Renaming.{renamed_entry}
use Rattle.notation_parser.specs.Used.{marks_before, moved}
use Rattle.notation_parser.proofs.renumbering.entries_again.Given as goal

abbrev pub invariant-loop-entry : goal.invariant-loop-entry
invariant-loop-entry l = map scheme_entry l.all ≡ map (renamed_entry (moved l.first_new (marks_before l.marks))) (map scheme_entry (take l.entry-index l.entries))
