use Rattle.std.proofs.Common.{take}
use Rattle.outline_reader.specs.Plain.{plain_form}
use Rattle.user_grammar.specs.Fault.{IsPlaceBehind}
use Rattle.user_grammar.specs.Finding.{IsLeast, portions_of}
use Rattle.user_grammar.specs.Indexed.{names_in}
use Rattle.user_grammar.specs.FindingPlaces.{AmongFirst, AreBinders, walk_view}
use Rattle.user_grammar.proofs.fault_tokens.form_fault.Given as goal

abbrev pub invariant-loop-number : goal.invariant-loop-number
invariant-loop-number l =
    IsPlaceBehind (portions_of l.names.lists) (plain_form (take l.number l.form)) (walk_view l.walk)
    × AreBinders (portions_of l.names.lists) (plain_form (take l.number l.form)) (names_in l.seen)
    × IsLeast (AmongFirst (portions_of l.names.lists) (plain_form l.form) l.number) l.found
