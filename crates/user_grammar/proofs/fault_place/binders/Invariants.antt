use Rattle.std.proofs.Common.{take}
use Rattle.outline_reader.specs.Plain.{plain_form}
use Rattle.user_grammar.specs.Fault.{IsPlaceBehind}
use Rattle.user_grammar.specs.Finding.{portions_of}
use Rattle.user_grammar.specs.Indexed.{names_in}
use Rattle.user_grammar.specs.FindingPlaces.{AreBinders, walk_view}
use Rattle.user_grammar.proofs.fault_place.binders.Given as goal

abbrev pub invariant-loop-token : goal.invariant-loop-token
invariant-loop-token l =
    IsPlaceBehind (portions_of l.names.lists) (plain_form (take l.token-index l.form)) (walk_view l.walk)
    × AreBinders (portions_of l.names.lists) (plain_form (take l.token-index l.form)) (names_in l.all)
