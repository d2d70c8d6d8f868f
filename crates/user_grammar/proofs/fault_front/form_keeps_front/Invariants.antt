use Rattle.std.proofs.Common.{take}
use Rattle.outline_reader.specs.Plain.{plain_form}
use Rattle.user_grammar.specs.Fault.{IsPlaceBehind}
use Rattle.user_grammar.specs.Finding.{portions_of, written_view}
use Rattle.user_grammar.specs.FindingPlaces.{walk_view}
use Rattle.user_grammar.specs.FindingContexts.{AllPoints, IsInFront}
use Rattle.user_grammar.proofs.fault_front.form_keeps_front.Given as goal

abbrev pub invariant-loop-number : goal.invariant-loop-number
invariant-loop-number l =
    IsPlaceBehind (portions_of l.lists) (plain_form (take l.number l.form)) (walk_view l.walk)
    × AllPoints (portions_of l.lists) (IsInFront (portions_of l.lists) (written_view l.written) (written_view l.other)) (plain_form l.form) l.number
