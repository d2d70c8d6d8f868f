use Rattle.std.proofs.Common.{take}
use Rattle.outline_reader.specs.Plain.{plain_form}
use Rattle.user_grammar.specs.Fault.{IsPlaceBehind}
use Rattle.user_grammar.specs.Finding.{portions_of}
use Rattle.user_grammar.specs.FindingPlaces.{walk_view}
use Rattle.user_grammar.specs.FindingContexts.{AllPoints, OpensNone}
use Rattle.user_grammar.proofs.fault_context.has_no_brackets.Given as goal

abbrev pub invariant-loop-token : goal.invariant-loop-token
invariant-loop-token l =
    IsPlaceBehind (portions_of l.lists) (plain_form (take l.token-index l.form)) (walk_view l.walk)
    × AllPoints (portions_of l.lists) OpensNone (plain_form l.form) l.token-index
