use Rattle.std.proofs.Common.{◌↔◌, map, length}
use Rattle.outline_reader.specs.Plain.{plain_form}
use Rattle.user_grammar.specs.Fault.{IsEmptyForm}
use Rattle.user_grammar.specs.Finding.{portions_of}
use Rattle.user_grammar.specs.FindingContexts.{One}
use Rattle.user_grammar.proofs.fault_context.one_empty.Given as goal

abbrev pub invariant-loop-left : goal.invariant-loop-left
invariant-loop-left l =
    One (IsEmptyForm (portions_of l.names.lists)) (map plain_form (map (λ form. form.now) l.left))
    ↔ One (IsEmptyForm (portions_of l.names.lists)) (map plain_form (map (λ form. form.now) l.forms))

abbrev pub decreases-loop-left : goal.decreases-loop-left
decreases-loop-left l = length l.left
