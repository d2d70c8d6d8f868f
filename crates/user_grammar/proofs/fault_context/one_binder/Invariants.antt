use Rattle.std.proofs.Common.{◌↔◌, length}
use Rattle.outline_reader.specs.Plain.{plain_form}
use Rattle.user_grammar.specs.Fault.{IsBinderWord}
use Rattle.user_grammar.specs.Finding.{portions_of}
use Rattle.user_grammar.specs.FindingContexts.{One}
use Rattle.user_grammar.proofs.fault_context.one_binder.Given as goal

abbrev pub invariant-loop-left : goal.invariant-loop-left
invariant-loop-left l = One (IsBinderWord (portions_of l.names.lists)) (plain_form l.left) ↔ One (IsBinderWord (portions_of l.names.lists)) (plain_form l.form)

abbrev pub decreases-loop-left : goal.decreases-loop-left
decreases-loop-left l = length l.left
