use Rattle.std.proofs.Common.{◌↔◌, map, drop, length}
use Rattle.std.specs.List.{AllByRecursion}
use Rattle.outline_reader.specs.Plain.{plain_form}
use Rattle.user_grammar.specs.Finding.{portions_of, written_view}
use Rattle.user_grammar.specs.FindingContexts.{AllPoints, IsInFront, KeepsFront}
use Rattle.user_grammar.proofs.fault_front.keeps_front.Given as goal

abbrev pub invariant-loop-form : goal.invariant-loop-form
invariant-loop-form l =
    AllByRecursion (λ form. AllPoints (portions_of l.lists) (IsInFront (portions_of l.lists) (written_view l.written) (written_view l.other)) form (length form))
    (map plain_form (map (λ form. form.now) (drop l.form-index l.other.forms.now)))
    ↔ KeepsFront (portions_of l.lists) (written_view l.written) (written_view l.other)
