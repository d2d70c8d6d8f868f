use Rattle.std.proofs.Common.{map, take}
use Rattle.proof_lexer.specs.View.{token_view}
use Rattle.outline_reader.specs.Plain.{plain_form}
use Rattle.user_grammar.specs.Fault.{AreVariables}
use Rattle.user_grammar.specs.Finding.{portions_of}
use Rattle.user_grammar.proofs.fault_names.variables.Given as goal

abbrev pub invariant-loop-form : goal.invariant-loop-form
invariant-loop-form l =
    AreVariables (portions_of l.lists) (map plain_form (map (λ form. form.now) (take l.form-index l.forms))) (map (λ name. token_view name.now) l.all.items)
