use Rattle.std.proofs.Common.{◌↔◌, drop}
use Rattle.outline_reader.specs.Plain.{plain_form}
use Rattle.user_grammar.specs.Fault.{IsEmptyForm}
use Rattle.user_grammar.specs.Finding.{portions_of}
use Rattle.user_grammar.proofs.fault_context.is_empty_form.Given as goal

abbrev pub invariant-loop-token : goal.invariant-loop-token
invariant-loop-token l = IsEmptyForm (portions_of l.names.lists) (plain_form (drop l.token-index l.form)) ↔ IsEmptyForm (portions_of l.names.lists) (plain_form l.form)
