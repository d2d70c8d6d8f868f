use Rattle.std.proofs.Common.{◌↔◌, drop}
use Rattle.outline_reader.specs.Plain.{plain_form}
use Rattle.user_grammar.specs.Finding.{BracketsLeft}
use Rattle.user_grammar.specs.declared.fault_form.Expected.TheVariants.{Opening}
use Rattle.user_grammar.proofs.fault_form.are_brackets.Given as goal

abbrev pub invariant-loop-token : goal.invariant-loop-token
invariant-loop-token l = BracketsLeft l.expected (plain_form (drop l.token-index l.rest)) ↔ BracketsLeft Opening (plain_form l.rest)
