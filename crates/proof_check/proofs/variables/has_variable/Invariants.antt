use Rattle.std.proofs.Common.{◌↔◌, drop}
use Rattle.binding_terms.specs.Numbered.{AnyByRecursion}
use Rattle.user_grammar.specs.Fault.{DeclaresVariable}
use Rattle.user_grammar.specs.File.{WrittenCategory, categories}
use Rattle.proof_check.specs.View.{plain_portions}
use Rattle.proof_check.proofs.variables.has_variable.Given as goal

abbrev pub invariant-loop-portion : goal.invariant-loop-portion
invariant-loop-portion l =
    AnyByRecursion (λ (written : WrittenCategory). AnyByRecursion (DeclaresVariable (plain_portions l.portions)) written.forms) (categories (plain_portions (drop l.portion-index l.portions)))
    ↔ AnyByRecursion (λ (written : WrittenCategory). AnyByRecursion (DeclaresVariable (plain_portions l.portions)) written.forms) (categories (plain_portions l.portions))
