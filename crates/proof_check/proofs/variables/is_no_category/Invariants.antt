use Rattle.std.proofs.Common.{◌↔◌, drop}
use Rattle.user_grammar.specs.Fault.{category_texts}
use Rattle.user_grammar.specs.Names.{IsNoSpelling}
use Rattle.proof_check.specs.View.{plain_portions}
use Rattle.proof_check.proofs.variables.is_no_category.Given as goal

abbrev pub invariant-loop-portion : goal.invariant-loop-portion
invariant-loop-portion l =
    IsNoSpelling (category_texts (plain_portions (drop l.portion-index l.portions))) l.word ↔ IsNoSpelling (category_texts (plain_portions l.portions)) l.word
