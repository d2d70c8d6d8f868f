use Rattle.std.proofs.Common.{◌↔◌, drop}
use Rattle.std.specs.List.{AllByRecursion}
use Rattle.proof_check.specs.File.{IsGrammarPortion}
use Rattle.proof_check.specs.View.{plain_portions}
use Rattle.proof_check.proofs.judge.are_of_grammar.Given as goal

abbrev pub invariant-loop-portion : goal.invariant-loop-portion
invariant-loop-portion l =
    AllByRecursion IsGrammarPortion (plain_portions (drop l.portion-index l.portions)) ↔ AllByRecursion IsGrammarPortion (plain_portions l.portions)
