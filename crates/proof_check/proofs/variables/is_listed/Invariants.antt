use Rattle.std.proofs.Common.{◌↔◌, drop}
use Rattle.user_grammar.specs.File.{listed}
use Rattle.user_grammar.specs.Names.{IsAmong}
use Rattle.proof_check.specs.View.{plain_portions}
use Rattle.proof_check.proofs.variables.is_listed.Given as goal

abbrev pub invariant-loop-portion : goal.invariant-loop-portion
invariant-loop-portion l =
    IsAmong (listed (plain_portions (drop l.portion-index l.portions))) l.word ↔ IsAmong (listed (plain_portions l.portions)) l.word
