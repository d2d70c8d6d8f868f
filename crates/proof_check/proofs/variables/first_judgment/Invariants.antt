use Rattle.std.proofs.Common.{◌↔◌, drop}
use Rattle.sy_base.specs.Tokens.{PlainToken}
use Rattle.proof_check.specs.NotBuilt.{IsFirstJudgment}
use Rattle.proof_check.specs.View.{plain_portions}
use Rattle.proof_check.proofs.variables.first_judgment.Given as goal

abbrev pub invariant-loop-portion : goal.invariant-loop-portion
invariant-loop-portion l =
    (token : PlainToken) → IsFirstJudgment (plain_portions (drop l.portion-index l.portions)) token ↔ IsFirstJudgment (plain_portions l.portions) token
