use Rattle.std.proofs.Common.{sym, ◌∙◌, true≢false}
use Rattle.scheme_terms.specs.View.{names}
use Rattle.rule_schemes.specs.View.{statement}
use Rattle.core_proofs.proofs.Moving.{one_scope}
use Rattle.proof_check.proofs.scope.scope_of_proof.Goals as goal

pub returns-then-not-branch : goal.returns-then-not-branch
returns-then-not-branch c = λ scope is. true≢false (sym (c.in_ok-has_proof_scope.ensures.1 (scope, is)) ∙ c.if-not-branch.true)

pub proof_scope-requires : goal.proof_scope-requires
proof_scope-requires c = record { last = c.in_ok-has_proof_scope.ensures.0 c.if-not-branch.false }

pub returns : goal.returns
returns c =
    (c.in_ok-proof_scope.ensures, λ other is. one_scope (statement c.args.statement.now) other (names c.in_ok-proof_scope.field-0) is c.in_ok-proof_scope.ensures)
