use Rattle.std.proofs.Common.{◌≡◌, ◌∷◌, [], ◌++◌, ℕ, ap, ◌∙◌, map, drop}
use Rattle.std.proofs.lemmas.List.{map-append}
use Rattle.scheme_terms.specs.View.{names}
use Rattle.rule_schemes.specs.View.{theory, statement}
use Rattle.outline_reader.specs.Views.{input_view}
use Rattle.outline_reader.specs.Plain.{plain_input}
use Rattle.core_proofs.specs.Step.{begin_theorem}
use Rattle.core_proofs.specs.View.{step}
use Rattle.proof_check.specs.Cited.{given_names}
use Rattle.proof_check.proofs.FindingLemmas.{finds_none}
use Rattle.proof_check.specs.View.{plain_portions}
use Rattle.proof_check.proofs.ProofLemmas.{adds_then}
use Rattle.proof_check.proofs.FileLemmas.{plain_reading, begin_kept, no_statement, no_proof_scope, statement_at, no_statement_at}
use Rattle.proof_check.proofs.proofs.add_theorem.Goals as goal

pub returns-in-None : goal.returns-in-None
returns-in-None c =
    no_statement (map statement c.args.statements.now) c.args.theorem _ (no_statement_at c.args.statements.now c.args.theorem c.at.result c.at.ensures c.in-None.is)

pub returns-in-None-2 : goal.returns-in-None-2
returns-in-None-2 c =
    no_proof_scope (map statement c.args.statements.now) c.args.theorem _ (statement c.in-Some.statement.now)
    (statement_at c.args.statements.now c.args.theorem c.at.result c.in-Some.statement c.at.ensures c.in-Some.is) (rw c.in-None-2.is at c.in_ok-scope.ensures)

pub add_proof-requires-clause-plain : goal.add_proof-requires-clause-plain
add_proof-requires-clause-plain c =
    let f = rw c.in-Some-2.is at c.in_ok-scope.ensures in
    plain_reading (theory c.args.sys.now) (map statement c.args.statements.now) c.args.theorem (statement c.in-Some.statement.now) (names c.in-Some-2.scope) _ c.requires.plain
    (statement_at c.args.statements.now c.args.theorem c.at.result c.in-Some.statement c.at.ensures c.in-Some.is) f.0 c.settled-scope.ensures.reading

pub returns-in-Some-3 : goal.returns-in-Some-3
returns-in-Some-3 c =
    let sts = map statement c.args.statements.now in
    let k = c.args.theorem in
    let turn = begin_kept (theory c.args.sys.now) sts k (given_names (map plain_input (map input_view c.args.inputs.now))) c.in_ok-named.named (plain_portions (drop c.args.from c.args.portions.now))
    (statement c.in-Some.statement.now) (names c.in-Some-2.scope) (names c.settled-scope.result.scope)
    (statement_at c.args.statements.now k c.at.result c.in-Some.statement c.at.ensures c.in-Some.is) (rw c.in-Some-2.is at c.in_ok-scope.ensures) c.settled-scope.ensures.same c.in_ok-named.ensures in
    let pushed : map step c.push.new.self.items ≡ map step c.args.steps.now.items ++ begin_theorem k ∷ [] =
    ap (map step) c.in_ok-push.ensures.items ∙ map-append step c.args.steps.now.items _ ∙ ap (λ (n : ℕ). map step c.args.steps.now.items ++ begin_theorem n ∷ []) c.in_ok-number.ensures in
    let f = rw c.in-Some-3.is at c.in_ok-next.ensures in
    let more = f.2 sts k in
    (f.0, f.1, adds_then _ _ _ _ _ _ _ (begin_theorem k ∷ [], pushed, turn) more.1 more.2)

pub returns : goal.returns
returns c =
    let sts = map statement c.args.statements.now in
    let k = c.args.theorem in
    let turn = begin_kept (theory c.args.sys.now) sts k (given_names (map plain_input (map input_view c.args.inputs.now))) c.in_ok-named.named (plain_portions (drop c.args.from c.args.portions.now))
    (statement c.in-Some.statement.now) (names c.in-Some-2.scope) (names c.settled-scope.result.scope)
    (statement_at c.args.statements.now k c.at.result c.in-Some.statement c.at.ensures c.in-Some.is) (rw c.in-Some-2.is at c.in_ok-scope.ensures) c.settled-scope.ensures.same c.in_ok-named.ensures in
    let f = rw c.in-None-3.is at c.in_ok-next.ensures in
    finds_none _ _ _ turn (f sts k)
