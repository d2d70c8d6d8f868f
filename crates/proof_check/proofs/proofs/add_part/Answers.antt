use Rattle.std.proofs.Common.{◌+◌, ℕ, suc, List, [], map, drop, refl, sym, ap, subst, add-one, arith}
use Rattle.std.proofs.lemmas.List.{append-nil}
use Rattle.rule_schemes.specs.View.{theory, statement}
use Rattle.outline_reader.specs.Views.{portion_view}
use Rattle.outline_reader.specs.Plain.{plain_portion, PlainPortion}
use Rattle.core_proofs.specs.View.{step}
use Rattle.proof_check.specs.Steps.{AreStepsFrom}
use Rattle.proof_check.specs.Finding.{Begins, Adds}
use Rattle.proof_check.specs.View.{plain_portions}
use Rattle.proof_check.proofs.ProofLemmas.{seen_at}
use Rattle.proof_check.proofs.FileLemmas.{other_turn}
use Rattle.proof_check.proofs.proofs.add_part.Goals as goal

pub returns-then-holds_no_proof : goal.returns-then-holds_no_proof
returns-then-holds_no_proof c =
    let th = theory c.args.sys.now in
    let sts = map statement c.args.statements.now in
    let p = plain_portion (portion_view c.index-portions-at.result) in
    let rest = plain_portions (drop (c.args.at + 1) c.args.portions.now) in
    let e = seen_at c.args.portions.now c.args.at c.index-portions-at.result p (omega arith) c.index-portions-at.is refl in (
      omega arith,
      omega arith,
      omega arith,
      (
        [],
        sym (append-nil (map step c.args.steps.now.items)),
        subst (λ (ps : List PlainPortion). Begins (AreStepsFrom th sts c.args.theorem ps) (AreStepsFrom th sts c.args.theorem rest) []) (sym e)
            (other_turn th sts c.args.theorem p rest (c.holds_no_proof.ensures.0 c.if-holds_no_proof.true)),
      ),
    )

pub returns-in-Some : goal.returns-in-Some
returns-in-Some c =
    let th = theory c.args.sys.now in
    let sts = map statement c.args.statements.now in
    let old = map step c.args.steps.now.items in
    let new = map step c.add_theorem.new.steps.items in
    let rest = plain_portions (drop c.in-Some.next c.args.portions.now) in
    let e = seen_at c.args.portions.now c.args.at c.index-portions-at.result _ (omega arith) c.index-portions-at.is (ap (λ p. plain_portion (portion_view p)) c.in-Theorem.is) in
    let f = rw (c.in-Some.is, c.as_slice.ensures.value) at c.in_ok-next-in-Theorem.ensures in
    let here = plain_portions (drop c.args.at c.args.portions.now) in
    let added : Adds old new (AreStepsFrom th sts c.args.theorem here) (AreStepsFrom th sts (suc c.args.theorem) rest) =
    subst (λ (ps : List PlainPortion). Adds old new (AreStepsFrom th sts c.args.theorem ps) (AreStepsFrom th sts (suc c.args.theorem) rest)) (sym e) f.2 in (
      omega (arith, f.0),
      f.1,
      omega (arith, f.0),
      subst (λ (n : ℕ). Adds old new (AreStepsFrom th sts c.args.theorem here) (AreStepsFrom th sts n rest)) (sym (add-one c.args.theorem)) added,
    )

pub returns-in-None : goal.returns-in-None
returns-in-None c =
    let th = theory c.args.sys.now in
    let sts = map statement c.args.statements.now in
    let e = seen_at c.args.portions.now c.args.at c.index-portions-at.result _ (omega arith) c.index-portions-at.is (ap (λ p. plain_portion (portion_view p)) c.in-Theorem.is) in
    let f = rw (c.in-None.is, c.as_slice.ensures.value) at c.in_ok-next-in-Theorem.ensures in
    λ all h. f all (subst (λ (ps : List PlainPortion). AreStepsFrom th sts c.args.theorem ps all) e h)
