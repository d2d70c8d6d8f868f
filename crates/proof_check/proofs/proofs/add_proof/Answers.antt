use Rattle.std.proofs.Common.{◌≡◌, ◌+◌, ℕ, suc, List, [], ◌∷◌, ◌++◌, Some, unwrap_or, map, drop, refl, sym, ap, subst, ◌∙◌, arith}
use Rattle.std.proofs.lemmas.List.{map-append, drop_all}
use Rattle.scheme_terms.specs.View.{names}
use Rattle.rule_schemes.specs.View.{theory, statement}
use Rattle.outline_reader.specs.Views.{portion_view}
use Rattle.outline_reader.specs.Plain.{plain_portion, PlainPortion}
use Rattle.core_proofs.specs.Step.{end_theorem}
use Rattle.core_proofs.specs.View.{step}
use Rattle.proof_check.specs.Steps.{AreStepsFrom, AreProofSteps}
use Rattle.proof_check.specs.Finding.{Begins}
use Rattle.proof_check.specs.View.{plain_portions}
use Rattle.proof_check.proofs.ProofLemmas.{adds_then, adds_none, step_turn, step_stop, end_turn, seen_at}
use Rattle.proof_check.proofs.proofs.add_proof.Goals as goal

pub returns-in-Some : goal.returns-in-Some
returns-in-Some c =
    let th = theory c.args.sys.now in
    let st = statement c.args.statement.now in
    let scope = names c.args.scope.now.scope in
    let p = plain_portion (portion_view c.index-portions-i.result) in
    let rest = plain_portions (drop (c.loop-i.i + 1) c.args.portions.now) in
    let e = seen_at c.args.portions.now c.loop-i.i c.index-portions-i.result p (omega arith) c.index-portions-i.is refl in
    let pushed : map step c.push.new.self.items ≡ map step c.loop-i.steps.items ++ end_theorem (unwrap_or c.loop-i.last c.in-Some.line) ∷ [] =
    ap (map step) c.in_ok-push-in-Some.ensures.items ∙ map-append step c.loop-i.steps.items _ ∙ ap (λ (n : ℕ). map step c.loop-i.steps.items ++ end_theorem n ∷ []) c.unwrap_or.ensures in (
      omega arith,
      omega arith,
      λ sts k. adds_then _ _ _ _ _ (AreProofSteps th sts k st scope c.loop-i.named c.loop-i.last (plain_portions (drop c.loop-i.i c.args.portions.now))) _ (c.loop-i.invariant sts k) pushed
          (subst (λ (ps : List PlainPortion). Begins (AreProofSteps th sts k st scope c.loop-i.named c.loop-i.last ps)
          (AreStepsFrom th sts (suc k) rest) (end_theorem (unwrap_or c.loop-i.last c.in-Some.line) ∷ [])) (sym e)
          (end_turn th sts k st scope c.loop-i.named c.loop-i.last p rest c.in-Some.line c.in-Some.ensures)),
    )

pub returns-in-None-2 : goal.returns-in-None-2
returns-in-None-2 c =
    let th = theory c.args.sys.now in
    let st = statement c.args.statement.now in
    let scope = names c.args.scope.now.scope in
    let p = plain_portion (portion_view c.index-portions-i.result) in
    let made = rw (c.in-None-2.is, c.as_slice.ensures) at c.in_ok-name-in-None.ensures in
    let e = seen_at c.args.portions.now c.loop-i.i c.index-portions-i.result p (omega arith) c.index-portions-i.is refl in
    λ sts k. adds_none _ _ _ _ (c.loop-i.invariant sts k)
    (λ rest h. step_stop th sts k st scope c.loop-i.named c.loop-i.last p _ made c.in-None.ensures rest
    (subst (λ (ps : List PlainPortion). AreProofSteps th sts k st scope c.loop-i.named c.loop-i.last ps rest) e h))

pub loop-i-preserved : goal.loop-i-preserved
loop-i-preserved c =
    let th = theory c.args.sys.now in
    let st = statement c.args.statement.now in
    let scope = names c.args.scope.now.scope in
    let p = plain_portion (portion_view c.index-portions-i.result) in
    let rest = plain_portions (drop (c.loop-i.i + 1) c.args.portions.now) in
    let made = rw (c.in-Some-2.is, c.as_slice.ensures) at c.in_ok-name-in-None.ensures in
    let e = seen_at c.args.portions.now c.loop-i.i c.index-portions-i.result p (omega arith) c.index-portions-i.is refl in
    let pushed : map step c.push-in-Some-2-2.new.self.items ≡ map step c.loop-i.steps.items ++ step c.in-Some-2.field-0.step ∷ [] =
    ap (map step) c.in_ok-push-in-Some-2-2.ensures.items ∙ map-append step c.loop-i.steps.items _ in
    λ sts k. adds_then _ _ _ _ _ (AreProofSteps th sts k st scope c.loop-i.named c.loop-i.last (plain_portions (drop c.loop-i.i c.args.portions.now))) _ (c.loop-i.invariant sts k) pushed
    (subst (λ (ns : List (List ℕ)). Begins (AreProofSteps th sts k st scope c.loop-i.named c.loop-i.last (plain_portions (drop c.loop-i.i c.args.portions.now)))
    (AreProofSteps th sts k st scope ns (Some c.in-Some-2.field-0.line) rest) (step c.in-Some-2.field-0.step ∷ [])) (sym c.in_ok-push-in-Some-2.ensures.ok)
    (subst (λ (ps : List PlainPortion). Begins (AreProofSteps th sts k st scope c.loop-i.named c.loop-i.last ps)
    (AreProofSteps th sts k st scope (c.loop-i.named ++ c.in-Some-2.field-0.name ∷ []) (Some c.in-Some-2.field-0.line) rest) (step c.in-Some-2.field-0.step ∷ [])) (sym e)
    (step_turn th sts k st scope c.loop-i.named c.loop-i.last p rest (record { name = c.in-Some-2.field-0.name; line = c.in-Some-2.field-0.line; step = step c.in-Some-2.field-0.step }) made c.in-None.ensures)))

pub returns : goal.returns
returns c =
    let e : plain_portions (drop c.loop-i.i c.args.portions.now) ≡ [] = ap plain_portions (drop_all c.loop-i.i c.args.portions.now c.loop-i-test.false) in
    λ sts k. adds_none _ _ _ _ (c.loop-i.invariant sts k)
    (λ rest h. subst (λ (ps : List PlainPortion). AreProofSteps (theory c.args.sys.now) sts k (statement c.args.statement.now) (names c.args.scope.now.scope) c.loop-i.named c.loop-i.last ps rest) e h)
