use Rattle.std.proofs.Common.{◌≡◌, List, [], Some, None, length, map, drop, refl, sym, ap, subst, ◌∙◌}
use Rattle.std.proofs.lemmas.List.{drop_all, length-map}
use Rattle.rule_schemes.specs.View.{theory, statement}
use Rattle.outline_reader.specs.Plain.{PlainPortion, outlined}
use Rattle.core_proofs.specs.View.{step}
use Rattle.proof_check.specs.Finding.{Finds}
use Rattle.proof_check.specs.Steps.{AreStepsFrom}
use Rattle.proof_check.proofs.FindingLemmas.{finds_all, finds_none}
use Rattle.proof_check.specs.View.{plain_portions}
use Rattle.proof_check.proofs.proofs.steps_of.Goals as goal

pub returns-in-None : goal.returns-in-None
returns-in-None c =
    let th = theory c.args.sys.now in
    let sts = map statement c.args.statements.now in
    let e : plain_portions c.as_slice-portions.result.now ≡ outlined c.args.outline.now = ap plain_portions c.as_slice-portions.ensures.value in
    let f = rw c.in-None.is at c.in_ok-next.ensures in
    subst (λ (ps : List PlainPortion). Finds (AreStepsFrom th sts 0 ps) None) e (finds_none _ _ _ c.loop-at.invariant.begins f)

pub returns-then-theorem-statements : goal.returns-then-theorem-statements
returns-then-theorem-statements c =
    let th = theory c.args.sys.now in
    let sts = map statement c.args.statements.now in
    let e : plain_portions c.as_slice-portions.result.now ≡ outlined c.args.outline.now = ap plain_portions c.as_slice-portions.ensures.value in
    let past : plain_portions (drop c.loop-at.at c.as_slice-portions.result.now) ≡ [] = ap plain_portions (drop_all c.loop-at.at c.as_slice-portions.result.now c.loop-at-test.false) in
    subst (λ (ps : List PlainPortion). Finds (AreStepsFrom th sts 0 ps) None) e
    (finds_none _ _ _ c.loop-at.invariant.begins
    (λ rest h. (let g = subst (λ (ps : List PlainPortion). AreStepsFrom th sts c.loop-at.theorem ps rest) past h in
    c.if-theorem-statements.true (g.0 ∙ length-map c.args.statements.now statement))))

pub returns : goal.returns
returns c =
    let th = theory c.args.sys.now in
    let sts = map statement c.args.statements.now in
    let e : plain_portions c.as_slice-portions.result.now ≡ outlined c.args.outline.now = ap plain_portions c.as_slice-portions.ensures.value in
    let past : plain_portions (drop c.loop-at.at c.as_slice-portions.result.now) ≡ [] = ap plain_portions (drop_all c.loop-at.at c.as_slice-portions.result.now c.loop-at-test.false) in
    let all : c.loop-at.theorem ≡ length sts = c.if-theorem-statements.false ∙ sym (length-map c.args.statements.now statement) in
    subst (λ (ps : List PlainPortion). Finds (AreStepsFrom th sts 0 ps) (Some (map step c.loop-at.steps.items))) e
    (finds_all _ _ _ c.loop-at.invariant.begins
    (subst (λ (ps : List PlainPortion). AreStepsFrom th sts c.loop-at.theorem ps []) (sym past) (all, refl))
    (λ rest h. (subst (λ (ps : List PlainPortion). AreStepsFrom th sts c.loop-at.theorem ps rest) past h).1))
