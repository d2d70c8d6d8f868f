use Rattle.std.proofs.lemmas.Result.{IfOk-weaker}
use Rattle.judgments.proofs.GoodRules.{plain_theory}
use Rattle.proof_check.proofs.ProvableLemmas.{all_provable, plain_of}
use Rattle.proof_check.proofs.RightFiles.{proved_steps, no_steps, as_kept}
use Rattle.proof_check.proofs.file.proofs_of.Goals as goal

pub steps_of-requires : goal.steps_of-requires
steps_of-requires c = rw c.deref.ensures.value (plain_of _ _ _ c.requires.bare c.requires.statements.each c.requires.bare_statements)

pub prove-requires-clause-plain : goal.prove-requires-clause-plain
prove-requires-clause-plain c = plain_theory _ _ c.requires.theory c.requires.bare

pub prove-requires-clause-provable : goal.prove-requires-clause-provable
prove-requires-clause-provable c = all_provable _ _ _ c.requires.statements.each c.requires.bare_statements c.requires.ones

pub returns-in-Some : goal.returns-in-Some
returns-in-Some c =
    let told = rw (c.in-Some.is, c.deref.ensures.value) at c.in_ok-steps.ensures in
    IfOk-weaker _ _ _
    (λ found is. proved_steps _ _ _ _ c.requires.signature c.requires.theory c.requires.statements told.0 told.1 found (as_kept _ _ _ found is))
    c.prove.ensures

pub returns-in-None : goal.returns-in-None
returns-in-None c =
    let none = rw (c.in-None.is, c.deref.ensures.value) at c.in_ok-steps.ensures in
    no_steps _ _ _ none
