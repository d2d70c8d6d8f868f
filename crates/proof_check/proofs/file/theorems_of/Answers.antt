use Rattle.std.proofs.lemmas.Result.{IfOk-weaker}
use Rattle.proof_check.proofs.RightFiles.{only_as, statements_there, statements_back, no_statements, not_one}
use Rattle.proof_check.proofs.file.theorems_of.Goals as goal

pub returns-else-not-have_one_conclusion : goal.returns-else-not-have_one_conclusion
returns-else-not-have_one_conclusion c =
    let told = rw c.in-Some.is at c.in_ok-statements.ensures in
    IfOk-weaker _ _ _ (λ found is. only_as _ _ found (statements_there _ _ _ c.requires.bare told.1) (statements_back _ _ _ told.2) is) c.proofs_of.ensures

pub returns-in-None : goal.returns-in-None
returns-in-None c =
    let none = rw c.in-None.is at c.in_ok-statements.ensures in
    no_statements _ _ none

pub returns-then-not-have_one_conclusion : goal.returns-then-not-have_one_conclusion
returns-then-not-have_one_conclusion c =
    let told = rw c.in-Some.is at c.in_ok-statements.ensures in
    not_one _ _ _ told.2 (λ ones. let yes = c.if-not-have_one_conclusion.ensures.1 (rw c.deref.ensures.value ones) in cc)
