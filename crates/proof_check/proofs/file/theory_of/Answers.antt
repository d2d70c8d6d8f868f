use Rattle.std.proofs.lemmas.Result.{IfOk-weaker}
use Rattle.proof_check.proofs.RightFiles.{only_as, theory_there, theory_back}
use Rattle.proof_check.proofs.file.theory_of.Goals as goal

pub returns-in-Some : goal.returns-in-Some
returns-in-Some c =
    let told = rw c.in-Some.is at c.in_ok-system.ensures in
    IfOk-weaker _ _ _ (λ found is. only_as _ _ found (theory_there _ _ _ told.0) (theory_back _ _ _ told.3) is) c.theorems_of.ensures

pub returns-in-None : goal.returns-in-None
returns-in-None c =
    let none = rw c.in-None.is at c.in_ok-system.ensures in
    λ th sts steps is. none th is.0 is.1.0.theory is.1.1.theory
