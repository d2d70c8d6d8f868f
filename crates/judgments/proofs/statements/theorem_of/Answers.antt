use Rattle.rule_schemes.specs.View.{theory}
use Rattle.judgments.proofs.FileStatements.{terms_none}
use Rattle.judgments.proofs.statements.theorem_of.Goals as goal

pub returns-in-None : goal.returns-in-None
returns-in-None c = terms_none (theory c.args.sys.now) c.requires _ (rw c.in-None.is at c.in_ok-given.ensures)

pub returns-in-Some : goal.returns-in-Some
returns-in-Some c = let same = rw c.in-Some.is at c.in_ok-given.ensures in rw (same, ← c.as_slice.ensures.value) c.statement_of.ensures
