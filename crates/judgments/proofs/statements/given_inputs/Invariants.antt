use Rattle.std.proofs.Common.{◌≡◌, ◌++◌, map}
use Rattle.std.specs.Vec.Iter.{into_iter_items}
use Rattle.rule_schemes.specs.Statement.{given}
use Rattle.rule_schemes.specs.View.{judgment_scheme, statement_input}
use Rattle.judgments.proofs.statements.given_inputs.Given as goal

abbrev pub invariant-loop-j : goal.invariant-loop-j
invariant-loop-j l = (l.yielded ++ into_iter_items l.j-iterator ≡ l.fn.judgments.items) × (map statement_input l.all ≡ map given (map judgment_scheme l.yielded))
