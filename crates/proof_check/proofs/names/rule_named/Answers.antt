use Rattle.std.proofs.Common.{ℕ, List, sym, subst}
use Rattle.proof_check.specs.Cited.{IsNumberOf}
use Rattle.proof_check.specs.Finding.{Finds}
use Rattle.proof_check.proofs.NumberLemmas.{rule_names_same}
use Rattle.proof_check.proofs.names.rule_named.Goals as goal

pub returns : goal.returns
returns c =
    subst (λ (names : List (List ℕ)). Finds (IsNumberOf c.args.name.now names) c.first_named.result) (sym (rule_names_same c.args.sys.now.rules))
    (rw (c.as_slice.ensures.value, c.rules.ensures) at c.first_named.ensures)
