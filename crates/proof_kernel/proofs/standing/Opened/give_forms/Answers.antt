use Rattle.std.proofs.Common.{◌∙◌, arith}
use Rattle.std.proofs.lemmas.Result.{on_ok_weaker, on_err_weaker}
use Rattle.proof_kernel.proofs.GrowingHeld.{given_forms, same_opened}
use Rattle.proof_kernel.proofs.standing.Opened.give_forms.Goals as goal

pub returns-clause-ok : goal.returns-clause-ok
returns-clause-ok c =
    on_ok_weaker c.add_all_unrelated.result (λ e. e ∙ given_forms c.args.self.now c.saturating_sub-nothing.result (omega arith))
    (rw c.as_slice-forms.ensures at c.add_all_unrelated.ensures.ok)

pub returns-clause-err : goal.returns-clause-err
returns-clause-err c =
    on_err_weaker c.add_all_unrelated.result (same_opened c.args.self.now c.add_all_unrelated.new.self) c.add_all_unrelated.ensures.err
