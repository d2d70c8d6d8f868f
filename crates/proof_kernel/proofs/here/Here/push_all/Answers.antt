use Rattle.std.proofs.Common.{map, ap, ◌∙◌}
use Rattle.std.proofs.lemmas.Result.{on_ok_weaker, on_err_weaker}
use Rattle.rule_schemes.specs.View.{judgment_scheme}
use Rattle.proof_trees.specs.Here.{holding, nones}
use Rattle.proof_kernel.specs.View.{here}
use Rattle.proof_kernel.proofs.GrowingHeld.{holding_more, grown_after, all_unrelated}
use Rattle.proof_kernel.proofs.here.Here.push_all.Goals as goal

pub returns-clause-ok : goal.returns-clause-ok
returns-clause-ok c =
    on_ok_weaker c.push_nothing.result
    (λ e. e ∙ ap (λ h. holding h (nones c.args.nothing)) c.in_ok-push_forms.ensures.ok
    ∙ holding_more (here c.args.self.now) (all_unrelated (here c.args.self.now) (map judgment_scheme c.args.forms.now)) (nones c.args.nothing))
    c.push_nothing.ensures.ok

pub returns-clause-err : goal.returns-clause-err
returns-clause-err c =
    on_err_weaker c.push_nothing.result
    (grown_after (here c.args.self.now) (here c.push_forms.new.self) (here c.push_nothing.new.self)
    (all_unrelated (here c.args.self.now) (map judgment_scheme c.args.forms.now)) c.in_ok-push_forms.ensures.ok)
    c.push_nothing.ensures.err
