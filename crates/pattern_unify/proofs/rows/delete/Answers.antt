use Rattle.std.proofs.Common.{◌∙◌, ap, map, drop, ◌++◌}
use Rattle.pattern_unify.specs.Stepped.{state}
use Rattle.pattern_unify.specs.Equations.{equation}
use Rattle.pattern_unify.specs.State.{with_equations}
use Rattle.pattern_unify.specs.Found.{found}
use Rattle.std.proofs.Common.{take, ◌+◌}
use Rattle.pattern_unify.proofs.Turning.{delete_turn}
use Rattle.pattern_unify.proofs.rows.delete.Goals as goal

pub returns : goal.returns
returns c = λ sig.
    delete_turn sig c.args.st.equations (state c.args.st).so_far (found c.args.at) c.requires.next (state c.in_ok-new.new) c.requires.row
    (c.in_ok-new.ensures ∙ ap (λ more. with_equations (map equation (take c.args.at.place c.args.st.equations) ++ (map equation more ++ map equation (drop (c.args.at.place + 1) c.args.st.equations))) (state c.args.st)) c.new.ensures)
