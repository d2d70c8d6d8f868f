use Rattle.std.proofs.Common.{map, subst, sym}
use Rattle.scheme_terms.specs.View.{names}
use Rattle.pattern_unify.specs.Equations.{equation}
use Rattle.pattern_unify.specs.State.{start}
use Rattle.pattern_unify.specs.Ended.{IsOnWay}
use Rattle.pattern_unify.proofs.Ending.{start_is_state}
use Rattle.pattern_unify.proofs.Stages.{way_here}
use Rattle.pattern_unify.proofs.running.run.Goals as goal

pub turns-init : goal.turns-init
turns-init c =
    subst (IsOnWay c.args.sig.now (start (names c.args.scope.now) (map equation c.args.eqs.now))) (sym c.in_ok-st.ensures)
    (way_here c.args.sig.now (start (names c.args.scope.now) (map equation c.args.eqs.now)) (
      names c.args.scope.now,
      start_is_state c.args.sig.now (names c.args.scope.now) (map equation c.args.eqs.now) c.prods.ensures.fits
          (record { knowns = c.requires.knowns; sides = c.requires.sides }),
    ))
