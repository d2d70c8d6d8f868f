use Rattle.std.proofs.Common.{ap, arith}
use Rattle.pattern_unify.specs.Moves.{delete, decompose, join, meet, prune, bind}
use Rattle.pattern_unify.specs.Run.{has_clash}
use Rattle.pattern_unify.specs.Chosen.{the_row}
use Rattle.pattern_unify.specs.Found.{found}
use Rattle.pattern_unify.specs.Stepped.{state}
use Rattle.pattern_unify.proofs.Stages.{further}
use Rattle.pattern_unify.proofs.Turning.{clash_turn}
use Rattle.pattern_unify.proofs.running.turn.Goals as goal

pub returns-in-Clash : goal.returns-in-Clash
returns-in-Clash c =
    has_clash (state c.args.st) (clash_turn c.args.sig.now c.args.st.equations (state c.args.st).so_far (found c.args.at) c.requires.next (ap the_row c.in-Clash.is))

pub returns-in_ok-delete-in-Delete : goal.returns-in_ok-delete-in-Delete
returns-in_ok-delete-in-Delete c = (
  omega arith,
  further c.args.sig.now (state c.args.st) (state c.in_ok-delete-in-Delete.field-0) (found c.args.at) delete c.prods.ensures.fits c.requires.reached c.requires.next
      (ap the_row c.in-Delete.is) (c.in_ok-delete-in-Delete.ensures c.args.sig.now),
)

pub returns-in_ok-decompose-in-Decompose : goal.returns-in_ok-decompose-in-Decompose
returns-in_ok-decompose-in-Decompose c = (
  omega arith,
  further c.args.sig.now (state c.args.st) (state c.in_ok-decompose-in-Decompose.field-0) (found c.args.at) decompose c.prods.ensures.fits c.requires.reached c.requires.next
      (ap the_row c.in-Decompose.is) c.in_ok-decompose-in-Decompose.ensures,
)

pub returns-in_ok-join-in-Join : goal.returns-in_ok-join-in-Join
returns-in_ok-join-in-Join c = (
  omega arith,
  further c.args.sig.now (state c.args.st) (state c.in_ok-join-in-Join.field-0) (found c.args.at) join c.prods.ensures.fits c.requires.reached c.requires.next
      (ap the_row c.in-Join.is) (c.in_ok-join-in-Join.ensures c.args.sig.now),
)

pub returns-in_ok-meet-in-Meet : goal.returns-in_ok-meet-in-Meet
returns-in_ok-meet-in-Meet c = (
  omega arith,
  further c.args.sig.now (state c.args.st) (state c.in_ok-meet-in-Meet.field-0) (found c.args.at) meet c.prods.ensures.fits c.requires.reached c.requires.next
      (ap the_row c.in-Meet.is) (c.in_ok-meet-in-Meet.ensures c.args.sig.now),
)

pub returns-in_ok-prune-in-Prune : goal.returns-in_ok-prune-in-Prune
returns-in_ok-prune-in-Prune c = (
  omega arith,
  further c.args.sig.now (state c.args.st) (state c.in_ok-prune-in-Prune.field-0) (found c.args.at) prune c.prods.ensures.fits c.requires.reached c.requires.next
      (ap the_row c.in-Prune.is) (c.in_ok-prune-in-Prune.ensures c.args.sig.now),
)

pub returns-in_ok-bind-in-Bind : goal.returns-in_ok-bind-in-Bind
returns-in_ok-bind-in-Bind c = (
  omega arith,
  further c.args.sig.now (state c.args.st) (state c.in_ok-bind-in-Bind.field-0) (found c.args.at) bind c.prods.ensures.fits c.requires.reached c.requires.next
      (ap the_row c.in-Bind.is) (c.in_ok-bind-in-Bind.ensures c.args.sig.now),
)
