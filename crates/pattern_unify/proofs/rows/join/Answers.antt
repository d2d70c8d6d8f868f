use Rattle.std.proofs.Common.{sym, subst}
use Rattle.pattern_unify.specs.Stepped.{state}
use Rattle.pattern_unify.specs.State.{names_of}
use Rattle.pattern_unify.specs.Moves.{join}
use Rattle.pattern_unify.specs.Found.{found}
use Rattle.pattern_unify.specs.Turned.{AreTwoKnowns, AreLowAndHigh}
use Rattle.pattern_unify.proofs.Turning.{next_below, next_here, next_applies, join_turn, join_knowns}
use Rattle.pattern_unify.proofs.rows.join.Goals as goal

pub low_and_high-low-requires : goal.low_and_high-low-requires
low_and_high-low-requires c =
    subst (λ e. AreTwoKnowns e.left e.right) (sym (next_here (names_of (state c.args.st)) c.args.st.equations (found c.args.at) c.requires.next _ c.index-as_slice-at.result c.as_slice.ensures c.index-as_slice-at.is))
    (join_knowns (names_of (state c.args.st)) (found c.args.at).way c.requires.next.e (next_applies (names_of (state c.args.st)) c.args.st.equations (found c.args.at) c.requires.next join c.requires.row))

pub join_two-requires : goal.join_two-requires
join_two-requires c = next_below (names_of (state c.args.st)) c.args.st.equations (found c.args.at) c.requires.next

pub returns : goal.returns
returns c = λ sig.
    join_turn sig c.args.st.equations (state c.args.st).so_far (found c.args.at) c.requires.next (state c.in_ok-new.new) c.low_and_high-low.result.0 c.low_and_high-low.result.1 c.requires.row
    (subst (λ e. AreLowAndHigh e c.low_and_high-low.result.0 c.low_and_high-low.result.1)
    (next_here (names_of (state c.args.st)) c.args.st.equations (found c.args.at) c.requires.next _ c.index-as_slice-at.result c.as_slice.ensures c.index-as_slice-at.is) c.low_and_high-low.ensures)
    c.in_ok-new.ensures
