use Rattle.std.proofs.Common.{sym, subst, map}
use Rattle.pattern_unify.specs.Stepped.{state}
use Rattle.pattern_unify.specs.State.{names_of}
use Rattle.pattern_unify.specs.Equations.{equation}
use Rattle.pattern_unify.specs.Moves.{decompose}
use Rattle.pattern_unify.specs.Found.{found}
use Rattle.pattern_unify.specs.Moves.{HaveOneProduction}
use Rattle.pattern_unify.specs.Turned.{IsDecomposed}
use Rattle.pattern_unify.proofs.Turning.{next_below, next_here, next_applies, decompose_turn, one_production}
use Rattle.pattern_unify.proofs.rows.decompose.Goals as goal

pub decomposed-requires : goal.decomposed-requires
decomposed-requires c =
    subst (λ e. HaveOneProduction e.left e.right) (sym (next_here (names_of (state c.args.st)) c.args.st.equations (found c.args.at) c.requires.next _ c.index-as_slice-at.result c.as_slice.ensures c.index-as_slice-at.is))
    (one_production (names_of (state c.args.st)) (found c.args.at).way c.requires.next.e (next_applies (names_of (state c.args.st)) c.args.st.equations (found c.args.at) c.requires.next decompose c.requires.row))

pub replace-requires : goal.replace-requires
replace-requires c = next_below (names_of (state c.args.st)) c.args.st.equations (found c.args.at) c.requires.next

pub returns : goal.returns
returns c =
    decompose_turn c.args.sig.now c.args.st.equations (state c.args.st).so_far (found c.args.at) c.requires.next (state c.in_ok-new.new) (map equation c.in_ok-more.more) c.requires.row
    (subst (λ e. IsDecomposed c.args.sig.now e (map equation c.in_ok-more.more))
    (next_here (names_of (state c.args.st)) c.args.st.equations (found c.args.at) c.requires.next _ c.index-as_slice-at.result c.as_slice.ensures c.index-as_slice-at.is) c.in_ok-more.ensures)
    c.in_ok-new.ensures
