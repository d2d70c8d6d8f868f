use Rattle.std.proofs.Common.{◌∙◌, ap, sym, subst}
use Rattle.scheme_terms.specs.View.{scheme, substitution}
use Rattle.pattern_unify.specs.Stepped.{state}
use Rattle.pattern_unify.specs.State.{names_of}
use Rattle.pattern_unify.specs.Chosen.{the_way}
use Rattle.pattern_unify.specs.Moves.{meet, named_first, named_second}
use Rattle.pattern_unify.specs.Found.{found}
use Rattle.pattern_unify.specs.Turned.{Meets}
use Rattle.pattern_unify.proofs.TurnFalling.{first_typed}
use Rattle.pattern_unify.proofs.Turning.{next_here, next_applies, next_sides, meet_turn, pattern_meets}
use Rattle.pattern_unify.proofs.rows.meet.Goals as goal

pub meet_by-requires : goal.meet_by-requires
meet_by-requires c =
    subst (λ s. Meets (names_of (state c.args.st.now)) s (scheme c.second_side.result.now)) (sym (c.first_side.ensures ∙ ap (named_first (the_way c.args.at.way)) (next_here (names_of (state c.args.st.now)) c.args.st.now.equations (found c.args.at) c.requires.next _ c.index-as_slice-at.result c.as_slice.ensures c.index-as_slice-at.is)))
    (subst (λ t. Meets (names_of (state c.args.st.now)) (named_first (the_way c.args.at.way) c.requires.next.e) t) (sym (c.second_side.ensures ∙ ap (named_second (the_way c.args.at.way)) (next_here (names_of (state c.args.st.now)) c.args.st.now.equations (found c.args.at) c.requires.next _ c.index-as_slice-at.result c.as_slice.ensures c.index-as_slice-at.is)))
    (let typed = next_sides (names_of (state c.args.st.now)) c.args.st.now.equations (found c.args.at) c.requires.next c.requires.sides.0 c.requires.sides.1 in
    pattern_meets c.requires.sides.0 (names_of (state c.args.st.now)) c.requires.next.e.locals typed.0 (named_first (the_way c.args.at.way) c.requires.next.e) (named_second (the_way c.args.at.way) c.requires.next.e)
    (first_typed c.requires.sides.0 (names_of (state c.args.st.now)) (the_way c.args.at.way) c.requires.next.e typed) (next_applies (names_of (state c.args.st.now)) c.args.st.now.equations (found c.args.at) c.requires.next meet c.requires.row)))

pub returns : goal.returns
returns c = λ sig.
    meet_turn sig c.args.st.now.equations (state c.args.st.now).so_far (found c.args.at) c.requires.next (state c.in_ok-new.new)
    (scheme c.first_side.result.now) (scheme c.second_side.result.now) (substitution c.in_ok-by.by) c.requires.row
    (c.first_side.ensures ∙ ap (named_first (the_way c.args.at.way)) (next_here (names_of (state c.args.st.now)) c.args.st.now.equations (found c.args.at) c.requires.next _ c.index-as_slice-at.result c.as_slice.ensures c.index-as_slice-at.is))
    (c.second_side.ensures ∙ ap (named_second (the_way c.args.at.way)) (next_here (names_of (state c.args.st.now)) c.args.st.now.equations (found c.args.at) c.requires.next _ c.index-as_slice-at.result c.as_slice.ensures c.index-as_slice-at.is))
    c.in_ok-by.ensures c.in_ok-new.ensures
