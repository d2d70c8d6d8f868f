use Rattle.std.proofs.Common.{◌∙◌, ap, sym, subst, length}
use Rattle.scheme_terms.specs.View.{scheme, substitution}
use Rattle.pattern_unify.specs.Stepped.{state}
use Rattle.pattern_unify.specs.State.{names_of}
use Rattle.pattern_unify.specs.Chosen.{the_way}
use Rattle.pattern_unify.specs.Moves.{bind, named_first, named_second}
use Rattle.pattern_unify.specs.Found.{found}
use Rattle.pattern_unify.specs.Turned.{Binds}
use Rattle.pattern_unify.proofs.TurnFalling.{second_typed}
use Rattle.pattern_unify.proofs.Turning.{next_here, next_applies, next_sides, bind_turn, pattern_binds, locals_long}
use Rattle.pattern_unify.proofs.rows.bind.Goals as goal

pub bind_by-requires : goal.bind_by-requires
bind_by-requires c =
    subst (λ d. Binds d (scheme c.first_side.result.now) (scheme c.second_side.result.now))
    (sym (ap length c.as_slice-2.ensures ∙ sym (locals_long c.index-as_slice-at.result) ∙ ap (λ e. length e.locals) (next_here (names_of (state c.args.st.now)) c.args.st.now.equations (found c.args.at) c.requires.next _ c.index-as_slice-at.result c.as_slice.ensures c.index-as_slice-at.is)))
    (subst (λ s. Binds (length c.requires.next.e.locals) s (scheme c.second_side.result.now)) (sym (c.first_side.ensures ∙ ap (named_first (the_way c.args.at.way)) (next_here (names_of (state c.args.st.now)) c.args.st.now.equations (found c.args.at) c.requires.next _ c.index-as_slice-at.result c.as_slice.ensures c.index-as_slice-at.is)))
    (subst (λ t. Binds (length c.requires.next.e.locals) (named_first (the_way c.args.at.way) c.requires.next.e) t) (sym (c.second_side.ensures ∙ ap (named_second (the_way c.args.at.way)) (next_here (names_of (state c.args.st.now)) c.args.st.now.equations (found c.args.at) c.requires.next _ c.index-as_slice-at.result c.as_slice.ensures c.index-as_slice-at.is)))
    (let typed = next_sides (names_of (state c.args.st.now)) c.args.st.now.equations (found c.args.at) c.requires.next c.requires.sides.0 c.requires.sides.1 in
    pattern_binds c.requires.sides.0 (names_of (state c.args.st.now)) c.requires.next.e.locals typed.0 (named_first (the_way c.args.at.way) c.requires.next.e) (named_second (the_way c.args.at.way) c.requires.next.e)
    (second_typed c.requires.sides.0 (names_of (state c.args.st.now)) (the_way c.args.at.way) c.requires.next.e typed) (next_applies (names_of (state c.args.st.now)) c.args.st.now.equations (found c.args.at) c.requires.next bind c.requires.row))))

pub returns : goal.returns
returns c = λ sig.
    bind_turn sig c.args.st.now.equations (state c.args.st.now).so_far (found c.args.at) c.requires.next (state c.in_ok-new.new)
    (scheme c.first_side.result.now) (scheme c.second_side.result.now) (substitution c.in_ok-by.by) c.requires.row
    (c.first_side.ensures ∙ ap (named_first (the_way c.args.at.way)) (next_here (names_of (state c.args.st.now)) c.args.st.now.equations (found c.args.at) c.requires.next _ c.index-as_slice-at.result c.as_slice.ensures c.index-as_slice-at.is))
    (c.second_side.ensures ∙ ap (named_second (the_way c.args.at.way)) (next_here (names_of (state c.args.st.now)) c.args.st.now.equations (found c.args.at) c.requires.next _ c.index-as_slice-at.result c.as_slice.ensures c.index-as_slice-at.is))
    c.in_ok-by.ensures c.in_ok-new.ensures
