use Rattle.std.proofs.Common.{map, ap, ◌∙◌}
use Rattle.scheme_terms.specs.View.{scheme}
use Rattle.pattern_unify.specs.Measure.{any_scheme, meta_stands}
use Rattle.pattern_unify.proofs.LeftBuilding.{stands_same}
use Rattle.pattern_unify.proofs.left.is_meta_left.Goals as goal

pub returns : goal.returns
returns c =
    stands_same c.in_ok-name.name (map scheme c.as_slice.result.now) c.stands_in.result c.stands_in.ensures
    ∙ ap (λ xs. any_scheme (meta_stands c.in_ok-name.name) (map scheme xs)) c.as_slice.ensures
    ∙ ap (λ m. any_scheme (meta_stands m) (map scheme c.args.st.now.so_far.metas)) c.in_ok-name.ensures
