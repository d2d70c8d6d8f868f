use Rattle.std.proofs.Common.{◌≡◌, ◌++◌, map, drop}
use Rattle.scheme_terms.specs.View.{scheme}
use Rattle.pattern_unify.specs.LeftNames.{is_meta_left, metas_left, rank}
use Rattle.pattern_unify.specs.Stepped.{state}
use Rattle.pattern_unify.proofs.left.metas_left.Given as goal

abbrev pub invariant-loop-place : goal.invariant-loop-place
invariant-loop-place l =
    (l.count ≡ rank (is_meta_left (state l.st)) 0 l.place)
    × (map scheme l.all ++ metas_left (is_meta_left (state l.st)) l.place (drop l.place l.decls) ≡ metas_left (is_meta_left (state l.st)) 0 l.decls)
