use Rattle.std.proofs.Common.{◌≡◌, ◌++◌, drop}
use Rattle.pattern_unify.specs.LeftNames.{is_meta_left, picked}
use Rattle.pattern_unify.specs.Stepped.{state}
use Rattle.pattern_unify.proofs.left.left_metas.Given as goal

abbrev pub invariant-loop-place : goal.invariant-loop-place
invariant-loop-place l =
    l.all ++ picked (is_meta_left (state l.st)) l.place (drop l.place l.decls) ≡ picked (is_meta_left (state l.st)) 0 l.decls
