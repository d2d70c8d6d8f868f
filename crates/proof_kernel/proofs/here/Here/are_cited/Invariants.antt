use Rattle.std.proofs.Common.{◌↔◌, map, drop}
use Rattle.rule_schemes.specs.View.{judgment_scheme}
use Rattle.proof_trees.specs.Right.{AreCited}
use Rattle.proof_kernel.specs.View.{here}
use Rattle.proof_kernel.proofs.here.Here.are_cited.Given as goal

abbrev pub invariant-loop-i : goal.invariant-loop-i
invariant-loop-i l =
    AreCited (here l.self) (map (λ id. id.0) l.of) (map judgment_scheme l.forms)
    ↔ AreCited (here l.self) (map (λ id. id.0) (drop l.i l.of)) (map judgment_scheme (drop l.i l.forms))
