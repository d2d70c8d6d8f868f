use Rattle.std.proofs.Common.{◌≡◌, map, take, Some}
use Rattle.rule_schemes.specs.View.{judgment_scheme}
use Rattle.proof_trees.specs.Here.{holding, unrelated}
use Rattle.proof_kernel.specs.View.{here}
use Rattle.proof_kernel.proofs.here.Here.push_forms.Given as goal

abbrev pub invariant-loop-form : goal.invariant-loop-form
invariant-loop-form l =
    here l.self ≡ holding (here l.fn.self) (map (λ j. Some (unrelated (here l.fn.self) j)) (map judgment_scheme (take l.form-index l.forms)))
