use Rattle.std.proofs.Common.{◌≡◌, map, take}
use Rattle.rule_schemes.specs.View.{judgment_scheme}
use Rattle.proof_kernel.proofs.goal.copy_forms.Given as goal

abbrev pub invariant-loop-form : goal.invariant-loop-form
invariant-loop-form l = map judgment_scheme l.all ≡ map judgment_scheme (take l.form-index l.forms)
