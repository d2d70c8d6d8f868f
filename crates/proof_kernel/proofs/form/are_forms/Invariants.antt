use Rattle.std.proofs.Common.{◌↔◌, map, drop}
use Rattle.std.specs.List.{AllByRecursion}
use Rattle.scheme_terms.specs.View.{names}
use Rattle.rule_schemes.specs.View.{theory, judgment_scheme}
use Rattle.proof_trees.specs.Right.{IsForm}
use Rattle.proof_kernel.proofs.form.are_forms.Given as goal

abbrev pub invariant-loop-form : goal.invariant-loop-form
invariant-loop-form l =
    AllByRecursion (IsForm (theory l.system) (names l.scope)) (map judgment_scheme l.forms)
    ↔ AllByRecursion (IsForm (theory l.system) (names l.scope)) (map judgment_scheme (drop l.form-index l.forms))
