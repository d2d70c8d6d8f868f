use Rattle.std.proofs.Common.{◌≡◌, ◌++◌, map, drop}
use Rattle.std.specs.Prelude.{option_map}
use Rattle.rule_schemes.specs.View.{judgment_scheme}
use Rattle.core_proofs.specs.FormEquations.{cited_forms}
use Rattle.core_proofs.proofs.citing.forms_of.Given as goal

abbrev pub invariant-loop-id : goal.invariant-loop-id
invariant-loop-id l =
    option_map (λ js. map (λ j. judgment_scheme j.now) l.cited.items ++ js)
    (cited_forms (map judgment_scheme l.scoped) (map (λ id. id.0) (drop l.id-index l.on)))
    ≡ cited_forms (map judgment_scheme l.scoped) (map (λ id. id.0) l.on)
