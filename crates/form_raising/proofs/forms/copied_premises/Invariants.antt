use Rattle.std.proofs.Common.{◌≡◌, map, take}
use Rattle.rule_schemes.specs.View.{judgment_scheme}
use Rattle.form_raising.proofs.forms.copied_premises.Given as goal

abbrev pub invariant-loop-premise : goal.invariant-loop-premise
invariant-loop-premise l = map judgment_scheme l.all ≡ map judgment_scheme (take l.premise-index l.premises)
