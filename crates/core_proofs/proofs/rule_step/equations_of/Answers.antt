use Rattle.std.proofs.Common.{sym, ◌∙◌}
use Rattle.std.proofs.lemmas.List.{length-map}
use Rattle.rule_schemes.specs.View.{judgment_scheme}
use Rattle.core_proofs.proofs.RuleFitting.{lengths_differ}
use Rattle.core_proofs.proofs.rule_step.equations_of.Goals as goal

pub returns-then-patterns-targets : goal.returns-then-patterns-targets
returns-then-patterns-targets c =
    sym (lengths_differ _ _ (λ e. c.if-patterns-targets.true (sym (length-map c.args.patterns.now judgment_scheme) ∙ e ∙ length-map c.args.targets.now (λ t. judgment_scheme t.now))))
