use Rattle.std.proofs.Common.{◌∙◌, sym, ap, List, ℕ}
use Rattle.std.specs.Str.{bytes_eq}
use Rattle.std.specs.List.{position}
use Rattle.rule_schemes.specs.View.{rule}
use Rattle.rule_schemes.specs.Rules.{Rule}
use Rattle.rule_schemes.specs.declared.rule.RuleScheme.{RuleScheme}
use Rattle.derivation_text.proofs.line.rule_named.Goals as goal
use Rattle.binding_terms.proofs.Lists.{position_map}

pub returns-clause-number : goal.returns-clause-number
returns-clause-number c =
    c.place_named.ensures.place ∙ ap (λ (w : List ℕ). position (λ (r : RuleScheme). bytes_eq r.name w) c.as_slice.result.now) c.as_bytes.ensures.value
    ∙ ap (position (λ (r : RuleScheme). bytes_eq r.name c.args.name.now)) (c.as_slice.ensures.value ∙ c.rules.ensures)
    ∙ sym (position_map rule (λ (r : Rule). bytes_eq r.name c.args.name.now) c.args.sys.now.rules)
