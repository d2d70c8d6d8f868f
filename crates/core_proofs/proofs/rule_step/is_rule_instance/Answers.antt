use Rattle.std.proofs.Common.{map, option_map, ap, ◌∙◌, sym}
use Rattle.scheme_terms.specs.View.{substitution}
use Rattle.pattern_unify.specs.Equations.{equation}
use Rattle.core_proofs.proofs.RuleFitting.{none_is, decided, are_to_fit}
use Rattle.core_proofs.proofs.rule_step.is_rule_instance.Goals as goal
use Rattle.binding_terms.proofs.Lists.{is_some_mapped}

pub returns-in-None : goal.returns-in-None
returns-in-None c =
    let none = sym c.in_ok-equations.ensures ∙ ap (option_map (λ es. map equation es.items)) c.in-None.is in
    (λ h. let no : ⊥ = cc in absurd no, λ is. absurd (none_is _ _ _ _ _ c.requires.form c.requires.cited c.requires.rule none is))

pub fit_into-requires : goal.fit_into-requires
fit_into-requires c =
    let some = sym c.in_ok-equations.ensures ∙ ap (option_map (λ es. map equation es.items)) c.in-Some.is in
    rw (c.sig.ensures, c.in_ok-from.ensures) (are_to_fit _ _ _ _ _ c.requires.form c.requires.cited c.requires.rule _ some)

pub returns : goal.returns
returns c =
    let some = sym c.in_ok-equations.ensures ∙ ap (option_map (λ es. map equation es.items)) c.in-Some.is in
    let answer = rw (c.sig.ensures, c.in_ok-from.ensures) at c.in_ok-found.ensures in
    let is = decided _ _ _ _ _ c.requires.form c.requires.cited c.requires.rule _ some (option_map substitution c.in_ok-found.found) answer in
    rw (c.is_some.ensures, ← is_some_mapped substitution c.in_ok-found.found) is
