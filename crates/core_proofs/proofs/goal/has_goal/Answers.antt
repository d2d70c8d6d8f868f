use Rattle.std.proofs.Common.{map, option_map, ap, ◌∙◌, sym}
use Rattle.scheme_terms.specs.View.{substitution}
use Rattle.pattern_unify.specs.Equations.{equation}
use Rattle.rule_schemes.proofs.PlainLemmas.{plain_system}
use Rattle.core_proofs.proofs.GoalFitting.{none_has, decided, are_to_fit}
use Rattle.core_proofs.proofs.goal.has_goal.Goals as goal
use Rattle.binding_terms.proofs.Lists.{is_some_mapped}

pub returns-in-None : goal.returns-in-None
returns-in-None c =
    let none = sym c.in_ok-equations.ensures ∙ ap (option_map (λ es. map equation es.items)) c.in-None.is in
    (λ h. let no : ⊥ = cc in absurd no, λ is. absurd (none_has _ (plain_system c.always_system.ensures c.requires.theory) _ _ _ c.requires.provable c.requires.scope c.requires.form none is))

pub fit_into-requires : goal.fit_into-requires
fit_into-requires c =
    let some = sym c.in_ok-equations.ensures ∙ ap (option_map (λ es. map equation es.items)) c.in-Some.is in
    rw c.sig.ensures (are_to_fit _ (plain_system c.always_system.ensures c.requires.theory) _ _ _ c.requires.provable c.requires.scope c.requires.form _ some)

pub returns : goal.returns
returns c =
    let some = sym c.in_ok-equations.ensures ∙ ap (option_map (λ es. map equation es.items)) c.in-Some.is in
    let answer = rw c.sig.ensures at c.in_ok-found.ensures in
    let is = decided _ (plain_system c.always_system.ensures c.requires.theory) _ _ _ c.requires.provable c.requires.scope c.requires.form _ some (option_map substitution c.in_ok-found.found) answer in
    rw (c.is_some.ensures, ← is_some_mapped substitution c.in_ok-found.found) is
