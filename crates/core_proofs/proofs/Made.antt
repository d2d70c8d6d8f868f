-- What right steps make derives the goal.
use Rattle.std.proofs.Common.{◌≡◌, [], ◌∷◌, ◌++◌, Some, subst}
use Rattle.std.specs.List.{AllByRecursion}
use Rattle.scheme_terms.specs.declared.scheme.Root.TheVariants.{Closed}
use Rattle.rule_schemes.specs.Rules.{Rule, IsInstance, IsJudgmentScheme, rule_names, judgment_instance}
use Rattle.rule_schemes.specs.Derivation.{node, judgment, Derives}
use Rattle.rule_schemes.specs.Statement.{Theorem}
use Rattle.core_proofs.specs.Proof.{HasGoal, by_a_rule, ends, one_step, no_step}
use Rattle.proof_trees.specs.Value.{subtrees}
use Rattle.core_proofs.specs.Value.{makes_node, makes_last}
use Rattle.core_proofs.specs.Laws.{MakesDerives}
use Rattle.core_proofs.proofs.RuleSteps.{rule_step_derives}
use Rattle.binding_terms.proofs.Lists.{all_at, cited_zip, zip_push}

pub makes_derives : MakesDerives
makes_derives th sts k st scope inst scoped last ds last_made steps to made plain here root none fits last_derived derived no_step makes = elim makes [ ]
makes_derives th sts k st scope inst scoped last ds last_made steps to made plain here root none fits last_derived derived
    (one_step (by_a_rule {r = r} {cited = cited} {form = form} {rule = rule} form_is cited_is rule_here step_is) rest) (makes_node trees other other_here ordinary trees_are more) =
    let rule_plain = all_at (λ (x : Rule). (x.conclusion.context.root ≡ Closed) × AllByRecursion (λ p. p.context.root ≡ Closed) x.premises
    × IsJudgmentScheme th (rule_names x) x.conclusion × AllByRecursion (IsJudgmentScheme th (rule_names x)) x.premises) th.rules r rule plain rule_here in
    let one = rule_step_derives th scope inst r rule form cited trees root none fits rule_here rule_plain.0 rule_plain.1 rule_plain.2 rule_plain.3 form_is step_is
    (cited_zip (λ j d. Derives th d × IsInstance inst j (judgment d)) scoped ds _ cited trees derived cited_is trees_are) in
    let node_is = node r (judgment_instance inst form) (subtrees trees) in
    makes_derives th sts k st scope inst (scoped ++ form ∷ []) (Some form) (ds ++ node_is ∷ []) (Some node_is) _ to made plain here root none fits one
    (zip_push (λ j d. Derives th d × IsInstance inst j (judgment d)) scoped ds form node_is derived one) rest more
makes_derives th sts k st scope inst scoped last ds last_made steps to made plain here root none fits last_derived derived
    (one_step (ends {st = other} {form = form} there goal) rest) makes_last =
    let same : other ≡ st = cc in
    record { form = form; goal = subst (λ (x : Theorem). HasGoal th x scope form) same goal; derives = last_derived.0; is_instance = last_derived.1 }
