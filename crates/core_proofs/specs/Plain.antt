-- The condition under which steps are judged so far: no context, and nothing binds.
use Rattle.std.specs.Prelude.{◌≡◌, []}
use Rattle.std.specs.List.{AllByRecursion}
use Rattle.scheme_terms.specs.Forms.{Names}
use Rattle.scheme_terms.specs.declared.scheme.Root.TheVariants.{Closed}
use Rattle.pattern_unify.specs.Plain.{HaveNoParameters}
use Rattle.rule_schemes.specs.Rules.{JudgmentScheme, Rule, Theory, IsJudgmentScheme, StrictInRule, rule_names}
use Rattle.binding_terms.specs.Numbered.{AllNumbered}

-- a scope without a context, known variables and parameters
pub record IsPlainScope (scope : Names) : Type 0 where
  pub root : scope.root ≡ Closed
  pub metas : HaveNoParameters scope.metas
  pub knowns : scope.knowns ≡ []

-- a form over a scope, without a context
pub record IsPlainForm (th : Theory) (scope : Names) (form : JudgmentScheme) : Type 0 where
  pub root : form.context.root ≡ Closed
  pub in_scope : IsJudgmentScheme th scope form

-- a rule without a context and parameters, each of whose metavariables has a strict occurrence
pub record IsPlainRule (th : Theory) (rule : Rule) : Type 0 where
  pub metas : HaveNoParameters rule.metas
  pub conclusion : IsPlainForm th (rule_names rule) rule.conclusion
  pub premises : AllByRecursion (IsPlainForm th (rule_names rule)) rule.premises
  pub strict : AllNumbered (λ m decl. StrictInRule rule m) 0 rule.metas
