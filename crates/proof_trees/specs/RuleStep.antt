-- When a step by a rule is right. To be held against docs/notation.md, 'Steps'.
use Rattle.std.specs.Prelude.{◌≡◌, ◌⊎◌, ℕ, suc, ◌-◌, List, [], ◌∷◌, length, map, take, Some, slice_get}
use Rattle.binding_terms.specs.Signature.{Signature}
use Rattle.scheme_terms.specs.SchemeTree.{SchemeTree, shifted}
use Rattle.scheme_terms.specs.Forms.{SchemeEntry, SchemeContext, Names, KnownVariable, Substitution}
use Rattle.scheme_terms.specs.Substituting.{applied, applied_entry, IsSubstitution}
use Rattle.scheme_terms.specs.declared.scheme.Root.{Root}
use Rattle.scheme_terms.specs.declared.scheme.Root.TheVariants.{Closed, Empty, Whole}
use Rattle.rule_schemes.specs.Rules.{JudgmentScheme, Rule, Theory, IsAssumption, rule_names}
use Rattle.rule_schemes.specs.Raising.{IsRaised}
use Rattle.rule_schemes.specs.Placed.{entry_cats, form_in}
use Rattle.proof_trees.specs.Applying.{known_innermost}

-- The rule whose metavariables take the variables of the step's explicit entries. That of a judgment without a context stays.
abbrev pub IsRaisedTo : Signature → SchemeContext → Root → Rule → Rule → Type 0
IsRaisedTo sig ctx Closed rule higher = higher ≡ rule
IsRaisedTo sig ctx (Empty c) rule higher = higher ≡ rule
IsRaisedTo sig ctx (Whole c) rule higher = IsRaised sig (entry_cats sig ctx.entries) rule higher

-- One substitution of the raised rule's metavariables by schemes of the scope makes the conclusion the form and the premises the cited
-- judgments, in order.
pub record IsRuleInstance (th : Theory) (scope : Names) (form : JudgmentScheme) (cited : List JudgmentScheme) (rule : Rule) : Type 0 where
  pub ordinary : IsAssumption rule → ⊥
  pub higher : Rule
  pub raised : IsRaisedTo th.sig form.context rule.conclusion.context.root rule higher
  pub by : Substitution
  pub into : by.into ≡ scope
  pub schemes : IsSubstitution th.sig (rule_names higher) by
  pub conclusion : form_in form.context by higher.conclusion ≡ form
  pub premises : map (form_in form.context by) higher.premises ≡ cited

-- a scheme of a rule raised to the entries before one of so many, for that entry's variable, under all of them
abbrev pub seen_from_all : (entries entry : ℕ) → SchemeTree → SchemeTree
seen_from_all n i s = shifted 0 (n - suc i) s

-- The form is the assumption judgment of the explicit entry with this number, counted from the first.
pub record IsAssumptionOfEntry (th : Theory) (scope : Names) (form : JudgmentScheme) (rule : Rule) (entry : ℕ) : Type 0 where
  pub held : SchemeEntry
  pub there : slice_get form.context.entries entry ≡ Some held
  pub higher : Rule
  pub raised : IsRaised th.sig (entry_cats th.sig (take entry form.context.entries)) rule higher
  pub by : Substitution
  pub into : by.into ≡ scope
  pub schemes : IsSubstitution th.sig (rule_names higher) by
  pub entries : map (applied_entry by entry) higher.conclusion.context.entries ≡ held ∷ []
  pub judgment : form.judgment ≡ rule.conclusion.judgment
  pub args : form.args ≡ map (λ s. seen_from_all (length form.context.entries) entry (applied by.metas by.knowns (suc entry) s)) higher.conclusion.args

-- the form is the assumption judgment of the known variable with this number
pub record IsAssumptionOfKnown (th : Theory) (scope : Names) (form : JudgmentScheme) (rule : Rule) (number : ℕ) : Type 0 where
  pub decl : KnownVariable
  pub there : slice_get scope.knowns number ≡ Some decl
  pub root : form.context.root ≡ scope.root
  pub by : Substitution
  pub into : by.into ≡ scope
  pub schemes : IsSubstitution th.sig (rule_names rule) by
  pub entries : map (applied_entry by 0) rule.conclusion.context.entries ≡ decl.entry ∷ []
  pub judgment : form.judgment ≡ rule.conclusion.judgment
  pub args : form.args ≡ map (λ s. known_innermost number (applied by.metas by.knowns 1 s)) rule.conclusion.args

-- the form is the judgment of an assumption rule for an explicit entry or a known variable, and no step is cited
pub record IsAssumptionInstance (th : Theory) (scope : Names) (form : JudgmentScheme) (cited : List JudgmentScheme) (rule : Rule) : Type 0 where
  pub is_assumption : IsAssumption rule
  pub none_cited : cited ≡ []
  pub variable : ((entry : ℕ) × IsAssumptionOfEntry th scope form rule entry) ⊎ ((number : ℕ) × IsAssumptionOfKnown th scope form rule number)

-- the form and the cited judgments are one instance of the rule with this number
pub record IsByRule (th : Theory) (scope : Names) (form : JudgmentScheme) (cited : List JudgmentScheme) (number : ℕ) : Type 0 where
  pub rule : Rule
  pub there : slice_get th.rules number ≡ Some rule
  pub is_instance : IsRuleInstance th scope form cited rule ⊎ IsAssumptionInstance th scope form cited rule
