-- Weakening, exchange and substitution of judgments, and why each is refused. To be held against docs/notation.md, 'Steps'.
use Rattle.std.specs.Prelude.{◌≡◌, ◌≢◌, ℕ, zero, suc, List, [], ◌∷◌, ◌++◌, length, map, Some, slice_get}
use Rattle.binding_terms.specs.Numbered.{AnyByRecursion}
use Rattle.scheme_terms.specs.SchemeTree.{SchemeTree, local, filled, shifted, IsFreeOf}
use Rattle.scheme_terms.specs.Forms.{SchemeEntry, Names, Substitution}
use Rattle.scheme_terms.specs.Substituting.{applied, applied_entry, IsSubstitution}
use Rattle.scheme_terms.specs.declared.scheme.Root.{Root}
use Rattle.scheme_terms.specs.declared.scheme.Root.TheVariants.{Closed}
use Rattle.rule_schemes.specs.Rules.{JudgmentScheme, Rule, Theory, assumed_by, rule_names}
use Rattle.rule_schemes.specs.Raising.{IsRaised}
use Rattle.rule_schemes.specs.Placed.{entry_cats}
use Rattle.proof_trees.specs.Applying.{put_innermost}

-- the form is the judgment with one more explicit entry at the end
pub record IsWeakened (from form : JudgmentScheme) : Type 0 where
  pub some_context : from.context.root ≢ Closed
  pub judgment : form.judgment ≡ from.judgment
  pub root : form.context.root ≡ from.context.root
  pub entry : SchemeEntry
  pub entries : form.context.entries ≡ from.context.entries ++ (entry ∷ [])
  pub args : form.args ≡ map (shifted 0 1) from.args

-- the two innermost locals exchanged
abbrev pub exchanged_local : ℕ → ℕ
exchanged_local zero = 1
exchanged_local (suc zero) = 0
exchanged_local (suc (suc i)) = suc (suc i)

-- an entry seen from under one more entry
abbrev pub shifted_entry : (by : ℕ) → SchemeEntry → SchemeEntry
shifted_entry n e = record { prod = e.prod; args = map (shifted 0 n) e.args }

-- the form is the judgment with its last two explicit entries exchanged, of which the later does not mention the earlier's variable
pub record IsExchanged (from form : JudgmentScheme) : Type 0 where
  pub judgment : form.judgment ≡ from.judgment
  pub root : form.context.root ≡ from.context.root
  pub front : List SchemeEntry
  pub earlier : SchemeEntry
  pub later : SchemeEntry
  pub before : from.context.entries ≡ front ++ (earlier ∷ (shifted_entry 1 later ∷ []))
  pub after : form.context.entries ≡ front ++ (later ∷ (shifted_entry 1 earlier ∷ []))
  pub args : form.args ≡ map (filled (λ i. local (exchanged_local i))) from.args

-- a rule is the assumption rule of a production
abbrev pub IsAssumptionRuleOf : Theory → (rule : ℕ) → Rule → (prod : ℕ) → Type 0
IsAssumptionRuleOf th number rule prod =
    (slice_get th.rules number ≡ Some rule) × (assumed_by rule.conclusion.context.root rule.conclusion.context.entries ≡ prod ∷ [])

-- the second judgment is the assumption judgment of the entry that stands last in the first, with a term of the rest for its variable
pub record IsAssumptionOfLast (th : Theory) (scope : Names) (front : List SchemeEntry) (entry : SchemeEntry) (root : Root) (by_form : JudgmentScheme) (term : SchemeTree) : Type 0 where
  pub number : ℕ
  pub rule : Rule
  pub there : IsAssumptionRuleOf th number rule entry.prod
  pub higher : Rule
  pub raised : IsRaised th.sig (entry_cats th.sig front) rule higher
  pub by : Substitution
  pub into : by.into ≡ scope
  pub schemes : IsSubstitution th.sig (rule_names higher) by
  pub entries : map (applied_entry by (length front)) higher.conclusion.context.entries ≡ entry ∷ []
  pub judgment : by_form.judgment ≡ rule.conclusion.judgment
  pub context : by_form.context ≡ record { root = root; entries = front }
  pub args : by_form.args ≡ map (λ s. put_innermost term (applied by.metas by.knowns (suc (length front)) s)) higher.conclusion.args

-- the form is the judgment with a term for the variable of its last explicit entry, which is gone
pub record IsSubstituted (th : Theory) (scope : Names) (from by_form form : JudgmentScheme) : Type 0 where
  pub front : List SchemeEntry
  pub entry : SchemeEntry
  pub before : from.context.entries ≡ front ++ (entry ∷ [])
  pub term : SchemeTree
  pub assumed : IsAssumptionOfLast th scope front entry from.context.root by_form term
  pub judgment : form.judgment ≡ from.judgment
  pub context : form.context ≡ record { root = from.context.root; entries = front }
  pub args : form.args ≡ map (put_innermost term) from.args

-- why a judgment is not exchanged: it has fewer than two explicit entries, or its last one mentions the variable before it
abbrev pub LastMentions : List SchemeEntry → Type 0
LastMentions es = (front : List SchemeEntry) × (a b : SchemeEntry) × (es ≡ front ++ (a ∷ (b ∷ []))) × AnyByRecursion (λ s. IsFreeOf 0 s → ⊥) b.args

-- no rule is the assumption rule of the production
abbrev pub HasNoAssumptionRule : Theory → (prod : ℕ) → Type 0
HasNoAssumptionRule th prod = (number : ℕ) (rule : Rule) → IsAssumptionRuleOf th number rule prod → ⊥
