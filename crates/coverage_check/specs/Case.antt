-- Written cases, as plain records, and the names that they write. To be held against docs/notation.md, 'Cases' (the names of a case).
use Rattle.std.specs.Prelude.{◌≡◌, ◌⊎◌, ℕ, Option, Some, List, ◌∷◌, map, option_map, slice_get, MatchOption}
use Rattle.binding_terms.specs.Numbered.{AnyByRecursion}
use Rattle.scheme_terms.specs.SchemeTree.{SchemeTree, OccursIn, KnownIn}
use Rattle.scheme_terms.specs.Forms.{KnownVariable, Names}
use Rattle.scheme_terms.specs.View.{scheme, names}
use Rattle.rule_schemes.specs.Rules.{JudgmentScheme}
use Rattle.rule_schemes.specs.Statement.{OccursInJudgment}
use Rattle.rule_schemes.specs.View.{judgment_scheme}
use Rattle.case_split.specs.declared.choice.Place.{Place}
use Rattle.coverage_check.specs.declared.written.WrittenCase.{WrittenCase}
use Rattle.coverage_check.specs.declared.written.WrittenTermCase.{WrittenTermCase}

-- a written case of a derivation
pub record Case : Type 0 where
  pub rule : ℕ
  pub place : Place
  pub scope : Names
  pub premises : List JudgmentScheme
  pub conclusion : JudgmentScheme

-- a written case of a term
pub record TermCase : Type 0 where
  pub prod : Option ℕ
  pub place : Place
  pub scope : Names
  pub term : SchemeTree

abbrev pub case_of : WrittenCase → Case
case_of c =
    record {
      rule = c.rule.0;
      place = c.place;
      scope = names c.scope;
      premises = map judgment_scheme c.premises;
      conclusion = judgment_scheme c.conclusion;
    }

abbrev pub term_case_of : WrittenTermCase → TermCase
term_case_of c = record { prod = option_map (λ p. p.0) c.prod; place = c.place; scope = names c.scope; term = scheme c.term }

-- the forms of a case, as what stands in them
pub data Head : Type 0 where
  judgments : List JudgmentScheme → Head
  one_term : SchemeTree → Head

abbrev pub head_of : Case → Head
head_of c = judgments (c.conclusion ∷ c.premises)

abbrev pub term_head_of : TermCase → Head
term_head_of c = one_term c.term

-- the metavariable stands in the forms
abbrev pub MetaInHead : ℕ → Head → Type 0
MetaInHead m (judgments js) = AnyByRecursion (OccursInJudgment m) js
MetaInHead m (one_term s) = OccursIn m s

-- the known variable stands in the judgment
abbrev pub KnownInJudgment : ℕ → JudgmentScheme → Type 0
KnownInJudgment k j =
    AnyByRecursion (λ e. AnyByRecursion (KnownIn k) e.args) j.context.entries ⊎ AnyByRecursion (KnownIn k) j.args

abbrev pub KnownInHead : ℕ → Head → Type 0
KnownInHead k (judgments js) = AnyByRecursion (KnownInJudgment k) js
KnownInHead k (one_term s) = KnownIn k s

-- what a name's entry holds
abbrev pub InEntryOf : Names → (SchemeTree → Type 0) → ℕ → Type 0
InEntryOf scope P k = MatchOption (slice_get scope.knowns k) ⊥ (λ decl. AnyByRecursion P decl.entry.args)

-- a known variable of that spelling is one of the outer scope
abbrev pub IsOuterKnown : Names → (name : List ℕ) → Type 0
IsOuterKnown outer w = AnyByRecursion (λ decl. decl.name ≡ w) outer.knowns

-- The known variables that a case writes: those of its forms, those that are new, and those that stand in the entry of one that is written. An outer one
-- that stands in a head's context alone leaves no trace in the forms, and counts as not written.
pub data IsWrittenKnown (outer scope : Names) (head : Head) : ℕ → Type 0 where
  in_forms : (k : ℕ) → KnownInHead k head → IsWrittenKnown outer scope head k
  is_new : (k : ℕ) (decl : KnownVariable) → slice_get scope.knowns k ≡ Some decl → (IsOuterKnown outer decl.name → ⊥) →
      IsWrittenKnown outer scope head k
  in_entry : (k l : ℕ) → IsWrittenKnown outer scope head l → InEntryOf scope (KnownIn k) l → IsWrittenKnown outer scope head k

-- the metavariables that a case writes: those of its forms, and those of the entries of known variables that it writes
abbrev pub IsWrittenMeta : (outer scope : Names) → Head → ℕ → Type 0
IsWrittenMeta outer scope head m =
    MetaInHead m head ⊎ ((k : ℕ) × IsWrittenKnown outer scope head k × InEntryOf scope (OccursIn m) k)
