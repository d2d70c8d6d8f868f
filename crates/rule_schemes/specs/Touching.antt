-- The categories that touch a context, and the judgments that they keep from standing under it, as they are looked up: over rows with
-- a mark for each judgment below each judgment.
use Rattle.std.specs.Prelude.{◌≡◌, ◌<◌, ◌⊎◌, ◌↔◌, ℕ, Bool, true, List, length, Some, slice_get, MatchOption}
use Rattle.std.specs.List.{AllByRecursion}
use Rattle.binding_terms.specs.Numbered.{AnyByRecursion}
use Rattle.binding_terms.specs.Signature.{Signature, slots, binders, Reaches}
use Rattle.binding_terms.specs.declared.grammar.Item.{Item}
use Rattle.scheme_terms.specs.declared.scheme.MetaDecl.{MetaDecl}
use Rattle.rule_schemes.specs.Rules.{Rule, Theory, Below}

-- the category reaches a category of which contexts of the other bind variables
pub record Touches (sig : Signature) (c : ℕ) (k : ℕ) : Type 0 where
  pub bound : AnyByRecursion (λ p. (p.cat.0 ≡ c) × AnyByRecursion (Reaches sig k) (binders p.items)) sig.prods

-- one of the slots is of such a category
abbrev pub HasTouchingSlot : Signature → (context : ℕ) → List Item → Type 0
HasTouchingSlot sig c items = AnyByRecursion (λ s. Touches sig c s.cat) (slots items)

-- one of the metavariables is of such a category
abbrev pub HasTouchingName : Signature → (context : ℕ) → List MetaDecl → Type 0
HasTouchingName sig c metas = AnyByRecursion (λ m. Touches sig c m.cat.0) metas

-- the second judgment is marked in the row of the first
abbrev pub IsMarkedIn : List (List Bool) → (judgment below : ℕ) → Type 0
IsMarkedIn rows x y = MatchOption (slice_get rows x) ⊥ (λ marks. slice_get marks y ≡ Some true)

-- the rows mark the judgments that stand below each of so many judgments
abbrev pub AreBelowRows : (count : ℕ) → List Rule → List (List Bool) → Type 0
AreBelowRows n rules rows = (x y : ℕ) → x < n → y < n → IsMarkedIn rows x y ↔ Below rules x y

-- the judgments of the rule are among so many
pub record HasJudgments (n : ℕ) (r : Rule) : Type 0 where
  pub conclusion : r.conclusion.judgment < n
  pub premises : AllByRecursion (λ p. p.judgment < n) r.premises

-- what is kept of a theory beside its parts
pub record AreKept (th : Theory) (rows : List (List Bool)) : Type 0 where
  pub below : AreBelowRows (length th.judgments) th.rules rows
  pub in_range : AllByRecursion (HasJudgments (length th.judgments)) th.rules

-- a rule of the judgment, or of one below it, has a metavariable that touches the context
abbrev pub RulesTouch : Signature → List Rule → List (List Bool) → (context judgment : ℕ) → Type 0
RulesTouch sig rules rows c j = AnyByRecursion (λ r. IsMarkedIn rows j r.conclusion.judgment × HasTouchingName sig c r.metas) rules

-- so has its form, or a rule
abbrev pub JudgmentTouches : Theory → List (List Bool) → (context judgment : ℕ) → Type 0
JudgmentTouches th rows c j =
    MatchOption (slice_get th.judgments j) ⊥ (λ form. HasTouchingSlot th.sig c form.items)
    ⊎ RulesTouch th.sig th.rules rows c j

-- the same with one rule more, of which the rows know nothing yet
abbrev pub TouchesWith : Theory → Rule → List (List Bool) → (context judgment : ℕ) → Type 0
TouchesWith th r rows c j =
    JudgmentTouches th rows c j
    ⊎ (IsMarkedIn rows j r.conclusion.judgment
    × (HasTouchingName th.sig c r.metas ⊎ AnyByRecursion (λ p. RulesTouch th.sig th.rules rows c p.judgment) r.premises))
