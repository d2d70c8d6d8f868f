-- Why a rule is refused. Held against the rules of the profile on assumption rules, ordinary rules and judgments without a
-- context.
use Rattle.std.specs.Prelude.{◌≡◌, ◌⊎◌, ℕ, suc, List, [], ◌∷◌, ◌++◌, slice_get, MatchOption}
use Rattle.std.specs.List.{AllByRecursion}
use Rattle.binding_terms.specs.Numbered.{AnyByRecursion, AllNumbered}
use Rattle.scheme_terms.specs.declared.scheme.MetaDecl.{MetaDecl}
use Rattle.rule_schemes.specs.declared.fault.RuleFault.{RuleFault}
use Rattle.rule_schemes.specs.declared.fault.RuleFault.TheVariants.{BadConclusion, NotStrict, NeedsContext, TwoAssumptions, NoMemory}
use Rattle.rule_schemes.specs.Rules.{Rule, Theory, JudgmentScheme, HasGoodConclusion, StrictInRule, MayStand, NeedsNoContext, assumed_by}

-- The first metavariable that has no strict occurrence has this number, where the first of the list has the number n.
abbrev pub IsFirstUnstrict : Rule → (n : ℕ) → List MetaDecl → (number : ℕ) → Type 0
IsFirstUnstrict r n [] m = ⊥
IsFirstUnstrict r n (decl ∷ decls) m =
    ((n ≡ m) × (StrictInRule r n → ⊥)) ⊎ (StrictInRule r n × IsFirstUnstrict r (suc n) decls m)

abbrev pub AllStrict : Rule → Type 0
AllStrict r = AllNumbered (λ m decl. StrictInRule r m) 0 r.metas

-- the first premise without a context that may not stand in the rule is of this judgment
abbrev pub IsFirstMisplaced : Theory → Rule → List JudgmentScheme → (judgment : ℕ) → Type 0
IsFirstMisplaced th r [] j = ⊥
IsFirstMisplaced th r (p ∷ ps) j =
    ((p.judgment ≡ j) × (MayStand th r.conclusion.context.root p.context.root p.judgment → ⊥))
    ⊎ (MayStand th r.conclusion.context.root p.context.root p.judgment × IsFirstMisplaced th r ps j)

-- the theory with one rule more
abbrev pub with_rule : Theory → Rule → Theory
with_rule th r = record th { rules = th.rules ++ r ∷ [] }

-- both rules are assumption rules of one production
abbrev pub AssumeAlike : Rule → Rule → Type 0
AssumeAlike r s =
    AnyByRecursion
    (λ p. AnyByRecursion (λ q. p ≡ q) (assumed_by s.conclusion.context.root s.conclusion.context.entries))
    (assumed_by r.conclusion.context.root r.conclusion.context.entries)

-- Each cause is judged only where none before it stands. The new rule itself counts among the rules by which it is judged for
-- judgments without a context.
pub record IsNotStrict (r : Rule) (number : ℕ) : Type 0 where
  pub good_conclusion : HasGoodConclusion r
  pub first : IsFirstUnstrict r 0 r.metas number

pub record IsMisplaced (th : Theory) (r : Rule) (judgment : ℕ) : Type 0 where
  pub good_conclusion : HasGoodConclusion r
  pub strict : AllStrict r
  pub first : IsFirstMisplaced (with_rule th r) r r.premises judgment

pub record IsSecondAssumption (th : Theory) (r : Rule) (earlier : ℕ) : Type 0 where
  pub good_conclusion : HasGoodConclusion r
  pub strict : AllStrict r
  pub placed : NeedsNoContext (with_rule th r) r
  pub alike : MatchOption (slice_get th.rules earlier) ⊥ (λ s. AssumeAlike s r)

-- nothing speaks against the rule
pub record IsTaken (th : Theory) (r : Rule) : Type 0 where
  pub good_conclusion : HasGoodConclusion r
  pub strict : AllStrict r
  pub placed : NeedsNoContext (with_rule th r) r
  pub alone : AllByRecursion (λ s. AssumeAlike s r → ⊥) th.rules

-- The system refuses the rule with this fault. Want of memory is no reason that lies in the rule.
abbrev pub Refuses : Theory → Rule → RuleFault → Type 0
Refuses th r BadConclusion = HasGoodConclusion r → ⊥
Refuses th r (NotStrict m) = IsNotStrict r m.0
Refuses th r (NeedsContext j) = IsMisplaced th r j.0
Refuses th r (TwoAssumptions q) = IsSecondAssumption th r q.0
Refuses th r NoMemory = ⊥
