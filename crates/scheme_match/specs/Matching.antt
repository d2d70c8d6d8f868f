-- What a matcher holds, and the ground instance that makes its pairs equal.
use Rattle.std.specs.Prelude.{◌≡◌, ℕ, List, [], ◌++◌, length, map, Option, Some, None}
use Rattle.std.specs.List.{AllByRecursion, AllZip}
use Rattle.binding_terms.specs.Numbered.{AnyByRecursion, AllNumbered}
use Rattle.binding_terms.specs.Tree.{Tree}
use Rattle.binding_terms.specs.Signature.{Signature, Place, Fits}
use Rattle.binding_terms.specs.Scope.{IsTerm}
use Rattle.scheme_terms.specs.SchemeTree.{SchemeTree, StrictIn}
use Rattle.scheme_terms.specs.Forms.{Names, ContextValue, Instance}
use Rattle.scheme_terms.specs.Context.{AreArguments, IsValue, scope_of}
use Rattle.scheme_terms.specs.Instance.{instance_of, IsMetaValue}
use Rattle.scheme_terms.specs.SchemeScope.{IsScheme, AreSchemes, IsSchemeContext, IsRoot, entry_variables}
use Rattle.scheme_terms.specs.declared.scheme.MetaDecl.{MetaDecl}
use Rattle.rule_schemes.specs.Rules.{JudgmentScheme, JudgmentValue, IsInstance, StrictInJudgment}
use Rattle.scheme_terms.specs.declared.scheme.Root.{Root}

-- a pattern and what it is to become; the second kind stands under so many locals
pub data Matched : Type 0 where
  judgments : JudgmentScheme → JudgmentValue → Matched
  terms : (locals : ℕ) → SchemeTree → Tree → Matched

-- the metavariables, the places of the known variables, the root's value, and the pairs that were added
pub record Matching : Type 0 where
  pub sig : Signature
  pub metas : List MetaDecl
  pub knowns : List ℕ
  pub root : ContextValue
  pub pairs : List Matched

-- Both are in scope by the signature: the pattern in that of these metavariables, with any known variables, under the variables of
-- its own entries, and the judgment in that of a value of its context. Their arguments are, place by place, of one category.
pub record JudgmentsFit (sig : Signature) (metas : List MetaDecl) (j : JudgmentScheme) (v : JudgmentValue) : Type 0 where
  pub names : Names
  pub metas_are : names.metas ≡ metas
  pub root : IsRoot sig j.context.root
  pub entries : IsSchemeContext sig names j.context
  pub form : Root
  pub context : IsValue sig form v.context
  pub places : List Place
  pub schemes : AreSchemes sig names (entry_variables sig [] j.context.entries) places j.args
  pub values : AreArguments sig (scope_of sig v.context) places v.args

-- The pattern and the term are of one category, under so many locals, in the scope of these metavariables, with any known
-- variables, and of the root's variables.
pub record TermsFit (sig : Signature) (metas : List MetaDecl) (root : ContextValue) (n : ℕ) (s : SchemeTree) (t : Tree) : Type 0 where
  pub names : Names
  pub metas_are : names.metas ≡ metas
  pub locals : List ℕ
  pub number : length locals ≡ n
  pub cat : ℕ
  pub scheme_fits : IsScheme sig names locals cat s
  pub value_fits : IsTerm sig (locals ++ scope_of sig root) cat t

-- what is owed of a pair: judgments of different kinds need not go together
abbrev pub PairFits : Signature → List MetaDecl → ContextValue → Matched → Type 0
PairFits sig metas root (judgments j v) = j.judgment ≡ v.judgment → JudgmentsFit sig metas j v
PairFits sig metas root (terms n s t) = TermsFit sig metas root n s t

-- what holds of every matcher
pub record IsMatching (m : Matching) : Type 0 where
  pub sig_fits : Fits m.sig
  pub pairs : AllByRecursion (PairFits m.sig m.metas m.root) m.pairs

-- the instance of the pattern is what it is to become
abbrev pub MakesEqual : Instance → Matched → Type 0
MakesEqual inst (judgments j v) = IsInstance inst j v
MakesEqual inst (terms n s t) = instance_of inst n s ≡ t

-- a ground instance over this root and with these places that makes all pairs equal
pub record IsMatch (m : Matching) (inst : Instance) : Type 0 where
  pub root : inst.root ≡ m.root
  pub metas : AllZip (IsMetaValue m.sig inst) m.metas inst.metas
  pub knowns : inst.knowns ≡ map Some m.knowns
  pub pairs : AllByRecursion (MakesEqual inst) m.pairs

-- the one such instance, or none where there is none
abbrev pub IsOnlyMatch : Matching → Option Instance → Type 0
IsOnlyMatch m None = (inst : Instance) → IsMatch m inst → ⊥
IsOnlyMatch m (Some inst) = IsMatch m inst × ((other : Instance) → IsMatch m other → other ≡ inst)

-- the metavariable has a strict occurrence in the pattern
abbrev pub StrictInPair : ℕ → Matched → Type 0
StrictInPair n (judgments j v) = StrictInJudgment n j
StrictInPair n (terms locals s t) = StrictIn n s

-- each metavariable has a strict occurrence in one of the patterns
abbrev pub AreStrict : Matching → Type 0
AreStrict m = AllNumbered (λ n decl. AnyByRecursion (StrictInPair n) m.pairs) 0 m.metas
