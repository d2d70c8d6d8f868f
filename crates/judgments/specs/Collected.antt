-- The metavariables of tokens, as they are collected: every word that is a spelling of a category, in the order of first places, without
-- parameters.
use Rattle.std.specs.Prelude.{◌≡◌, ◌⊎◌, ◌++◌, ◌∷◌, ℕ, List, [], map}
use Rattle.std.specs.List.{AllByRecursion}
use Rattle.binding_terms.specs.Numbered.{AnyByRecursion}
use Rattle.binding_terms.specs.declared.grammar.Cat.{Cat}
use Rattle.scheme_terms.specs.SchemeScope.{AreDifferentNames}
use Rattle.scheme_terms.specs.declared.scheme.MetaDecl.{MetaDecl}
use Rattle.rule_schemes.specs.Reading.{Token, word, IsCategoryWord}
use Rattle.rule_schemes.specs.NewNames.{AreInOrder}
use Rattle.judgments.specs.Spellings.{IsNoSpelling}

abbrev pub IsAmong : List ℕ → List MetaDecl → Type 0
IsAmong w metas = AnyByRecursion (λ decl. decl.name ≡ w) metas

abbrev pub StandsIn : List ℕ → List Token → Type 0
StandsIn w tokens = AnyByRecursion (λ t. t ≡ word w) tokens

-- a metavariable without parameters: a word of the tokens that is a spelling of its category
pub record IsCollected (cats : List Cat) (tokens : List Token) (decl : MetaDecl) : Type 0 where
  pub written : StandsIn decl.name tokens
  pub cat : IsCategoryWord cats decl.cat.0 decl.name
  pub params : decl.params ≡ []

pub record AreCollected (cats : List Cat) (tokens : List Token) (metas : List MetaDecl) : Type 0 where
  pub each : AllByRecursion (IsCollected cats tokens) metas
  pub all : (w : List ℕ) (c : ℕ) → StandsIn w tokens → IsCategoryWord cats c w → IsAmong w metas
  pub differ : AreDifferentNames (map (λ decl. decl.name) metas)
  pub in_order : AreInOrder tokens metas

-- the same in any order
pub record AreGathered (cats : List Cat) (tokens : List Token) (metas : List MetaDecl) : Type 0 where
  pub each : AllByRecursion (IsCollected cats tokens) metas
  pub all : (w : List ℕ) (c : ℕ) → StandsIn w tokens → IsCategoryWord cats c w → IsAmong w metas
  pub differ : AreDifferentNames (map (λ decl. decl.name) metas)

-- the token brings no new name
pub record IsKept (cats : List Cat) (before : List MetaDecl) (t : Token) (after : List MetaDecl) : Type 0 where
  pub same : after ≡ before
  pub no_new : (w : List ℕ) → t ≡ word w → IsNoSpelling cats w ⊎ IsAmong w before

-- the token brings this name, without parameters
pub record IsAdded (cats : List Cat) (before : List MetaDecl) (t : Token) (after : List MetaDecl) : Type 0 where
  pub decl : MetaDecl
  pub at_end : after ≡ before ++ decl ∷ []
  pub written : t ≡ word decl.name
  pub cat : IsCategoryWord cats decl.cat.0 decl.name
  pub params : decl.params ≡ []
  pub new : IsAmong decl.name before → ⊥

-- the names after one token more
abbrev pub AreNext : List Cat → (before : List MetaDecl) → Token → (after : List MetaDecl) → Type 0
AreNext cats before t after = IsKept cats before t after ⊎ IsAdded cats before t after

-- the names after more tokens, whatever stood before
abbrev pub AreCollectedFrom : List Cat → (before : List MetaDecl) → List Token → (after : List MetaDecl) → Type 0
AreCollectedFrom cats before tokens after =
    (front : List Token) → AreCollected cats front before → AreCollected cats (front ++ tokens) after

-- names at the end more
abbrev pub IsLonger : (before after : List MetaDecl) → Type 0
IsLonger before after = (more : List MetaDecl) × (after ≡ before ++ more)
