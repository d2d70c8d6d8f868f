-- When a written case is a most general one of a choice. To be held against docs/notation.md, 'Cases' (a most general case).
use Rattle.std.specs.Prelude.{◌≡◌, ◌<◌, ℕ, Some, List, map, slice_get}
use Rattle.binding_terms.specs.Signature.{Signature}
use Rattle.scheme_terms.specs.Forms.{Names, Substitution}
use Rattle.scheme_terms.specs.Substituting.{applied}
use Rattle.scheme_terms.specs.declared.scheme.MetaDecl.{MetaDecl}
use Rattle.rule_schemes.specs.Placed.{applied_judgment}
use Rattle.pattern_unify.specs.Equations.{SchemeEquation}
use Rattle.pattern_unify.specs.MostGeneral.{IsMostGeneralUpToReach}
use Rattle.case_split.specs.Choice.{JudgmentChoice, SyntaxChoice}
use Rattle.coverage_check.specs.Case.{Case, TermCase, Head, head_of, term_head_of, IsWrittenMeta}
use Rattle.coverage_check.specs.Refinement.{StandsForItself, HoldsItsNames}

-- A case is a most general one of the choice: it is of the choice's rule and place, and its forms, with the values of the outer names, are a common
-- instance of the choice's system that is most general.
pub record IsMostGeneralCase (sig : Signature) (outer : Names) (choice : JudgmentChoice) (c : Case) (by : Substitution) : Type 0 where
  pub rule : c.rule ≡ choice.rule
  pub place : c.place ≡ choice.place
  pub root : c.scope.root ≡ outer.root
  pub into : by.into ≡ c.scope
  pub most_general : IsMostGeneralUpToReach sig choice.names choice.equations by
  pub premises : map (applied_judgment by) choice.premises ≡ c.premises
  pub conclusion : applied_judgment by choice.conclusion ≡ c.conclusion
  pub names : HoldsItsNames outer by c.scope (head_of c)

-- the same of a case of a term, under so many explicit entries
pub record IsMostGeneralTermCase (sig : Signature) (outer : Names) (entries : ℕ) (choice : SyntaxChoice) (c : TermCase) (by : Substitution) : Type 0 where
  pub prod : c.prod ≡ choice.prod
  pub place : c.place ≡ choice.place
  pub root : c.scope.root ≡ outer.root
  pub into : by.into ≡ c.scope
  pub most_general : IsMostGeneralUpToReach sig choice.names choice.equations by
  pub form : applied by.metas by.knowns entries choice.term ≡ c.term
  pub names : HoldsItsNames outer by c.scope (term_head_of c)

-- an outer metavariable that the case writes
pub record IsWrittenOuter (outer scope : Names) (head : Head) (m : ℕ) (decl : MetaDecl) : Type 0 where
  pub outer_name : slice_get outer.metas m ≡ Some decl
  pub at : ℕ
  pub there : MetaDecl
  pub in_scope : slice_get scope.metas at ≡ Some there
  pub spelled : there.name ≡ decl.name
  pub written : IsWrittenMeta outer scope head at

-- the substitution takes the outer metavariable to itself
abbrev pub TakesToItself : Substitution → ℕ → MetaDecl → Type 0
TakesToItself by m decl = (at : ℕ) × StandsForItself by m decl at

-- The name is taken: no most general common instance takes it, and all written outer metavariables before it, to themselves.
pub record IsTaken (sig : Signature) (outer choice_names : Names) (eqs : List SchemeEquation) (scope : Names) (head : Head) (m : ℕ) : Type 0 where
  pub decl : MetaDecl
  pub written : IsWrittenOuter outer scope head m decl
  pub none : (by : Substitution) → IsMostGeneralUpToReach sig choice_names eqs by → TakesToItself by m decl →
      ((earlier : ℕ) (other : MetaDecl) → earlier < m → IsWrittenOuter outer scope head earlier other → TakesToItself by earlier other) → ⊥

-- the first name that is taken, in the order of the outer scope
pub record IsFirstTaken (sig : Signature) (outer choice_names : Names) (eqs : List SchemeEquation) (scope : Names) (head : Head) (m : ℕ) : Type 0 where
  pub taken : IsTaken sig outer choice_names eqs scope head m
  pub first : (earlier : ℕ) → earlier < m → IsTaken sig outer choice_names eqs scope head earlier → ⊥

-- no name is taken
abbrev pub NoneIsTaken : Signature → (outer choice_names : Names) → List SchemeEquation → (scope : Names) → Head → Type 0
NoneIsTaken sig outer choice_names eqs scope head = (m : ℕ) → IsTaken sig outer choice_names eqs scope head m → ⊥
