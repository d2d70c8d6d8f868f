-- What is built so far: theories without variables and contexts, and statements on derivations alone.
use Rattle.std.specs.Prelude.{◌≡◌, [], None}
use Rattle.std.specs.List.{AllByRecursion}
use Rattle.scheme_terms.specs.declared.scheme.Root.TheVariants.{Closed}
use Rattle.rule_schemes.specs.Rules.{Theory}
use Rattle.rule_schemes.specs.Statement.{StatementInput, given, syntax_input, Theorem}
use Rattle.rule_schemes.specs.declared.rule.Judgment.{Judgment}
use Rattle.user_grammar.specs.Bare.{IsBareSignature}
use Rattle.rule_schemes.specs.Reading.{AreSpelledApart}

-- the judgment assumes no context
pub record IsBareJudgment (j : Judgment) : Type 0 where
  pub no_context : j.ctx ≡ None

-- A theory without variables and contexts. That no word is a spelling of two categories holds of each signature for which a file stands.
pub record IsBareTheory (th : Theory) : Type 0 where
  pub sig : IsBareSignature th.sig
  pub apart : AreSpelledApart th.sig
  pub judgments : AllByRecursion IsBareJudgment th.judgments

abbrev pub IsGivenInput : StatementInput → Type 0
IsGivenInput (given j) = Unit {0}
IsGivenInput (syntax_input m) = ⊥

-- a statement over no context, all of whose inputs are derivations, without targets, and whose metavariables have no parameters
pub record IsBareStatement (st : Theorem) : Type 0 where
  pub root : st.scope.root ≡ Closed
  pub inputs : AllByRecursion IsGivenInput st.inputs
  pub targets : st.targets ≡ []
  pub parameters : AllByRecursion (λ decl. decl.params ≡ []) st.scope.metas
