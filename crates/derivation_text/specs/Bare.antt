-- The condition under which derivation texts are read so far.
use Rattle.std.specs.Prelude.{◌≡◌, None}
use Rattle.std.specs.List.{AllByRecursion}
use Rattle.rule_schemes.specs.Rules.{Theory}
use Rattle.rule_schemes.specs.Plain.{IsPlainTheory}
use Rattle.rule_schemes.specs.Statement.{Theorem, StatementInput, given, syntax_input}

-- Nothing binds, and no judgment assumes a context. So no category has variables, none is one of contexts, and each text with a context
-- line is refused.
pub record HasNoContexts (th : Theory) : Type 0 where
  pub plain : IsPlainTheory th
  pub variables : AllByRecursion (λ cat. cat.var ≡ None) th.sig.cats
  pub judgments : AllByRecursion (λ j. j.ctx ≡ None) th.judgments

-- each input of the statement is a derivation
abbrev pub IsDerivation : StatementInput → Type 0
IsDerivation (given j) = Unit {0}
IsDerivation (syntax_input m) = ⊥

abbrev pub TakesDerivations : Theorem → Type 0
TakesDerivations st = AllByRecursion IsDerivation st.inputs
