-- What is asked of the scope of a form, and the forms in which nothing binds.
use Rattle.std.specs.Prelude.{◌≡◌, List, [], None}
use Rattle.std.specs.List.{AllByRecursion}
use Rattle.binding_terms.specs.Signature.{Signature}
use Rattle.scheme_terms.specs.declared.scheme.MetaDecl.{MetaDecl}
use Rattle.rule_schemes.specs.Reading.{ReadingScope, not_fresh, fresh_names}
use Rattle.rule_schemes.specs.Said.{Want, want_term, want_judgment, want_context}
use Rattle.rule_schemes.specs.declared.rule.Judgment.{Judgment}
use Rattle.term_reader.specs.Names.{NamesApart}
use Rattle.notation_parser.specs.Shapes.{KnownsApart}
use Rattle.notation_parser.specs.Used.{KnownsStand}

-- no category has variables, no two metavariables have one name, and no metavariable has parameters
pub record HasNoVariablesNorParameters (sig : Signature) (metas : List MetaDecl) : Type 0 where
  pub variables : AllByRecursion (λ c. c.var ≡ None) sig.cats
  pub names : NamesApart metas
  pub parameters : AllByRecursion (λ m. m.params ≡ []) metas

abbrev pub IsNoContext : Want → Type 0
IsNoContext (want_term c) = Unit {0}
IsNoContext want_judgment = Unit {0}
IsNoContext (want_context c) = ⊥

-- What is asked of a scope where forms are read over some metavariables: no two of them have one name, nor two known variables of
-- the scope.
pub record IsReadableOver (scope : ReadingScope) (metas : List MetaDecl) : Type 0 where
  pub names : NamesApart metas
  pub apart : KnownsApart scope.names.knowns

-- What is asked of a scope in which forms are read: its names are told apart. Where new metavariables may stand beside them, outside the
-- head of a case, the entries of its known variables are written over its own metavariables.
pub record IsReadable (scope : ReadingScope) : Type 0 where
  pub over : IsReadableOver scope scope.names.metas
  pub stand : scope.fresh ≡ fresh_names → KnownsStand scope

-- Forms in which nothing binds: no judgment assumes a context, no variable is in scope, and no new name
-- may stand in the form.
pub record IsPlain (sig : Signature) (js : List Judgment) (scope : ReadingScope) (want : Want) : Type 0 where
  pub nothing_binds : HasNoVariablesNorParameters sig scope.names.metas
  pub judgments : AllByRecursion (λ j. j.ctx ≡ None) js
  pub knowns : scope.names.knowns ≡ []
  pub vars : scope.vars ≡ []
  pub fresh : scope.fresh ≡ not_fresh
  pub no_context : IsNoContext want
