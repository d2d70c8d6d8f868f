-- A call as an instance of a statement. To be held against docs/notation.md, 'Calls'.
use Rattle.std.specs.Prelude.{ℕ, List}
use Rattle.scheme_terms.specs.Forms.{SchemeEntry, SchemeContext, Names, Substitution}
use Rattle.scheme_terms.specs.declared.scheme.MetaDecl.{MetaDecl}
use Rattle.rule_schemes.specs.Rules.{JudgmentScheme, Theory}
use Rattle.rule_schemes.specs.Statement.{Theorem}
use Rattle.rule_schemes.specs.Placed.{root_in, entries_in}
use Rattle.theorem_calls.specs.Raised.{Argument, call_context}
use Rattle.theorem_calls.specs.Roots.{HasRoot}
use Rattle.theorem_calls.specs.Answers.{CountsAgree, IsCalled}

-- The call is an instance of the callee's statement, raised to these first explicit entries.
pub record IsCall (th : Theory) (scope : Names) (fresh : List MetaDecl) (callee : Theorem) (args : List Argument) (results : List JudgmentScheme)
    (first : List SchemeEntry) : Type 0 where
  pub counts : CountsAgree callee args results
  pub entries : ℕ
  pub root : HasRoot th scope callee args results entries first
  pub values : Substitution
  pub names : List ℕ
  pub called : IsCalled th scope fresh callee args results first values names

-- what stands for the callee's root there: the call's context, or the callee's root where that is none
abbrev pub callee_context : Names → Theorem → (first : List SchemeEntry) → SchemeContext
callee_context scope callee first =
    record {
      root = root_in (call_context scope callee first) callee.scope.root;
      entries = entries_in (call_context scope callee first) callee.scope.root;
    }
