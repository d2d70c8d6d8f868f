-- What the answers of `call` say, the first that applies. To be held against docs/notation.md, 'Calls' (the order of answers).
use Rattle.std.specs.Prelude.{◌≡◌, ◌<◌, ◌≤◌, ℕ, Bool, List, [], length}
use Rattle.scheme_terms.specs.Forms.{Names, SchemeEntry, Substitution}
use Rattle.scheme_terms.specs.declared.scheme.MetaDecl.{MetaDecl}
use Rattle.rule_schemes.specs.Rules.{JudgmentScheme, Theory}
use Rattle.rule_schemes.specs.Raising.{TestsReach}
use Rattle.rule_schemes.specs.Statement.{Theorem}
use Rattle.rule_schemes.specs.Placed.{entry_cats}
use Rattle.theorem_calls.specs.Raised.{Argument, all_over_entries, entries_of_first}
use Rattle.theorem_calls.specs.Roots.{HasRoot}
use Rattle.theorem_calls.specs.Call.{IsInstanceUpTo, IsStatementInstance, with_fresh}

-- an answer of `call`, as plain data
pub data CallAnswer : Type 0 where
  called : (entries : ℕ) → (values : Substitution) → (fresh : List ℕ) → CallAnswer
  wrong_count : CallAnswer
  root_mismatch : CallAnswer
  arg_mismatch : (number : ℕ) → CallAnswer
  result_mismatch : CallAnswer

-- there are as many arguments as inputs and as many results as outputs
abbrev pub CountsAgree : Theorem → List Argument → List JudgmentScheme → Type 0
CountsAgree callee args results = (length args ≡ length callee.inputs) × (length results ≡ length callee.outputs)

-- the first so many arguments are an instance of the inputs, and no smaller number of entries is asked for than these
abbrev pub AreInstance : Theory → Names → Theorem → List SchemeEntry → List Argument → List JudgmentScheme → (count : ℕ) → Type 0
AreInstance th scope callee first args results count =
    (reaches : ℕ → ℕ → Bool) × TestsReach th.sig reaches × IsInstanceUpTo th scope reaches callee first args (entries_of_first results) count

-- the argument with this number, counted from 1, is the first that is no instance together with those before it
pub record IsFirstMismatch (th : Theory) (scope : Names) (callee : Theorem) (first : List SchemeEntry) (args : List Argument)
    (results : List JudgmentScheme) (i : ℕ) : Type 0 where
  pub some : 1 ≤ i
  pub in_range : i ≤ length args
  pub none : AreInstance th scope callee first args results i → ⊥
  pub before : (count : ℕ) → count < i → AreInstance th scope callee first args results count

-- The call is an instance of the statement, raised to these entries, with these values over all of them, and these new names. The callee has no known
-- variable.
pub record IsCalled (th : Theory) (scope : Names) (fresh : List MetaDecl) (callee : Theorem) (args : List Argument) (results : List JudgmentScheme)
    (first : List SchemeEntry) (values : Substitution) (names : List ℕ) : Type 0 where
  pub reaches : ℕ → ℕ → Bool
  pub tests : TestsReach th.sig reaches
  pub by : Substitution
  pub is_instance : IsStatementInstance th scope fresh reaches callee first args results by names
  pub into : values.into ≡ with_fresh scope fresh
  pub metas : values.metas ≡ all_over_entries reaches (entry_cats th.sig first) callee.scope.metas by.metas
  pub knowns : values.knowns ≡ []

-- The contract of `call`.
abbrev pub IsCallAnswer : Theory → Names → (fresh : List MetaDecl) → Theorem → List Argument → List JudgmentScheme → CallAnswer → Type 0
IsCallAnswer th scope fresh callee args results (called k values names) =
    CountsAgree callee args results
    × ((first : List SchemeEntry) × HasRoot th scope callee args results k first × IsCalled th scope fresh callee args results first values names)
IsCallAnswer th scope fresh callee args results wrong_count = CountsAgree callee args results → ⊥
IsCallAnswer th scope fresh callee args results root_mismatch =
    CountsAgree callee args results × ((k : ℕ) (first : List SchemeEntry) → HasRoot th scope callee args results k first → ⊥)
IsCallAnswer th scope fresh callee args results (arg_mismatch i) =
    CountsAgree callee args results
    × ((k : ℕ) × (first : List SchemeEntry) × HasRoot th scope callee args results k first × IsFirstMismatch th scope callee first args results i)
IsCallAnswer th scope fresh callee args results result_mismatch =
    CountsAgree callee args results
    × ((k : ℕ) × (first : List SchemeEntry) × HasRoot th scope callee args results k first
    × AreInstance th scope callee first args results (length args)
    × ((values : Substitution) (names : List ℕ) → IsCalled th scope fresh callee args results first values names → ⊥))
