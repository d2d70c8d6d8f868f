-- What the answers of `unify` say. To be held against docs/notation.md, 'Unification' (its answers).
use Rattle.std.specs.Prelude.{◌≡◌, List, map}
use Rattle.binding_terms.specs.Signature.{Signature}
use Rattle.scheme_terms.specs.Forms.{Names, Substitution}
use Rattle.scheme_terms.specs.View.{substitution}
use Rattle.pattern_unify.specs.declared.unified.Unified.{Unified}
use Rattle.pattern_unify.specs.declared.unified.Unified.TheVariants.{Unifier, NoUnifier, Outside}
use Rattle.pattern_unify.specs.Equations.{SchemeEquation, equation}
use Rattle.pattern_unify.specs.CommonInstance.{HaveCommonInstance}
use Rattle.pattern_unify.specs.MostGeneral.{IsMostGeneral}
use Rattle.pattern_unify.specs.Run.{EndsStuck, IsWithinFragment}

-- an answer of `unify`, as plain data
pub data UnifyAnswer : Type 0 where
  unifier : Substitution → UnifyAnswer
  no_unifier : UnifyAnswer
  outside : List SchemeEquation → UnifyAnswer

abbrev pub unify_answer : Unified → UnifyAnswer
unify_answer (Unifier by) = unifier (substitution by)
unify_answer NoUnifier = no_unifier
unify_answer (Outside eqs) = outside (map equation eqs)

-- A most general common instance, where the run does not end stuck. Its names stand over the root of the scope.
pub record IsUnifier (sig : Signature) (names : Names) (eqs : List SchemeEquation) (by : Substitution) : Type 0 where
  pub root : by.into.root ≡ names.root
  pub most_general : IsMostGeneral sig names eqs by
  pub within : IsWithinFragment sig names eqs

-- there is no common instance, and the run does not end stuck
pub record IsNoUnifier (sig : Signature) (names : Names) (eqs : List SchemeEquation) : Type 0 where
  pub none : HaveCommonInstance sig names eqs → ⊥
  pub within : IsWithinFragment sig names eqs

-- the run ends stuck, with the equations that are left, in order
abbrev pub IsOutside : Signature → Names → (eqs left : List SchemeEquation) → Type 0
IsOutside sig names eqs left = EndsStuck sig names eqs left

-- The contract of `unify`. The three cases exclude each other, so each answer comes exactly where its case holds.
abbrev pub IsUnifyAnswer : Signature → Names → List SchemeEquation → UnifyAnswer → Type 0
IsUnifyAnswer sig names eqs (unifier by) = IsUnifier sig names eqs by
IsUnifyAnswer sig names eqs no_unifier = IsNoUnifier sig names eqs
IsUnifyAnswer sig names eqs (outside left) = IsOutside sig names eqs left
