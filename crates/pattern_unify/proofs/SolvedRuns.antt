-- What a solved run has found is, over the names that are left, a most general common instance.
use Rattle.std.proofs.Common.{◌≡◌, List}
use Rattle.binding_terms.specs.Signature.{Signature, Fits}
use Rattle.scheme_terms.specs.Forms.{Names, Substitution}
use Rattle.scheme_terms.specs.Substituting.{composed}
use Rattle.pattern_unify.specs.Equations.{SchemeEquation, AreToUnify}
use Rattle.pattern_unify.specs.CommonInstance.{IsCommonInstance}
use Rattle.pattern_unify.specs.State.{State, start}
use Rattle.pattern_unify.specs.LeftNames.{left_names}
use Rattle.pattern_unify.specs.MostGeneral.{IsThroughOnce}
use Rattle.pattern_unify.specs.Run.{solved, Runs}
use Rattle.pattern_unify.specs.CommonLaws.{SolvedIsMostGeneral, MostGeneralIsUpToReach}
use Rattle.pattern_unify.proofs.RunInstances.{Found, solved_run_found}
use Rattle.pattern_unify.proofs.LeftInstances.{left_is_common}
use Rattle.pattern_unify.proofs.ThroughLeft.{through_once}
use Rattle.pattern_unify.proofs.GroundThroughLeft.{ground_through_once}

module _ (sig : Signature) (names : Names) (eqs : List SchemeEquation) (st : State) (fits : Fits sig) (owed : AreToUnify sig names eqs)
    (run : Runs sig (start names eqs) (solved st)) where
  found : Found sig names eqs st
  found = solved_run_found sig names eqs st fits owed run

  -- its names stand over the root of the scope
  pub left_root : (composed st.so_far (left_names st)).into.root ≡ names.root
  left_root = found.state.root

  -- each common instance is one after it
  pub left_leads_to_every : (other : Substitution) → IsCommonInstance sig names eqs other → IsThroughOnce sig (composed st.so_far (left_names st)) other
  left_leads_to_every other common = through_once sig names eqs st owed.knowns owed.sides found other (found.common other common)

pub left_is_most_general : SolvedIsMostGeneral
left_is_most_general sig names eqs st fits owed run =
    let one : Found sig names eqs st = found sig names eqs st fits owed run in
    record {
      common = left_is_common sig names eqs st owed.knowns owed.sides one;
      every = left_leads_to_every sig names eqs st fits owed run;
      ground_one = λ inst common. ground_through_once sig names eqs st owed.knowns owed.sides one inst (one.ground_ones inst common);
    }

pub most_general_up_to_reach : MostGeneralIsUpToReach
most_general_up_to_reach sig names eqs by is =
    record { common = is.common; every = λ other reached common. is.every other common; ground_one = is.ground_one }
