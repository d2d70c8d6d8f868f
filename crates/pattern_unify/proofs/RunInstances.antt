-- What a solved run has kept: the common instances, and a line for each name that stands.
use Rattle.std.proofs.Common.{◌≡◌, ◌↔◌, ℕ, List, [], ◌∷◌, length, map, refl, ap, sym, ◌∙◌, subst, arith}
use Rattle.std.specs.List.{AllByRecursion}
use Rattle.std.proofs.lemmas.Option.{slice_get_within}
use Rattle.std.proofs.lemmas.Slice.Zip.{AllZip-long}
use Rattle.binding_terms.specs.Signature.{Signature, Fits}
use Rattle.scheme_terms.specs.SchemeTree.{SchemeTree, local}
use Rattle.scheme_terms.specs.Forms.{Names, Substitution, Instance}
use Rattle.scheme_terms.specs.SchemeScope.{KnownsFit}
use Rattle.scheme_terms.specs.Substituting.{applied, known_for, composed, metas_from, knowns_from, identity, Suits, IsSaturated, IsSubstitution}
use Rattle.scheme_terms.proofs.Makings.{applied_making}
use Rattle.scheme_terms.proofs.Identities.{identity_is_substitution, identity_changes_nothing}
use Rattle.pattern_unify.specs.Equations.{SchemeEquation, AreToUnify}
use Rattle.pattern_unify.specs.CommonInstance.{MakesEqual, IsCommonInstance, IsCommonGroundInstance}
use Rattle.pattern_unify.specs.State.{State, Step, names_of, start, metas_but}
use Rattle.pattern_unify.specs.Run.{IsSolved, End, solved, clashed, stuck, Runs, is_solved, is_stuck, has_clash, turns}
use Rattle.pattern_unify.specs.Laws.{IsState}
use Rattle.pattern_unify.specs.CommonLaws.{IsOfState, IsGroundOfState, StartHasCommonInstances}
use Rattle.pattern_unify.proofs.TypedSuits.{typed_all_suit}
use Rattle.pattern_unify.proofs.StepInstances.{metas_become}
use Rattle.pattern_unify.proofs.MovedNames.{metas_but_none, knowns_but_none}
use Rattle.pattern_unify.proofs.SubstitutionMoves.{knowns_stay, each_has_value}
use Rattle.pattern_unify.proofs.GroundMoves.{same_together}
use Rattle.pattern_unify.proofs.StatesKept.{turn_keeps_state}
use Rattle.pattern_unify.proofs.TurnInstances.{turn_keeps_common_instances}
use Rattle.pattern_unify.proofs.GroundTurns.{ground_instances_stay}
use Rattle.pattern_unify.proofs.LinesKept.{HasLines, saturated}
use Rattle.pattern_unify.proofs.LinesOfRuns.{start_has_lines, turn_keeps_lines, known_stays}

-- what is kept from a state to another
pub record Keeps (sig : Signature) (names : Names) (st final : State) : Type 0 where
  pub state : IsState sig names final
  pub lines : HasLines final
  pub solved_there : IsSolved final
  pub common : (by : Substitution) → IsOfState sig st by ↔ IsOfState sig final by
  pub ground_ones : (inst : Instance) → IsGroundOfState sig names st inst → IsGroundOfState sig names final inst

abbrev the_state : State → End → State
the_state other (solved st) = st
the_state other clashed = other
the_state other (stuck st) = other

abbrev kind : End → ℕ
kind (solved st) = 0
kind clashed = 1
kind (stuck st) = 2

run_keeps : (sig : Signature) (names : Names) (st : State) (end : End) (final : State) → Fits sig → IsState sig names st → HasLines st → Runs sig st end →
    end ≡ solved final → Keeps sig names st final
run_keeps sig names st end final fits state lines (is_solved s h) e =
    let same : s ≡ final = ap (the_state s) e in
    subst (Keeps sig names s) same (record {
      state = state;
      lines = lines;
      solved_there = h;
      common = λ by. ((λ o. o), (λ o. o));
      ground_ones = λ inst o. o;
    })
run_keeps sig names st end final fits state lines (is_stuck s h) e = absurd (omega (arith, ap kind e))
run_keeps sig names st end final fits state lines (has_clash s turn) e = absurd (omega (arith, ap kind e))
run_keeps sig names st end final fits state lines (turns s next last turn rest) e =
    let later = run_keeps sig names next last final fits (turn_keeps_state sig names s next fits state turn) (turn_keeps_lines sig names s next state lines turn) rest e in
    record {
      state = later.state;
      lines = later.lines;
      solved_there = later.solved_there;
      common = λ by. (
        (λ o. (later.common by).0 ((turn_keeps_common_instances sig names s next by fits state turn).0 o)),
        (λ o. (turn_keeps_common_instances sig names s next by fits state turn).1 ((later.common by).1 o)),
      );
      ground_ones = λ inst o. later.ground_ones inst (ground_instances_stay sig names s next inst state turn o);
    }

-- names for themselves, and a substitution after them
pub identity_first : (sig : Signature) (names : Names) (by : Substitution) → KnownsFit sig names → IsSubstitution sig names by → composed (identity names) by ≡ by
identity_first sig names by fits is =
    ap (λ ts. by_these ts (map (known_for by.knowns) (knowns_from 0 names.knowns))) metas ∙ ap (by_these by.metas) (knowns_stay by.knowns names.knowns many)
  where
    by_these : List SchemeTree → List ℕ → Substitution
    by_these ts ks = record { metas = ts; knowns = ks; into = by.into }

    many : length by.knowns ≡ length names.knowns
    many = AllZip-long _ names.knowns by.knowns is.knowns

    unchanged : metas_but (length names.metas) (local 0) 0 names.metas ≡ metas_from 0 names.metas
    unchanged = metas_but_none (length names.metas) (local 0) 0 names.metas (omega arith)

    metas : map (applied by.metas by.knowns 0) (metas_from 0 names.metas) ≡ by.metas
    metas =
        ap (map (applied by.metas by.knowns 0)) (sym unchanged)
        ∙ metas_become (length names.metas) (local 0) names.metas by.metas by.knowns by.metas (AllZip-long _ names.metas by.metas is.metas)
        (subst (AllByRecursion (Suits by.metas by.knowns)) (sym unchanged)
        (typed_all_suit sig names by.into by.metas by.knowns is.metas many names.metas (metas_from 0 names.metas) (identity_is_substitution sig names fits).metas))
        (λ k decl v declared e. each_has_value (applied_making by.metas by.knowns) by.metas (length names.metas) (local 0) k decl v e refl
        (λ there. absurd (let within = slice_get_within names.metas k decl declared in let no : ⊥ = omega (arith, there, within) in no)))

pub start_has_common_instances : StartHasCommonInstances
start_has_common_instances sig names eqs by fits owed = (
  (λ common. record { after = by; common = common; same = identity_first sig names by owed.knowns common.schemes }),
  (λ o. subst (IsCommonInstance sig names eqs) (sym (identity_first sig names o.after owed.knowns o.common.schemes) ∙ o.same) o.common),
)

pub start_has_ground_instances : (sig : Signature) (names : Names) (eqs : List SchemeEquation) (inst : Instance) → AreToUnify sig names eqs →
    IsCommonGroundInstance sig names eqs inst → IsGroundOfState sig names (start names eqs) inst
start_has_ground_instances sig names eqs inst owed common = record {
  after = inst;
  common = common;
  same = same_together sig names owed.knowns inst common.scope (length names.metas) (local 0) nothing
      (sym (metas_but_none (length names.metas) (local 0) 0 names.metas (omega arith))) inst.metas (length names.knowns) (length names.knowns)
      (sym (knowns_but_none (length names.knowns) (length names.knowns) 0 names.knowns (omega arith))) refl (λ k o e. e)
      (λ decl declared. absurd (let within = slice_get_within names.metas (length names.metas) decl declared in let no : ⊥ = omega (arith, within) in no));
}
  where
    nothing : Step
    nothing = record { metas = metas_from 0 names.metas; knowns = knowns_from 0 names.knowns; made = [] }

-- what the run has found is a common instance
all_same : (scope : Names) (ss : List SchemeTree) → AllByRecursion (IsSaturated scope.metas) ss → map (applied (identity scope).metas (identity scope).knowns 0) ss ≡ ss
all_same scope [] h = refl
all_same scope (s ∷ ss) h =
    ap (λ t. t ∷ map (applied (identity scope).metas (identity scope).knowns 0) ss) (identity_changes_nothing scope 0 s h.0) ∙ ap (λ ts. s ∷ ts) (all_same scope ss h.1)

numbers_same : (scope : Names) (ks : List ℕ) → map (known_for (knowns_from 0 scope.knowns)) ks ≡ ks
numbers_same scope [] = refl
numbers_same scope (k ∷ ks) =
    ap (λ j. j ∷ map (known_for (knowns_from 0 scope.knowns)) ks) (known_stays scope.knowns k) ∙ ap (λ js. k ∷ js) (numbers_same scope ks)

identity_last : (sig : Signature) (names : Names) (st : State) → IsState sig names st → HasLines st → composed st.so_far (identity (names_of st)) ≡ st.so_far
identity_last sig names st state lines =
    ap (λ ts. by_these ts (map (known_for (knowns_from 0 (names_of st).knowns)) st.so_far.knowns)) (all_same (names_of st) st.so_far.metas (saturated sig names st state lines))
    ∙ ap (by_these st.so_far.metas) (numbers_same (names_of st) st.so_far.knowns)
  where
    by_these : List SchemeTree → List ℕ → Substitution
    by_these ts ks = record { metas = ts; knowns = ks; into = names_of st }

-- all of it, from the start of a run to its solved end
pub record Found (sig : Signature) (names : Names) (eqs : List SchemeEquation) (final : State) : Type 0 where
  pub state : IsState sig names final
  pub lines : HasLines final
  pub itself : IsCommonInstance sig names eqs final.so_far
  pub common : (by : Substitution) → IsCommonInstance sig names eqs by → IsOfState sig final by
  pub ground_ones : (inst : Instance) → IsCommonGroundInstance sig names eqs inst → IsGroundOfState sig names final inst

pub solved_run_found : (sig : Signature) (names : Names) (eqs : List SchemeEquation) (final : State) → Fits sig → AreToUnify sig names eqs →
    Runs sig (start names eqs) (solved final) → Found sig names eqs final
solved_run_found sig names eqs final fits owed run =
    let first : IsState sig names (start names eqs) =
    record { root = refl; knowns = owed.knowns; sides = owed.sides; values = (identity_is_substitution sig names owed.knowns).metas } in
    let kept = run_keeps sig names (start names eqs) (solved final) final fits first (start_has_lines sig names eqs first) run refl in
    let own : IsOfState sig final final.so_far = record {
      after = identity (names_of final);
      common = record {
        scope = kept.state.knowns;
        schemes = identity_is_substitution sig (names_of final) kept.state.knowns;
        equal = subst (AllByRecursion (MakesEqual (identity (names_of final)).metas (identity (names_of final)).knowns)) (sym kept.solved_there) tt;
      };
      same = identity_last sig names final kept.state kept.lines;
    } in
    record {
      state = kept.state;
      lines = kept.lines;
      itself = (start_has_common_instances sig names eqs final.so_far fits owed).1 ((kept.common final.so_far).1 own);
      common = λ by common. (kept.common by).0 ((start_has_common_instances sig names eqs by fits owed).0 common);
      ground_ones = λ inst common. kept.ground_ones inst (start_has_ground_instances sig names eqs inst owed common);
    }
