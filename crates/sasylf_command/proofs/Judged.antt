-- What an accepted file says of what is run on it.
use Rattle.std.proofs.Common.{◌≡◌, ◌≢◌, ◌<◌, ℕ, zero, suc, List, [], ◌∷◌, map, length, Option, Some, None, Vec, Global, inl, inr, ap, sym, ◌∙◌, subst, arith}
use Rattle.std.proofs.lemmas.Bool.{cases_order}
use Rattle.std.specs.Prelude.{◌↔◌, Bool, IsTrue, IfNone, IfSome, MatchOption, slice_get, slice_index_or, option_map}
use Rattle.std.specs.List.{AllByRecursion}
use Rattle.core_proofs.specs.Kept.{Kept, kept_theory, kept_statements, kept_steps}
use Rattle.proof_check.specs.File.{IsRightSoFar, IsOnlyFile, IsSomeRight}
use Rattle.proof_check.specs.NotBuilt.{HasNotBuilt}
use Rattle.rule_schemes.specs.Rules.{Theory}
use Rattle.rule_schemes.specs.Derivation.{Derivation, Derives}
use Rattle.rule_schemes.specs.Statement.{Theorem, InputTree, derived, Instantiates, DeriveConclusions}
use Rattle.rule_schemes.specs.View.{statement as plain}
use Rattle.rule_schemes.specs.declared.rule.Statement.{Statement}
use Rattle.core_proofs.specs.Provable.{IsFirstNamed}
use Rattle.judgments.specs.Bare.{IsBareStatement}
use Rattle.derivation_text.specs.Bare.{TakesDerivations}
use Rattle.derivation_text.specs.Inputs as given
use Rattle.derivation_text.specs.Text.{derivations_text}
use Rattle.theorem_runner.specs.Instances.{no_context_value, IsDerived}
use Rattle.theorem_runner.specs.Runs.{IsRun}
use Rattle.sasylf_command.specs.Judging.{MakesText, IsAcceptedFor, IsKeptFor, HasRun, IsValueText, Run, IsRunOf, IsTextOn, IsTextFor}
use Rattle.binding_terms.proofs.Lists.{all_at}

-- where nothing is kept there is no run
pub no_run : (source theorem lines : List ℕ) → IsOnlyFile (IsRightSoFar source) None → HasRun source theorem lines → ⊥
no_run source theorem lines never stands = never _ _ _ stands.is_run.right

-- trees that derive are derived inputs
pub derived_all : (th : Theory) (trees : List Derivation) → AllByRecursion (Derives th) trees → AllByRecursion (IsDerived th) (map derived trees)
derived_all th [] h = tt
derived_all th (tree ∷ trees) h = (h.0, derived_all th trees h.1)

-- the text on the one list of inputs for which lines stand is the text for the lines
pub text_for : (kept : Kept) (k : ℕ) (st : Theorem) (lines : List ℕ) (xs : List InputTree) → given.StandsForInputs (kept_theory kept) st lines xs
    → ((ys : List InputTree) → given.StandsForInputs (kept_theory kept) st lines ys → ys ≡ xs) → (found : Option (List ℕ)) → IsTextOn kept k st xs found → IsTextFor kept k st lines found
text_for kept k st lines xs stand only None never =
    λ ys stand_ys fits. never (subst (λ (zs : List InputTree). Instantiates (kept_theory kept) st no_context_value zs) (only ys stand_ys) fits)
text_for kept k st lines xs stand only (Some text) is = (xs, stand, is.0, is.1)

-- no text where the lines stand for no inputs
pub no_text_for : (kept : Kept) (k : ℕ) (st : Theorem) (lines : List ℕ) → ((xs : List InputTree) → given.StandsForInputs (kept_theory kept) st lines xs → ⊥) → IsTextFor kept k st lines None
no_text_for kept k st lines never = λ xs stand fits. never xs stand

-- the statement at a place
statement_at : (sts : List Statement) (k : ℕ) (one : Statement) (st : Theorem) → one ≡ slice_index_or sts k one → slice_get (map plain sts) k ≡ Some st → plain one ≡ st
statement_at [] k one st at here = cc
statement_at (y ∷ sts) zero one st at here = let same : plain y ≡ st = cc in ap plain at ∙ same
statement_at (y ∷ sts) (suc k) one st at here = statement_at sts k one st at here

pub takes_at : (sts : List Statement) (k : ℕ) (one : Statement) → one ≡ slice_index_or sts k one → k < length sts → AllByRecursion IsBareStatement (map plain sts) → TakesDerivations (plain one)
takes_at [] k one at below h = absurd (omega arith)
takes_at (y ∷ sts) zero one at below h = subst (λ (s : Statement). TakesDerivations (plain s)) (sym at) h.0.inputs
takes_at (y ∷ sts) (suc k) one at below h = takes_at sts k one at (omega arith) h.1

-- what is told of the statement at a place
pub text_at : (kept : Kept) (k : ℕ) (one : Statement) (lines : List ℕ) (xs ys : List InputTree) → one ≡ slice_index_or kept.statements k one → ys ≡ xs
    → given.StandsForInputs (kept_theory kept) (plain one) lines xs → ((zs : List InputTree) → given.StandsForInputs (kept_theory kept) (plain one) lines zs → zs ≡ xs)
    → (answer : Option (Vec ℕ Global)) → ((st : Theorem) → slice_get (kept_statements kept) k ≡ Some st → IsTextOn kept k st ys (option_map (λ text. text.items) answer))
    → (st : Theorem) → slice_get (kept_statements kept) k ≡ Some st → IsTextFor kept k st lines (option_map (λ text. text.items) answer)
text_at kept k one lines xs ys at same stand only answer told st here =
    let found = option_map (λ text. text.items) answer in
    let is : plain one ≡ st = statement_at kept.statements k one st at here in
    text_for kept k st lines xs
    (subst (λ (s : Theorem). given.StandsForInputs (kept_theory kept) s lines xs) is stand)
    (subst (λ (s : Theorem). (zs : List InputTree) → given.StandsForInputs (kept_theory kept) s lines zs → zs ≡ xs) is only)
    found (subst (λ (zs : List InputTree). IsTextOn kept k st zs found) same (told st here))

pub no_text_at : (kept : Kept) (k : ℕ) (one : Statement) (lines : List ℕ) → one ≡ slice_index_or kept.statements k one
    → ((xs : List InputTree) → given.StandsForInputs (kept_theory kept) (plain one) lines xs → ⊥)
    → (st : Theorem) → slice_get (kept_statements kept) k ≡ Some st → IsTextFor kept k st lines None
no_text_at kept k one lines at never st here =
    let is : plain one ≡ st = statement_at kept.statements k one st at here in
    no_text_for kept k st lines (subst (λ (s : Theorem). (xs : List InputTree) → given.StandsForInputs (kept_theory kept) s lines xs → ⊥) is never)

-- two first statements of one name are one
named_not : (sts : List Theorem) (name : List ℕ) (k l : ℕ) → IsFirstNamed sts name k → IsFirstNamed sts name l → k < l → ⊥
named_not sts name k l first second less =
    subst (λ (found : Option Theorem). MatchOption found ⊥ (λ st. st.name ≢ name)) first.here (second.none_before k less) first.named

first_is_one : (sts : List Theorem) (name : List ℕ) (k l : ℕ) → IsFirstNamed sts name k → IsFirstNamed sts name l → l ≡ k
first_is_one sts name k l first second = elim (cases_order k l) [
  | inl same ↦ sym same
  | inr (inl less) ↦ absurd (named_not sts name k l first second less)
  | inr (inr more) ↦ absurd (named_not sts name l k second first more)
]

module _ (source theorem lines : List ℕ) (kept : Kept) (accepted : IsAcceptedFor source kept) where
  -- what is run is run on the accepted file
  run_theory : (run : Run) → IsRunOf source theorem lines run → kept_theory run.kept ≡ kept_theory kept
  run_theory run is = (accepted.1 _ _ _ is.right).0

  run_statements : (run : Run) → IsRunOf source theorem lines run → kept_statements run.kept ≡ kept_statements kept
  run_statements run is = (accepted.1 _ _ _ is.right).1

  run_named : (run : Run) → IsRunOf source theorem lines run → IsFirstNamed (kept_statements kept) theorem run.number
  run_named run is = subst (λ (sts : List Theorem). IsFirstNamed sts theorem run.number) (run_statements run is) is.named

  run_here : (run : Run) → IsRunOf source theorem lines run → slice_get (kept_statements kept) run.number ≡ Some run.statement
  run_here run is = subst (λ (sts : List Theorem). slice_get sts run.number ≡ Some run.statement) (run_statements run is) is.here

  -- a theorem that the file does not have is not run
  pub not_named : AllByRecursion (λ st. st.name ≡ theorem → ⊥) (kept_statements kept) → HasRun source theorem lines → ⊥
  not_named none stands =
      let first = run_named stands.run stands.is_run in
      all_at (λ st. st.name ≡ theorem → ⊥) (kept_statements kept) stands.run.number first.statement none first.here first.named

  module _ (k : ℕ) (first : IsFirstNamed (kept_statements kept) theorem k) where
    at_number : (run : Run) → IsRunOf source theorem lines run → slice_get (kept_statements kept) k ≡ Some run.statement
    at_number run is = subst (λ (n : ℕ). slice_get (kept_statements kept) n ≡ Some run.statement) (first_is_one (kept_statements kept) theorem k run.number first (run_named run is)) (run_here run is)

    run_of : (text : List ℕ) → IsTextFor kept k first.statement lines (Some text) → IsValueText source theorem lines text
    run_of text is = record {
      run = record { kept = kept; number = k; statement = first.statement; inputs = is.0 };
      is_run = record { right = accepted.0; named = first; here = first.here; stand = is.1; instantiate = is.2 };
      makes = is.3;
    }

    pub value_of : (answer : Option (Vec ℕ Global)) → ((st : Theorem) → slice_get (kept_statements kept) k ≡ Some st → IsTextFor kept k st lines (option_map (λ text. text.items) answer))
        → IfSome answer (λ text. IsValueText source theorem lines text.items)
    value_of None told = tt
    value_of (Some text) told = run_of text.items (told first.statement first.here)

    pub stands_of : (answer : Option (Vec ℕ Global)) → ((st : Theorem) → slice_get (kept_statements kept) k ≡ Some st → IsTextFor kept k st lines (option_map (λ text. text.items) answer))
        → IfSome answer (λ text. HasRun source theorem lines)
    stands_of None told = tt
    stands_of (Some text) told = let is = run_of text.items (told first.statement first.here) in record { run = is.run; is_run = is.is_run }

    pub refused_of : (answer : Option (Vec ℕ Global)) → ((st : Theorem) → slice_get (kept_statements kept) k ≡ Some st → IsTextFor kept k st lines (option_map (λ text. text.items) answer))
        → IfNone answer (HasRun source theorem lines → ⊥)
    refused_of None told = λ stands.
        let run = stands.run in
        let is = stands.is_run in
        told run.statement (at_number run is) run.inputs
        (subst (λ (th : Theory). given.StandsForInputs th run.statement lines run.inputs) (run_theory run is) is.stand)
        (subst (λ (th : Theory). Instantiates th run.statement no_context_value run.inputs) (run_theory run is) is.instantiate)
    refused_of (Some text) told = tt

-- what is told of the statement that is found
pub fits_at : (P : Theorem → Type 0) (found : Option Theorem) (is : Bool) → IsTrue is → MatchOption found ⊥ (λ st. IsTrue is ↔ P st) → MatchOption found ⊥ P
fits_at P None is true_is told = told
fits_at P (Some st) is true_is told = told.0 true_is

-- the text of what a run gives
pub makes_text : (kept : Kept) (k : ℕ) (st : Theorem) (xs : List InputTree) → slice_get (kept_statements kept) k ≡ Some st → (ds : List Derivation) (text : List ℕ)
    → IsRun (kept_theory kept) (kept_statements kept) (kept_steps kept) k no_context_value xs ds → text ≡ derivations_text (kept_theory kept) None ds → MakesText kept k st xs text
makes_text kept k st xs here ds text made text_is = record {
  made = made.made;
  value = made.is_value;
  only = made.only;
  derives = λ inst is. subst (λ (ones : List Derivation). DeriveConclusions (kept_theory kept) st inst ones) made.alone (made.concludes st inst here is);
  text_is = text_is ∙ ap (derivations_text (kept_theory kept) None) made.alone;
}

-- what is kept of a file that is right so far
pub kept_of : (source : List ℕ) (accepted : Kept) → (HasNotBuilt source → ⊥) → IsAcceptedFor source accepted → IsKeptFor source (Some accepted)
kept_of source accepted built is =
    let some : IsSomeRight source = record { th = kept_theory accepted; statements = kept_statements accepted; steps = kept_steps accepted; right = is.0 } in
    record { right = record { built = built; right = inl some }; only = is }
