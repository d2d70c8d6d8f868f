-- The statements of a file can be proved.
use Rattle.std.proofs.Common.{◌≡◌, ◌≢◌, ◌⊎◌, ℕ, ◌+◌, List, [], ◌∷◌, ◌++◌, length, map, inl, inr, refl, sym, ap, subst, arith}
use Rattle.std.specs.List.{AllByRecursion, AllZip}
use Rattle.binding_terms.specs.Numbered.{AllNumbered}
use Rattle.scheme_terms.specs.SchemeScope.{AreDifferentNames}
use Rattle.scheme_terms.specs.declared.scheme.MetaDecl.{MetaDecl}
use Rattle.rule_schemes.specs.Rules.{Theory}
use Rattle.rule_schemes.specs.Statement.{StatementInput, given, syntax_input, Theorem, IsOfInputs, IsOfOutputs}
use Rattle.term_reader.specs.Names.{NamesApart}
use Rattle.notation_parser.specs.Plain.{HasNoVariablesNorParameters}
use Rattle.judgments.specs.Bare.{IsBareTheory, IsBareStatement, IsGivenInput}
use Rattle.judgments.specs.Texts.{TheoremText}
use Rattle.judgments.specs.Statements.{IsTheoremOf}
use Rattle.core_proofs.specs.Provable.{IsProvable, IsOfDerivation}
use Rattle.proof_check.specs.Plain.{ArePlainStatements}
use Rattle.binding_terms.proofs.Lists.{all_weaker, numbered_joined, numbered_weaker}

first_apart : (name : List ℕ) (metas : List MetaDecl) (more : List (List ℕ)) → AllByRecursion (λ other. name ≢ other) (map (λ m. m.name) metas ++ more)
    → AllByRecursion (λ n. name ≢ n.name) metas
first_apart name [] more h = tt
first_apart name (m ∷ metas) more h = (h.0, first_apart name metas more h.1)

-- the names of a scope without known variables are apart
names_apart : (metas : List MetaDecl) (more : List (List ℕ)) → more ≡ [] → AreDifferentNames (map (λ m. m.name) metas ++ more) → NamesApart metas
names_apart [] more none h = tt
names_apart (m ∷ metas) more none h = (first_apart m.name metas more h.0, names_apart metas more none h.1)

-- each input is given
given_inputs : (inputs : List StatementInput) → AllByRecursion IsGivenInput inputs → AllByRecursion IsOfDerivation inputs
given_inputs [] h = tt
given_inputs (given j ∷ inputs) h = (tt, given_inputs inputs h.1)
given_inputs (syntax_input m ∷ inputs) h = absurd h.0

-- a bare statement for which a theorem stands can be proved
pub provable_of : (th : Theory) (text : TheoremText) (st : Theorem) → IsTheoremOf th text st → IsBareStatement st → length st.outputs ≡ 1 → IsProvable th st
provable_of th text st is bare one = record {
  forms = is.forms;
  scope = is.scope;
  root = bare.root;
  metas = bare.parameters;
  no_fault = is.no_fault;
  one_output = one;
  derivations = given_inputs st.inputs bare.inputs;
  each_stands = subst (λ (metas : List MetaDecl). AllNumbered (λ m decl. IsOfInputs st m ⊎ IsOfOutputs st m) 0 metas) (sym is.written.split)
      (numbered_joined (λ m decl of. inl of) (λ m decl of. inr of.1) 0 is.written.of_inputs is.written.further is.written.are_of_inputs
      (subst (λ (n : ℕ). AllNumbered (λ m decl. (IsOfInputs st m → ⊥) × IsOfOutputs st m) n is.written.further) (omega arith) is.written.are_further));
  goal_names_last = (
    record { root = st.scope.root; metas = is.written.of_inputs; knowns = [] },
    record {
      root = refl;
      knowns = refl;
      goal_names = is.written.further;
      split = is.written.split;
      of_inputs = is.written.are_of_inputs;
      further = numbered_weaker (λ m decl of. of.0) (length is.written.of_inputs) is.written.further is.written.are_further;
    },
  );
}

pub all_provable : (th : Theory) (texts : List TheoremText) (sts : List Theorem) → AllZip (IsTheoremOf th) texts sts → AllByRecursion IsBareStatement sts
    → AllByRecursion (λ st. length st.outputs ≡ 1) sts → AllByRecursion (IsProvable th) sts
all_provable th [] [] h bare ones = tt
all_provable th [] (st ∷ sts) h bare ones = absurd h
all_provable th (text ∷ texts) [] h bare ones = absurd h
all_provable th (text ∷ texts) (st ∷ sts) h bare ones = (provable_of th text st h.0 bare.0 ones.0, all_provable th texts sts h.1 bare.1 ones.1)

-- nothing binds over a bare statement of a bare theory
binds_nothing : (th : Theory) (text : TheoremText) (st : Theorem) → IsBareTheory th → IsTheoremOf th text st → IsBareStatement st → HasNoVariablesNorParameters th.sig st.scope.metas
binds_nothing th text st bare_theory is bare = record {
  variables = bare_theory.sig.variables;
  names = names_apart st.scope.metas _ (ap (map (λ k. k.name)) is.scope.1) is.scope.2;
  parameters = bare.parameters;
}

all_bind_nothing : (th : Theory) (texts : List TheoremText) (sts : List Theorem) → IsBareTheory th → AllZip (IsTheoremOf th) texts sts → AllByRecursion IsBareStatement sts
    → AllByRecursion (λ st. HasNoVariablesNorParameters th.sig st.scope.metas) sts
all_bind_nothing th [] [] bare_theory h bare = tt
all_bind_nothing th [] (st ∷ sts) bare_theory h bare = absurd h
all_bind_nothing th (text ∷ texts) [] bare_theory h bare = absurd h
all_bind_nothing th (text ∷ texts) (st ∷ sts) bare_theory h bare = (binds_nothing th text st bare_theory h.0 bare.0, all_bind_nothing th texts sts bare_theory h.1 bare.1)

pub plain_of : (th : Theory) (texts : List TheoremText) (sts : List Theorem) → IsBareTheory th → AllZip (IsTheoremOf th) texts sts → AllByRecursion IsBareStatement sts
    → ArePlainStatements th sts
plain_of th texts sts bare_theory h bare = record {
  judgments = all_weaker (λ j is. is.no_context) th.judgments bare_theory.judgments;
  nothing_binds = all_bind_nothing th texts sts bare_theory h bare;
}
