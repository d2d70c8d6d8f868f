-- The inputs that the arguments of an `apply` line give.
use Rattle.std.proofs.Common.{◌≡◌, ◌≤◌, ◌+◌, ℕ, List, [], ◌∷◌, length, map, refl, ap, ◌∙◌, sym, subst, arith, Some, None}
use Rattle.std.specs.List.{AllByRecursion}
use Rattle.rule_schemes.specs.Derivation.{Derivation, size, sizes, height}
use Rattle.rule_schemes.specs.Rules.{Theory}
use Rattle.rule_schemes.specs.Statement.{Theorem, StatementInput, given, syntax_input, InputTree, derived, term}
use Rattle.derivation_check.specs.Parts.{subtrees_of}
use Rattle.derivation_text.specs.Bare.{IsDerivation, TakesDerivations}
use Rattle.derivation_text.specs.Forms.{Argument, by_name, enclosed}
use Rattle.derivation_text.specs.Given.{given_trees, IsWithin, HasNoInputs}
use Rattle.derivation_text.specs.Found.{with_first}
use Rattle.derivation_text.specs.Inputs.{StandForAll, GivesInputs, AreWithin, nodes, IsLow, HEIGHT}
use Rattle.derivation_text.specs.Valid.{Contents, applied, nothing_around, tree_named}
use Rattle.derivation_text.proofs.CitedLemmas.{with_some}

-- the trees for which arguments stand
pub record Stood (c : Contents) (is : List StatementInput) (args : List Argument) (xs : List InputTree) : Type 0 where
  pub trees : List Derivation
  pub found : given_trees c.named args ≡ Some trees
  pub derived_are : xs ≡ map derived trees
  pub as_many : length args ≡ length is

module _ (th : Theory) (st : Theorem) (c : Contents) where
  stand_from : (is : List StatementInput) (args : List Argument) (xs : List InputTree) → AllByRecursion IsDerivation is → StandForAll th st nothing_around c is args xs → Stood c is args xs
  stand_from [] [] [] all h = record { trees = []; found = refl; derived_are = refl; as_many = refl }
  stand_from [] [] (x ∷ xs) all h = absurd h
  stand_from [] (a ∷ args) xs all h = absurd h
  stand_from (i ∷ is) [] xs all h = absurd h
  stand_from (i ∷ is) (a ∷ args) [] all h = absurd h
  stand_from (syntax_input m ∷ is) (a ∷ args) (x ∷ xs) all h = absurd all.0
  stand_from (given j ∷ is) (enclosed form ∷ args) (x ∷ xs) all h = absurd h.0
  stand_from (given j ∷ is) (by_name w ∷ args) (term t ∷ xs) all h = absurd h.0
  stand_from (given j ∷ is) (by_name w ∷ args) (derived d ∷ xs) all h =
      let rest = stand_from is args xs all.1 h.1 in
      let first = h.0 in
      let behind = rest.found in
      record {
        trees = d ∷ rest.trees;
        found = λ k. with_first (first k) (behind k);
        derived_are = ap (λ (ys : List InputTree). derived d ∷ ys) rest.derived_are;
        as_many = omega (arith, rest.as_many);
      }

  stand_to : (is : List StatementInput) (args : List Argument) (ds : List Derivation) → AllByRecursion IsDerivation is → length args ≡ length is → given_trees c.named args ≡ Some ds
      → StandForAll th st nothing_around c is args (map derived ds)
  stand_to [] [] ds all e h =
      let whole : Some [] ≡ Some ds = h in
      let none : [] ≡ ds = cc in
      subst (λ (x : List Derivation). StandForAll th st nothing_around c [] [] (map derived x)) none tt
  stand_to [] (a ∷ args) ds all e h = absurd (omega arith)
  stand_to (i ∷ is) [] ds all e h = absurd (omega arith)
  stand_to (syntax_input m ∷ is) (a ∷ args) ds all e h = absurd all.0
  stand_to (given j ∷ is) (enclosed form ∷ args) ds all e h = absurd (cc)
  stand_to (given j ∷ is) (by_name w ∷ args) ds all e h =
      let parts = with_some (tree_named c.named w) (given_trees c.named args) h in
      subst (λ (x : List Derivation). StandForAll th st nothing_around c (given j ∷ is) (by_name w ∷ args) (map derived x)) (sym parts.4)
      (parts.2, stand_to is args parts.1 all.1 (omega arith) parts.3)

nodes_are : (ds : List Derivation) → nodes (map derived ds) ≡ sizes (subtrees_of ds)
nodes_are [] = refl
nodes_are (d ∷ ds) = ap (λ (n : ℕ). size d + n) (nodes_are ds)

low_to : (ds : List Derivation) → AllByRecursion (λ d. height d ≤ HEIGHT) ds → AllByRecursion IsLow (map derived ds)
low_to [] all = tt
low_to (d ∷ ds) all = (all.0, low_to ds all.1)

low_from : (ds : List Derivation) → AllByRecursion IsLow (map derived ds) → AllByRecursion (λ d. height d ≤ HEIGHT) ds
low_from [] all = tt
low_from (d ∷ ds) all = (all.0, low_from ds all.1)

within_to : (ds : List Derivation) → IsWithin ds → AreWithin (map derived ds)
within_to ds h = record { nodes_are = omega (arith, nodes_are ds, h.nodes_are); low = low_to ds h.low }

within_from : (ds : List Derivation) → AreWithin (map derived ds) → IsWithin ds
within_from ds h = record { nodes_are = omega (arith, nodes_are ds, h.nodes_are); low = low_from ds h.low }

pub gives_inputs : (th : Theory) (st : Theorem) (c : Contents) (args : List Argument) (ds : List Derivation) → TakesDerivations st → c.last ≡ applied args → length args ≡ length st.inputs
    → given_trees c.named args ≡ Some ds → IsWithin ds → GivesInputs th st nothing_around c (map derived ds)
gives_inputs th st c args ds takes last e found within =
    record { args = args; last = last; stand = stand_to th st c st.inputs args ds takes e found; within = within_to ds within }

-- what inputs the text gives
pub inputs_once : (th : Theory) (st : Theorem) (c : Contents) (args : List Argument) (xs : List InputTree) → TakesDerivations st → c.last ≡ applied args → GivesInputs th st nothing_around c xs
    → Stood c st.inputs args xs
inputs_once th st c args xs takes last h =
    let same : applied h.args ≡ applied args = sym h.last ∙ last in
    let args_are : h.args ≡ args = cc in
    subst (λ (a : List Argument). Stood c st.inputs a xs) args_are (stand_from th st c st.inputs h.args xs takes h.stand)

pub other_count : (th : Theory) (st : Theorem) (c : Contents) (args : List Argument) → TakesDerivations st → c.last ≡ applied args → (length args ≡ length st.inputs → ⊥) → HasNoInputs th st c
other_count th st c args takes last differ xs h = differ (inputs_once th st c args xs takes last h).as_many

pub no_trees : (th : Theory) (st : Theorem) (c : Contents) (args : List Argument) → TakesDerivations st → c.last ≡ applied args → given_trees c.named args ≡ None → HasNoInputs th st c
no_trees th st c args takes last none xs h =
    let stood = inputs_once th st c args xs takes last h in
    let clash : None ≡ Some stood.trees = sym none ∙ stood.found in
    cc

pub not_within : (th : Theory) (st : Theorem) (c : Contents) (args : List Argument) (ds : List Derivation) → TakesDerivations st → c.last ≡ applied args → given_trees c.named args ≡ Some ds
    → (IsWithin ds → ⊥) → HasNoInputs th st c
not_within th st c args ds takes last found past xs h =
    let stood = inputs_once th st c args xs takes last h in
    let both : Some stood.trees ≡ Some ds = sym stood.found ∙ found in
    let same : stood.trees ≡ ds = cc in
    past (subst IsWithin same (within_from stood.trees (subst AreWithin stood.derived_are h.within)))

pub one_inputs : (th : Theory) (st : Theorem) (c : Contents) (xs ys : List InputTree) → TakesDerivations st → GivesInputs th st nothing_around c xs → GivesInputs th st nothing_around c ys → xs ≡ ys
one_inputs th st c xs ys takes h k =
    let first = inputs_once th st c h.args xs takes h.last h in
    let second = inputs_once th st c h.args ys takes h.last k in
    let both : Some first.trees ≡ Some second.trees = sym first.found ∙ second.found in
    let same : first.trees ≡ second.trees = cc in
    first.derived_are ∙ ap (map derived) same ∙ sym second.derived_are
