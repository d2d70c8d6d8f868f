-- What a derivation text gives.
use Rattle.std.proofs.Common.{◌≡◌, ℕ, Bool, true, false, List, [], ◌∷◌, map, Option, Some, None, Vec, Global, subst}
use Rattle.std.specs.Prelude.{MatchOption, option_map, find, if◌then◌else◌}
use Rattle.std.specs.Str.{bytes_eq}
use Rattle.std.specs.List.{AllByRecursion}
use Rattle.rule_schemes.specs.Rules.{Theory, IsSystemSoFar}
use Rattle.rule_schemes.specs.Derivation.{Derivation, Derives}
use Rattle.rule_schemes.specs.Statement.{Theorem, StatementInput, given, syntax_input, InputTree, derived}
use Rattle.derivation_text.specs.Bare.{HasNoContexts, TakesDerivations}
use Rattle.derivation_text.specs.Found.{AllDerive}
use Rattle.derivation_text.specs.Forms.{Argument, by_name, enclosed}
use Rattle.derivation_text.specs.Given.{HasNoInputs}
use Rattle.derivation_text.specs.Inputs.{GivesInputs, StandForAll, StandsForInputs}
use Rattle.derivation_text.specs.Laws.{InputsAreUnique, TextGivesInputs}
use Rattle.derivation_text.specs.Reader.{HasNoText}
use Rattle.derivation_text.specs.Valid.{Around, Contents, IsText, nothing_around, tree_named}
use Rattle.derivation_text.specs.declared.derivs.Named.{Named}

pub none_given : (th : Theory) (st : Theorem) (lines : List ℕ) → HasNoText th lines → (xs : List InputTree) → StandsForInputs th st lines xs → ⊥
none_given th st lines none xs stands = none stands.around stands.contents stands.text

-- the tree of a name derives, where all trees do
found_derives : (th : Theory) (one : Named) (found : Option Named) (here : Bool) (d : Derivation) → Derives th one.tree
    → (option_map (λ other. other.tree) found ≡ Some d → Derives th d) → option_map (λ other. other.tree) (if here then Some one else found) ≡ Some d → Derives th d
found_derives th one found true d first rest e = let same : one.tree ≡ d = cc in subst (Derives th) same first
found_derives th one found false d first rest e = rest e

named_derives : (th : Theory) (known : List Named) (w : List ℕ) (d : Derivation) → AllDerive th known → tree_named known w ≡ Some d → Derives th d
named_derives th [] w d h e = cc
named_derives th (one ∷ known) w d h e =
    found_derives th one (find (λ other. bytes_eq other.name w) known) (bytes_eq one.name w) d h.0 (named_derives th known w d h.1) e

trees_derive : (th : Theory) (st : Theorem) (around : Around) (c : Contents) (inputs : List StatementInput) (args : List Argument) (trees : List Derivation)
    → AllDerive th c.named → StandForAll th st around c inputs args (map derived trees) → AllByRecursion (Derives th) trees
trees_derive th st around c inputs args [] all h = tt
trees_derive th st around c [] [] (d ∷ trees) all h = absurd h
trees_derive th st around c [] (arg ∷ args) (d ∷ trees) all h = absurd h
trees_derive th st around c (given j ∷ inputs) [] (d ∷ trees) all h = absurd h
trees_derive th st around c (syntax_input m ∷ inputs) [] (d ∷ trees) all h = absurd h
trees_derive th st around c (given j ∷ inputs) (by_name w ∷ args) (d ∷ trees) all h = (named_derives th c.named w d all h.0, trees_derive th st around c inputs args trees all h.1)
trees_derive th st around c (given j ∷ inputs) (enclosed form ∷ args) (d ∷ trees) all h = absurd h.0
trees_derive th st around c (syntax_input m ∷ inputs) (by_name w ∷ args) (d ∷ trees) all h = absurd h.0
trees_derive th st around c (syntax_input m ∷ inputs) (enclosed form ∷ args) (d ∷ trees) all h = absurd h.0

-- the inputs of a valid text
pub given_of : (th : Theory) (st : Theorem) (lines : List ℕ) (c : Contents) → IsSystemSoFar th → HasNoContexts th → TakesDerivations st → TextGivesInputs → InputsAreUnique
    → IsText th lines nothing_around c → AllDerive th c.named → (found : Option (Vec Derivation Global))
    → MatchOption found (HasNoInputs th st c) (λ ds. GivesInputs th st nothing_around c (map derived ds.items))
    → MatchOption found ((xs : List InputTree) → StandsForInputs th st lines xs → ⊥)
    (λ ds. StandsForInputs th st lines (map derived ds.items) × AllByRecursion (Derives th) ds.items × ((xs : List InputTree) → StandsForInputs th st lines xs → xs ≡ map derived ds.items))
given_of th st lines c system bare takes of_text of_source text all None none =
    λ xs stands. none xs ((of_text th st lines nothing_around c xs system bare text).1 stands)
given_of th st lines c system bare takes of_text of_source text all (Some ds) gives =
    let stands = (of_text th st lines nothing_around c (map derived ds.items) system bare text).0 gives in (
      stands,
      trees_derive th st nothing_around c st.inputs gives.args ds.items all gives.stand,
      λ xs other. of_source th st lines xs (map derived ds.items) system bare takes other stands,
    )
