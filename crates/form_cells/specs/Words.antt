-- The words that may stand at the binders of a row of items. Held against `ReadsItems` of rule_schemes/specs/Reading.antt.
use Rattle.std.specs.Prelude.{◌≡◌, ◌≤◌, ℕ, List, map}
use Rattle.binding_terms.specs.Numbered.{AnyByRecursion}
use Rattle.binding_terms.specs.declared.grammar.Item.{Item}
use Rattle.scheme_terms.specs.SchemeTree.{Parts}
use Rattle.rule_schemes.specs.Reading.{Variable, ReadsItems, variables_of}
use Rattle.form_cells.specs.Cells.{range_of}
use Rattle.form_cells.specs.View.{variable}
use Rattle.form_cells.specs.declared.sheet.Sheet.{Sheet}
use Rattle.form_cells.specs.declared.variables.Var.{Var}

abbrev pub words_of : List Var → List (List ℕ)
words_of own = map (λ v. v.word.now) own

-- they are their own words as variables of these categories
abbrev pub AreOwn : (cats : List ℕ) → List Var → Type 0
AreOwn cats own = map variable own ≡ variables_of (words_of own) cats

-- the words of each reading of the items over tokens from the one place or a later one up to the other are listed
abbrev pub AreComplete : Sheet → List Item → (from to : ℕ) → List (List Var) → Type 0
AreComplete sheet items from to all =
    (n : ℕ) (vars own : List Variable) (words : List (List ℕ)) (xs : Parts) → from ≤ n → n ≤ to
    → ReadsItems sheet.sig.now sheet.metas.now vars own words items (range_of sheet n to) xs → AnyByRecursion (λ one. words_of one ≡ words) all
