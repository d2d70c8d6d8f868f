-- What is in scope outside the entries of a context, and what the innermost variable is.
use Rattle.std.specs.Prelude.{◌≡◌, ℕ, List, [], ◌∷◌, ◌++◌, Some, slice_get}
use Rattle.binding_terms.specs.Signature.{Signature}
use Rattle.binding_terms.specs.declared.grammar.Item.{Item}
use Rattle.binding_terms.specs.declared.grammar.Prod.{Prod}
use Rattle.rule_schemes.specs.Reading.{known_words, with_root}
use Rattle.form_cells.specs.View.{in_scope}
use Rattle.form_cells.specs.declared.sheet.Sheet.{Sheet}
use Rattle.form_cells.specs.declared.variables.Meaning.TheVariants.{Bound}
use Rattle.form_cells.specs.declared.variables.Var.{Var}
use Rattle.cell_reader.specs.View.{reading_scope}
use Rattle.cell_reader.specs.declared.contexts.Outside as of_outside

-- the variables are those that the empty form leaves in scope, and those that the name of the category does
pub record IsOutside (sheet : Sheet) (outside : of_outside.Outside) : Type 0 where
  pub knowns : in_scope outside.knowns.now ≡ known_words sheet.sig.now 0 (reading_scope outside.scope.now).names.knowns
  pub rooted : in_scope outside.rooted.now
      ≡ with_root (reading_scope outside.scope.now).names.root outside.cat.0 (reading_scope outside.scope.now).vars (known_words sheet.sig.now 0 (reading_scope outside.scope.now).names.knowns)

-- the innermost variable is a local of the category
abbrev pub IsInnermost : (cat : ℕ) → List Var → Type 0
IsInnermost c vars = (before : List Var) × (v : Var) × (vars ≡ before ++ v ∷ []) × (v.cat.0 ≡ c) × (v.means ≡ Bound)

-- the production with that number is of the category, and these are its items
abbrev pub IsProdOf : Signature → (number cat : ℕ) → List Item → Type 0
IsProdOf sig p c items = (prod : Prod) × (slice_get sig.prods p ≡ Some prod) × (prod.cat.0 ≡ c) × (prod.items ≡ items)
