-- How a range of a form's tokens reads: as a group, a metavariable, a variable or by a production, each at its place in the reading
-- order, and what a table keeps of it. Held against the relation in rule_schemes/specs/Reading.antt.
use Rattle.std.specs.Prelude.{◌≡◌, ◌<◌, ◌+◌, ◌⊎◌, ℕ, List, [], ◌∷◌, ◌++◌, map, Some, slice_get, slice_range, MatchOption, true}
use Rattle.std.specs.List.{AllByRecursion}
use Rattle.binding_terms.specs.Signature.{Signature, binders}
use Rattle.binding_terms.specs.declared.grammar.Prod.{Prod}
use Rattle.binding_terms.specs.declared.grammar.Item.{Item}
use Rattle.scheme_terms.specs.SchemeTree.{SchemeTree}
use Rattle.scheme_terms.specs.declared.scheme.MetaDecl.{MetaDecl}
use Rattle.rule_schemes.specs.Reading.{Token, punctuation, word, Variable, Means, variables_of}
use Rattle.rule_schemes.specs.Said.{Way, way, no_ways, then_way, IsBefore}
use Rattle.ordered_readings.specs.FirstTwo.{AreFirst}
use Rattle.ordered_readings.specs.AnswerView.{answers}
use Rattle.ordered_readings.specs.Cells.{ReadsTermAt, ReadsItemsAt, ReadsBracketsAt, ReadsArgumentsAt}
use Rattle.form_cells.specs.View.{token, in_scope}
use Rattle.form_cells.specs.declared.sheet.Sheet.{Sheet}
use Rattle.form_cells.specs.declared.table.Table.{Table}
use Rattle.form_cells.specs.declared.table.Cell.{Cell}

-- a reading in parentheses
abbrev pub around : Way × SchemeTree → Way × SchemeTree
around d = (way 0 [] (then_way d.0 no_ways), d.1)

abbrev pub tokens_of : Sheet → List Token
tokens_of sheet = map token sheet.tokens.now

-- the tokens from one place up to another
abbrev pub range_of : Sheet → (from to : ℕ) → List Token
range_of sheet from to = slice_range (tokens_of sheet) from to

module _ (sig : Signature) (metas : List MetaDecl) (vars : List Variable) where
  abbrev pub IsGroup : (cat : ℕ) → List Token → Way → SchemeTree → Type 0
  IsGroup c ts w s =
      (inner : List Token) × (v : Way) × (ts ≡ punctuation 40 ∷ (inner ++ punctuation 41 ∷ []))
      × (w ≡ way 0 [] (then_way v no_ways)) × ReadsTermAt sig metas vars c inner v s

  -- the metavariable with this number, with its arguments in brackets
  abbrev pub IsNameOf : (number : ℕ) → MetaDecl → (cat : ℕ) → List Token → Way → SchemeTree → Type 0
  IsNameOf m decl c ts w s =
      (decl.cat.0 ≡ c) × (rest : List Token) × (ts ≡ word decl.name ∷ rest) × ReadsBracketsAt sig metas vars (map (λ p. p.0) decl.params) m rest w s

  abbrev pub IsName : (cat : ℕ) → List Token → Way → SchemeTree → Type 0
  IsName c ts w s = (m : ℕ) × (decl : MetaDecl) × (slice_get metas m ≡ Some decl) × IsNameOf m decl c ts w s

  -- one of these, the number not below that
  abbrev pub IsNameFrom : (n : ℕ) → (cat : ℕ) → List Token → Way → SchemeTree → Type 0
  IsNameFrom n c ts w s = (m : ℕ) × (m < n → ⊥) × (decl : MetaDecl) × (slice_get metas m ≡ Some decl) × IsNameOf m decl c ts w s

  -- a variable that is in scope
  abbrev pub IsVariable : (cat : ℕ) → List Token → Way → SchemeTree → Type 0
  IsVariable c ts w s = (w ≡ way 2 [] no_ways) × (name : List ℕ) × (ts ≡ word name ∷ []) × Means 0 vars name c s

  -- the items of a production, split over all the tokens, with some words at its binders
  abbrev pub IsMade : (number : ℕ) → List Item → List Token → Way → SchemeTree → Type 0
  IsMade p items ts w s =
      (words : List (List ℕ)) × ReadsItemsAt sig metas vars (variables_of words (binders items)) words items (3 + p) p ts w s

  abbrev pub IsProduct : (number cat : ℕ) → List Token → Way → SchemeTree → Type 0
  IsProduct p c ts w s = (prod : Prod) × (slice_get sig.prods p ≡ Some prod) × (prod.cat.0 ≡ c) × IsMade p prod.items ts w s

  -- a group, a metavariable, a variable, or by one of the productions below that
  abbrev pub IsReadBelow : ℕ → (cat : ℕ) → List Token → Way → SchemeTree → Type 0
  IsReadBelow n c ts w s =
      IsGroup c ts w s ⊎ IsName c ts w s ⊎ IsVariable c ts w s ⊎ ((p : ℕ) × (p < n) × IsProduct p c ts w s)

  -- what follows an argument of the metavariable with this number: a comma and more arguments, or the end of a pair of brackets
  abbrev pub GoesOn : (params : List ℕ) → (number : ℕ) → List Token → Way → SchemeTree → Type 0
  GoesOn params m ts w s =
      ((rest : List Token) × (ts ≡ punctuation 44 ∷ rest) × ReadsArgumentsAt sig metas vars params m rest w s)
      ⊎ ((rest : List Token) × (ts ≡ punctuation 93 ∷ rest) × ReadsBracketsAt sig metas vars params m rest w s)

-- what is kept are the first two readings, in the scope with that number
abbrev pub IsCell : Sheet → List (List Variable) → Cell → Type 0
IsCell sheet scopes cell =
    MatchOption (slice_get scopes cell.scope) ⊥
    (λ vars. AreFirst IsBefore (ReadsTermAt sheet.sig.now sheet.metas.now vars cell.cat.0 (range_of sheet cell.from cell.to)) (answers cell.found))

abbrev pub scopes_of : Table → List (List Variable)
scopes_of table = map in_scope table.scopes

-- each cell of the table is right for the form
abbrev pub IsTable : Sheet → Table → Type 0
IsTable sheet table = AllByRecursion (IsCell sheet (scopes_of table)) table.cells

-- where a table is kept, this is the scope with that number
abbrev pub IsScope : Table → (number : ℕ) → List Variable → Type 0
IsScope table n vars = (table.keeps ≡ true) → slice_get (scopes_of table) n ≡ Some vars

-- the table of a form after more was read: right as well, with the same scopes and maybe more
pub record Follows (sheet : Sheet) (old new : Table) : Type 0 where
  pub cells : IsTable sheet new
  pub scopes : (n : ℕ) (vars : List Variable) → IsScope old n vars → IsScope new n vars
