-- A table with one scope more.
use Rattle.std.proofs.Common.{◌≡◌, ℕ, suc, zero, List, [], ◌∷◌, ◌++◌, map, ap, ◌∙◌, sym, subst, Some, slice_get, MatchOption}
use Rattle.std.proofs.lemmas.List.{map-append}
use Rattle.std.specs.List.{AllByRecursion}
use Rattle.binding_terms.proofs.Lists.{all_weaker}
use Rattle.rule_schemes.specs.Reading.{Variable}
use Rattle.form_cells.specs.Cells.{IsCell, IsTable, IsScope, Follows, scopes_of}
use Rattle.form_cells.specs.View.{in_scope}
use Rattle.form_cells.specs.declared.sheet.Sheet.{Sheet}
use Rattle.form_cells.specs.declared.table.Table.{Table}
use Rattle.form_cells.specs.declared.table.Cell.{Cell}
use Rattle.form_cells.specs.declared.variables.Var.{Var}

get_more : {A : Type 0} (xs ys : List A) (n : ℕ) (a : A) → slice_get xs n ≡ Some a → slice_get (xs ++ ys) n ≡ Some a
get_more [] ys n a e = absurd (let no : ⊥ = cc in no)
get_more (x ∷ xs) ys zero a e = e
get_more (x ∷ xs) ys (suc n) a e = get_more xs ys n a e

match_more : {A : Type 0} (xs ys : List A) (n : ℕ) (P : A → Type 0) → MatchOption (slice_get xs n) ⊥ P → MatchOption (slice_get (xs ++ ys) n) ⊥ P
match_more [] ys n P h = absurd h
match_more (x ∷ xs) ys zero P h = h
match_more (x ∷ xs) ys (suc n) P h = match_more xs ys n P h

pub scopes_grow : (sheet : Sheet) (old new : Table) (s : List Var) → new.cells ≡ old.cells → new.keeps ≡ old.keeps → new.scopes ≡ old.scopes ++ s ∷ []
    → IsTable sheet old → Follows sheet old new
scopes_grow sheet old new s cells keeps scopes right = record { cells = all; scopes = there }
  where
    is : scopes_of new ≡ scopes_of old ++ in_scope s ∷ []
    is = ap (map in_scope) scopes ∙ map-append in_scope old.scopes (s ∷ [])

    each : (cell : Cell) → IsCell sheet (scopes_of old) cell → IsCell sheet (scopes_of new) cell
    each cell h = subst (λ ss. IsCell sheet ss cell) (sym is) (match_more (scopes_of old) (in_scope s ∷ []) cell.scope _ h)

    all : IsTable sheet new
    all = subst (AllByRecursion (IsCell sheet (scopes_of new))) (sym cells) (all_weaker each old.cells right)

    there : (n : ℕ) (vars : List Variable) → IsScope old n vars → IsScope new n vars
    there n vars h k = subst (λ ss. slice_get ss n ≡ Some vars) (sym is) (get_more (scopes_of old) (in_scope s ∷ []) n vars (h (sym keeps ∙ k)))
