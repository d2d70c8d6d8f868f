-- Lists of pieces, made side by side from two lists.
use Rattle.std.proofs.Common.{◌≡◌, ◌≤◌, ℕ, zero, suc, List, [], ◌∷◌, ◌++◌, length, drop, map, refl, ap, ◌∙◌, sym, arith}
use Rattle.std.specs.Prelude.{min}
use Rattle.std.specs.List.{AllZip}
use Rattle.std.proofs.lemmas.List.{append-nil}
use Rattle.scheme_terms.specs.SchemeTree.{SchemeTree}
use Rattle.scheme_terms.specs.Forms.{SchemeEntry, GroundEntry, ContextValue}
use Rattle.rule_schemes.specs.Statement.{StatementInput}
use Rattle.binding_terms.specs.Tree.{Tree}
use Rattle.derivation_check.specs.Fitting.{Piece, GivenForm, arg_pieces, entry_pieces, all_pieces, EntriesAlike}

no_args : {X : Type 0} (f : X → SchemeTree) (n : ℕ) (xs : List X) → arg_pieces n (map f xs) [] ≡ []
no_args f n [] = refl
no_args f n (x ∷ xs) = refl

no_entries : {X : Type 0} (f : X → SchemeEntry) (n : ℕ) (xs : List X) → entry_pieces n (map f xs) [] ≡ []
no_entries f n [] = refl
no_entries f n (x ∷ xs) = refl

no_inputs : {X : Type 0} (f : X → StatementInput) (v : ContextValue) (xs : List X) → all_pieces v (map f xs) [] ≡ []
no_inputs f v [] = refl
no_inputs f v (x ∷ xs) = refl

-- where one of the lists is at its end nothing is added
pub no_args_left : {X Y : Type 0} (f : X → SchemeTree) (g : Y → Tree) (n i : ℕ) (xs : List X) (ys : List Y) → min (length xs) (length ys) ≤ i → arg_pieces n (map f (drop i xs)) (map g (drop i ys)) ≡ []
no_args_left f g n zero [] ys h = refl
no_args_left f g n (suc i) [] ys h = refl
no_args_left f g n zero (x ∷ xs) [] h = refl
no_args_left f g n (suc i) (x ∷ xs) [] h = no_args f n (drop i xs)
no_args_left f g n zero (x ∷ xs) (y ∷ ys) h = absurd (omega (arith, h))
no_args_left f g n (suc i) (x ∷ xs) (y ∷ ys) h = no_args_left f g n i xs ys (omega (arith, h))

pub no_entries_left : {X Y : Type 0} (f : X → SchemeEntry) (g : Y → GroundEntry) (n i : ℕ) (xs : List X) (ys : List Y) → min (length xs) (length ys) ≤ i → entry_pieces n (map f (drop i xs)) (map g (drop i ys)) ≡ []
no_entries_left f g n zero [] ys h = refl
no_entries_left f g n (suc i) [] ys h = refl
no_entries_left f g n zero (x ∷ xs) [] h = refl
no_entries_left f g n (suc i) (x ∷ xs) [] h = no_entries f n (drop i xs)
no_entries_left f g n zero (x ∷ xs) (y ∷ ys) h = absurd (omega (arith, h))
no_entries_left f g n (suc i) (x ∷ xs) (y ∷ ys) h = no_entries_left f g n i xs ys (omega (arith, h))

pub no_inputs_left : {X Y : Type 0} (f : X → StatementInput) (g : Y → GivenForm) (v : ContextValue) (i : ℕ) (xs : List X) (ys : List Y) → min (length xs) (length ys) ≤ i → all_pieces v (map f (drop i xs)) (map g (drop i ys)) ≡ []
no_inputs_left f g v zero [] ys h = refl
no_inputs_left f g v (suc i) [] ys h = refl
no_inputs_left f g v zero (x ∷ xs) [] h = refl
no_inputs_left f g v (suc i) (x ∷ xs) [] h = no_inputs f v (drop i xs)
no_inputs_left f g v zero (x ∷ xs) (y ∷ ys) h = absurd (omega (arith, h))
no_inputs_left f g v (suc i) (x ∷ xs) (y ∷ ys) h = no_inputs_left f g v i xs ys (omega (arith, h))

-- what was made is the whole
pub whole_made : (made rest all : List Piece) → rest ≡ [] → made ++ rest ≡ all → made ≡ all
whole_made made rest all none e = sym (append-nil made) ∙ ap (λ xs. made ++ xs) (sym none) ∙ e

pub alike_long : (es : List SchemeEntry) (gs : List GroundEntry) → EntriesAlike es gs → length es ≡ length gs
alike_long [] [] h = refl
alike_long [] (g ∷ gs) h = absurd h
alike_long (e ∷ es) [] h = absurd h
alike_long (e ∷ es) (g ∷ gs) h = ap suc (alike_long es gs h.1)

pub zip_long : {A B : Type 0} (R : A → B → Type 0) (xs : List A) (ys : List B) → AllZip R xs ys → length xs ≡ length ys
zip_long R [] [] h = refl
zip_long R [] (y ∷ ys) h = absurd h
zip_long R (x ∷ xs) [] h = absurd h
zip_long R (x ∷ xs) (y ∷ ys) h = ap suc (zip_long R xs ys h.1)
