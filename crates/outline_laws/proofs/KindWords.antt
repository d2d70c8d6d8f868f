-- A token of the sort of `theorem` or of `lemma` is spelled so.
use Rattle.std.proofs.Common.{codes, ◌≡◌, inl, inr, ℕ, Bool, true, false, not, cond, if◌then◌else◌, ◌||◌, List, [], ◌∷◌, refl, sym, ◌∙◌}
use Rattle.std.proofs.lemmas.Slice.Eq.{bytes_eq-Decides}
use Rattle.std.specs.Str.{bytes_eq}
use Rattle.sy_base.specs.Tokens.{is_numeral}
use Rattle.proof_lexer.specs.View.{token_view}
use Rattle.proof_lexer.specs.declared.token.Kind.{Kind}
use Rattle.proof_lexer.specs.declared.token.Kind.TheVariants as kind
use Rattle.proof_lexer.specs.declared.token.Token.{Token}
use Rattle.outline_reader.specs.declared.fault.Part.{Part}
use Rattle.outline_reader.specs.declared.fault.Part.TheVariants as part
use Rattle.outline_reader.specs.declared.sort.Sort.{Sort}
use Rattle.outline_reader.specs.declared.sort.Sort.TheVariants as s
use Rattle.outline_reader.specs.Sorts.{reserved, signs, look_up, word_sort, sort_by, sort_of}
use Rattle.outline_reader.specs.Derives.{same_sort}
use Rattle.outline_reader.proofs.Truth.{and_left, and_right, either, true_not_false}
use Rattle.outline_reader.proofs.FilledLemmas.{every}
use Rattle.outline_reader.proofs.FollowLemmas.{no_true}
use Rattle.outline_laws.specs.Nesting.{IsWordOf}

abbrev Entry : Type 0
Entry = List ℕ × Sort

abbrev spelled_so : Sort → List ℕ → Entry → Bool
spelled_so sort wanted entry = not (same_sort entry.1 sort) || bytes_eq entry.0 wanted

pub misfit : {A : Type 0} (b : Bool) → not b ≡ true → b ≡ true → A
misfit true h is = no_true h
misfit false h is = no_true is

-- a text that a list gives a sort is spelled as the list says
look_up_spelled : (sort : Sort) (wanted : List ℕ) (entries : List Entry) (text : List ℕ) (otherwise : Sort) → every (spelled_so sort wanted) entries ≡ true → same_sort otherwise sort ≡ false →
    same_sort (look_up entries text otherwise) sort ≡ true → text ≡ wanted
unfolding every
look_up_spelled sort wanted [] text otherwise all differs is = true_not_false (same_sort otherwise sort) is differs
look_up_spelled sort wanted (entry ∷ entries) text otherwise all differs is =
    which (bytes_eq entry.0 text) refl is (λ later. look_up_spelled sort wanted entries text otherwise (and_right (spelled_so sort wanted entry) (every (spelled_so sort wanted) entries) all) differs later)
  where
    which : (b : Bool) → bytes_eq entry.0 text ≡ b → same_sort (cond b entry.1 (look_up entries text otherwise)) sort ≡ true →
        (same_sort (look_up entries text otherwise) sort ≡ true → text ≡ wanted) → text ≡ wanted
    which true same is below =
        elim (either (not (same_sort entry.1 sort)) (bytes_eq entry.0 wanted) (and_left (spelled_so sort wanted entry) (every (spelled_so sort wanted) entries) all)) [
          | inl other ↦ misfit (same_sort entry.1 sort) other is
          | inr spelled ↦ sym ((bytes_eq-Decides entry.0 text).0 same) ∙ (bytes_eq-Decides entry.0 wanted).0 spelled
        ]
    which false same is below = below is

theorem_words : every (spelled_so s.Theorem (codes "theorem")) reserved ≡ true
unfolding every
theorem_words = refl

lemma_words : every (spelled_so s.Lemma (codes "lemma")) reserved ≡ true
unfolding every
lemma_words = refl

theorem_signs : every (spelled_so s.Theorem (codes "theorem")) signs ≡ true
unfolding every
theorem_signs = refl

lemma_signs : every (spelled_so s.Lemma (codes "lemma")) signs ≡ true
unfolding every
lemma_signs = refl

no_theorem : (numeral : Bool) → same_sort (if numeral then s.Other else s.Name) s.Theorem ≡ false
no_theorem true = refl
no_theorem false = refl

no_lemma : (numeral : Bool) → same_sort (if numeral then s.Other else s.Name) s.Lemma ≡ false
no_lemma true = refl
no_lemma false = refl

theorem_by : (one : Kind) (text : List ℕ) → same_sort (sort_by one text) s.Theorem ≡ true → text ≡ codes "theorem"
unfolding word_sort
theorem_by kind.Word text is = look_up_spelled s.Theorem (codes "theorem") reserved text (if is_numeral text then s.Other else s.Name) theorem_words (no_theorem (is_numeral text)) is
theorem_by kind.Symbol text is = look_up_spelled s.Theorem (codes "theorem") signs text s.Other theorem_signs refl is
theorem_by kind.Punct text is = look_up_spelled s.Theorem (codes "theorem") signs text s.Mark theorem_signs refl is
theorem_by kind.Bar text is = no_true is
theorem_by kind.Quoted text is = no_true is

lemma_by : (one : Kind) (text : List ℕ) → same_sort (sort_by one text) s.Lemma ≡ true → text ≡ codes "lemma"
unfolding word_sort
lemma_by kind.Word text is = look_up_spelled s.Lemma (codes "lemma") reserved text (if is_numeral text then s.Other else s.Name) lemma_words (no_lemma (is_numeral text)) is
lemma_by kind.Symbol text is = look_up_spelled s.Lemma (codes "lemma") signs text s.Other lemma_signs refl is
lemma_by kind.Punct text is = look_up_spelled s.Lemma (codes "lemma") signs text s.Mark lemma_signs refl is
lemma_by kind.Bar text is = no_true is
lemma_by kind.Quoted text is = no_true is

-- the sort of the word of the part
abbrev pub IsSortOf : Sort → Part → Type 0
IsSortOf sort part.Theorem = same_sort sort s.Theorem ≡ true
IsSortOf sort part.Lemma = same_sort sort s.Lemma ≡ true
IsSortOf sort _ = ⊥

pub kind_spelled : (token : Token) (kind : Part) → IsSortOf (sort_of token) kind → IsWordOf (token_view token).text kind
unfolding sort_of
kind_spelled token part.Theorem is = theorem_by token.kind token.text.now is
kind_spelled token part.Lemma is = lemma_by token.kind token.text.now is
kind_spelled token _ is = absurd is
