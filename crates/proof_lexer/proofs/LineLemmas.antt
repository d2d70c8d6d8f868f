-- The lines of a source, with their line feeds and without.
use Rattle.std.proofs.Common.{◌≡◌, ℕ, zero, suc, ◌-◌, Bool, true, false, cond, List, [], ◌∷◌, length, take, drop, get_or, refl, sym, ap, ◌∙◌, arith}
use Rattle.std.specs.Prelude.{◌==◌, unwrap_or, slice_get, Some, None}
use Rattle.std.specs.List.{slice_split, onto_first}
use Rattle.std.proofs.lemmas.List.Splits.{slice_split-cons_yes, slice_split-cons_no}
use Rattle.std.proofs.lemmas.Bool.{cases_Bool, cond-true, cond-false}
use Rattle.std.specs.Prelude.{◌⊎◌}
use Rattle.std.proofs.Common.{inl, inr}
use Rattle.bstr.specs.Text.{line_len, lines_of}
use Rattle.bstr.proofs.lemmas.LineLemmas.{lines-nil, lines-step}
use Rattle.sy_base.specs.SourceLine.{without_last, source_line}

cond_cons : (p : Bool) (b : ℕ) (x y : List ℕ) → cond p (b ∷ x) (b ∷ y) ≡ b ∷ cond p x y
cond_cons true b x y = refl
cond_cons false b x y = refl

-- a byte in front stays, where it is not the last
without_last-cons : (b last : ℕ) (bytes : List ℕ) → (b == last) ≡ false → (0 == last) ≡ false
    → without_last (b ∷ bytes) last ≡ b ∷ without_last bytes last
without_last-cons b last [] other some = cond-false (b == last) _ _ other ∙ sym (ap (λ l. b ∷ l) (cond-false (0 == last) [] [] some))
without_last-cons b last (d ∷ bytes) other some =
    let at : length (b ∷ d ∷ bytes) - 1 ≡ suc (length (d ∷ bytes) - 1) = omega arith in
    (λ i. cond (get_or (b ∷ d ∷ bytes) (at i) 0 == last) (take (at i) (b ∷ d ∷ bytes)) (b ∷ d ∷ bytes)) ∙ cond_cons _ b _ _

-- the part with this number, or none
part_of : List (List ℕ) → ℕ → List ℕ
part_of parts n = unwrap_or (slice_get parts n) []

part_of-first : (b : ℕ) (parts : List (List ℕ)) → part_of (onto_first b parts) 0 ≡ b ∷ part_of parts 0
unfolding part_of
part_of-first b [] = refl
part_of-first b (part ∷ parts) = refl

part_of-later : (b : ℕ) (parts : List (List ℕ)) (n : ℕ) → part_of (onto_first b parts) (suc n) ≡ part_of parts (suc n)
unfolding part_of
part_of-later b [] n = refl
part_of-later b (part ∷ parts) n = refl

lines-feed : (b : ℕ) (bs : List ℕ) → (b == 10) ≡ true → lines_of (b ∷ bs) ≡ (b ∷ []) ∷ lines_of bs
unfolding line_len
lines-feed b bs feed =
    let one : line_len (b ∷ bs) ≡ 1 = cond-true (b == 10) 1 (suc (line_len bs)) feed in
    lines-step (b ∷ bs) (omega arith) ∙ (λ i. take (one i) (b ∷ bs) ∷ lines_of (drop (one i) (b ∷ bs)))

lines-other : (b : ℕ) (bs : List ℕ) → (b == 10) ≡ false → lines_of (b ∷ bs) ≡ onto_first b (lines_of bs)
unfolding line_len
lines-other b [] other =
    let one : line_len (b ∷ []) ≡ 1 = cond-false (b == 10) 1 1 other in
    lines-step (b ∷ []) (omega arith) ∙ (λ i. take (one i) (b ∷ []) ∷ lines_of (drop (one i) (b ∷ [])))
    ∙ (λ i. (b ∷ []) ∷ lines-nil i) ∙ sym (ap (onto_first b) lines-nil)
lines-other b (c ∷ bs) other =
    let more : line_len (b ∷ c ∷ bs) ≡ suc (line_len (c ∷ bs)) = cond-false (b == 10) 1 (suc (line_len (c ∷ bs))) other in
    lines-step (b ∷ c ∷ bs) (omega arith) ∙ (λ i. take (more i) (b ∷ c ∷ bs) ∷ lines_of (drop (more i) (b ∷ c ∷ bs)))
    ∙ sym (ap (onto_first b) (lines-step (c ∷ bs) (omega arith)))

-- a part is the line without its line feed
abbrev IsPartLine : List ℕ → ℕ → Type 0
IsPartLine bs n = part_of (slice_split (λ b. b == 10) bs) n ≡ without_last (part_of (lines_of bs) n) 10

first_line : (b : ℕ) (bs : List ℕ) → IsPartLine bs 0 → ((b == 10) ≡ true) ⊎ ((b == 10) ≡ false) → IsPartLine (b ∷ bs) 0
unfolding part_of
first_line b bs rest (inl feed) =
    ap (λ l. part_of l 0) (slice_split-cons_yes (λ b. b == 10) b bs feed)
    ∙ sym (ap (λ l. without_last (part_of l 0) 10) (lines-feed b bs feed) ∙ cond-true (b == 10) _ _ feed)
first_line b bs rest (inr other) =
    ap (λ l. part_of l 0) (slice_split-cons_no (λ b. b == 10) b bs other) ∙ part_of-first b (slice_split (λ b. b == 10) bs)
    ∙ ap (λ l. b ∷ l) rest
    ∙ sym (ap (λ l. without_last (part_of l 0) 10) (lines-other b bs other) ∙ ap (λ l. without_last l 10) (part_of-first b (lines_of bs))
    ∙ without_last-cons b 10 (part_of (lines_of bs) 0) other refl)

later_line : (b : ℕ) (bs : List ℕ) (n : ℕ) → IsPartLine bs n → IsPartLine bs (suc n) → ((b == 10) ≡ true) ⊎ ((b == 10) ≡ false) → IsPartLine (b ∷ bs) (suc n)
unfolding part_of
later_line b bs n same next (inl feed) =
    ap (λ l. part_of l (suc n)) (slice_split-cons_yes (λ b. b == 10) b bs feed) ∙ same
    ∙ sym (ap (λ l. without_last (part_of l (suc n)) 10) (lines-feed b bs feed))
later_line b bs n same next (inr other) =
    ap (λ l. part_of l (suc n)) (slice_split-cons_no (λ b. b == 10) b bs other) ∙ part_of-later b (slice_split (λ b. b == 10) bs) n
    ∙ next
    ∙ sym (ap (λ l. without_last (part_of l (suc n)) 10) (lines-other b bs other) ∙ ap (λ l. without_last l 10) (part_of-later b (lines_of bs) n))

part_line : (bs : List ℕ) (n : ℕ) → IsPartLine bs n
unfolding part_of
part_line [] zero = ap (λ l. without_last (part_of l 0) 10) (sym lines-nil)
part_line [] (suc n) = ap (λ l. without_last (part_of l (suc n)) 10) (sym lines-nil)
part_line (b ∷ bs) zero = first_line b bs (part_line bs 0) (cases_Bool (b == 10))
part_line (b ∷ bs) (suc n) = later_line b bs n (part_line bs n) (part_line bs (suc n)) (cases_Bool (b == 10))

pub line_there : (source line : List ℕ) (n number : ℕ) → number ≡ suc n → slice_get (lines_of source) n ≡ Some line
    → without_last (without_last line 10) 13 ≡ source_line source number
unfolding part_of
line_there source line n number is found =
    ap (λ l. without_last (without_last l 10) 13) (ap (λ o. unwrap_or o []) (sym found))
    ∙ ap (λ l. without_last l 13) (sym (part_line source n)) ∙ ap (source_line source) (sym is)

pub line_past : (source : List ℕ) (n number : ℕ) → number ≡ suc n → slice_get (lines_of source) n ≡ None → [] ≡ source_line source number
unfolding part_of
line_past source n number is none =
    ap (λ l. without_last (without_last l 10) 13) (ap (λ o. unwrap_or o []) (sym none))
    ∙ ap (λ l. without_last l 13) (sym (part_line source n)) ∙ ap (source_line source) (sym is)
