-- At one place of a text at most one piece stands: it is what a look at the first characters finds.
use Rattle.std.proofs.Common.{◌≡◌, ℕ, ⊎_elim, Bool, true, false, cond, ◌&&◌, ◌||◌, List, [], ◌∷◌, ◌++◌, drop, refl, sym, ap, ◌∙◌, subst, lit<, append_assoc}
use Rattle.std.specs.Prelude.{◌==◌}
use Rattle.std.proofs.lemmas.Bool.{both_ways, and_parts, or_cases, or_parts, eqb-true, cond-true, cond-false, not-true, false_from_ne_true}
use Rattle.unicode_ident.specs.Ident.{is_xid_continue}
use Rattle.unicode_ident.proofs.IdentLemmas.{is_xid_continue-ascii}
use Rattle.sy_base.specs.Tokens.{is_blank, is_single, is_other, begins, goes_on_line, goes_on_comment, goes_on_quoted, goes_on_word, goes_on_symbol, IsLongestRun, symbol_kind, Piece, gap, token, Stands, blank, line_comment, block_comment, quoted, single, word, symbol}

-- a fact of one character, where the test says that it is this one
at : (P : ℕ → Type 0) (c d : ℕ) → P d → (c == d) ≡ true → P c
at P c d holds same = subst P (sym (eqb-true c d same)) holds

either : (P : Type 0) (x y : Bool) → (x || y) ≡ true → (x ≡ true → P) → (y ≡ true → P) → P
either P x y passes left right = ⊎_elim left right (or_cases x y passes)

-- the characters that are blanks, and those that are tokens alone
blank_cases : (P : ℕ → Type 0) → P 32 → P 9 → P 13 → P 10 → (c : ℕ) → is_blank c ≡ true → P c
unfolding is_blank
blank_cases P space tab return feed c passes =
    either (P c) _ (c == 10) passes
    (λ e. either (P c) _ (c == 13) e (λ e. either (P c) (c == 32) (c == 9) e (at P c 32 space) (at P c 9 tab)) (at P c 13 return))
    (at P c 10 feed)

single_cases : (P : ℕ → Type 0) → P 44 → P 59 → P 46 → P 40 → P 41 → P 91 → P 93 → P 123 → P 125 → (c : ℕ) → is_single c ≡ true → P c
unfolding is_single
single_cases P a b d e f g h i j c passes =
    either (P c) _ (c == 125) passes (λ r. either (P c) _ (c == 123) r (λ r. either (P c) _ (c == 93) r (λ r. either (P c) _ (c == 91) r
    (λ r. either (P c) _ (c == 41) r (λ r. either (P c) _ (c == 40) r (λ r. either (P c) _ (c == 46) r
    (λ r. either (P c) (c == 44) (c == 59) r (at P c 44 a) (at P c 59 b)) (at P c 46 d)) (at P c 40 e)) (at P c 41 f)) (at P c 91 g)) (at P c 93 h)) (at P c 123 i)) (at P c 125 j)

-- none of these is a character of a word
blank_no_word : (c : ℕ) → is_blank c ≡ true → is_xid_continue c ≡ false
blank_no_word =
    blank_cases (λ c. is_xid_continue c ≡ false) (is_xid_continue-ascii 32 (lit< tt)) (is_xid_continue-ascii 9 (lit< tt))
    (is_xid_continue-ascii 13 (lit< tt)) (is_xid_continue-ascii 10 (lit< tt))

single_no_word : (c : ℕ) → is_single c ≡ true → is_xid_continue c ≡ false
single_no_word =
    single_cases (λ c. is_xid_continue c ≡ false) (is_xid_continue-ascii 44 (lit< tt)) (is_xid_continue-ascii 59 (lit< tt))
    (is_xid_continue-ascii 46 (lit< tt)) (is_xid_continue-ascii 40 (lit< tt)) (is_xid_continue-ascii 41 (lit< tt))
    (is_xid_continue-ascii 91 (lit< tt)) (is_xid_continue-ascii 93 (lit< tt)) (is_xid_continue-ascii 123 (lit< tt))
    (is_xid_continue-ascii 125 (lit< tt))

single_no_blank : (c : ℕ) → is_single c ≡ true → is_blank c ≡ false
unfolding is_blank
single_no_blank = single_cases (λ c. is_blank c ≡ false) refl refl refl refl refl refl refl refl refl

pub quote_no_word : is_xid_continue 34 ≡ false
quote_no_word = is_xid_continue-ascii 34 (lit< tt)

pub slash_no_word : is_xid_continue 47 ≡ false
slash_no_word = is_xid_continue-ascii 47 (lit< tt)

-- The longest front of a text that goes on, and the rest.
run_front : (ℕ → List ℕ → Bool) → List ℕ → List ℕ
run_front goes [] = []
run_front goes (c ∷ cs) = cond (goes c cs) (c ∷ run_front goes cs) []

run_rest : (ℕ → List ℕ → Bool) → List ℕ → List ℕ
run_rest goes [] = []
run_rest goes (c ∷ cs) = cond (goes c cs) (run_rest goes cs) (c ∷ cs)

front_found : (goes : ℕ → List ℕ → Bool) (run rest : List ℕ) → IsLongestRun goes run rest → run_front goes (run ++ rest) ≡ run
unfolding run_front
front_found goes [] [] longest = refl
front_found goes [] (c ∷ rest) longest = cond-false (goes c rest) _ _ longest
front_found goes (c ∷ run) rest longest =
    cond-true (goes c (run ++ rest)) _ _ longest.0 ∙ ap (λ l. c ∷ l) (front_found goes run rest longest.1)

rest_found : (goes : ℕ → List ℕ → Bool) (run rest : List ℕ) → IsLongestRun goes run rest → run_rest goes (run ++ rest) ≡ rest
unfolding run_rest
rest_found goes [] [] longest = refl
rest_found goes [] (c ∷ rest) longest = cond-false (goes c rest) _ _ longest
rest_found goes (c ∷ run) rest longest = cond-true (goes c (run ++ rest)) _ _ longest.0 ∙ rest_found goes run rest longest.1

-- What a look at the first characters finds.
record Found : Type 0 where
  pub piece : Piece
  pub taken : List ℕ
  pub rest : List ℕ

abbrev of : Piece → (taken rest : List ℕ) → Found
of piece taken rest = record { piece = piece; taken = taken; rest = rest }

found_symbol : List ℕ → Found
found_symbol whole =
    let run = run_front goes_on_symbol whole in of (token (symbol_kind run) run) run (run_rest goes_on_symbol whole)

found_word : ℕ → List ℕ → Found
found_word c after =
    let run = run_front goes_on_word after in of (token 0 (c ∷ run)) (c ∷ run) (run_rest goes_on_word after)

found_quoted : List ℕ → Found
found_quoted after =
    let run = run_front goes_on_quoted after in of (token 4 run) (34 ∷ (run ++ (34 ∷ []))) (drop 1 (run_rest goes_on_quoted after))

found_line : List ℕ → Found
found_line after = of gap (47 ∷ 47 ∷ run_front goes_on_line (drop 1 after)) (run_rest goes_on_line (drop 1 after))

found_block : List ℕ → Found
found_block after =
    let inside = drop 1 after in
    of gap (47 ∷ 42 ∷ (run_front goes_on_comment inside ++ (42 ∷ 47 ∷ []))) (drop 2 (run_rest goes_on_comment inside))

found_first : ℕ → List ℕ → Found
found_first c after =
    cond (is_blank c) (of gap (c ∷ []) after)
    (cond (is_single c) (of (token 2 (c ∷ [])) (c ∷ []) after)
    (cond (c == 34) (found_quoted after)
    (cond (is_xid_continue c) (found_word c after)
    (cond ((c == 47) && begins (λ d. d == 47) after) (found_line after)
    (cond ((c == 47) && begins (λ d. d == 42) after) (found_block after)
    (found_symbol (c ∷ after)))))))

found : List ℕ → Found
found [] = of gap [] []
found (c ∷ after) = found_first c after

found_blank : (c : ℕ) (after : List ℕ) → is_blank c ≡ true → found_first c after ≡ of gap (c ∷ []) after
unfolding found_first
found_blank c after passes = cond-true (is_blank c) _ _ passes

past_blank : (c : ℕ) (after : List ℕ) (x : Found) → is_blank c ≡ false → is_single c ≡ false →
    cond (c == 34) (found_quoted after)
    (cond (is_xid_continue c) (found_word c after)
    (cond ((c == 47) && begins (λ d. d == 47) after) (found_line after)
    (cond ((c == 47) && begins (λ d. d == 42) after) (found_block after)
    (found_symbol (c ∷ after))))) ≡ x → found_first c after ≡ x
unfolding found_first
past_blank c after x no_blank no_single same = cond-false (is_blank c) _ _ no_blank ∙ cond-false (is_single c) _ _ no_single ∙ same

word_no_blank : (c : ℕ) → is_xid_continue c ≡ true → is_blank c ≡ false
word_no_blank c passes = false_from_ne_true (is_blank c) (λ is. both_ways (is_xid_continue c) (blank_no_word c is) passes)

word_no_single : (c : ℕ) → is_xid_continue c ≡ true → is_single c ≡ false
word_no_single c passes = false_from_ne_true (is_single c) (λ is. both_ways (is_xid_continue c) (single_no_word c is) passes)

word_no_quote : (c : ℕ) → is_xid_continue c ≡ true → (c == 34) ≡ false
word_no_quote c passes =
    false_from_ne_true (c == 34) (λ is. both_ways (is_xid_continue c) (ap is_xid_continue (eqb-true c 34 is) ∙ quote_no_word) passes)

-- what a character of a symbol is not
pub record IsNoOther (c : ℕ) (after : List ℕ) : Type 0 where
  pub no_blank : is_blank c ≡ false
  pub no_single : is_single c ≡ false
  pub no_quote : (c == 34) ≡ false
  pub no_word : is_xid_continue c ≡ false
  pub no_comment : ((c == 47) && begins (λ d. (d == 47) || (d == 42)) after) ≡ false

pub symbol_only : (c : ℕ) (after : List ℕ) → goes_on_symbol c after ≡ true → IsNoOther c after
unfolding goes_on_symbol is_other
symbol_only c after passes =
    let parts = and_parts _ _ passes in
    let others = or_parts _ (c == 34) (not-true _ parts.0) in
    let more = or_parts _ (is_single c) others.0 in
    let least = or_parts (is_blank c) (is_xid_continue c) more.0 in
    record { no_blank = least.0; no_single = more.1; no_quote = others.1; no_word = least.1; no_comment = not-true _ parts.1 }

-- the second of two tests fails where one of both would pass
begins_neither : (x : Bool) (after : List ℕ) → (x && begins (λ d. (d == 47) || (d == 42)) after) ≡ false
    → ((x && begins (λ d. d == 47) after) ≡ false) × ((x && begins (λ d. d == 42) after) ≡ false)
begins_neither false after neither = (refl, refl)
begins_neither true [] neither = (refl, refl)
begins_neither true (d ∷ after) neither = or_parts (d == 47) (d == 42) neither

single_is_found : (c : ℕ) (rest : List ℕ) → is_single c ≡ true → found_first c rest ≡ of (token 2 (c ∷ [])) (c ∷ []) rest
unfolding found_first
single_is_found c rest passes = cond-false (is_blank c) _ _ (single_no_blank c passes) ∙ cond-true (is_single c) _ _ passes

line_is_found : (text rest : List ℕ) → IsLongestRun goes_on_line text rest → found_first 47 (47 ∷ (text ++ rest)) ≡ of gap (47 ∷ 47 ∷ text) rest
unfolding is_blank is_single found_line
line_is_found text rest longest =
    past_blank 47 (47 ∷ (text ++ rest)) _ refl refl
    (cond-false (is_xid_continue 47) _ _ slash_no_word
    ∙ (λ i. of gap (47 ∷ 47 ∷ front_found goes_on_line text rest longest i) (rest_found goes_on_line text rest longest i)))

block_is_found : (text rest : List ℕ) → IsLongestRun goes_on_comment text (42 ∷ 47 ∷ rest)
    → found_first 47 (42 ∷ (text ++ (42 ∷ 47 ∷ rest))) ≡ of gap (47 ∷ 42 ∷ (text ++ (42 ∷ 47 ∷ []))) rest
unfolding is_blank is_single found_block
block_is_found text rest longest =
    let front = front_found goes_on_comment text (42 ∷ 47 ∷ rest) longest in
    let end = rest_found goes_on_comment text (42 ∷ 47 ∷ rest) longest in
    past_blank 47 (42 ∷ (text ++ (42 ∷ 47 ∷ rest))) _ refl refl
    (cond-false (is_xid_continue 47) _ _ slash_no_word
    ∙ (λ i. of gap (47 ∷ 42 ∷ (front i ++ (42 ∷ 47 ∷ []))) (drop 2 (end i))))

quoted_is_found : (run rest : List ℕ) → IsLongestRun goes_on_quoted run (34 ∷ rest)
    → found_first 34 (run ++ (34 ∷ rest)) ≡ of (token 4 run) (34 ∷ (run ++ (34 ∷ []))) rest
unfolding is_blank is_single found_quoted
quoted_is_found run rest longest =
    let front = front_found goes_on_quoted run (34 ∷ rest) longest in
    let end = rest_found goes_on_quoted run (34 ∷ rest) longest in
    past_blank 34 (run ++ (34 ∷ rest)) _ refl refl
    (λ i. of (token 4 (front i)) (34 ∷ (front i ++ (34 ∷ []))) (drop 1 (end i)))

word_is_found : (c : ℕ) (text rest : List ℕ) → is_xid_continue c ≡ true → IsLongestRun goes_on_word text rest
    → found_first c (text ++ rest) ≡ of (token 0 (c ∷ text)) (c ∷ text) rest
unfolding found_word
word_is_found c text rest passes longest =
    let front = front_found goes_on_word text rest longest in
    let end = rest_found goes_on_word text rest longest in
    past_blank c (text ++ rest) _ (word_no_blank c passes) (word_no_single c passes)
    (cond-false (c == 34) _ _ (word_no_quote c passes) ∙ cond-true (is_xid_continue c) _ _ passes
    ∙ (λ i. of (token 0 (c ∷ front i)) (c ∷ front i) (end i)))

symbol_is_found : (c : ℕ) (text rest : List ℕ) → IsLongestRun goes_on_symbol (c ∷ text) rest
    → found_first c (text ++ rest) ≡ of (token (symbol_kind (c ∷ text)) (c ∷ text)) (c ∷ text) rest
unfolding found_symbol
symbol_is_found c text rest longest =
    let front = front_found goes_on_symbol (c ∷ text) rest longest in
    let end = rest_found goes_on_symbol (c ∷ text) rest longest in
    let only = symbol_only c (text ++ rest) longest.0 in
    let neither = begins_neither (c == 47) (text ++ rest) only.no_comment in
    past_blank c (text ++ rest) _ only.no_blank only.no_single
    (cond-false (c == 34) _ _ only.no_quote ∙ cond-false (is_xid_continue c) _ _ only.no_word
    ∙ cond-false _ _ _ neither.0 ∙ cond-false _ _ _ neither.1
    ∙ (λ i. of (token (symbol_kind (front i)) (front i)) (front i) (end i)))

-- what stands is what is found
stands_found : (piece : Piece) (taken rest : List ℕ) → Stands piece taken rest → found (taken ++ rest) ≡ of piece taken rest
unfolding found
stands_found piece taken last (blank c rest passes) = found_blank c rest passes
stands_found piece taken last (single c rest passes) = single_is_found c rest passes
stands_found piece taken last (line_comment text rest longest) = line_is_found text rest longest
stands_found piece taken last (block_comment text rest longest) =
    ap (λ l. found_first 47 (42 ∷ l)) (append_assoc text (42 ∷ 47 ∷ []) rest) ∙ block_is_found text rest longest
stands_found piece taken last (quoted c text rest longest) =
    ap (found_first 34) (append_assoc (c ∷ text) (34 ∷ []) rest) ∙ quoted_is_found (c ∷ text) rest longest
stands_found piece taken last (word c text rest passes longest) = word_is_found c text rest passes longest
stands_found piece taken last (symbol c text rest longest) = symbol_is_found c text rest longest

-- At one place at most one piece stands.
pub record IsSamePiece (piece other : Piece) (taken other_taken rest other_rest : List ℕ) : Type 0 where
  pub piece_same : piece ≡ other
  pub taken_same : taken ≡ other_taken
  pub rest_same : rest ≡ other_rest

pub Stands-same : (piece other : Piece) (taken other_taken rest other_rest : List ℕ) → Stands piece taken rest
    → Stands other other_taken other_rest → taken ++ rest ≡ other_taken ++ other_rest
    → IsSamePiece piece other taken other_taken rest other_rest
Stands-same piece other taken other_taken rest other_rest stands other_stands same =
    let all : of piece taken rest ≡ of other other_taken other_rest =
    sym (stands_found piece taken rest stands) ∙ ap found same ∙ stands_found other other_taken other_rest other_stands in
    record { piece_same = ap (λ f. f.piece) all; taken_same = ap (λ f. f.taken) all; rest_same = ap (λ f. f.rest) all }
