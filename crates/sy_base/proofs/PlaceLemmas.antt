-- The tokens of a source stand in it, with the right texts and lines.
use Rattle.std.proofs.Common.{◌≡◌, ℕ, ◌+◌, ◌-◌, ◌/◌, ◌%◌, ◌<◌, ◌≤◌, ◌⊎◌, inl, inr, Bool, true, false, cond, ◌&&◌, List, [], ◌∷◌, ◌++◌, length, take, drop, refl, sym, ap, ◌∙◌, arith, lit<, append_assoc, append-nil, length-append}
use Rattle.std.specs.Prelude.{◌==◌, slice_range, nat_lt, nat_le, if◌then◌else◌}
use Rattle.std.specs.List.{AllByRecursion, sum_by}
use Rattle.std.specs.Char.{encode_utf8}
use Rattle.std.specs.Str.{encode_utf8_all}
use Rattle.std.proofs.lemmas.Bool.{true≢false, false≢true, both_ways, cases_Bool, ne_eqb, cond-true, cond-false, ltb-false}
use Rattle.std.proofs.lemmas.List.Sums.{sum_by-append}
use Rattle.std.proofs.lemmas.Str.{encodes-append, encode_ascii, length-encode, len_utf8_bounds}
use Rattle.std.proofs.Math.Seq.{take-append_seam, drop-append_seam}
use Rattle.sy_base.specs.Tokens.{PlainToken, token, Stands, quoted, single, word, symbol, symbol_kind, all_dashes, Spot, past, token_at, size, Stretch, nothing, first_gap, first_token, start}
use Rattle.sy_base.specs.TokenLaws.{StandsInSource, AreInOrder, TokensStandInSource}

-- the bytes of a character have a line feed exactly where it is one
abbrev feed : ℕ → ℕ
feed b = cond (b == 10) 1 0

no_feed : (b : ℕ) → 10 < b → feed b ≡ 0
no_feed b above = cond-false (b == 10) 1 0 (ne_eqb b 10 (λ same. omega arith))

cond_zero : (p : Bool) (xs ys : List ℕ) → sum_by feed xs ≡ 0 → sum_by feed ys ≡ 0 → sum_by feed (cond p xs ys) ≡ 0
cond_zero true xs ys first second = first
cond_zero false xs ys first second = second

two_wide : (a b : ℕ) → 10 < a → 10 < b → sum_by feed (a ∷ b ∷ []) ≡ 0
two_wide a b a_above b_above = omega (arith, no_feed a a_above, no_feed b b_above)

three_wide : (a b d : ℕ) → 10 < a → 10 < b → 10 < d → sum_by feed (a ∷ b ∷ d ∷ []) ≡ 0
three_wide a b d a_above b_above d_above = omega (arith, no_feed a a_above, no_feed b b_above, no_feed d d_above)

four_wide : (a b d e : ℕ) → 10 < a → 10 < b → 10 < d → 10 < e → sum_by feed (a ∷ b ∷ d ∷ e ∷ []) ≡ 0
four_wide a b d e a_above b_above d_above e_above =
    omega (arith, no_feed a a_above, no_feed b b_above, no_feed d d_above, no_feed e e_above)

wide : (c : ℕ) → sum_by feed (cond (nat_lt c 2048) ((192 + c / 64) ∷ (128 + c % 64) ∷ [])
    (cond (nat_lt c 65536) ((224 + c / 4096) ∷ (128 + c / 64 % 64) ∷ (128 + c % 64) ∷ [])
    ((240 + c / 262144) ∷ (128 + c / 4096 % 64) ∷ (128 + c / 64 % 64) ∷ (128 + c % 64) ∷ []))) ≡ 0
wide c =
    let two = (192 + c / 64) ∷ (128 + c % 64) ∷ [] in
    let three = (224 + c / 4096) ∷ (128 + c / 64 % 64) ∷ (128 + c % 64) ∷ [] in
    let four = (240 + c / 262144) ∷ (128 + c / 4096 % 64) ∷ (128 + c / 64 % 64) ∷ (128 + c % 64) ∷ [] in
    cond_zero (nat_lt c 2048) two (cond (nat_lt c 65536) three four)
    (two_wide (192 + c / 64) (128 + c % 64) (omega arith) (omega arith))
    (cond_zero (nat_lt c 65536) three four
    (three_wide (224 + c / 4096) (128 + c / 64 % 64) (128 + c % 64) (omega arith) (omega arith) (omega arith))
    (four_wide (240 + c / 262144) (128 + c / 4096 % 64) (128 + c / 64 % 64) (128 + c % 64) (omega arith) (omega arith) (omega arith) (omega arith)))

feeds-encode : (c : ℕ) → (nat_lt c 128 ≡ true) ⊎ (nat_lt c 128 ≡ false) → sum_by feed (encode_utf8 c) ≡ sum_by feed (c ∷ [])
unfolding encode_utf8
feeds-encode c (inl low) = ap (sum_by feed) (cond-true (nat_lt c 128) (c ∷ []) _ low)
feeds-encode c (inr high) =
    ap (sum_by feed) (cond-false (nat_lt c 128) (c ∷ []) _ high) ∙ wide c
    ∙ sym (let none : 0 + feed c ≡ 0 = omega (arith, no_feed c (omega (arith, ltb-false c 128 high))) in none)

feeds-encodes : (cs : List ℕ) → sum_by feed (encode_utf8_all cs) ≡ sum_by feed cs
feeds-encodes [] = refl
feeds-encodes (c ∷ cs) =
    sum_by-append feed (encode_utf8 c) (encode_utf8_all cs)
    ∙ (λ i. feeds-encode c (cases_Bool (nat_lt c 128)) i + feeds-encodes cs i)
    ∙ sym (sum_by-append feed (c ∷ []) cs)

-- Where a spot is in the source.
record IsAt (source : List ℕ) (spot : Spot) : Type 0 where
  pub front : List ℕ
  pub parts : source ≡ front ++ encode_utf8_all spot.rest
  pub place : length front ≡ spot.place
  pub line : spot.line ≡ 1 + sum_by feed front

at_past : (source : List ℕ) (spot : Spot) (taken rest : List ℕ) → spot.rest ≡ taken ++ rest → IsAt source spot → IsAt source (past spot taken rest)
at_past source spot taken rest split is = record {
  front = is.front ++ encode_utf8_all taken;
  parts = is.parts ∙ ap (λ l. is.front ++ l) (ap encode_utf8_all split ∙ encodes-append taken rest)
      ∙ sym (append_assoc is.front (encode_utf8_all taken) (encode_utf8_all rest));
  place = length-append is.front (encode_utf8_all taken) ∙ ap (λ n. n + size taken) is.place;
  line = omega (arith, is.line, sum_by-append feed is.front (encode_utf8_all taken), feeds-encodes taken);
}

-- What a token shows of the characters that it takes.
record Shows (kind : ℕ) (text taken : List ℕ) : Type 0 where
  pub some : 0 < size taken
  pub whole : (kind == 4) ≡ false → encode_utf8_all taken ≡ encode_utf8_all text
  pub inside : (kind == 4) ≡ true → encode_utf8_all taken ≡ 34 ∷ (encode_utf8_all text ++ (34 ∷ []))

encode-some : (c : ℕ) (cs : List ℕ) → 0 < size (c ∷ cs)
encode-some c cs = omega (arith, length-append (encode_utf8 c) (encode_utf8_all cs), length-encode c, (len_utf8_bounds c).0)

kind_no_quote : (text : List ℕ) → (symbol_kind text == 4) ≡ false
unfolding symbol_kind
kind_no_quote text = by (nat_le 3 (length text) && all_dashes text)
  where
    by : (b : Bool) → ((if b then 3 else 1) == 4) ≡ false
    by true = refl
    by false = refl

shows_token : (kind : ℕ) (text taken rest : List ℕ) → Stands (token kind text) taken rest → Shows kind text taken
shows_token kind text taken last (quoted c inside rest run) = record {
  some = encode-some 34 ((c ∷ inside) ++ (34 ∷ []));
  whole = λ no. absurd (true≢false no);
  inside = λ _. (λ i. encode_ascii 34 (lit< tt) i ++ (encodes-append (c ∷ inside) (34 ∷ []) ∙ ap (λ l. encode_utf8_all (c ∷ inside) ++ (l ++ [])) (encode_ascii 34 (lit< tt))) i);
}
shows_token kind text taken last (single c rest passes) =
    record { some = encode-some c []; whole = λ _. refl; inside = λ is. absurd (false≢true is) }
shows_token kind text taken last (word c inside rest passes run) =
    record { some = encode-some c inside; whole = λ _. refl; inside = λ is. absurd (false≢true is) }
shows_token kind text taken last (symbol c inside rest run) =
    record { some = encode-some c inside; whole = λ _. refl; inside = λ is. absurd (both_ways _ (kind_no_quote (c ∷ inside)) is) }

-- a part of a list that is made of three
slice_of : (source front part rest : List ℕ) (from to : ℕ) → source ≡ front ++ (part ++ rest) → from ≡ length front → to ≡ from + length part
    → slice_range source from to ≡ part
slice_of source front part rest from to parts from_is to_is =
    let width : to - from ≡ length part = omega arith in
    (λ i. take (width i) (drop (from_is i) (parts i)))
    ∙ ap (take (length part)) (drop-append_seam front (part ++ rest)) ∙ take-append_seam part rest

stands_one : (source : List ℕ) (spot : Spot) (kind : ℕ) (text taken rest : List ℕ) → IsAt source spot → spot.rest ≡ taken ++ rest
    → Shows kind text taken → StandsInSource source (token_at spot kind text taken)
stands_one source spot kind text taken rest is split shows =
    let bytes = encode_utf8_all taken in
    let parts : source ≡ is.front ++ (bytes ++ encode_utf8_all rest) =
    is.parts ∙ ap (λ l. is.front ++ l) (ap encode_utf8_all split ∙ encodes-append taken rest) in
    record {
      some = omega (arith, shows.some);
      within = omega (arith, ap length parts, length-append is.front (bytes ++ encode_utf8_all rest), length-append bytes (encode_utf8_all rest), is.place);
      text = by_kind parts (cases_Bool (kind == 4));
      line = is.line ∙ ap (λ l. 1 + sum_by feed l) (sym ((λ i. take (sym is.place i) (parts i)) ∙ take-append_seam is.front (bytes ++ encode_utf8_all rest)));
    }
  where
    by_kind : source ≡ is.front ++ (encode_utf8_all taken ++ encode_utf8_all rest) → ((kind == 4) ≡ true) ⊎ ((kind == 4) ≡ false)
        → encode_utf8_all text ≡ (if kind == 4 then slice_range source (spot.place + 1) (spot.place + size taken - 1) else slice_range source spot.place (spot.place + size taken))
    by_kind parts (inl is_quoted) =
        let words = encode_utf8_all text in
        let inside = shows.inside is_quoted in
        let around : source ≡ (is.front ++ (34 ∷ [])) ++ (words ++ (34 ∷ encode_utf8_all rest)) =
        parts ∙ ap (λ l. is.front ++ (l ++ encode_utf8_all rest)) inside
        ∙ ap (λ l. is.front ++ (34 ∷ l)) (append_assoc words (34 ∷ []) (encode_utf8_all rest))
        ∙ sym (append_assoc is.front (34 ∷ []) (words ++ (34 ∷ encode_utf8_all rest))) in
        let wide : size taken ≡ length words + 2 = omega (arith, ap length inside, length-append words (34 ∷ [])) in
        sym (cond-true (kind == 4) _ _ is_quoted
        ∙ slice_of source (is.front ++ (34 ∷ [])) words (34 ∷ encode_utf8_all rest) (spot.place + 1) (spot.place + size taken - 1) around
        (omega (arith, is.place, length-append is.front (34 ∷ []))) (omega (arith, wide)))
    by_kind parts (inr is_plain) =
        sym (cond-false (kind == 4) _ _ is_plain
        ∙ slice_of source is.front (encode_utf8_all taken) (encode_utf8_all rest) spot.place (spot.place + size taken) parts (sym is.place) refl
        ∙ shows.whole is_plain)

order_from : (first second : ℕ) (tokens : List PlainToken) → first ≤ second → AreInOrder second tokens → AreInOrder first tokens
order_from first second [] before order = tt
order_from first second (t ∷ tokens) before order = (let from = order.0 in omega arith, order.1)

stretch_stands : (source : List ℕ) (spot end : Spot) (tokens : List PlainToken) → Stretch spot tokens end → IsAt source spot
    → AllByRecursion (StandsInSource source) tokens × AreInOrder spot.place tokens
stretch_stands source spot end tokens (nothing s) is = (tt, tt)
stretch_stands source spot end tokens (first_gap s e taken rest more split there stretch) is =
    let later = stretch_stands source (past s taken rest) e more stretch (at_past source s taken rest split is) in
    (later.0, order_from s.place (s.place + size taken) more (omega arith) later.1)
stretch_stands source spot end tokens (first_token s e kind text taken rest more split there stretch) is =
    let later = stretch_stands source (past s taken rest) e more stretch (at_past source s taken rest split is) in
    ((stands_one source s kind text taken rest is split (shows_token kind text taken rest there), later.0), (omega arith, later.1))

pub tokens_stand : TokensStandInSource
tokens_stand source tokens are =
    stretch_stands source (start are.characters) are.end tokens are.stretch
    (record { front = []; parts = are.decoded.spelled ∙ append-nil (encode_utf8_all are.characters); place = refl; line = refl })
