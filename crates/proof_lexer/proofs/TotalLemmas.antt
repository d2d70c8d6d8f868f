-- Each source has tokens or a fault.
use Rattle.std.proofs.Common.{◌≡◌, ℕ, zero, suc, ◌<◌, ◌≤◌, ◌⊎◌, inl, inr, Bool, true, false, ◌&&◌, ◌||◌, List, [], ◌∷◌, ◌++◌, length, get_or, take, drop, IsUtf8, refl, sym, ap, ◌∙◌, subst, arith, length-append, append-nil}
use Rattle.std.specs.Prelude.{◌==◌}
use Rattle.std.specs.Str.{is_utf8, chars, IsValidUpTo}
use Rattle.std.proofs.lemmas.Bool.{cases_Bool, cases_eq, cases_lt, both_ways, eqb-true, or_cases, and_parts}
use Rattle.std.proofs.lemmas.List.{take_all, nil_from_length}
use Rattle.std.proofs.lemmas.Str.{IsUtf8-from_is_utf8, is_utf8-from_IsUtf8, IsUtf8-nil}
use Rattle.unicode_ident.specs.Ident.{is_xid_continue}
use Rattle.sy_base.specs.Tokens.{PlainToken, Piece, gap, token, is_blank, is_single, begins, goes_on_comment, goes_on_quoted, goes_on_word, goes_on_symbol, goes_on_line, symbol_kind, IsLongestRun, Spot, start, past, token_at, Stretch, nothing, first_gap, first_token, IsDecoded, AreTokens, TokenFault, not_utf8, open_comment, open_quote, HasFault}
use Rattle.sy_base.specs.TokenLaws.{TokensOrFault}
use Rattle.sy_base.proofs.RunLemmas.{run_same}
use Rattle.sy_base.proofs.StretchLemmas.{Stands-some}
use Rattle.proof_lexer.specs.Front.{RunEnds, StandsBefore, OpensComment, OpensQuote}
use Rattle.proof_lexer.proofs.TextLemmas.{decoded_whole, decoded_front}
use Rattle.proof_lexer.proofs.FrontLemmas.{RunEnds-more, RunEnds-none, RunEnds-stop, blank_front, single_front, word_front, symbol_front, quoted_front, open_quote as no_quoted, line_front, open_comment as no_close, block_front, no_lone_star, other_goes_on}
use Rattle.proof_lexer.proofs.LexLemmas.{tokens_at_end, stray_at_end, stray_in_comment, comment_without_end, quote_without_text}

-- a run ends somewhere
record RunFound (goes : ℕ → List ℕ → Bool) (whole : List ℕ) : Type 0 where
  pub rest : List ℕ
  pub ends : RunEnds goes whole rest

run_more : (goes : ℕ → List ℕ → Bool) (c : ℕ) (cs : List ℕ) → RunFound goes cs → (goes c cs ≡ true) ⊎ (goes c cs ≡ false) → RunFound goes (c ∷ cs)
run_more goes c cs found (inl passes) = record { rest = found.rest; ends = RunEnds-more goes c cs found.rest passes found.ends }
run_more goes c cs found (inr stops) = record { rest = c ∷ cs; ends = RunEnds-stop goes c cs stops }

run_found : (goes : ℕ → List ℕ → Bool) (whole : List ℕ) → RunFound goes whole
run_found goes [] = record { rest = []; ends = RunEnds-none goes }
run_found goes (c ∷ cs) = run_more goes c cs (run_found goes cs) (cases_Bool (goes c cs))

-- What is at the front of some characters.
data Answer (whole : List ℕ) : Type 0 where
  piece_at : (piece : Piece) (rest : List ℕ) → StandsBefore whole piece rest → Answer whole
  comment_at : OpensComment whole → Answer whole
  quote_at : OpensQuote whole → Answer whole

quote_answer : (after run end : List ℕ) → after ≡ run ++ end → RunEnds goes_on_quoted after end → Answer (34 ∷ after)
quote_answer after [] end parts ends = quote_at (no_quoted after [] end ends parts (λ c front rest none _. cc (none)))
quote_answer after (c ∷ run) [] parts ends = quote_at (no_quoted after (c ∷ run) [] ends parts (λ d front rest _ none. cc (none)))
quote_answer after (c ∷ run) (d ∷ rest) parts ends = by_last (cases_eq d 34)
  where
    by_last : (d ≡ 34) ⊎ (d ≡ 34 → ⊥) → Answer (34 ∷ after)
    by_last (inl same) =
        piece_at (token 4 (c ∷ run)) rest (quoted_front after (c ∷ run) (d ∷ rest) rest d ends parts refl same (omega arith))
    by_last (inr other) =
        quote_at (no_quoted after (c ∷ run) (d ∷ rest) ends parts (λ e front more _ there. other (ap (λ l. get_or l 0 0) there)))

block_answer : (inside end : List ℕ) → RunEnds goes_on_comment inside end → Answer (47 ∷ 42 ∷ inside)
block_answer inside [] ends = comment_at (no_close inside [] ends refl)
block_answer inside (c ∷ []) ends = absurd (no_lone_star inside (c ∷ []) [] c ends refl refl)
block_answer inside (c ∷ d ∷ rest) ends = piece_at gap rest (block_front inside (c ∷ d ∷ rest) (d ∷ rest) c ends refl d rest refl)

comment_answer : (after : List ℕ) → begins (λ d. (d == 47) || (d == 42)) after ≡ true → Answer (47 ∷ after)
comment_answer [] opens = absurd (cc)
comment_answer (d ∷ inside) opens = second (or_cases (d == 47) (d == 42) opens)
  where
    second : ((d == 47) ≡ true) ⊎ ((d == 42) ≡ true) → Answer (47 ∷ d ∷ inside)
    second (inl slash) =
        let found = run_found goes_on_line inside in
        piece_at gap found.rest (line_front (d ∷ inside) inside found.rest d refl (eqb-true d 47 slash) found.ends)
    second (inr star) =
        let found = run_found goes_on_comment inside in
        subst (λ (e : ℕ). Answer (47 ∷ e ∷ inside)) (sym (eqb-true d 42 star)) (block_answer inside found.rest found.ends)

first_word : (c : ℕ) (after : List ℕ) → is_xid_continue c ≡ true → Answer (c ∷ after)
first_word c after passes =
    let found = run_found goes_on_word after in
    piece_at (token 0 (c ∷ found.ends.run)) found.rest
    (word_front (c ∷ after) (c ∷ found.ends.run) after found.rest c refl (ap (λ l. c ∷ l) found.ends.parts) passes found.ends)

first_symbol : (c : ℕ) (after : List ℕ) → goes_on_symbol c after ≡ true → Answer (c ∷ after)
first_symbol c after passes =
    let found = run_found goes_on_symbol (c ∷ after) in
    piece_at (token (symbol_kind found.ends.run) found.ends.run) found.rest
    (symbol_front (c ∷ after) found.ends.run after found.rest c _ refl found.ends.parts passes found.ends refl)

first_quote : (c : ℕ) (after : List ℕ) → (c == 34) ≡ true → Answer (c ∷ after)
first_quote c after same =
    let found = run_found goes_on_quoted after in
    subst (λ (d : ℕ). Answer (d ∷ after)) (sym (eqb-true c 34 same)) (quote_answer after found.ends.run found.rest found.ends.parts found.ends)

first_comment : (c : ℕ) (after : List ℕ) → ((c == 47) && begins (λ d. (d == 47) || (d == 42)) after) ≡ true → Answer (c ∷ after)
first_comment c after opens =
    let parts = and_parts _ _ opens in
    subst (λ (d : ℕ). Answer (d ∷ after)) (sym (eqb-true c 47 parts.0)) (comment_answer after parts.1)

Known : Bool → Type 0
Known b = (b ≡ true) ⊎ (b ≡ false)

first_answer : (c : ℕ) (after : List ℕ) → Known (is_blank c) → Known (is_single c) → Known (c == 34) → Known (is_xid_continue c)
    → Known ((c == 47) && begins (λ d. (d == 47) || (d == 42)) after) → Answer (c ∷ after)
unfolding Known
first_answer c after (inl is) _ _ _ _ = piece_at gap after (blank_front (c ∷ after) after c refl is)
first_answer c after (inr no_blank) (inl is) _ _ _ =
    piece_at (token 2 (c ∷ [])) after (single_front (c ∷ after) (c ∷ []) after c refl refl is)
first_answer c after (inr no_blank) (inr no_single) (inl is) _ _ = first_quote c after is
first_answer c after (inr no_blank) (inr no_single) (inr no_quote) (inl is) _ = first_word c after is
first_answer c after (inr no_blank) (inr no_single) (inr no_quote) (inr no_word) (inl is) = first_comment c after is
first_answer c after (inr no_blank) (inr no_single) (inr no_quote) (inr no_word) (inr no_comment) =
    first_symbol c after (other_goes_on c after no_blank no_single no_quote no_word no_comment)

-- Where a stretch ends: at the end, at an open comment or at an open quote.
data Ends (rest : List ℕ) : Type 0 where
  at_end : rest ≡ [] → Ends rest
  in_comment : OpensComment rest → Ends rest
  in_quote : OpensQuote rest → Ends rest

record Reached (spot : Spot) : Type 0 where
  pub tokens : List PlainToken
  pub end : Spot
  pub stretch : Stretch spot tokens end
  pub ends : Ends end.rest

further_gap : (spot : Spot) (rest : List ℕ) (there : StandsBefore spot.rest gap rest) → Reached (past spot there.taken rest) → Reached spot
further_gap spot rest there more = record {
  tokens = more.tokens;
  end = more.end;
  stretch = first_gap spot more.end there.taken rest more.tokens there.parts there.stands more.stretch;
  ends = more.ends;
}

further_token : (spot : Spot) (kind : ℕ) (text rest : List ℕ) (there : StandsBefore spot.rest (token kind text) rest)
    → Reached (past spot there.taken rest) → Reached spot
further_token spot kind text rest there more = record {
  tokens = token_at spot kind text there.taken ∷ more.tokens;
  end = more.end;
  stretch = first_token spot more.end kind text there.taken rest more.tokens there.parts there.stands more.stretch;
  ends = more.ends;
}

shorter : (whole rest : List ℕ) (piece : Piece) → StandsBefore whole piece rest → length rest < length whole
shorter whole rest piece there = some there.taken there.parts (Stands-some piece there.taken rest there.stands)
  where
    some : (taken : List ℕ) → whole ≡ taken ++ rest → (taken ≡ [] → ⊥) → length rest < length whole
    some [] parts never = absurd (never refl)
    some (c ∷ taken) parts never = omega (arith, ap length parts, length-append taken rest)

answer_of : (whole : List ℕ) → (whole ≡ []) ⊎ Answer whole
unfolding Known
answer_of [] = inl refl
answer_of (c ∷ after) =
    inr (first_answer c after (cases_Bool (is_blank c)) (cases_Bool (is_single c)) (cases_Bool (c == 34)) (cases_Bool (is_xid_continue c))
    (cases_Bool ((c == 47) && begins (λ d. (d == 47) || (d == 42)) after)))

stop_at : (spot : Spot) → Ends spot.rest → Reached spot
stop_at spot ends = record { tokens = []; end = spot; stretch = nothing spot; ends = ends }

from_answer : (spot : Spot) → ((next : Spot) → length next.rest < length spot.rest → Reached next)
    → (spot.rest ≡ []) ⊎ Answer spot.rest → Reached spot
from_answer spot more (inl none) = stop_at spot (at_end none)
from_answer spot more (inr (piece_at gap rest there)) =
    further_gap spot rest there (more (past spot there.taken rest) (shorter spot.rest rest gap there))
from_answer spot more (inr (piece_at (token kind text) rest there)) =
    further_token spot kind text rest there (more (past spot there.taken rest) (shorter spot.rest rest (token kind text) there))
from_answer spot more (inr (comment_at opens)) = stop_at spot (in_comment opens)
from_answer spot more (inr (quote_at opens)) = stop_at spot (in_quote opens)

reached : (fuel : ℕ) (spot : Spot) → length spot.rest ≤ fuel → Reached spot
reached zero spot short = stop_at spot (at_end (nil_from_length spot.rest (omega arith)))
reached (suc fuel) spot short =
    from_answer spot (λ next shorter_rest. reached fuel next (omega arith)) (answer_of spot.rest)

-- whether a run is all of these
run_decided : (goes : ℕ → List ℕ → Bool) (whole run rest : List ℕ) → whole ≡ run ++ rest → IsLongestRun goes run rest
    → IsLongestRun goes whole [] ⊎ (IsLongestRun goes whole [] → ⊥)
run_decided goes whole run [] parts longest =
    inl (subst (λ (l : List ℕ). IsLongestRun goes l []) (sym (append-nil run) ∙ sym parts) longest)
run_decided goes whole run (c ∷ rest) parts longest =
    inr (λ all. let same = (run_same goes whole [] run (c ∷ rest) all longest (append-nil whole ∙ parts)).1 in cc)

HasEither : List ℕ → Type 0
HasEither source = ((tokens : List PlainToken) × AreTokens source tokens) ⊎ ((fault : TokenFault) × HasFault source fault)

nil_or_not : (bytes : List ℕ) → (bytes ≡ []) ⊎ (bytes ≡ [] → ⊥)
nil_or_not [] = inl refl
nil_or_not (b ∷ bytes) = inr (λ none. cc)

module _ (source text stray : List ℕ) (decoded : IsDecoded source (chars text) stray) (utf8 : IsUtf8 text)
    (tokens : List PlainToken) (end : Spot) (stretch : Stretch (start (chars text)) tokens end) where
  by_stray : end.rest ≡ [] → (stray ≡ []) ⊎ (stray ≡ [] → ⊥) → HasEither source
  unfolding HasEither
  by_stray none (inl no_stray) = inl (tokens, tokens_at_end source text stray decoded utf8 tokens end stretch none no_stray)
  by_stray none (inr some) = inr (not_utf8 (length text), stray_at_end source text stray decoded utf8 tokens end stretch none some)

  by_close : OpensComment end.rest → IsLongestRun goes_on_comment stray [] ⊎ (IsLongestRun goes_on_comment stray [] → ⊥) → HasEither source
  unfolding HasEither
  by_close opens (inl none) = inr (open_comment end.place, comment_without_end source text stray decoded utf8 tokens end stretch opens none)
  by_close opens (inr closes) = inr (not_utf8 (length text), stray_in_comment source text stray decoded utf8 tokens end stretch opens closes)

  by_end : Ends end.rest → HasEither source
  unfolding HasEither
  by_end (at_end none) = by_stray none (nil_or_not stray)
  by_end (in_comment opens) =
      let found = run_found goes_on_comment stray in
      by_close opens (run_decided goes_on_comment stray found.ends.run found.rest found.ends.parts found.ends.longest)
  by_end (in_quote opens) = inr (open_quote end.place, quote_without_text source text stray decoded utf8 tokens end stretch opens)

-- The longest text in front of a source.
record LongestText (bs : List ℕ) : Type 0 where
  pub size : ℕ
  pub within : size ≤ length bs
  pub utf8 : IsUtf8 (take size bs)
  pub longest : (m : ℕ) → size < m → m ≤ length bs → ¬ (IsUtf8 (take m bs))

longest_next : (bs : List ℕ) (n : ℕ) → suc n ≤ length bs → ((m : ℕ) → suc n < m → m ≤ length bs → ¬ (IsUtf8 (take m bs)))
    → (((m : ℕ) → n < m → m ≤ length bs → ¬ (IsUtf8 (take m bs))) → LongestText bs) → Known (is_utf8 (take (suc n) bs)) → LongestText bs
unfolding Known
longest_next bs n within none more (inl text) =
    record { size = suc n; within = within; utf8 = IsUtf8-from_is_utf8 (take (suc n) bs) text; longest = none }
longest_next bs n within none more (inr no_text) =
    more (λ m above m_within text. at_m m above m_within text (cases_eq m (suc n)))
  where
    at_m : (m : ℕ) → n < m → m ≤ length bs → IsUtf8 (take m bs) → (m ≡ suc n) ⊎ (m ≡ suc n → ⊥) → ⊥
    at_m m above m_within text (inl same) =
        both_ways (is_utf8 (take (suc n) bs)) no_text (is_utf8-from_IsUtf8 (take (suc n) bs) (subst (λ (k : ℕ). IsUtf8 (take k bs)) same text))
    at_m m above m_within text (inr other) = none m (omega arith) m_within text

longest_from : (bs : List ℕ) (n : ℕ) → n ≤ length bs → ((m : ℕ) → n < m → m ≤ length bs → ¬ (IsUtf8 (take m bs)))
    → LongestText bs
unfolding Known
longest_from bs zero within none = record { size = zero; within = within; utf8 = IsUtf8-nil; longest = none }
longest_from bs (suc n) within none =
    longest_next bs n within none (longest_from bs n (omega arith)) (cases_Bool (is_utf8 (take (suc n) bs)))

by_text : (source : List ℕ) (text : LongestText source) → (text.size ≡ length source) ⊎ (text.size ≡ length source → ⊥) → HasEither source
unfolding HasEither
by_text source text (inl all) =
    let whole : take text.size source ≡ source = take_all text.size source (omega arith) in
    let utf8 = subst IsUtf8 whole text.utf8 in
    let decoded = decoded_whole source source utf8 refl in
    let end = reached (length (chars source)) (start (chars source)) (omega arith) in
    by_end source source [] decoded utf8 end.tokens end.end end.stretch end.ends
by_text source text (inr part) =
    let valid : IsValidUpTo source text.size = record {
      short = let within = text.within in omega arith;
      front = text.utf8;
      longest = λ m above utf8. past_end m above utf8 (cases_lt (length source) m);
    } in
    let front = take text.size source in
    let decoded = decoded_front source front (drop text.size source) text.size valid refl refl in
    let end = reached (length (chars front)) (start (chars front)) (omega arith) in
    by_end source front (drop text.size source) decoded text.utf8 end.tokens end.end end.stretch end.ends
  where
    past_end : (m : ℕ) → text.size < m → IsUtf8 (take m source) → (length source < m) ⊎ (m ≤ length source) → ⊥
    past_end m above utf8 (inl beyond) =
        let all : take m source ≡ take (length source) source =
        take_all m source (omega arith) ∙ sym (take_all (length source) source (omega arith)) in
        let within = text.within in
        text.longest (length source) (omega arith) (omega arith) (subst IsUtf8 all utf8)
    past_end m above utf8 (inr within) = text.longest m above within utf8

pub tokens_or_fault : TokensOrFault
unfolding HasEither
tokens_or_fault source =
    let text = longest_from source (length source) (omega arith) (λ m above within _. omega arith) in
    by_text source text (cases_eq text.size (length source))
