-- What stands at the front of a text, from where the runs of it end.
use Rattle.std.proofs.Common.{◌≡◌, ℕ, ◌<◌, ◌≤◌, ◌⊎◌, inl, inr, Bool, true, false, ◌&&◌, ◌||◌, ◌==◌, nat_le, List, [], ◌∷◌, ◌++◌, length, refl, sym, ap, ◌∙◌, subst, arith, append_assoc, length-append}
use Rattle.std.specs.Str.{encode_utf8_all}
use Rattle.std.specs.Char.{encode_utf8}
use Rattle.std.proofs.lemmas.Bool.{both_ways, and_parts, or_cases, or_from, and_from, not-false, not_from_false, eqb-true, le-leb, lt-leb, cond-true, cond-false, and_left, and_right}
use Rattle.std.proofs.lemmas.List.{append_cancel_right}
use Rattle.std.proofs.lemmas.Str.{encode_ascii, length-le-encodes}
use Rattle.unicode_ident.specs.Ident.{is_xid_continue}
use Rattle.sy_base.specs.Tokens.{is_blank, is_single, is_other, begins, goes_on_line, goes_on_comment, goes_on_quoted, goes_on_word, goes_on_symbol, IsLongestRun, all_dashes, symbol_kind, gap, token, blank, line_comment, block_comment, quoted, single, word, symbol}
use Rattle.sy_base.proofs.RunLemmas.{run_stops, run_same, run_whole}
use Rattle.proof_lexer.specs.Front.{EndsWith, RunEnds, StandsBefore, OpensComment, OpensQuote}

-- a run goes on over one more character in front
pub RunEnds-more : (goes : ℕ → List ℕ → Bool) (c : ℕ) (after end : List ℕ) → goes c after ≡ true → RunEnds goes after end
    → RunEnds goes (c ∷ after) end
RunEnds-more goes c after end passes ends = record {
  run = c ∷ ends.run;
  parts = ap (λ l. c ∷ l) ends.parts;
  longest = (subst (λ l. goes c l ≡ true) ends.parts passes, ends.longest);
}

pub RunEnds-none : (goes : ℕ → List ℕ → Bool) → RunEnds goes [] []
RunEnds-none goes = record { run = []; parts = refl; longest = tt }

pub RunEnds-stop : (goes : ℕ → List ℕ → Bool) (c : ℕ) (rest : List ℕ) → goes c rest ≡ false → RunEnds goes (c ∷ rest) (c ∷ rest)
RunEnds-stop goes c rest stops = record { run = []; parts = refl; longest = stops }

-- where a run ends, the whole ends with the rest
pub EndsWith-run : (goes : ℕ → List ℕ → Bool) (whole rest : List ℕ) → RunEnds goes whole rest → EndsWith whole rest
EndsWith-run goes whole rest ends = record { front = ends.run; parts = ends.parts }

pub EndsWith-first : (whole rest : List ℕ) (c : ℕ) → whole ≡ c ∷ rest → EndsWith whole rest
EndsWith-first whole rest c parts = record { front = c ∷ []; parts = parts }

pub EndsWith-more : (whole after rest : List ℕ) (c : ℕ) → whole ≡ c ∷ after → EndsWith after rest → EndsWith whole rest
EndsWith-more whole after rest c parts ends = record { front = c ∷ ends.front; parts = parts ∙ ap (λ l. c ∷ l) ends.parts }

-- the part before the end is what was taken
taken_before : (whole text taken rest : List ℕ) → whole ≡ text ++ rest → whole ≡ taken ++ rest → taken ≡ text
taken_before whole text taken rest parts split = append_cancel_right taken text rest (sym split ∙ parts)

pub blank_front : (whole rest : List ℕ) (c : ℕ) → whole ≡ c ∷ rest → is_blank c ≡ true → StandsBefore whole gap rest
blank_front whole rest c parts passes = record { taken = c ∷ []; parts = parts; stands = blank c rest passes }

pub single_front : (whole text rest : List ℕ) (c : ℕ) → whole ≡ c ∷ rest → whole ≡ text ++ rest → is_single c ≡ true
    → StandsBefore whole (token 2 text) rest
single_front whole text rest c first parts passes =
    subst (λ t. StandsBefore whole (token 2 t) rest) (taken_before whole text (c ∷ []) rest parts first)
    (record { taken = c ∷ []; parts = first; stands = single c rest passes })

pub word_front : (whole text after rest : List ℕ) (c : ℕ) → whole ≡ c ∷ after → whole ≡ text ++ rest → is_xid_continue c ≡ true
    → RunEnds goes_on_word after rest → StandsBefore whole (token 0 text) rest
word_front whole text after rest c first parts passes ends =
    let split : whole ≡ (c ∷ ends.run) ++ rest = first ∙ ap (λ l. c ∷ l) ends.parts in
    subst (λ t. StandsBefore whole (token 0 t) rest) (taken_before whole text (c ∷ ends.run) rest parts split)
    (record { taken = c ∷ ends.run; parts = split; stands = word c ends.run rest passes ends.longest })

symbol_stands : (run rest whole after : List ℕ) (c : ℕ) → whole ≡ run ++ rest → whole ≡ c ∷ after → goes_on_symbol c after ≡ true
    → IsLongestRun goes_on_symbol run rest → StandsBefore whole (token (symbol_kind run) run) rest
symbol_stands [] [] whole after c parts first passes longest = absurd (cc)
symbol_stands [] (d ∷ rest) whole after c parts first passes longest =
    let same : d ≡ c = cc in
    let more : rest ≡ after = cc in
    absurd (both_ways (goes_on_symbol c after) ((λ i. goes_on_symbol (sym same i) (sym more i)) ∙ longest) passes)
symbol_stands (d ∷ run) rest whole after c parts first passes longest =
    record { taken = d ∷ run; parts = parts; stands = symbol d run rest longest }

pub symbol_front : (whole text after rest : List ℕ) (c kind : ℕ) → whole ≡ c ∷ after → whole ≡ text ++ rest
    → goes_on_symbol c after ≡ true → RunEnds goes_on_symbol whole rest → kind ≡ symbol_kind text → StandsBefore whole (token kind text) rest
symbol_front whole text after rest c kind first parts passes ends kind_is =
    let run_is : ends.run ≡ text = taken_before whole text ends.run rest parts ends.parts in
    subst (λ k. StandsBefore whole (token k text) rest) (sym kind_is)
    (subst (λ t. StandsBefore whole (token (symbol_kind t) t) rest) run_is
    (symbol_stands ends.run rest whole after c ends.parts first passes ends.longest))

quoted_stands : (inside run rest : List ℕ) → inside ≡ run ++ 34 ∷ rest → 0 < length run → IsLongestRun goes_on_quoted run (34 ∷ rest)
    → StandsBefore (34 ∷ inside) (token 4 run) rest
quoted_stands inside [] rest parts some longest = absurd (omega arith)
quoted_stands inside (c ∷ run) rest parts some longest = record {
  taken = 34 ∷ ((c ∷ run) ++ (34 ∷ []));
  parts = ap (λ l. 34 ∷ l) (parts ∙ sym (append_assoc (c ∷ run) (34 ∷ []) rest));
  stands = quoted c run rest longest;
}

pub quoted_front : (inside text end rest : List ℕ) (c : ℕ) → RunEnds goes_on_quoted inside end → inside ≡ text ++ end
    → end ≡ c ∷ rest → c ≡ 34 → 0 < length text → StandsBefore (34 ∷ inside) (token 4 text) rest
quoted_front inside text end rest c ends parts end_is quote some =
    let run_is : ends.run ≡ text = taken_before inside text ends.run end parts ends.parts in
    let at_quote : end ≡ 34 ∷ rest = end_is ∙ ap (λ d. d ∷ rest) quote in
    quoted_stands inside text rest (parts ∙ ap (λ l. text ++ l) at_quote) some
    (subst (λ l. IsLongestRun goes_on_quoted text l) at_quote (subst (λ r. IsLongestRun goes_on_quoted r end) run_is ends.longest))

-- a quote opens nothing where its run is empty or ends before no quote
pub open_quote : (inside text end : List ℕ) → RunEnds goes_on_quoted inside end → inside ≡ text ++ end
    → ((c : ℕ) (front rest : List ℕ) → text ≡ c ∷ front → end ≡ 34 ∷ rest → ⊥) → OpensQuote (34 ∷ inside)
open_quote inside text end ends parts never = record {
  after = inside;
  opens = refl;
  no_text = λ c front rest split longest.
      let run_is : ends.run ≡ text = taken_before inside text ends.run end parts ends.parts in
      let same = run_same goes_on_quoted ends.run end (c ∷ front) (34 ∷ rest) ends.longest longest (sym ends.parts ∙ split) in
      never c front rest (sym run_is ∙ same.0) same.1;
}

pub line_front : (after inside rest : List ℕ) (c : ℕ) → after ≡ c ∷ inside → c ≡ 47 → RunEnds goes_on_line inside rest
    → StandsBefore (47 ∷ after) gap rest
line_front after inside rest c first slash ends = record {
  taken = 47 ∷ 47 ∷ ends.run;
  parts = ap (λ l. 47 ∷ l) (first ∙ (λ i. slash i ∷ ends.parts i));
  stands = line_comment ends.run rest ends.longest;
}

-- the character after `/` is the star
pub star_second : (after inside : List ℕ) (c : ℕ) → after ≡ c ∷ inside → begins (λ d. (d == 47) || (d == 42)) after ≡ true
    → (c ≡ 47 → ⊥) → c ≡ 42
star_second after inside c first opens other =
    let passes : ((c == 47) || (c == 42)) ≡ true = ap (begins (λ d. (d == 47) || (d == 42))) (sym first) ∙ opens in
    either (or_cases (c == 47) (c == 42) passes)
  where
    either : ((c == 47) ≡ true) ⊎ ((c == 42) ≡ true) → c ≡ 42
    either (inl slash) = absurd (other (eqb-true c 47 slash))
    either (inr star) = eqb-true c 42 star

pub open_comment : (inside end : List ℕ) → RunEnds goes_on_comment inside end → end ≡ [] → OpensComment (47 ∷ 42 ∷ inside)
open_comment inside end ends empty = record {
  after = inside;
  opens = refl;
  no_end =
      let longest : IsLongestRun goes_on_comment ends.run [] = subst (λ l. IsLongestRun goes_on_comment ends.run l) empty ends.longest in
      subst (λ l. IsLongestRun goes_on_comment l []) (sym (ends.parts ∙ ap (λ l. ends.run ++ l) empty)) (run_whole goes_on_comment ends.run longest);
}

-- where the run of a comment stops, `*/` stands
record IsClose (rest : List ℕ) : Type 0 where
  pub after : List ℕ
  pub closes : rest ≡ 42 ∷ 47 ∷ after

close_at : (c : ℕ) (rest : List ℕ) → goes_on_comment c rest ≡ false → IsClose (c ∷ rest)
unfolding goes_on_comment
close_at c [] stops =
    let parts = and_parts (c == 42) false (not-false ((c == 42) && false) stops) in absurd (cc)
close_at c (d ∷ rest) stops =
    let parts = and_parts (c == 42) (d == 47) (not-false ((c == 42) && (d == 47)) stops) in
    record { after = rest; closes = λ i. eqb-true c 42 parts.0 i ∷ (eqb-true d 47 parts.1 i ∷ rest) }

pub block_front : (inside end last : List ℕ) (c : ℕ) → RunEnds goes_on_comment inside end → end ≡ c ∷ last
    → (d : ℕ) (rest : List ℕ) → last ≡ d ∷ rest → StandsBefore (47 ∷ 42 ∷ inside) gap rest
block_front inside end last c ends end_is d rest last_is =
    let longest : IsLongestRun goes_on_comment ends.run (c ∷ last) = subst (λ l. IsLongestRun goes_on_comment ends.run l) end_is ends.longest in
    let close = close_at c last (run_stops goes_on_comment ends.run last c longest) in
    let rest_is : rest ≡ close.after = cc (close.closes, last_is) in
    let at_close : end ≡ 42 ∷ 47 ∷ rest = end_is ∙ close.closes ∙ ap (λ l. 42 ∷ 47 ∷ l) (sym rest_is) in
    record {
      taken = 47 ∷ 42 ∷ (ends.run ++ (42 ∷ 47 ∷ []));
      parts = ap (λ l. 47 ∷ 42 ∷ l) (ends.parts ∙ ap (λ l. ends.run ++ l) at_close ∙ sym (append_assoc ends.run (42 ∷ 47 ∷ []) rest));
      stands = block_comment ends.run rest (subst (λ l. IsLongestRun goes_on_comment ends.run l) at_close ends.longest);
    }

pub no_lone_star : (inside end last : List ℕ) (c : ℕ) → RunEnds goes_on_comment inside end → end ≡ c ∷ last → last ≡ [] → ⊥
no_lone_star inside end last c ends end_is empty =
    let longest : IsLongestRun goes_on_comment ends.run (c ∷ last) = subst (λ l. IsLongestRun goes_on_comment ends.run l) end_is ends.longest in
    let close = close_at c last (run_stops goes_on_comment ends.run last c longest) in
    cc (close.closes, empty)

-- dashes take a byte each
dashes_size : (cs : List ℕ) → all_dashes cs ≡ true → length (encode_utf8_all cs) ≡ length cs
dashes_size [] dashes = refl
dashes_size (c ∷ cs) dashes =
    let parts = and_parts (c == 45) (all_dashes cs) dashes in
    omega (
      arith,
      length-append (encode_utf8 c) (encode_utf8_all cs),
      dashes_size cs parts.1,
      ap length (encode_ascii c (omega (arith, eqb-true c 45 parts.0))),
    )

pub bar_kind : (cs : List ℕ) → all_dashes cs ≡ true → 3 ≤ length (encode_utf8_all cs) → symbol_kind cs ≡ 3
unfolding symbol_kind
bar_kind cs dashes long =
    cond-true _ 3 1 (and_from (nat_le 3 (length cs)) (all_dashes cs) (le-leb 3 (length cs) (omega (arith, dashes_size cs dashes))) dashes)

pub short_kind : (cs : List ℕ) → length (encode_utf8_all cs) < 3 → symbol_kind cs ≡ 1
unfolding symbol_kind
short_kind cs short =
    cond-false _ 3 1 (and_left (nat_le 3 (length cs)) (all_dashes cs) (lt-leb 3 (length cs) (omega (arith, length-le-encodes cs))))

pub plain_kind : (cs : List ℕ) → all_dashes cs ≡ false → symbol_kind cs ≡ 1
unfolding symbol_kind
plain_kind cs plain = cond-false _ 3 1 (and_right (nat_le 3 (length cs)) (all_dashes cs) plain)

-- a character of no other class goes on a symbol where no comment opens
pub other_goes_on : (c : ℕ) (after : List ℕ) → is_blank c ≡ false → is_single c ≡ false → (c == 34) ≡ false → is_xid_continue c ≡ false
    → ((c == 47) && begins (λ d. (d == 47) || (d == 42)) after) ≡ false → goes_on_symbol c after ≡ true
unfolding goes_on_symbol is_other
other_goes_on c after no_blank no_single no_quote no_word no_comment =
    and_from _ _ (not_from_false _ (or_from _ _ (or_from _ _ (or_from _ _ no_blank no_word) no_single) no_quote)) (not_from_false _ no_comment)
