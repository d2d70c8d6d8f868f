-- From one spot the pieces of a text lead to one end, so a source has one list of tokens or one fault.
use Rattle.std.proofs.Common.{◌≡◌, ℕ, Bool, true, ◌&&◌, ◌||◌, List, [], ◌∷◌, ◌++◌, get_or, drop, refl, sym, ap, ◌∙◌, subst, arith, append_assoc}
use Rattle.std.specs.Prelude.{◌==◌}
use Rattle.std.specs.Str.{all_scalars, encode_utf8_all, StartsWithNoChar}
use Rattle.std.specs.Char.{encode_utf8}
use Rattle.std.proofs.lemmas.Str.{encode_same}
use Rattle.std.proofs.lemmas.Bool.{and_parts, true≢false, false≢true}
use Rattle.unicode_ident.specs.Ident.{is_xid_continue}
use Rattle.sy_base.specs.Tokens.{PlainToken, is_blank, is_single, begins, goes_on_comment, IsLongestRun, Piece, gap, token, Stands, blank, line_comment, block_comment, quoted, single, word, symbol, Spot, past, token_at, Stretch, nothing, first_gap, first_token, IsDecoded, IsOpenQuote}
use Rattle.sy_base.proofs.StandsLemmas.{Stands-same, quote_no_word, slash_no_word, symbol_only}

-- two stretches, one after the other
pub Stretch-append : (a b c : Spot) (ts us : List PlainToken) → Stretch a ts b → Stretch b us c → Stretch a (ts ++ us) c
Stretch-append a b c ts us (nothing spot) second = second
Stretch-append a b c ts us (first_gap spot end taken rest tokens split stands more) second =
    first_gap spot c taken rest (tokens ++ us) split stands (Stretch-append _ b c tokens us more second)
Stretch-append a b c ts us (first_token spot end kind text taken rest tokens split stands more) second =
    first_token spot c kind text taken rest (tokens ++ us) split stands (Stretch-append _ b c tokens us more second)

-- no piece stands here
abbrev pub IsFinal : List ℕ → Type 0
IsFinal rest = (piece : Piece) (taken next : List ℕ) → rest ≡ taken ++ next → Stands piece taken next → ⊥

past_same : (spot : Spot) (taken other rest other_rest : List ℕ) → taken ≡ other → rest ≡ other_rest → past spot taken rest ≡ past spot other other_rest
past_same spot taken other rest other_rest same rest_same = λ i. past spot (same i) (rest_same i)

-- the ends at which no piece stands are the same, and so are the tokens up to there
pub Stretch-same : (spot end other : Spot) (ts us : List PlainToken) → Stretch spot ts end → Stretch spot us other
    → IsFinal end.rest → IsFinal other.rest → (ts ≡ us) × (end ≡ other)
Stretch-same spot end other ts us (nothing s) (nothing t) final other_final = (refl, refl)
Stretch-same spot end other ts us (nothing s) (first_gap t e taken rest tokens split stands more) final other_final =
    absurd (final gap taken rest split stands)
Stretch-same spot end other ts us (nothing s) (first_token t e kind text taken rest tokens split stands more) final other_final =
    absurd (final (token kind text) taken rest split stands)
Stretch-same spot end other ts us (first_gap s e taken rest tokens split stands more) (nothing t) final other_final =
    absurd (other_final gap taken rest split stands)
Stretch-same spot end other ts us (first_token s e kind text taken rest tokens split stands more) (nothing t) final other_final =
    absurd (other_final (token kind text) taken rest split stands)
Stretch-same spot end other ts us (first_gap s e taken rest tokens split stands more) (first_gap t f taken' rest' tokens' split' stands' more') final other_final =
    let same = Stands-same _ _ _ _ _ _ stands' stands (sym split' ∙ split) in
    let again = subst (λ (p : Spot). Stretch p tokens' f) (past_same spot _ _ _ _ same.taken_same same.rest_same) more' in
    Stretch-same _ end other tokens tokens' more again final other_final
Stretch-same spot end other ts us (first_gap s e taken rest tokens split stands more) (first_token t f kind text taken' rest' tokens' split' stands' more') final other_final =
    let same = (Stands-same _ _ _ _ _ _ stands stands' (sym split ∙ split')).piece_same in absurd (cc)
Stretch-same spot end other ts us (first_token s e kind text taken rest tokens split stands more) (first_gap t f taken' rest' tokens' split' stands' more') final other_final =
    let same = (Stands-same _ _ _ _ _ _ stands stands' (sym split ∙ split')).piece_same in absurd (cc)
Stretch-same spot end other ts us (first_token s e kind text taken rest tokens split stands more) (first_token t f kind' text' taken' rest' tokens' split' stands' more') final other_final =
    let same = Stands-same _ _ _ _ _ _ stands' stands (sym split' ∙ split) in
    let piece_same = same.piece_same in
    let kind_same : kind ≡ kind' = cc in
    let text_same : text ≡ text' = cc in
    let again = subst (λ (p : Spot). Stretch p tokens' f) (past_same spot _ _ _ _ same.taken_same same.rest_same) more' in
    let tails = Stretch-same _ end other tokens tokens' more again final other_final in
    ((λ i. token_at spot (kind_same i) (text_same i) (sym same.taken_same i) ∷ tails.0 i), tails.1)

-- a piece takes something
pub Stands-some : (piece : Piece) (taken rest : List ℕ) → Stands piece taken rest → taken ≡ [] → ⊥
Stands-some piece taken last (blank c rest passes) none = cc
Stands-some piece taken last (line_comment text rest longest) none = cc
Stands-some piece taken last (block_comment text rest longest) none = cc
Stands-some piece taken last (quoted c text rest longest) none = cc
Stands-some piece taken last (single c rest passes) none = cc
Stands-some piece taken last (word c text rest passes longest) none = cc
Stands-some piece taken last (symbol c text rest longest) none = cc

nothing_in : (taken next : List ℕ) → [] ≡ taken ++ next → taken ≡ []
nothing_in [] next split = refl
nothing_in (c ∷ taken) next split = cc

first_same : (a b : ℕ) (l m : List ℕ) → a ∷ l ≡ b ∷ m → a ≡ b
first_same a b l m same = ap (λ l. get_or l 0 0) same

second_same : (a b d e : ℕ) (l m : List ℕ) → d ∷ a ∷ l ≡ e ∷ b ∷ m → a ≡ b
second_same a b d e l m same = ap (λ l. get_or l 1 0) same

rest_same : (l m : List ℕ) (a b : ℕ) → a ∷ l ≡ b ∷ m → l ≡ m
rest_same l m a b same = ap (drop 1) same

-- nothing stands at the end,
pub IsFinal-end : (rest : List ℕ) → rest ≡ [] → IsFinal rest
IsFinal-end rest empty piece taken next split stands = Stands-some piece taken next stands (nothing_in taken next (sym empty ∙ split))

-- at a comment without an end,
goes_on_inside : (goes : ℕ → List ℕ → Bool) (text more : List ℕ) (c : ℕ) → IsLongestRun goes (text ++ c ∷ more) [] → goes c (more ++ []) ≡ true
goes_on_inside goes [] more c longest = longest.0
goes_on_inside goes (d ∷ text) more c longest = goes_on_inside goes text more c longest.1

no_close_inside : (after text next stray : List ℕ) → after ≡ text ++ (42 ∷ 47 ∷ next) → IsLongestRun goes_on_comment (after ++ stray) [] → ⊥
unfolding goes_on_comment
no_close_inside after text next stray split longest =
    let whole : after ++ stray ≡ text ++ (42 ∷ 47 ∷ (next ++ stray)) = ap (λ l. l ++ stray) split ∙ append_assoc text (42 ∷ 47 ∷ next) stray in
    let inside = goes_on_inside goes_on_comment text (47 ∷ (next ++ stray)) 42 (subst (λ (l : List ℕ). IsLongestRun goes_on_comment l []) whole longest) in
    false≢true inside

comment_stands : (piece : Piece) (taken next after stray : List ℕ) → Stands piece taken next → taken ++ next ≡ 47 ∷ 42 ∷ after
    → IsLongestRun goes_on_comment (after ++ stray) [] → ⊥
unfolding is_blank is_single
comment_stands piece taken next after stray (blank c rest passes) same longest =
    let first = first_same c 47 _ _ same in false≢true (ap is_blank (sym first) ∙ passes)
comment_stands piece taken next after stray (line_comment text rest no_feed) same longest =
    let second : 47 ≡ 42 = second_same 47 42 47 47 (text ++ rest) after same in absurd (omega (arith, second))
comment_stands piece taken next after stray (block_comment text rest no_close) same longest =
    let inside = rest_same (42 ∷ ((text ++ (42 ∷ 47 ∷ [])) ++ rest)) (42 ∷ after) 47 47 same in
    let more = rest_same ((text ++ (42 ∷ 47 ∷ [])) ++ rest) after 42 42 inside in
    no_close_inside after text rest stray (sym more ∙ append_assoc text (42 ∷ 47 ∷ []) rest) longest
comment_stands piece taken next after stray (quoted c text rest quote) same longest =
    absurd (omega (arith, first_same 34 47 _ _ same))
comment_stands piece taken next after stray (single c rest passes) same longest =
    let first = first_same c 47 _ _ same in false≢true (ap is_single (sym first) ∙ passes)
comment_stands piece taken next after stray (word c text rest passes run) same longest =
    let first = first_same c 47 _ _ same in false≢true (sym slash_no_word ∙ ap is_xid_continue (sym first) ∙ passes)
comment_stands piece taken next after stray (symbol c text rest run) same longest =
    let first = first_same c 47 _ _ same in
    let more = rest_same (text ++ rest) (42 ∷ after) c 47 same in
    let no_comment = (symbol_only c (text ++ rest) run.0).no_comment in
    true≢false ((λ i. (sym first i == 47) && begins (λ d. (d == 47) || (d == 42)) (sym more i)) ∙ no_comment)

pub IsFinal-comment : (rest after stray : List ℕ) → rest ≡ 47 ∷ 42 ∷ after → IsLongestRun goes_on_comment (after ++ stray) [] → IsFinal rest
IsFinal-comment rest after stray opens longest piece taken next split stands =
    comment_stands piece taken next after stray stands (sym split ∙ opens) longest

-- and at a quote that begins no quoted token.
quote_stands : (piece : Piece) (taken next after : List ℕ) → Stands piece taken next → taken ++ next ≡ 34 ∷ after → IsOpenQuote after → ⊥
unfolding is_blank is_single
quote_stands piece taken next after (blank c rest passes) same none =
    let first = first_same c 34 _ _ same in false≢true (ap is_blank (sym first) ∙ passes)
quote_stands piece taken next after (line_comment text rest no_feed) same none =
    absurd (omega (arith, first_same 47 34 _ _ same))
quote_stands piece taken next after (block_comment text rest no_close) same none =
    absurd (omega (arith, first_same 47 34 _ _ same))
quote_stands piece taken next after (quoted c text rest quote) same none =
    let inside = rest_same (((c ∷ text) ++ (34 ∷ [])) ++ rest) after 34 34 same in
    none c text rest (sym inside ∙ append_assoc (c ∷ text) (34 ∷ []) rest) quote
quote_stands piece taken next after (single c rest passes) same none =
    let first = first_same c 34 _ _ same in false≢true (ap is_single (sym first) ∙ passes)
quote_stands piece taken next after (word c text rest passes run) same none =
    let first = first_same c 34 _ _ same in false≢true (sym quote_no_word ∙ ap is_xid_continue (sym first) ∙ passes)
quote_stands piece taken next after (symbol c text rest run) same none =
    let first = first_same c 34 _ _ same in
    let no_quote = (symbol_only c (text ++ rest) run.0).no_quote in
    true≢false ((λ i. sym first i == 34) ∙ no_quote)

pub IsFinal-quote : (rest after : List ℕ) → rest ≡ 34 ∷ after → IsOpenQuote after → IsFinal rest
IsFinal-quote rest after opens none piece taken next split stands = quote_stands piece taken next after stands (sym split ∙ opens) none

-- a source decodes in one way
decoded_parts : (cs ds stray other : List ℕ) → all_scalars cs ≡ true → all_scalars ds ≡ true → StartsWithNoChar stray → StartsWithNoChar other
    → encode_utf8_all cs ++ stray ≡ encode_utf8_all ds ++ other → (cs ≡ ds) × (stray ≡ other)
decoded_parts [] [] stray other scalars other_scalars none other_none same = (refl, same)
decoded_parts [] (d ∷ ds) stray other scalars other_scalars none other_none same =
    absurd (none d (encode_utf8_all ds ++ other) (and_parts _ _ other_scalars).0 (same ∙ append_assoc (encode_utf8 d) (encode_utf8_all ds) other))
decoded_parts (c ∷ cs) [] stray other scalars other_scalars none other_none same =
    absurd (other_none c (encode_utf8_all cs ++ stray) (and_parts _ _ scalars).0 (sym same ∙ append_assoc (encode_utf8 c) (encode_utf8_all cs) stray))
decoded_parts (c ∷ cs) (d ∷ ds) stray other scalars other_scalars none other_none same =
    let firsts = encode_same c d (encode_utf8_all cs ++ stray) (encode_utf8_all ds ++ other)
    (sym (append_assoc (encode_utf8 c) (encode_utf8_all cs) stray) ∙ same ∙ append_assoc (encode_utf8 d) (encode_utf8_all ds) other) in
    let rests = decoded_parts cs ds stray other (and_parts _ _ scalars).1 (and_parts _ _ other_scalars).1 none other_none firsts.1 in
    ((λ i. firsts.0 i ∷ rests.0 i), rests.1)

pub IsDecoded-same : (source cs ds stray other : List ℕ) → IsDecoded source cs stray → IsDecoded source ds other → (cs ≡ ds) × (stray ≡ other)
IsDecoded-same source cs ds stray other decoded other_decoded =
    decoded_parts cs ds stray other decoded.scalars other_decoded.scalars decoded.no_more other_decoded.no_more
    (sym decoded.spelled ∙ other_decoded.spelled)
