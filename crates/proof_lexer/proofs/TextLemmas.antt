-- A text and its characters: where one character or a part comes off its front.
use Rattle.std.proofs.Common.{◌≡◌, ℕ, ◌+◌, ◌-◌, ◌<◌, ◌≤◌, true, List, [], ◌∷◌, ◌++◌, length, get_or, take, drop, IsUtf8, refl, sym, ap, ◌∙◌, subst, arith, length-append, append-nil, take-add, take-append-drop}
use Rattle.std.specs.Str.{chars, all_scalars, encode_utf8_all, IsCharBoundary, StartsWithNoChar, IsValidUpTo}
use Rattle.std.specs.Char.{encode_utf8}
use Rattle.std.proofs.lemmas.Str.{chars-encodes, chars-nil, encode_same, encodes-append, length-encode, len_utf8_bounds, IsCharBoundary-start, IsUtf8-append, IsUtf8-encode}
use Rattle.std.proofs.lemmas.Bool.{and_parts, and_from}
use Rattle.std.proofs.lemmas.List.{get_or-append-add}
use Rattle.std.proofs.Math.Seq.{take-append_seam}
use Rattle.sy_base.specs.Tokens.{IsDecoded}
use Rattle.proof_lexer.specs.Front.{EndsWith}

-- a text is the UTF-8 of its characters
pub chars-spell : (bs : List ℕ) → IsUtf8 bs → encode_utf8_all (chars bs) ≡ bs
chars-spell bs text = ap encode_utf8_all (ap chars (sym text.1.1) ∙ chars-encodes text.0 text.1.0) ∙ text.1.1

pub chars-scalars : (bs : List ℕ) → IsUtf8 bs → all_scalars (chars bs) ≡ true
chars-scalars bs text = ap all_scalars (ap chars (sym text.1.1) ∙ chars-encodes text.0 text.1.0) ∙ text.1.0

-- a character takes at least one byte
encode-some : (c : ℕ) → 0 < length (encode_utf8 c)
encode-some c = omega (arith, length-encode c, (len_utf8_bounds c).0)

first_character : (cs : List ℕ) (c : ℕ) (rest : List ℕ) → all_scalars cs ≡ true → encode_utf8_all cs ≡ encode_utf8 c ++ rest
    → IsUtf8 rest × (cs ≡ c ∷ chars rest)
first_character [] c rest scalars same =
    absurd (omega (arith, ap length same, length-append (encode_utf8 c) rest, encode-some c))
first_character (d ∷ ds) c rest scalars same =
    let parts = encode_same d c (encode_utf8_all ds) rest same in
    let more = (and_parts _ _ scalars).1 in
    ((ds, (more, parts.1)), (λ i. parts.0 i ∷ (sym (chars-encodes ds more) ∙ ap chars parts.1) i))

-- the first character of a text, and the text after it
pub chars-first : (bs : List ℕ) (c : ℕ) (rest : List ℕ) → IsUtf8 bs → bs ≡ encode_utf8 c ++ rest → chars bs ≡ c ∷ chars rest
chars-first bs c rest text same =
    ap chars (sym text.1.1) ∙ chars-encodes text.0 text.1.0 ∙ (first_character text.0 c rest text.1.0 (text.1.1 ∙ same)).1

-- the text after it is shorter
pub length-first : (bs : List ℕ) (c : ℕ) (rest : List ℕ) → bs ≡ encode_utf8 c ++ rest → length rest < length bs
length-first bs c rest same = omega (arith, ap length same, length-append (encode_utf8 c) rest, encode-some c)

-- a text of no bytes has no characters, and the other way round
pub chars-empty : (bs : List ℕ) → length bs ≡ 0 → chars bs ≡ []
chars-empty [] empty = chars-nil
chars-empty (b ∷ bs) empty = absurd (omega arith)

pub length-no_chars : (bs : List ℕ) → IsUtf8 bs → chars bs ≡ [] → length bs ≡ 0
length-no_chars bs text none = ap length (sym (chars-spell bs text) ∙ ap encode_utf8_all none)

scalars-front : (front rest : List ℕ) → all_scalars (front ++ rest) ≡ true → all_scalars front ≡ true
scalars-front [] rest scalars = refl
scalars-front (c ∷ front) rest scalars =
    let parts = and_parts _ _ scalars in and_from _ _ parts.0 (scalars-front front rest parts.1)

-- a text whose characters end with those of another ends with its bytes
pub bytes-end : (bs end front : List ℕ) → IsUtf8 bs → IsUtf8 end → chars bs ≡ front ++ chars end → bs ≡ encode_utf8_all front ++ end
bytes-end bs end front text text_end parts =
    sym (chars-spell bs text) ∙ ap encode_utf8_all parts ∙ encodes-append front (chars end)
    ∙ ap (λ rest. encode_utf8_all front ++ rest) (chars-spell end text_end)

pub front-chars : (bs end front : List ℕ) → IsUtf8 bs → chars bs ≡ front ++ chars end → chars (encode_utf8_all front) ≡ front
front-chars bs end front text parts =
    chars-encodes front (scalars-front front (chars end) (ap all_scalars (sym parts) ∙ chars-scalars bs text))

-- a text may be cut where a text follows
pub boundary-before : (front end : List ℕ) → IsUtf8 end → IsCharBoundary (front ++ end) (length front)
boundary-before front end text =
    let first : get_or (front ++ end) (length front) 0 ≡ get_or end 0 0 =
    ap (λ n. get_or (front ++ end) n 0) (let same : length front ≡ length front + 0 = omega arith in same)
    ∙ get_or-append-add front end 0 0 in (
      omega (arith, length-append front end),
      λ within high. omega (arith, first, (IsCharBoundary-start end text).1 (omega (arith, length-append front end, within)) (omega (arith, first, high))),
    )

-- How a text is cut before the text with which it ends.
pub record IsCut (bs end : List ℕ) : Type 0 where
  pub within : length end ≤ length bs
  pub boundary : IsCharBoundary bs (length bs - length end)
  pub parts : chars bs ≡ chars (take (length bs - length end) bs) ++ chars end

pub cut_before : (bs end : List ℕ) → IsUtf8 bs → IsUtf8 end → EndsWith (chars bs) (chars end) → IsCut bs end
cut_before bs end text text_end ends =
    let front = encode_utf8_all ends.front in
    let whole : bs ≡ front ++ end = bytes-end bs end ends.front text text_end ends.parts in
    let sizes : length bs ≡ length front + length end = ap length whole ∙ length-append front end in
    let at : length bs - length end ≡ length front = omega (arith, sizes) in
    let taken : take (length bs - length end) bs ≡ front = ap (λ n. take n bs) at ∙ ap (take (length front)) whole ∙ take-append_seam front end in
    record {
      within = omega (arith, sizes);
      boundary = subst (λ n. IsCharBoundary bs n) (sym at) (subst (λ l. IsCharBoundary l (length front)) (sym whole) (boundary-before front end text_end));
      parts = ends.parts ∙ ap (λ l. l ++ chars end) (sym (ap chars taken ∙ front-chars bs end ends.front text ends.parts));
    }

-- No character begins the bytes at which the longest text in front of them ends.
pub no_character : (bs : List ℕ) (n : ℕ) → IsValidUpTo bs n → StartsWithNoChar (drop n bs)
no_character bs n valid c rest scalar same =
    let width = length (encode_utf8 c) in
    let text : IsUtf8 (take n bs ++ encode_utf8 c) = IsUtf8-append (take n bs) (encode_utf8 c) valid.front (IsUtf8-encode c scalar) in
    let taken : take (n + width) bs ≡ take n bs ++ encode_utf8 c =
    take-add n width bs ∙ ap (λ l. take n bs ++ l) (ap (take width) same ∙ take-append_seam (encode_utf8 c) rest) in
    valid.longest (n + width) (omega (arith, encode-some c)) (subst IsUtf8 (sym taken) text)

-- a source that is text, and one that is text up to a place
pub decoded_whole : (source text : List ℕ) → IsUtf8 source → text ≡ source → IsDecoded source (chars text) []
decoded_whole source text utf8 same = record {
  scalars = ap all_scalars (ap chars same) ∙ chars-scalars source utf8;
  spelled = sym (append-nil (encode_utf8_all (chars text)) ∙ ap encode_utf8_all (ap chars same) ∙ chars-spell source utf8);
  no_more = λ c rest _ same. omega (arith, ap length same, length-append (encode_utf8 c) rest, encode-some c);
}

pub decoded_front : (source text stray : List ℕ) (n : ℕ) → IsValidUpTo source n → text ≡ take n source → stray ≡ drop n source
    → IsDecoded source (chars text) stray
decoded_front source text stray n valid text_is stray_is = record {
  scalars = ap all_scalars (ap chars text_is) ∙ chars-scalars (take n source) valid.front;
  spelled = sym (take-append-drop n source) ∙ (λ i. (sym (chars-spell (take n source) valid.front) ∙ ap encode_utf8_all (ap chars (sym text_is))) i ++ sym stray_is i);
  no_more = subst StartsWithNoChar (sym stray_is) (no_character source n valid);
}

-- a text with bytes has characters
pub some_chars : (bs : List ℕ) → IsUtf8 bs → (length bs ≡ 0 → ⊥) → 0 < length (chars bs)
some_chars bs text some = some_of (chars bs) (λ none. some (length-no_chars bs text none))
  where
    some_of : (cs : List ℕ) → (cs ≡ [] → ⊥) → 0 < length cs
    some_of [] never = absurd (never refl)
    some_of (c ∷ cs) never = omega arith
