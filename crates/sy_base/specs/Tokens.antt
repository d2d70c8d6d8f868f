-- Which tokens a text has, and which fault it has where it has none. To be held against 'Tokens' of docs/notation.md.
use Rattle.std.specs.Prelude.{◌≡◌, ◌≢◌, ℕ, ◌+◌, Bool, true, false, not, ◌&&◌, ◌||◌, ◌==◌, IsTrue, IsFalse, nat_le, if◌then◌else◌, count_by, List, [], ◌∷◌, ◌++◌, length}
use Rattle.std.specs.Str.{all_scalars, chars, encode_utf8_all, StartsWithNoChar}
use Rattle.unicode_ident.specs.Ident.{is_xid_start, is_xid_continue}

-- A token: the number of its kind (0 a word, 1 a symbol, 2 punctuation, 3 a bar, 4 quoted), its text (of a quoted token
-- what stands between the quotes), the part of the source that it covers, in bytes, and its line, counted from 1.
pub record PlainToken : Type 0 where
  pub kind : ℕ
  pub text : List ℕ
  pub from : ℕ
  pub to : ℕ
  pub line : ℕ

-- space, tab, carriage return or line feed
unfoldable pub is_blank : ℕ → Bool
is_blank c = (c == 32) || (c == 9) || (c == 13) || (c == 10)

-- one of , ; . ( ) [ ] { }
unfoldable pub is_single : ℕ → Bool
is_single c =
    (c == 44) || (c == 59) || (c == 46) || (c == 40) || (c == 41) || (c == 91) || (c == 93) || (c == 123) || (c == 125)

-- no blank, no character of a word, no token alone and no quote
unfoldable pub is_other : ℕ → Bool
is_other c = not (is_blank c || is_xid_continue c || is_single c || (c == 34))

-- these characters begin with one that passes
abbrev pub begins : (ℕ → Bool) → List ℕ → Bool
begins passes [] = false
begins passes (c ∷ rest) = passes c

-- Whether a run goes on with a character, by the characters after it: a comment up to the end of its line,
unfoldable pub goes_on_line : ℕ → List ℕ → Bool
goes_on_line c rest = not (c == 10)

-- a comment up to `*/`,
unfoldable pub goes_on_comment : ℕ → List ℕ → Bool
goes_on_comment c rest = not ((c == 42) && begins (λ d. d == 47) rest)

-- the text of a quoted token, which has no quote and no blank,
unfoldable pub goes_on_quoted : ℕ → List ℕ → Bool
goes_on_quoted c rest = not ((c == 34) || is_blank c)

-- a word, with XID continue characters, primes, and dashes that stand directly before an XID continue character,
unfoldable pub goes_on_word : ℕ → List ℕ → Bool
goes_on_word c rest = is_xid_continue c || ((c == 39) || ((c == 45) && begins is_xid_continue rest))

-- and a symbol, with any other characters up to `//` or `/*`.
unfoldable pub goes_on_symbol : ℕ → List ℕ → Bool
goes_on_symbol c rest = is_other c && not ((c == 47) && begins (λ d. (d == 47) || (d == 42)) rest)

-- a run is the longest front of run ++ rest that goes on with each of its characters
abbrev pub IsLongestRun : (ℕ → List ℕ → Bool) → (run rest : List ℕ) → Type 0
IsLongestRun goes_on [] [] = Unit {0}
IsLongestRun goes_on [] (c ∷ rest) = IsFalse (goes_on c rest)
IsLongestRun goes_on (c ∷ run) rest = IsTrue (goes_on c (run ++ rest)) × IsLongestRun goes_on run rest

-- A word that begins with neither an XID start character nor `_` (95) is a numeral. It is no name.
unfoldable pub is_numeral : List ℕ → Bool
is_numeral word = not (begins (λ c. is_xid_start c || (c == 95)) (chars word))

-- these are dashes and nothing else
abbrev pub all_dashes : List ℕ → Bool
all_dashes [] = true
all_dashes (c ∷ rest) = (c == 45) && all_dashes rest

-- a symbol of three or more dashes and nothing else is a bar
unfoldable pub symbol_kind : List ℕ → ℕ
symbol_kind symbol = if nat_le 3 (length symbol) && all_dashes symbol then 3 else 1

-- What stands at one place of a text: a blank or a comment, which is no token, or a token with its kind and its text.
pub data Piece : Type 0 where
  gap : Piece
  token : (kind : ℕ) (text : List ℕ) → Piece

-- The piece takes these characters, before the rest. 47 is `/`, 42 is `*` and 34 is the quote.
pub data Stands : Piece → (taken rest : List ℕ) → Type 0 where
  blank : (c : ℕ) (rest : List ℕ) → IsTrue (is_blank c) → Stands gap (c ∷ []) rest
  line_comment : (text rest : List ℕ) → IsLongestRun goes_on_line text rest → Stands gap (47 ∷ 47 ∷ text) rest
  block_comment : (text rest : List ℕ) → IsLongestRun goes_on_comment text (42 ∷ 47 ∷ rest)
      → Stands gap (47 ∷ 42 ∷ (text ++ (42 ∷ 47 ∷ []))) rest
  quoted : (c : ℕ) (text rest : List ℕ) → IsLongestRun goes_on_quoted (c ∷ text) (34 ∷ rest)
      → Stands (token 4 (c ∷ text)) (34 ∷ ((c ∷ text) ++ (34 ∷ []))) rest
  single : (c : ℕ) (rest : List ℕ) → IsTrue (is_single c) → Stands (token 2 (c ∷ [])) (c ∷ []) rest
  word : (c : ℕ) (text rest : List ℕ) → IsTrue (is_xid_continue c) → IsLongestRun goes_on_word text rest
      → Stands (token 0 (c ∷ text)) (c ∷ text) rest
  symbol : (c : ℕ) (text rest : List ℕ) → IsLongestRun goes_on_symbol (c ∷ text) rest
      → Stands (token (symbol_kind (c ∷ text)) (c ∷ text)) (c ∷ text) rest

-- A place in a source, in bytes, its line, counted from 1, and the characters from there on.
pub record Spot : Type 0 where
  pub place : ℕ
  pub line : ℕ
  pub rest : List ℕ

-- how many bytes some characters take, and how many line feeds are among them
abbrev pub size : List ℕ → ℕ
size characters = length (encode_utf8_all characters)

abbrev pub line_feeds : List ℕ → ℕ
line_feeds characters = count_by (λ c. c == 10) characters

-- the spot behind these characters
abbrev pub past : Spot → (taken rest : List ℕ) → Spot
past spot taken rest = record { place = spot.place + size taken; line = spot.line + line_feeds taken; rest = rest }

-- the token of this kind and text that takes these characters at a spot
abbrev pub token_at : Spot → (kind : ℕ) (text taken : List ℕ) → PlainToken
token_at spot kind text taken =
    record { kind = kind; text = encode_utf8_all text; from = spot.place; to = spot.place + size taken; line = spot.line }

-- From one spot up to another, blanks, comments and tokens stand one after the other, and these are the tokens.
pub data Stretch : Spot → List PlainToken → Spot → Type 0 where
  nothing : (spot : Spot) → Stretch spot [] spot
  first_gap : (spot end : Spot) (taken rest : List ℕ) (tokens : List PlainToken) → spot.rest ≡ taken ++ rest
      → Stands gap taken rest → Stretch (past spot taken rest) tokens end → Stretch spot tokens end
  first_token : (spot end : Spot) (kind : ℕ) (text taken rest : List ℕ) (tokens : List PlainToken)
      → spot.rest ≡ taken ++ rest → Stands (token kind text) taken rest → Stretch (past spot taken rest) tokens end
      → Stretch spot (token_at spot kind text taken ∷ tokens) end

-- where the first of these characters stands
abbrev pub start : List ℕ → Spot
start characters = record { place = 0; line = 1; rest = characters }

-- The characters of a source, up to the first byte that belongs to none, and the bytes from there on.
pub record IsDecoded (source characters stray : List ℕ) : Type 0 where
  pub scalars : all_scalars characters ≡ true
  pub spelled : source ≡ encode_utf8_all characters ++ stray
  pub no_more : StartsWithNoChar stray

-- These are the tokens of a source: all of it is characters, and the tokens reach its end.
pub record AreTokens (source : List ℕ) (tokens : List PlainToken) : Type 0 where
  pub characters : List ℕ
  pub decoded : IsDecoded source characters []
  pub end : Spot
  pub at_end : end.rest ≡ []
  pub stretch : Stretch (start characters) tokens end

-- At a place that the tokens before it reach, `/*` begins a comment, and no `*/` follows anywhere in the source.
pub record HasOpenComment (source : List ℕ) (place : ℕ) : Type 0 where
  pub characters : List ℕ
  pub stray : List ℕ
  pub decoded : IsDecoded source characters stray
  pub before : List PlainToken
  pub spot : Spot
  pub stretch : Stretch (start characters) before spot
  pub there : place ≡ spot.place
  pub after : List ℕ
  pub opens : spot.rest ≡ 47 ∷ 42 ∷ after
  pub no_end : IsLongestRun goes_on_comment (after ++ stray) []

-- what follows a quote is no text of one or more characters, none a quote or a blank, and then a quote
abbrev pub IsOpenQuote : List ℕ → Type 0
IsOpenQuote after =
    (c : ℕ) (text rest : List ℕ) → after ≡ (c ∷ text) ++ (34 ∷ rest) → ¬ (IsLongestRun goes_on_quoted (c ∷ text) (34 ∷ rest))

-- At a place that the tokens before it reach, a quote stands that begins no quoted token.
pub record HasOpenQuote (source : List ℕ) (place : ℕ) : Type 0 where
  pub characters : List ℕ
  pub stray : List ℕ
  pub decoded : IsDecoded source characters stray
  pub before : List PlainToken
  pub spot : Spot
  pub stretch : Stretch (start characters) before spot
  pub there : place ≡ spot.place
  pub after : List ℕ
  pub opens : spot.rest ≡ 34 ∷ after
  pub no_text : IsOpenQuote after

-- The first byte that belongs to no character stands at this place, and no other fault before it.
pub record HasStrayByte (source : List ℕ) (place : ℕ) : Type 0 where
  pub characters : List ℕ
  pub stray : List ℕ
  pub decoded : IsDecoded source characters stray
  pub some : stray ≢ []
  pub there : place ≡ size characters
  pub no_open_comment : (other : ℕ) → ¬ (HasOpenComment source other)
  pub no_open_quote : (other : ℕ) → ¬ (HasOpenQuote source other)

-- The fault of a source that has no tokens, with its place in bytes. The spots of the two latter lie among the
-- characters, before any stray byte, so of several faults this is the one at the least place.
pub data TokenFault : Type 0 where
  not_utf8 open_comment open_quote : (place : ℕ) → TokenFault

abbrev pub HasFault : List ℕ → TokenFault → Type 0
HasFault source (not_utf8 place) = HasStrayByte source place
HasFault source (open_comment place) = HasOpenComment source place
HasFault source (open_quote place) = HasOpenQuote source place
