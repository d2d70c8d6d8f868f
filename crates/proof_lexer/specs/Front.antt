-- What the parts of the scanner answer, over the characters of a text.
use Rattle.std.specs.Prelude.{◌≡◌, ℕ, Bool, List, [], ◌∷◌, ◌++◌, chars, IsUtf8, ◌+◌, ◌≤◌}
use Rattle.sy_base.specs.Tokens.{goes_on_line, goes_on_comment, goes_on_quoted, goes_on_word, goes_on_symbol, IsLongestRun, IsOpenQuote, Piece, gap, token, Stands, Spot, past}
use Rattle.proof_lexer.specs.View.{kind_number}
use Rattle.proof_lexer.specs.declared.run.Run.{Run}
use Rattle.proof_lexer.specs.declared.run.Run.TheVariants.{Line, Comment, Quoted, Word, Symbol}
use Rattle.proof_lexer.specs.declared.front.Front.{Front}
use Rattle.proof_lexer.specs.declared.front.Front.TheVariants.{Gap, Token, OpenComment, OpenQuote}
use Rattle.proof_lexer.specs.declared.cursor.Cursor.{Cursor}

-- whether a run of this sort goes on with a character, by those after it
abbrev pub goes_on : Run → ℕ → List ℕ → Bool
goes_on Line = goes_on_line
goes_on Comment = goes_on_comment
goes_on Quoted = goes_on_quoted
goes_on Word = goes_on_word
goes_on Symbol = goes_on_symbol

-- the whole ends with these characters
pub record EndsWith (whole end : List ℕ) : Type 0 where
  pub front : List ℕ
  pub parts : whole ≡ front ++ end

-- the longest run at the front of the whole ends before the rest
pub record RunEnds (goes : ℕ → List ℕ → Bool) (whole rest : List ℕ) : Type 0 where
  pub run : List ℕ
  pub parts : whole ≡ run ++ rest
  pub longest : IsLongestRun goes run rest

-- the piece stands at the front of the whole, before the rest
pub record StandsBefore (whole : List ℕ) (piece : Piece) (rest : List ℕ) : Type 0 where
  pub taken : List ℕ
  pub parts : whole ≡ taken ++ rest
  pub stands : Stands piece taken rest

-- a comment opens here that these characters do not close
pub record OpensComment (whole : List ℕ) : Type 0 where
  pub after : List ℕ
  pub opens : whole ≡ 47 ∷ 42 ∷ after
  pub no_end : IsLongestRun goes_on_comment after []

-- a quote stands here that begins no quoted token
pub record OpensQuote (whole : List ℕ) : Type 0 where
  pub after : List ℕ
  pub opens : whole ≡ 34 ∷ after
  pub no_text : IsOpenQuote after

-- what stands at the front of these characters
abbrev pub IsFront : List ℕ → Front → Type 0
IsFront whole (Gap rest) = StandsBefore whole gap (chars rest.now)
IsFront whole (Token kind text rest) = IsUtf8 text.now × StandsBefore whole (token (kind_number kind) (chars text.now)) (chars rest.now)
IsFront whole OpenComment = OpensComment whole
IsFront whole OpenQuote = OpensQuote whole

-- the spot of a cursor
abbrev pub spot_of : Cursor → Spot
spot_of cursor = record { place = cursor.place; line = cursor.line; rest = chars cursor.rest.now }

-- a cursor goes from one spot past what stands there to the next, with so many bytes left
pub record GoesPast (at next : Spot) (left next_left : ℕ) : Type 0 where
  pub spot : (taken : List ℕ) → at.rest ≡ taken ++ next.rest → next ≡ past at taken next.rest
  pub sizes : next.place + next_left ≡ at.place + left
  pub line : next.line ≤ next.place + 1
