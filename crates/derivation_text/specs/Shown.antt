-- What is written of a derivation text that is not taken: its first fault, and the line at which it stands. To be held against
-- 'Derivation texts' and 'Faults' of docs/notation.md.
use Rattle.std.specs.Prelude.{◌≡◌, ℕ, ◌+◌, ◌==◌, List, [], ◌∷◌, ◌++◌, Option, codes, count_by, decimal, take}
use Rattle.sy_base.specs.CodeName.{code_name}
use Rattle.sy_base.specs.FirstFault.{IsFirstFault as IsFirstOf}
use Rattle.sy_base.specs.SourceLine.{source_line}
use Rattle.sy_base.specs.Tokens.{PlainToken, AreTokens, TokenFault, not_utf8, open_comment, open_quote, HasFault}
use Rattle.sy_base.specs.declared.fault.Code.{Code}
use Rattle.sy_base.specs.declared.fault.Code.TheVariants as code
use Rattle.rule_schemes.specs.Rules.{Theory}
use Rattle.rule_schemes.specs.Statement.{Theorem}
use Rattle.derivation_text.specs.Fault.{place_of, IsFault}
use Rattle.derivation_text.specs.Lines.{text_lines}

-- the line of a place of a source, counted from 1
abbrev pub line_of_place : List ℕ → ℕ → ℕ
line_of_place source place = 1 + count_by (λ byte. byte == 10) (take place source)

-- the place of a fault of tokens, in bytes, and its code
abbrev pub fault_place : TokenFault → ℕ
fault_place (not_utf8 place) = place
fault_place (open_comment place) = place
fault_place (open_quote place) = place

abbrev pub fault_code : TokenFault → Code
fault_code (not_utf8 place) = code.NotUtf8
fault_code (open_comment place) = code.OpenComment
fault_code (open_quote place) = code.OpenQuote

-- The first fault of a source, with its line, its code and its detail: the fault of a source that has no tokens, or the first fault of its
-- lines. For a run it is asked for a statement.
pub data IsFirstFault (th : Theory) (asked : Option Theorem) (source : List ℕ) (line : ℕ) (found : Code) (detail : List ℕ) : Type 0 where
  of_tokens : (fault : TokenFault) → HasFault source fault → line ≡ line_of_place source (fault_place fault) → found ≡ fault_code fault →
      detail ≡ decimal (fault_place fault) → IsFirstFault th asked source line found detail
  of_lines : (tokens : List PlainToken) → AreTokens source tokens → IsFirstOf place_of (IsFault th asked (text_lines tokens)) line found detail →
      IsFirstFault th asked source line found detail

-- a detail stands after a colon and a blank; a text with an empty detail ends after the code
abbrev pub after_code : List ℕ → List ℕ
after_code [] = []
after_code (byte ∷ detail) = codes ": " ++ byte ∷ detail

-- the line that tells a fault: `line n: Code: detail`
abbrev pub fault_line : ℕ → Code → List ℕ → List ℕ
fault_line line found detail = codes "line " ++ (decimal line ++ (codes ": " ++ (code_name found ++ after_code detail)))

-- the two lines that tell a fault, each with its line feed: its own, and the line of the source at which it stands
abbrev pub fault_lines : List ℕ → ℕ → Code → List ℕ → List ℕ
fault_lines source line found detail = fault_line line found detail ++ (codes "\n" ++ (source_line source line ++ codes "\n"))

-- the text tells the first fault of the source
pub record IsFaultText (th : Theory) (asked : Option Theorem) (source text : List ℕ) : Type 0 where
  pub line : ℕ
  pub found : Code
  pub detail : List ℕ
  pub first : IsFirstFault th asked source line found detail
  pub lines : text ≡ fault_lines source line found detail
