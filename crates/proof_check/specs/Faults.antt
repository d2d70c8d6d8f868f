-- The first fault of the tokens, the outline or the grammar of a file, and the lines that tell it. To be held against 'Faults' of
-- docs/notation.md.
use Rattle.std.specs.Prelude.{◌≡◌, ◌<◌, ◌≤◌, ℕ, ◌+◌, ◌==◌, List, [], ◌∷◌, ◌++◌, codes, decimal, count_by, take, map, slice_get, MatchOption}
use Rattle.sy_base.specs.CodeName.{code_name}
use Rattle.sy_base.specs.SourceLine.{source_line}
use Rattle.sy_base.specs.Tokens.{PlainToken, AreTokens, TokenFault, HasFault, not_utf8, open_comment, open_quote}
use Rattle.sy_base.specs.declared.fault.Code.{Code}
use Rattle.sy_base.specs.declared.fault.Code.TheVariants as variant
use Rattle.sy_base.specs.declared.fault.Fault.{Fault}
use Rattle.sy_base.specs.declared.fault.Refusal.{Refusal}
use Rattle.sy_base.specs.declared.fault.Refusal.TheVariants.{Refused, NoMemory as OutOfMemory}
use Rattle.proof_lexer.specs.View.{token_view}
use Rattle.proof_lexer.specs.declared.token.Token.{Token}
use Rattle.outline_reader.specs.declared.fault.Part.{Part}
use Rattle.outline_reader.specs.declared.fault.Part.TheVariants as parts
use Rattle.outline_reader.specs.declared.fault.Limit.{Limit}
use Rattle.outline_reader.specs.declared.fault.Limit.TheVariants as limits
use Rattle.outline_reader.specs.declared.fault.OutlineFault.{OutlineFault}
use Rattle.outline_reader.specs.declared.fault.OutlineFault.TheVariants.{Unexpected, MissingEnd, TooMany, NoMemory}
use Rattle.outline_reader.specs.Outline.{IsFault}
use Rattle.outline_reader.specs.Plain.{PlainPortion, HasPortions}
use Rattle.user_grammar.specs.Fault.{IsFirstFault as IsFirstOfGrammar}
use Rattle.proof_check.specs.NotBuilt.{IsNotBuilt, HasNotBuilt, IsFirstNotBuilt}

-- the words by which a part of a file is told
abbrev pub part_words : Part → List ℕ
part_words parts.Terminals = codes "terminals"
part_words parts.Syntax = codes "syntax"
part_words parts.Judgment = codes "judgment"
part_words parts.Theorem = codes "theorem"
part_words parts.Lemma = codes "lemma"
part_words parts.Case = codes "case"
part_words parts.CaseAnalysis = codes "case analysis"
part_words parts.Induction = codes "induction"
part_words parts.Inversion = codes "inversion"

-- the word by which a limit is told
abbrev pub limit_word : Limit → List ℕ
limit_word limits.Categories = codes "categories"
limit_word limits.Productions = codes "productions"
limit_word limits.Rules = codes "rules"
limit_word limits.Theorems = codes "theorems"
limit_word limits.Premises = codes "premises"
limit_word limits.Parameters = codes "parameters"
limit_word limits.Entries = codes "entries"
limit_word limits.Targets = codes "targets"
limit_word limits.Levels = codes "levels"

-- the line of a place of a source, counted from 1: one more than the line feeds before the place
abbrev pub line_of_place : List ℕ → ℕ → ℕ
line_of_place source place = 1 + count_by (λ byte. byte == 10) (take place source)

-- the place of a fault of tokens, in bytes, and its code
abbrev pub fault_place : TokenFault → ℕ
fault_place (not_utf8 place) = place
fault_place (open_comment place) = place
fault_place (open_quote place) = place

abbrev pub fault_code : TokenFault → Code
fault_code (not_utf8 place) = variant.NotUtf8
fault_code (open_comment place) = variant.OpenComment
fault_code (open_quote place) = variant.OpenQuote

-- A fault at a place is told with the line of the place, its code and the place in decimal.
pub record IsToldAt (source : List ℕ) (place : ℕ) (code : Code) (line : ℕ) (spelling detail : List ℕ) : Type 0 where
  pub line_is : line ≡ line_of_place source place
  pub code_is : spelling ≡ code_name code
  pub detail_is : detail ≡ decimal place

-- A fault on a line is told with the line, its code and this detail.
pub record IsToldOn (at : ℕ) (code : Code) (words : List ℕ) (line : ℕ) (spelling detail : List ℕ) : Type 0 where
  pub line_is : line ≡ at
  pub code_is : spelling ≡ code_name code
  pub detail_is : detail ≡ words

-- A fault of the outline of these tokens is told with the line and the text of the token at which no outline goes on, or with the line and
-- the words of the part or the limit.
abbrev pub IsOutlineTold : List PlainToken → OutlineFault → (line : ℕ) → (spelling detail : List ℕ) → Type 0
IsOutlineTold tokens (Unexpected place) line spelling detail =
    MatchOption (slice_get tokens place) ⊥ (λ token. IsToldOn token.line variant.Unexpected token.text line spelling detail)
IsOutlineTold tokens (MissingEnd at part) line spelling detail = IsToldOn at variant.MissingEnd (part_words part) line spelling detail
IsOutlineTold tokens (TooMany at limit) line spelling detail = IsToldOn at variant.TooMany (limit_word limit) line spelling detail
IsOutlineTold tokens NoMemory line spelling detail = ⊥

-- the fault of the outline of a source's tokens is told so
pub record HasOutlineFault (source : List ℕ) (line : ℕ) (spelling detail : List ℕ) : Type 0 where
  pub tokens : List Token
  pub fault : OutlineFault
  pub are_tokens : AreTokens source (map token_view tokens)
  pub is_fault : IsFault tokens fault
  pub told : IsOutlineTold (map token_view tokens) fault line spelling detail

-- The first fault of the tokens, the outline or the grammar of a source, with its line, the spelling of its code and its detail: the fault
-- of a source that has no tokens; of the fault of the outline and the tokens that are not built the first by line, where on one line the
-- fault of the outline is told; or the first fault of the grammar of a source that has neither.
pub data IsFirstFault (source : List ℕ) (line : ℕ) (spelling detail : List ℕ) : Type 0 where
  of_tokens : (fault : TokenFault) → HasFault source fault → IsToldAt source (fault_place fault) (fault_code fault) line spelling detail →
      IsFirstFault source line spelling detail
  of_outline : HasOutlineFault source line spelling detail → ((token : PlainToken) → IsNotBuilt source token → line ≤ token.line) →
      IsFirstFault source line spelling detail
  of_not_built : (token : PlainToken) → IsFirstNotBuilt source token →
      ((other : ℕ) (others words : List ℕ) → HasOutlineFault source other others words → token.line < other) →
      IsToldOn token.line variant.NotBuilt token.text line spelling detail → IsFirstFault source line spelling detail
  of_grammar : (portions : List PlainPortion) (code : Code) → HasPortions source portions → (HasNotBuilt source → ⊥) →
      IsFirstOfGrammar portions line code detail → spelling ≡ code_name code → IsFirstFault source line spelling detail

-- the fault is the first one of the source
abbrev pub TellsFirst : List ℕ → Fault → Type 0
TellsFirst source fault = IsFirstFault source fault.line (code_name fault.code) fault.detail

-- the source is refused for its first fault; want of memory says nothing of it
abbrev pub IsRefusedWith : List ℕ → Refusal → Type 0
IsRefusedWith source (Refused fault) = TellsFirst source fault
IsRefusedWith source OutOfMemory = Unit {0}

-- the source has no fault of its tokens, its outline or its grammar
abbrev pub HasNoFaultYet : List ℕ → Type 0
HasNoFaultYet source = (line : ℕ) (spelling detail : List ℕ) → IsFirstFault source line spelling detail → ⊥

-- a detail stands after a colon and a blank; a text with an empty detail ends after the code
abbrev pub after_code : List ℕ → List ℕ
after_code [] = []
after_code (byte ∷ detail) = codes ": " ++ byte ∷ detail

-- a line with its line feed
abbrev pub ended_line : List ℕ → List ℕ
ended_line line = line ++ 10 ∷ []

-- the line that tells a fault: `line n: Code: detail`
abbrev pub fault_line : ℕ → List ℕ → List ℕ → List ℕ
fault_line line spelling detail = codes "line " ++ decimal line ++ codes ": " ++ spelling ++ after_code detail

-- the two lines that tell a fault: its own, and the line of the source at which it stands
abbrev pub fault_lines : List ℕ → ℕ → List ℕ → List ℕ → List ℕ
fault_lines source line spelling detail = ended_line (fault_line line spelling detail) ++ ended_line (source_line source line)

-- the text tells the first fault of the tokens, the outline or the grammar of the source
pub record IsFaultText (source text : List ℕ) : Type 0 where
  pub line : ℕ
  pub spelling : List ℕ
  pub detail : List ℕ
  pub first : IsFirstFault source line spelling detail
  pub lines : text ≡ fault_lines source line spelling detail
