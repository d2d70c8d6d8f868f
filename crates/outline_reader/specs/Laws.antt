-- What holds of all outlines.
use Rattle.std.specs.Prelude.{◌≡◌, ◌⊎◌, ℕ, List, map}
use Rattle.std.specs.List.{AllByRecursion}
use Rattle.sy_base.specs.Tokens.{PlainToken, AreTokens}
use Rattle.proof_lexer.specs.View.{token_view}
use Rattle.proof_lexer.specs.declared.token.Token.{Token}
use Rattle.outline_reader.specs.declared.symbols.Role.{Role}
use Rattle.outline_reader.specs.declared.fault.OutlineFault.{OutlineFault}
use Rattle.outline_reader.specs.Outline.{IsOutline, IsOutlined, IsFault}
use Rattle.outline_reader.specs.Filled.{AreFilled}
use Rattle.outline_reader.specs.Found.{AreFound}
use Rattle.outline_reader.specs.Plain.{PlainPortion, HasPortions, HasFaultyOutline, SourceFault, HasSourceFault}
use Rattle.outline_reader.specs.Stretches.{AreStretches}
use Rattle.outline_reader.specs.Words.{HasWords}
use Rattle.outline_reader.specs.Views.{Piece}

-- a source has portions in one way at most
abbrev pub PortionsAreUnique : Type 0
PortionsAreUnique = (source : List ℕ) (portions others : List PlainPortion) → HasPortions source portions → HasPortions source others → portions ≡ others

-- no portion of an outline lacks a token for one of its fields
abbrev pub PortionsAreFilled : Type 0
PortionsAreFilled = (tokens : List Token) (roles : List Role) → IsOutlined tokens roles → AreFilled roles

-- where a source has portions, its tokens have an outline, wherever they lie
abbrev pub TokensAreOutlined : Type 0
TokensAreOutlined =
    (source : List ℕ) (portions : List PlainPortion) (tokens : List Token) → HasPortions source portions → AreTokens source (map token_view tokens) →
    (pieces : List Piece) × IsOutline tokens pieces

-- no field of a portion is its first token for want of another
abbrev pub FieldsAreFound : Type 0
FieldsAreFound = (tokens : List Token) (roles : List Role) → IsOutlined tokens roles → AreFound roles tokens

-- a source has at most one fault of its tokens or of their outline
abbrev pub SourceFaultIsUnique : Type 0
SourceFaultIsUnique = (source : List ℕ) (fault other : SourceFault) → HasSourceFault source fault → HasSourceFault source other → fault ≡ other

-- a source that has portions has no such fault
abbrev pub PortionsExcludeFault : Type 0
PortionsExcludeFault = (source : List ℕ) (portions : List PlainPortion) (fault : SourceFault) → HasPortions source portions → HasSourceFault source fault → ⊥

-- a source that is tokens has portions, or a fault of their outline
abbrev pub PortionsOrFault : Type 0
PortionsOrFault =
    (source : List ℕ) (tokens : List Token) → AreTokens source (map token_view tokens) →
    ((portions : List PlainPortion) × HasPortions source portions) ⊎ ((fault : OutlineFault) × HasFaultyOutline source fault)

-- tokens with equal views have the same fault, wherever they lie
abbrev pub FaultIsOfViews : Type 0
FaultIsOfViews = (tokens others : List Token) (fault : OutlineFault) → map token_view tokens ≡ map token_view others → IsFault tokens fault → IsFault others fault

-- the tokens of a source are stretches, one for each of its portions in turn, which hold the portions' tokens
abbrev pub PortionsAreStretches : Type 0
PortionsAreStretches =
    (source : List ℕ) (portions : List PlainPortion) (tokens : List PlainToken) → HasPortions source portions → AreTokens source tokens → AreStretches portions tokens

-- the names of portions are names, and their forms have tokens and hold no reserved word outside quotes, as do productions and terminals
abbrev pub PortionsHaveWords : Type 0
PortionsHaveWords = (source : List ℕ) (portions : List PlainPortion) → HasPortions source portions → AllByRecursion HasWords portions
