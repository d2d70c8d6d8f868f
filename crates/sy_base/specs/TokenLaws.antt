-- Laws of the definition of tokens.
use Rattle.std.specs.Prelude.{◌≡◌, ◌⊎◌, ◌+◌, ◌-◌, ◌<◌, ◌≤◌, ◌==◌, if◌then◌else◌, count_by, slice_range, take, length, List, [], ◌∷◌, ℕ}
use Rattle.std.specs.List.{AllByRecursion}
use Rattle.sy_base.specs.Tokens.{PlainToken, AreTokens, TokenFault, HasFault}

-- a source has at most one list of tokens
abbrev pub TokensAreUnique : Type 0
TokensAreUnique = (source : List ℕ) (tokens others : List PlainToken) → AreTokens source tokens → AreTokens source others → tokens ≡ others

-- a source has at most one fault
abbrev pub FaultIsUnique : Type 0
FaultIsUnique = (source : List ℕ) (fault other : TokenFault) → HasFault source fault → HasFault source other → fault ≡ other

-- a source that has tokens has no fault
abbrev pub TokensExcludeFault : Type 0
TokensExcludeFault = (source : List ℕ) (tokens : List PlainToken) (fault : TokenFault) → AreTokens source tokens → ¬ (HasFault source fault)

-- each source has tokens or a fault
abbrev pub TokensOrFault : Type 0
TokensOrFault =
    (source : List ℕ) → ((tokens : List PlainToken) × AreTokens source tokens) ⊎ ((fault : TokenFault) × HasFault source fault)

-- A token stands in its source: its span is not empty and lies in the source, its text is the part of the source at its
-- span, of a quoted one (kind 4) without the quotes, and its line is one more than the line feeds before it.
pub record StandsInSource (source : List ℕ) (token : PlainToken) : Type 0 where
  pub some : token.from < token.to
  pub within : token.to ≤ length source
  pub text : token.text ≡ (if token.kind == 4 then slice_range source (token.from + 1) (token.to - 1) else slice_range source token.from token.to)
  pub line : token.line ≡ 1 + count_by (λ byte. byte == 10) (take token.from source)

-- each token begins where the one before it ends, or later
abbrev pub AreInOrder : (end : ℕ) → List PlainToken → Type 0
AreInOrder end [] = Unit {0}
AreInOrder end (token ∷ tokens) = (end ≤ token.from) × AreInOrder token.to tokens

-- the tokens of a source stand in it, in order
abbrev pub TokensStandInSource : Type 0
TokensStandInSource =
    (source : List ℕ) (tokens : List PlainToken) → AreTokens source tokens → AllByRecursion (StandsInSource source) tokens × AreInOrder 0 tokens
