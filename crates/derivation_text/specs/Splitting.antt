-- What functions inside the crate say of lines. No public clause cites it.
use Rattle.std.specs.Prelude.{◌≡◌, ◌≢◌, ℕ, List, [], ◌∷◌, ◌++◌}
use Rattle.std.specs.List.{AllByRecursion}
use Rattle.sy_base.specs.Tokens.{PlainToken}
use Rattle.proof_lexer.specs.declared.token.Token.{Token}
use Rattle.rule_schemes.specs.Reading.{Token as Read}
use Rattle.derivation_text.specs.Lines.{text_lines}

-- nothing, or tokens of which the first is on another line
abbrev pub IsOtherLine : ℕ → List Token → Type 0
IsOtherLine n [] = Unit {0}
IsOtherLine n (t ∷ ts) = t.line ≢ n

-- tokens on a line, and those after them
pub record IsLineCut (n : ℕ) (ts front back : List Token) : Type 0 where
  pub parts : ts ≡ front ++ back
  pub on_line : AllByRecursion (λ t. t.line ≡ n) front
  pub stops : IsOtherLine n back

-- the tokens of the first line, and those after it
abbrev pub IsFirstLine : List PlainToken → List Read → List PlainToken → Type 0
IsFirstLine ts line rest = (n : ℕ) × (text_lines ts ≡ (n, line) ∷ text_lines rest)
