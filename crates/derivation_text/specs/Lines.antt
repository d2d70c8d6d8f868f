-- The lines of a text, each with its number. To be held against docs/notation.md, 'Derivation texts'.
use Rattle.std.specs.Prelude.{ℕ, ◌==◌, if◌then◌else◌, List, [], ◌∷◌}
use Rattle.sy_base.specs.Tokens.{PlainToken}
use Rattle.rule_schemes.specs.Reading.{Token}

-- a token as forms are read: the number of its kind and its text
abbrev pub taken : PlainToken → Token
taken t = (t.kind, t.text)

-- a line: its number, and its tokens
abbrev pub Line : Type 0
Line = ℕ × List Token

-- a token in front of lines: on the first of them where that has its number, else on a line of its own
abbrev pub in_front : (number : ℕ) → Token → List Line → List Line
in_front n t [] = (n, t ∷ []) ∷ []
in_front n t (l ∷ ls) = if n == l.0 then ((n, t ∷ l.1) ∷ ls) else ((n, t ∷ []) ∷ (l ∷ ls))

-- the lines of a text: its tokens by the numbers of their lines
abbrev pub text_lines : List PlainToken → List Line
text_lines [] = []
text_lines (t ∷ ts) = in_front t.line (taken t) (text_lines ts)
