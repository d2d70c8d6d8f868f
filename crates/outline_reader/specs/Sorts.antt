-- What a token is for the outline; to be held against the notation's list of reserved words and its signs.
use Rattle.std.specs.Prelude.{◌≡◌, ℕ, Bool, if◌then◌else◌, List, [], ◌∷◌, codes, map}
use Rattle.std.specs.List.{list_any}
use Rattle.std.specs.Str.{bytes_eq}
use Rattle.binding_terms.specs.Numbered.{AnyByRecursion}
use Rattle.sy_base.specs.Tokens.{is_numeral}
use Rattle.proof_lexer.specs.declared.token.Kind.{Kind}
use Rattle.proof_lexer.specs.declared.token.Kind.TheVariants as kind
use Rattle.proof_lexer.specs.declared.token.Token.{Token}
use Rattle.outline_reader.specs.declared.sort.Sort.{Sort}
use Rattle.outline_reader.specs.declared.sort.Sort.TheVariants as s

-- the reserved words
abbrev pub reserved : List (List ℕ × Sort)
reserved =
    (codes "terminals", s.Terminals) ∷
    (codes "syntax", s.Syntax) ∷
    (codes "judgment", s.Judgment) ∷
    (codes "assumes", s.Assumes) ∷
    (codes "theorem", s.Theorem) ∷
    (codes "lemma", s.Lemma) ∷
    (codes "and", s.And) ∷
    (codes "forall", s.Forall) ∷
    (codes "exists", s.Exists) ∷
    (codes "by", s.By) ∷
    (codes "rule", s.Rule) ∷
    (codes "on", s.On) ∷
    (codes "induction", s.Induction) ∷
    (codes "hypothesis", s.Hypothesis) ∷
    (codes "inversion", s.Inversion) ∷
    (codes "contradiction", s.Contradiction) ∷
    (codes "case", s.Case) ∷
    (codes "analysis", s.Analysis) ∷
    (codes "is", s.Is) ∷
    (codes "end", s.End) ∷
    (codes "proof", s.Proof) ∷
    (codes "use", s.Use) ∷
    (codes "weakening", s.Weakening) ∷
    (codes "exchange", s.Exchange) ∷
    (codes "substitution", s.Substitution) ∷
    (codes "unproved", s.Unproved) ∷
    (codes "solve", s.Solve) ∷
    (codes "import", s.Import) ∷ []

abbrev pub reserved_words : List (List ℕ)
reserved_words = map (λ entry. entry.0) reserved

-- the word, which stands in no quotes, is reserved
unfoldable pub IsReserved : List ℕ → Type 0
IsReserved word = AnyByRecursion (λ one. one ≡ word) reserved_words

unfoldable pub is_reserved : List ℕ → Bool
is_reserved word = list_any (λ one. bytes_eq one word) reserved_words

-- the signs that the outline knows
abbrev pub signs : List (List ℕ × Sort)
signs =
    (codes ":", s.Colon) ∷
    (codes "::=", s.Define) ∷
    (codes "|", s.Or) ∷
    (codes ".", s.Dot) ∷
    (codes ",", s.Comma) ∷
    (codes "(", s.Open) ∷
    (codes ")", s.Close) ∷ []

-- the sort that a list gives a text, or else the other sort
abbrev pub look_up : List (List ℕ × Sort) → List ℕ → Sort → Sort
look_up [] text other = other
look_up (entry ∷ entries) text other = if bytes_eq entry.0 text then entry.1 else look_up entries text other

-- a reserved word, and every numeral, is no name
unfoldable pub word_sort : List ℕ → Sort
word_sort word = look_up reserved word (if is_numeral word then s.Other else s.Name)

abbrev pub sort_by : Kind → List ℕ → Sort
sort_by kind.Word text = word_sort text
sort_by kind.Symbol text = look_up signs text s.Other
sort_by kind.Punct text = look_up signs text s.Mark
sort_by kind.Bar text = s.Bar
sort_by kind.Quoted text = s.Other

-- what the token is for the outline
unfoldable pub sort_of : Token → Sort
sort_of token = sort_by token.kind token.text.now
