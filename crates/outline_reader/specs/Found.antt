-- Where the fields of a portion come from: not from its first token, for want of another. To be held against 'Outline' of docs/notation.md.
use Rattle.std.specs.Prelude.{◌≡◌, true, false, ◌||◌, IsTrue, List, [], ◌∷◌, take}
use Rattle.proof_lexer.specs.declared.token.Token.{Token}
use Rattle.outline_reader.specs.declared.symbols.Role.{Role}
use Rattle.outline_reader.specs.Views.{Piece, terminals, syntax, category, judgment, rule, theorem, step, inversion, case_rule, case_term, end_line}
use Rattle.outline_reader.specs.Portions.{begins, names_category, portion_size, portion}

-- The portion with another first token. The first token of a category is its name, and the word `theorem` or `lemma` is that of a
-- theorem without `and` in front; a portion of a rule does not hold its first token.
abbrev pub begun_by : Token → Piece → Piece
begun_by first (terminals old items) = terminals first items
begun_by first (syntax old) = syntax first
begun_by first (category old mark productions) = category first mark productions
begun_by first (judgment old name form assumes) = judgment first name form assumes
begun_by first (rule premises name conclusion) = rule premises name conclusion
begun_by first (theorem old true kind name assumes inputs outputs targets) = theorem first true kind name assumes inputs outputs targets
begun_by first (theorem old false kind name assumes inputs outputs targets) = theorem first false first name assumes inputs outputs targets
begun_by first (step old names forms why) = step first names forms why
begun_by first (inversion old subject premises name conclusion) = inversion first subject premises name conclusion
begun_by first (case_rule old premises name conclusion) = case_rule first premises name conclusion
begun_by first (case_term old form assumes) = case_term first form assumes
begun_by first (end_line old part) = end_line first part

-- whatever stands in for the first token of a portion, it stands only where that token belongs
abbrev pub AreFound : List Role → List Token → Type 0
AreFound [] tokens = Unit {0}
AreFound (first ∷ roles) [] = Unit {0}
AreFound (first ∷ roles) (token ∷ tokens) =
    (IsTrue (begins first || names_category roles) → (one other : Token) →
    portion first one (take (portion_size (first ∷ roles)) (first ∷ roles)) (take (portion_size (first ∷ roles)) (token ∷ tokens))
    ≡ begun_by one (portion first other (take (portion_size (first ∷ roles)) (first ∷ roles)) (take (portion_size (first ∷ roles)) (token ∷ tokens))))
    × AreFound roles tokens
