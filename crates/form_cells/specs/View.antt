-- What contracts see of tokens and of variables in scope. Held against docs/notation.md on readings.
use Rattle.std.specs.Prelude.{ℕ, List, map, reverse}
use Rattle.binding_terms.specs.declared.grammar.CatId.{CatId}
use Rattle.binding_terms.specs.declared.text.Text.{Text}
use Rattle.rule_schemes.specs.Reading.{Variable, bound, entry_of}
use Rattle.rule_schemes.specs.Reading as reading
use Rattle.proof_lexer.specs.declared.token.Kind.{Kind}
use Rattle.proof_lexer.specs.declared.token.Kind.TheVariants as kinds
use Rattle.proof_lexer.specs.declared.token.Token.{Token}
use Rattle.form_cells.specs.declared.variables.Var.{Var}
use Rattle.form_cells.specs.declared.variables.Meaning.{Meaning}
use Rattle.form_cells.specs.declared.variables.Meaning.TheVariants as meanings

-- the number of a kind
abbrev pub kind_number : Kind → ℕ
kind_number kinds.Word = 0
kind_number kinds.Symbol = 1
kind_number kinds.Punct = 2
kind_number kinds.Bar = 3
kind_number kinds.Quoted = 4

-- a token's kind and text
abbrev pub token : Token → reading.Token
token t = (kind_number t.kind, t.text.now)

-- the words of a scope's variables, the innermost first
abbrev pub scope_words : List (Text × CatId) → List Variable
scope_words vs = reverse (map (λ v. record { word = v.0; cat = v.1.0; means = bound }) vs)

abbrev pub meaning : Meaning → reading.Meaning
meaning meanings.Bound = bound
meaning (meanings.Entry k) = entry_of k

abbrev pub variable : Var → Variable
variable v = record { word = v.word.now; cat = v.cat.0; means = meaning v.means }

-- the variables in scope, the innermost first
abbrev pub in_scope : List Var → List Variable
in_scope vs = reverse (map variable vs)
