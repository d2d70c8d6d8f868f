-- The typed lambda calculus as a file, by which the definitions were tried: it has a variable, a binder, brackets and a context.
-- T ::= unit | T -> T; t ::= fn x : T => t[x] | t t | x | unit; Gamma ::= * | Gamma, x : T
use Rattle.std.specs.Prelude.{ℕ, List, [], ◌∷◌, Some, codes}
use Rattle.sy_base.specs.Tokens.{PlainToken}
use Rattle.outline_reader.specs.Plain.{PlainPortion, terminals, syntax_word, category, judgment_of}

-- a token, wherever it stands
abbrev pub token : (kind : ℕ) (text : List ℕ) → PlainToken
token kind text = record { kind = kind; text = text; from = 0; to = 0; line = 1 }

abbrev pub word : List ℕ → PlainToken
word text = token 0 text

abbrev pub symbol : List ℕ → PlainToken
symbol text = token 1 text

abbrev pub mark : List ℕ → PlainToken
mark text = token 2 text

abbrev pub definition : PlainToken
definition = symbol (codes "::=")

abbrev pub function : List PlainToken
function =
    word (codes "fn") ∷ word (codes "x") ∷ symbol (codes ":") ∷ word (codes "T") ∷ symbol (codes "=>") ∷ word (codes "t")
    ∷ mark (codes "[") ∷ word (codes "x") ∷ mark (codes "]") ∷ []

abbrev pub longer_context : List PlainToken
longer_context = word (codes "Gamma") ∷ mark (codes ",") ∷ word (codes "x") ∷ symbol (codes ":") ∷ word (codes "T") ∷ []

abbrev pub lambda_file : List PlainPortion
lambda_file =
    terminals (word (codes "terminals")) (word (codes "fn") ∷ word (codes "unit") ∷ word (codes "value") ∷ [])
    ∷ syntax_word (word (codes "syntax"))
    ∷ category (word (codes "T")) definition ((word (codes "unit") ∷ []) ∷ (word (codes "T") ∷ symbol (codes "->") ∷ word (codes "T") ∷ []) ∷ [])
    ∷ category (word (codes "t")) definition (function ∷ (word (codes "t") ∷ word (codes "t") ∷ []) ∷ (word (codes "x") ∷ []) ∷ (word (codes "unit") ∷ []) ∷ [])
    ∷ category (word (codes "Gamma")) definition ((symbol (codes "*") ∷ []) ∷ longer_context ∷ [])
    ∷ judgment_of (word (codes "judgment")) (word (codes "typing"))
    (word (codes "Gamma") ∷ symbol (codes "|-") ∷ word (codes "t") ∷ symbol (codes ":") ∷ word (codes "T") ∷ []) (Some (word (codes "Gamma")))
    ∷ []
