-- What a contract sees of the tokens.
use Rattle.std.specs.Prelude.{ℕ, List}
use Rattle.sy_base.specs.Tokens.{PlainToken, HasFault, not_utf8, open_comment, open_quote}
use Rattle.proof_lexer.specs.declared.token.Kind.{Kind}
use Rattle.proof_lexer.specs.declared.token.Kind.TheVariants.{Word, Symbol, Punct, Bar, Quoted}
use Rattle.proof_lexer.specs.declared.token.Token.{Token}
use Rattle.proof_lexer.specs.declared.fault.LexFault.{LexFault}
use Rattle.proof_lexer.specs.declared.fault.LexFault.TheVariants.{NotUtf8, OpenComment, OpenQuote, NoMemory}

-- the number of a kind: 0 a word, 1 a symbol, 2 punctuation, 3 a bar, 4 quoted
abbrev pub kind_number : Kind → ℕ
kind_number Word = 0
kind_number Symbol = 1
kind_number Punct = 2
kind_number Bar = 3
kind_number Quoted = 4

-- a token as a plain record
abbrev pub token_view : Token → PlainToken
token_view token =
    record { kind = kind_number token.kind; text = token.text.now; from = token.span.from; to = token.span.to; line = token.line }

-- a token as readers of forms take it: the number of its kind and its text
abbrev pub kind_and_text : Token → ℕ × List ℕ
kind_and_text token = (kind_number token.kind, token.text.now)

-- what a source that was refused has: this fault at this place. Want of memory says nothing of it.
abbrev pub IsRefusedFor : List ℕ → LexFault → Type 0
IsRefusedFor source (NotUtf8 place) = HasFault source (not_utf8 place)
IsRefusedFor source (OpenComment place) = HasFault source (open_comment place)
IsRefusedFor source (OpenQuote place) = HasFault source (open_quote place)
IsRefusedFor source NoMemory = Unit {0}
