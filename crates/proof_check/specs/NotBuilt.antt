-- The places of a file at which a form stands that is not built. To be held against the table of such forms in 'Faults' of
-- docs/notation.md. A kind is 0 a word, 1 a symbol, 2 punctuation; words in quotes and brackets in quotes are of another kind.
use Rattle.std.specs.Prelude.{◌≡◌, ◌⊎◌, ◌<◌, ◌≤◌, ℕ, IsTrue, List, [], ◌∷◌, ◌++◌, codes, Option, Some, None, MatchOption}
use Rattle.binding_terms.specs.Numbered.{AnyByRecursion}
use Rattle.sy_base.specs.Tokens.{PlainToken, AreTokens, is_numeral}
use Rattle.outline_reader.specs.Sorts.{reserved_words}
use Rattle.outline_reader.specs.Plain.{PlainPortion, judgment_of, HasPortions}
use Rattle.user_grammar.specs.File.{categories}
use Rattle.user_grammar.specs.Names.{IsAmong}
use Rattle.user_grammar.specs.Production.{IsMark}
use Rattle.user_grammar.specs.Fault.{DeclaresVariable}

-- the words of forms that are not built
abbrev pub unbuilt_words : List (List ℕ)
unbuilt_words =
    codes "assumes" ∷ codes "unproved" ∷ codes "case" ∷ codes "inversion" ∷ codes "contradiction" ∷ codes "induction" ∷ codes "use"
    ∷ codes "and" ∷ codes "weakening" ∷ codes "exchange" ∷ codes "substitution" ∷ []

-- the token is this word
abbrev pub IsWord : List ℕ → PlainToken → Type 0
IsWord word token = (token.kind ≡ 0) × (token.text ≡ word)

-- the token is a word of a form that is not built
pub record IsUnbuiltWord (token : PlainToken) : Type 0 where
  pub word : token.kind ≡ 0
  pub among : IsAmong unbuilt_words token.text

-- the token is a reserved word
pub record IsReservedWord (token : PlainToken) : Type 0 where
  pub word : token.kind ≡ 0
  pub among : IsAmong reserved_words token.text

-- the token is a word that is neither reserved nor a numeral
pub record IsName (token : PlainToken) : Type 0 where
  pub word : token.kind ≡ 0
  pub not_reserved : IsReservedWord token → ⊥
  pub no_numeral : IsTrue (is_numeral token.text) → ⊥

-- the token is what a call names behind `by`: `theorem`, `lemma`, or a name
abbrev pub IsCallee : PlainToken → Type 0
IsCallee token = IsWord (codes "theorem") token ⊎ IsWord (codes "lemma") token ⊎ IsName token

-- the tokens begin with the symbol `:`
abbrev pub BeginsWithColon : List PlainToken → Type 0
BeginsWithColon [] = ⊥
BeginsWithColon (token ∷ rest) = (token.kind ≡ 1) × (token.text ≡ codes ":")

-- The last reserved word of the tokens is `syntax`.
pub data EndsInSyntax : (tokens : List PlainToken) → Type 0 where
  the_word : {tokens : List PlainToken} (before : List PlainToken) (word : PlainToken) → tokens ≡ before ++ word ∷ [] → IsWord (codes "syntax") word → EndsInSyntax tokens
  another : {tokens : List PlainToken} (before : List PlainToken) (token : PlainToken) → tokens ≡ before ++ token ∷ [] → (IsReservedWord token → ⊥) → EndsInSyntax before →
      EndsInSyntax tokens

-- the last of the tokens is this word
pub record EndsWith (word : List ℕ) (tokens : List PlainToken) : Type 0 where
  pub before : List PlainToken
  pub last : PlainToken
  pub split : tokens ≡ before ++ last ∷ []
  pub is_word : IsWord word last

-- A token that stands between these, and at which a form stands that is not built: a word of such a form; a bracket outside syntax parts;
-- what follows `by` and is `theorem`, `lemma` or a name; and the name of a syntax input.
pub data IsUnbuiltAt (front : List PlainToken) (token : PlainToken) (rest : List PlainToken) : Type 0 where
  a_word : IsUnbuiltWord token → IsUnbuiltAt front token rest
  a_bracket : IsMark 91 token → (EndsInSyntax front → ⊥) → IsUnbuiltAt front token rest
  behind_by : EndsWith (codes "by") front → IsCallee token → IsUnbuiltAt front token rest
  syntax_input : EndsWith (codes "forall") front → IsName token → (BeginsWithColon rest → ⊥) → IsUnbuiltAt front token rest

-- some production of the file declares a variable
pub record HasVariable (portions : List PlainPortion) : Type 0 where
  pub declares : AnyByRecursion (λ written. AnyByRecursion (DeclaresVariable portions) written.forms) (categories portions)

-- the word `judgment` of a judgment part
abbrev pub judgment_word : PlainPortion → Option PlainToken
judgment_word (judgment_of first name form assumes) = Some first
judgment_word _ = None

-- the token is the word `judgment` of the first judgment part
abbrev pub IsFirstJudgment : List PlainPortion → PlainToken → Type 0
IsFirstJudgment [] token = ⊥
IsFirstJudgment (portion ∷ portions) token = MatchOption (judgment_word portion) (IsFirstJudgment portions token) (λ first. token ≡ first)

-- A token of the source at which a form stands that is not built. In a file that declares a variable the first judgment part is one.
pub data IsNotBuilt (source : List ℕ) (token : PlainToken) : Type 0 where
  by_its_token : (tokens front rest : List PlainToken) → AreTokens source tokens → tokens ≡ front ++ token ∷ rest → IsUnbuiltAt front token rest →
      IsNotBuilt source token
  of_a_judgment : (portions : List PlainPortion) → HasPortions source portions → HasVariable portions → IsFirstJudgment portions token →
      IsNotBuilt source token

-- some token of the source is not built
pub record HasNotBuilt (source : List ℕ) : Type 0 where
  pub token : PlainToken
  pub is : IsNotBuilt source token

-- a token stands before another, or where it does: by line, and then by place
abbrev pub StandsFirst : (token other : PlainToken) → Type 0
StandsFirst token other = (token.line < other.line) ⊎ ((token.line ≡ other.line) × (token.from ≤ other.from))

-- a token that is not built stands before all others that are not, by line and then by place
pub record IsFirstNotBuilt (source : List ℕ) (token : PlainToken) : Type 0 where
  pub is : IsNotBuilt source token
  pub first : (other : PlainToken) → IsNotBuilt source other → StandsFirst token other
