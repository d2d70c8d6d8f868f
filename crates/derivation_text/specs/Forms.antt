-- What a line of a derivation text says. To be held against docs/notation.md, 'Derivation texts'.
use Rattle.std.specs.Prelude.{◌≡◌, ◌≢◌, ℕ, ◌+◌, ◌==◌, ◌&&◌, ◌||◌, not, Bool, false, IsTrue, IsFalse, List, [], ◌∷◌, ◌++◌, codes}
use Rattle.std.specs.List.{AllByRecursion}
use Rattle.std.specs.Str.{bytes_eq}
use Rattle.sy_base.specs.Tokens.{is_numeral}
use Rattle.outline_reader.specs.Sorts.{is_reserved}
use Rattle.rule_schemes.specs.Reading.{Token, word, punctuation}

abbrev pub is_among : List (List ℕ) → List ℕ → Bool
is_among [] w = false
is_among (v ∷ vs) w = bytes_eq v w || is_among vs w

-- a word that is neither reserved nor a numeral
unfoldable pub is_name : List ℕ → Bool
is_name w = not (is_reserved w) && not (is_numeral w)

-- the words that begin the lines which name no derivation
abbrev pub CONTEXT : List ℕ
CONTEXT = codes "context"

abbrev pub APPLY : List ℕ
APPLY = codes "apply"

abbrev pub GIVES : List ℕ
GIVES = codes "gives"

-- a name that a derivation may have
unfoldable pub is_own_name : List ℕ → Bool
is_own_name w = is_name w && not (is_among (CONTEXT ∷ APPLY ∷ GIVES ∷ []) w)

-- a reserved word without quotes
abbrev pub is_reserved_token : Token → Bool
is_reserved_token t = (t.0 == 0) && is_reserved t.1

-- one or more tokens, none of them a reserved word without quotes
pub record IsForm (ts : List Token) : Type 0 where
  pub some : ts ≢ []
  pub none_reserved : AllByRecursion (λ t. IsFalse (is_reserved_token t)) ts

abbrev pub AreNames : List (List ℕ) → Type 0
AreNames ws = AllByRecursion (λ w. IsTrue (is_name w)) ws

-- what is given for an input: the name of a derivation, or the form of a term in parentheses
pub data Argument : Type 0 where
  by_name : (name : List ℕ) → Argument
  enclosed : (form : List Token) → Argument

-- Each parenthesis that closes has one that opens before it, and each that opens has one that closes, where so many are open before.
pub data IsBalanced : (open_before : ℕ) → List Token → Type 0 where
  at_end : {n : ℕ} → n ≡ 0 → IsBalanced n []
  opens : {n : ℕ} {t : Token} {ts : List Token} → t ≡ punctuation 40 → IsBalanced (n + 1) ts → IsBalanced n (t ∷ ts)
  closes : {n m : ℕ} {t : Token} {ts : List Token} → t ≡ punctuation 41 → n ≡ m + 1 → IsBalanced m ts → IsBalanced n (t ∷ ts)
  neither : {n : ℕ} {t : Token} {ts : List Token} → t ≢ punctuation 40 → t ≢ punctuation 41 → IsBalanced n ts → IsBalanced n (t ∷ ts)

abbrev pub IsArgument : Argument → Type 0
IsArgument (by_name w) = IsTrue (is_name w)
IsArgument (enclosed form) = IsForm form × IsBalanced 0 form

-- what a line says
pub data Written : Type 0 where
  context_line : (form : List Token) → Written
  node_line : (name : List ℕ) (form : List Token) (rule : List ℕ) (cited : List (List ℕ)) → Written
  apply_line : List Argument → Written
  gives_line : (names : List (List ℕ)) → Written

-- names with commas between them
abbrev pub further_names : List (List ℕ) → List Token
further_names [] = []
further_names (w ∷ ws) = punctuation 44 ∷ (word w ∷ further_names ws)

abbrev pub names_tokens : List (List ℕ) → List Token
names_tokens [] = []
names_tokens (w ∷ ws) = word w ∷ further_names ws

-- nothing, or names after `on`
abbrev pub on_tokens : List (List ℕ) → List Token
on_tokens [] = []
on_tokens (w ∷ ws) = word (codes "on") ∷ names_tokens (w ∷ ws)

abbrev pub argument_tokens : Argument → List Token
argument_tokens (by_name w) = word w ∷ []
argument_tokens (enclosed form) = punctuation 40 ∷ (form ++ punctuation 41 ∷ [])

-- arguments with commas between them
abbrev pub further_arguments : List Argument → List Token
further_arguments [] = []
further_arguments (a ∷ rest) = punctuation 44 ∷ (argument_tokens a ++ further_arguments rest)

abbrev pub arguments_tokens : List Argument → List Token
arguments_tokens [] = []
arguments_tokens (a ∷ rest) = argument_tokens a ++ further_arguments rest

-- the colon after a name, which is a symbol
abbrev pub colon : Token
colon = (1, codes ":")

-- what follows the form of a node
abbrev pub by_rule : (rule : List ℕ) (cited : List (List ℕ)) → List Token
by_rule r cited = word (codes "by") ∷ (word (codes "rule") ∷ (word r ∷ on_tokens cited))

-- the tokens by which a line says it
abbrev pub line_tokens : Written → List Token
line_tokens (context_line form) = word CONTEXT ∷ form
line_tokens (node_line name form r cited) = word name ∷ (colon ∷ (form ++ by_rule r cited))
line_tokens (apply_line args) = word APPLY ∷ arguments_tokens args
line_tokens (gives_line names) = word GIVES ∷ names_tokens names

-- its names are names, and its forms are forms
abbrev pub IsWellWritten : Written → Type 0
IsWellWritten (context_line form) = IsForm form
IsWellWritten (node_line name form r cited) = IsTrue (is_own_name name) × IsForm form × IsTrue (is_name r) × AreNames cited
IsWellWritten (apply_line args) = AllByRecursion IsArgument args
IsWellWritten (gives_line names) = AreNames names

-- the tokens of a line say this
pub record Says (tokens : List Token) (line : Written) : Type 0 where
  pub tokens_are : tokens ≡ line_tokens line
  pub well_written : IsWellWritten line
