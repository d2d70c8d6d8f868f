-- What functions inside the crate find in the last line of a text. No public clause cites it.
use Rattle.std.specs.Prelude.{◌≡◌, ◌≢◌, ◌⊎◌, ◌+◌, ℕ, ◌==◌, ◌&&◌, if◌then◌else◌, IsFalse, List, [], ◌∷◌, ◌++◌, Option, Some, None, is_some}
use Rattle.std.specs.List.{AllByRecursion}
use Rattle.std.specs.Str.{bytes_eq}
use Rattle.rule_schemes.specs.Reading.{Token, word, punctuation}
use Rattle.derivation_text.specs.Forms.{APPLY, GIVES, Argument, is_reserved_token, IsBalanced, IsArgument, argument_tokens, further_arguments, arguments_tokens}
use Rattle.derivation_text.specs.Valid.{tree_named, Last, IsLast, IsKnownArgument}
use Rattle.derivation_text.specs.Found.{is_name_token, with_first}
use Rattle.derivation_text.specs.declared.derivs.Named.{Named}

abbrev pub Given : Type 0
Given = Argument

abbrev pub apply_word : Token
apply_word = word APPLY

abbrev pub gives_word : Token
gives_word = word GIVES

-- how many parentheses are open before a token and after it
abbrev pub Turns : ℕ → Token → ℕ → Type 0
Turns n t m =
    ((t ≡ punctuation 40) × (m ≡ n + 1)) ⊎ ((t ≡ punctuation 41) × (n ≡ m + 1)) ⊎ ((t ≢ punctuation 40) × (t ≢ punctuation 41) × (m ≡ n))

abbrev pub NoneReserved : List Token → Type 0
NoneReserved ts = AllByRecursion (λ t. IsFalse (is_reserved_token t)) ts

-- the name of an earlier line, if the token is one
abbrev pub known_name : List Named → Token → Option (List ℕ)
known_name known t = if is_name_token t then (if is_some (tree_named known t.1) then Some t.1 else None) else None

abbrev pub further_known : List Named → List Token → Option (List (List ℕ))
further_known known [] = Some []
further_known known (c ∷ []) = None
further_known known (c ∷ (t ∷ ts)) =
    if (c.0 == 2) && bytes_eq c.1 (44 ∷ []) then with_first (known_name known t) (further_known known ts) else None

abbrev pub known_names : List Named → List Token → Option (List (List ℕ))
known_names known [] = Some []
known_names known (t ∷ ts) = with_first (known_name known t) (further_known known ts)

abbrev pub HasNoLast : List Named → List Token → Type 0
HasNoLast known ts = (last : Last) → IsLast known ts last → ⊥

-- the tokens begin with those that stand up to the parenthesis that closes, where so many more are open
pub record Closes (open_before : ℕ) (ts form rest : List Token) : Type 0 where
  pub tokens_are : ts ≡ form ++ punctuation 41 ∷ rest
  pub balanced : IsBalanced open_before form

abbrev pub HasNoClosing : List Token → Type 0
HasNoClosing ts = (form rest : List Token) → Closes 0 ts form rest → ⊥

-- the tokens begin with an argument
pub record IsFront (known : List Named) (ts : List Token) (a : Argument) (rest : List Token) : Type 0 where
  pub tokens_are : ts ≡ argument_tokens a ++ rest
  pub is_argument : IsArgument a
  pub is_known : IsKnownArgument known a

abbrev pub HasNoFront : List Named → List Token → Type 0
HasNoFront known ts = (a : Argument) (rest : List Token) → IsFront known ts a rest → ⊥

-- the tokens are further arguments, each after a comma
pub record IsRest (known : List Named) (ts : List Token) (all : List Argument) : Type 0 where
  pub tokens_are : ts ≡ further_arguments all
  pub are_arguments : AllByRecursion IsArgument all
  pub are_known : AllByRecursion (IsKnownArgument known) all

abbrev pub HasNoRest : List Named → List Token → Type 0
HasNoRest known ts = (all : List Argument) → IsRest known ts all → ⊥

pub record IsArguments (known : List Named) (ts : List Token) (all : List Argument) : Type 0 where
  pub tokens_are : ts ≡ arguments_tokens all
  pub are_arguments : AllByRecursion IsArgument all
  pub are_known : AllByRecursion (IsKnownArgument known) all

abbrev pub HasNoArguments : List Named → List Token → Type 0
HasNoArguments known ts = (all : List Argument) → IsArguments known ts all → ⊥
