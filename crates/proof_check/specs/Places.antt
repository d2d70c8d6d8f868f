-- What is found of the places that are not built, and what is kept of the tokens before a place. They speak of no concept of the notation
-- of their own.
use Rattle.std.specs.Prelude.{◌≡◌, ◌⊎◌, ◌↔◌, ◌<◌, ℕ, IsTrue, List, ◌∷◌, ◌++◌, codes, length, Option, Some, None, MatchOption}
use Rattle.sy_base.specs.Tokens.{PlainToken}
use Rattle.proof_check.specs.declared.unbuilt.Before.{Before}
use Rattle.outline_reader.specs.Plain.{PlainPortion}
use Rattle.proof_check.specs.NotBuilt.{EndsInSyntax, EndsWith, IsUnbuiltAt, HasVariable, IsFirstJudgment, HasNotBuilt, IsFirstNotBuilt, StandsFirst}

-- this is kept of the tokens
pub record IsKeptOf (tokens : List PlainToken) (before : Before) : Type 0 where
  pub in_syntax : IsTrue before.in_syntax ↔ EndsInSyntax tokens
  pub behind_by : IsTrue before.behind_by ↔ EndsWith (codes "by") tokens
  pub behind_forall : IsTrue before.behind_forall ↔ EndsWith (codes "forall") tokens

-- at none of the first n tokens such a form stands
abbrev pub NoneAmongFirst : (tokens : List PlainToken) (n : ℕ) → Type 0
NoneAmongFirst tokens n =
    (front rest : List PlainToken) (token : PlainToken) → tokens ≡ front ++ token ∷ rest → length front < n → IsUnbuiltAt front token rest → ⊥

-- it stands at this token, and at none before it
pub record IsFirstUnbuilt (tokens : List PlainToken) (token : PlainToken) : Type 0 where
  pub front : List PlainToken
  pub rest : List PlainToken
  pub split : tokens ≡ front ++ token ∷ rest
  pub unbuilt : IsUnbuiltAt front token rest
  pub none_before : NoneAmongFirst tokens (length front)

-- the first such token is found, and none where there is none
abbrev pub FindsUnbuilt : (tokens : List PlainToken) (found : Option PlainToken) → Type 0
FindsUnbuilt tokens found = MatchOption found (NoneAmongFirst tokens (length tokens)) (IsFirstUnbuilt tokens)

-- the word of the first judgment part is found where a production declares a variable
abbrev pub FindsJudgment : (portions : List PlainPortion) (found : Option PlainToken) → Type 0
FindsJudgment portions found =
    MatchOption found ((token : PlainToken) → HasVariable portions → IsFirstJudgment portions token → ⊥)
    (λ token. HasVariable portions × IsFirstJudgment portions token)

-- the first token of the source that is not built is found, and none where there is none
abbrev pub FindsNotBuilt : (source : List ℕ) (found : Option PlainToken) → Type 0
FindsNotBuilt source found = MatchOption found (HasNotBuilt source → ⊥) (IsFirstNotBuilt source)

-- of two tokens the one that stands first
pub record IsEarlier (one other token : PlainToken) : Type 0 where
  pub is_either : (token ≡ one) ⊎ (token ≡ other)
  pub before_one : StandsFirst token one
  pub before_other : StandsFirst token other

-- the same, of those that are there
abbrev pub IsEarlierIfAny : (one other found : Option PlainToken) → Type 0
IsEarlierIfAny None other found = found ≡ other
IsEarlierIfAny (Some one) None found = found ≡ Some one
IsEarlierIfAny (Some one) (Some other) found = MatchOption found ⊥ (IsEarlier one other)
