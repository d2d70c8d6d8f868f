-- Where the tokens of a production stand, as functions inside the crate follow them.
use Rattle.std.specs.Prelude.{Option, None, Some, MatchOption, ◌≡◌, ◌≢◌, ◌↔◌, ◌⊎◌, ◌<◌, ◌++◌, ℕ, List, ◌∷◌, map, reverse, length}
use Rattle.std.specs.List.{AllByRecursion}
use Rattle.sy_base.specs.Tokens.{PlainToken}
use Rattle.outline_reader.specs.Plain.{PlainPortion}
use Rattle.user_grammar.specs.Names.{IsAmong}
use Rattle.user_grammar.specs.Production.{IsMark, IsTerminal}
use Rattle.user_grammar.specs.Fault.{Place, outside, behind_slot, before_word, behind_word, IsPlaceBehind, IsOutside, IsBinderWord, IsBinderOf, IsSlotWord, IsContextCategory, IsDuplicate}
use Rattle.user_grammar.specs.File.{WrittenCategory, assumed, categories, listed}
use Rattle.user_grammar.specs.Finding.{AtToken, LentFault, ShortOf, UnknownContexts, lent_words}
use Rattle.sy_base.specs.FirstFault.{Either, OfSome, Says}
use Rattle.sy_base.specs.declared.fault.Code.{Code}
use Rattle.sy_base.specs.declared.fault.Code.TheVariants as code
use Rattle.sy_base.specs.declared.fault.Fault.{Fault}
use Rattle.user_grammar.specs.declared.fault_place.Step.{Step}
use Rattle.user_grammar.specs.declared.fault_place.Step.TheVariants as step
use Rattle.user_grammar.specs.declared.fault_place.Walk.{Walk}

-- a place, with the words that the brackets have so far, the last first
abbrev pub step_view : Step → List (List ℕ) → Place
step_view step.Outside named = outside
step_view step.BehindSlot named = behind_slot named
step_view step.BeforeWord named = before_word named
step_view step.BehindWord named = behind_word named

abbrev pub walk_view : Walk → Place
walk_view walk = step_view walk.step (reverse (map (λ word. word.now) walk.named.items))

-- these are the words of the binders of a form, or of its first tokens
pub record AreBinders (portions : List PlainPortion) (form : List PlainToken) (words : List (List ℕ)) : Type 0 where
  pub are : (word : List ℕ) → IsAmong words word ↔ IsBinderOf portions form word

-- what is wrong with a token in the brackets of a slot, by its place
abbrev pub IsWrongAt : List PlainPortion → (form rest : List PlainToken) → Place → PlainToken → Type 0
IsWrongAt portions form rest outside token = ⊥
IsWrongAt portions form rest (behind_slot named) token = IsMark 91 token × AllByRecursion (λ t. IsMark 93 t → ⊥) rest
IsWrongAt portions form rest (before_word named) token = (token.kind ≢ 0) ⊎ (IsBinderOf portions form token.text → ⊥) ⊎ ((token.kind ≡ 0) × IsAmong named token.text)
IsWrongAt portions form rest (behind_word named) token = (IsMark 44 token → ⊥) × (IsMark 93 token → ⊥)

-- the codes that stand at a token of a form, with these before and behind it, by its place
pub data HasCode (portions : List PlainPortion) (form front rest : List PlainToken) (place : Place) (token : PlainToken) (found : Code) : Type 0 where
  unknown : found ≡ code.UnknownWord → IsOutside place token → (IsSlotWord portions token → ⊥) → (IsBinderWord portions token → ⊥) → (IsTerminal (listed portions) token → ⊥) →
      HasCode portions form front rest place token found
  wrong : found ≡ code.BadBinder → IsWrongAt portions form rest place token → HasCode portions form front rest place token found
  twice : found ≡ code.BinderTwice → IsOutside place token → IsBinderWord portions token → IsBinderOf portions front token.text → HasCode portions form front rest place token found

-- the faults at this token, of those that stand at places
pub record AtPlace (portions : List PlainPortion) (form front rest : List PlainToken) (place : Place) (token : PlainToken) (found : Code) (at : PlainToken) (detail : List ℕ) : Type 0 where
  pub there : at ≡ token
  pub text : detail ≡ at.text
  pub has : HasCode portions form front rest place token found

-- the faults of the first n tokens of a form
pub record AmongFirst (portions : List PlainPortion) (form : List PlainToken) (n : ℕ) (found : Code) (token : PlainToken) (detail : List ℕ) : Type 0 where
  pub front : List PlainToken
  pub rest : List PlainToken
  pub place : Place
  pub split : form ≡ front ++ token ∷ rest
  pub is_place : IsPlaceBehind portions front place
  pub near : length front < n
  pub fault : AtPlace portions form front rest place token found token detail

-- the faults of all tokens of a form
abbrev pub TokensOf : List PlainPortion → List PlainToken → Code → PlainToken → List ℕ → Type 0
TokensOf portions form = AmongFirst portions form (length form)

-- the faults at tokens of the categories' productions, by their places
abbrev pub InProductions : List PlainPortion → Code → PlainToken → List ℕ → Type 0
InProductions portions = OfSome (λ written. OfSome (TokensOf portions) written.forms) (categories portions)

-- all faults but those of context categories
abbrev pub ButContexts : List PlainPortion → Code → PlainToken → List ℕ → Type 0
ButContexts portions =
    Either (AtToken code.Duplicate (IsDuplicate portions))
    (Either (OfSome (ShortOf portions) (categories portions)) (Either (InProductions portions) (OfSome (UnknownContexts portions) portions)))

-- a category that is assumed and breaks the rule on context categories, by its `::=`
pub record IsBadContext (portions : List PlainPortion) (written : WrittenCategory) (token : PlainToken) : Type 0 where
  pub marked : token ≡ written.mark
  pub assumed : IsAmong (assumed portions) written.name.text
  pub breaks : IsContextCategory portions written → ⊥

-- the fault of such a category, which has its name
abbrev pub BadContextOf : List PlainPortion → WrittenCategory → Code → PlainToken → List ℕ → Type 0
BadContextOf portions written found token detail = (found ≡ code.BadContext) × (detail ≡ written.name.text) × IsBadContext portions written token

-- what is told of a fault that was found
abbrev pub IsTold : Option LentFault → Option Fault → Type 0
IsTold None fault = fault ≡ None
IsTold (Some found) fault = MatchOption fault ⊥ (λ f. Says f found.place.line found.code (lent_words found.detail))
