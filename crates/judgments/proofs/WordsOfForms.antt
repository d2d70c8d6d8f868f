-- Words and tokens that stand in forms, and what forms tell of parameters where no word is a variable's.
use Rattle.std.proofs.Common.{◌≡◌, ◌≢◌, ◌⊎◌, ◌<◌, ℕ, List, [], ◌∷◌, inl, inr, refl, ap, arith, None}
use Rattle.std.specs.Prelude.{flat_map}
use Rattle.std.specs.List.{AllByRecursion}
use Rattle.std.proofs.lemmas.Bool.{cases_order}
use Rattle.binding_terms.specs.Signature.{Signature}
use Rattle.binding_terms.specs.declared.grammar.Cat.{Cat}
use Rattle.rule_schemes.specs.Reading.{Token, word, punctuation}
use Rattle.rule_schemes.specs.NewNames.{TellsBrackets, at_end, no_bracket, open_bracket, TellsWords, comma, close_bracket, IsTelling, TellsNothing, FirstTells, HasParameters}
use Rattle.judgments.specs.Collected.{StandsIn}
use Rattle.judgments.specs.Named.{IsWordOf}
use Rattle.judgments.proofs.ReadingLemmas.{not_variable}
use Rattle.binding_terms.proofs.Lists.{any_back, any_front, any_split}

-- two words are the same or not
pub same_word : (v w : List ℕ) → (v ≡ w) ⊎ (v ≢ w)
same_word [] [] = inl refl
same_word [] (y ∷ w) = inr (λ e. cc)
same_word (x ∷ v) [] = inr (λ e. cc)
same_word (x ∷ v) (y ∷ w) = both (cases_order x y) (same_word v w)
  where
    both : (x ≡ y) ⊎ ((x < y) ⊎ (y < x)) → (v ≡ w) ⊎ (v ≢ w) → (x ∷ v ≡ y ∷ w) ⊎ (x ∷ v ≢ y ∷ w)
    both (inl e) (inl f) = inl cc
    both (inl e) (inr f) = inr (λ g. f (let rest : v ≡ w = cc in rest))
    both (inr (inl lt)) s = inr (λ g. (let first : x ≡ y = cc in omega arith))
    both (inr (inr lt)) s = inr (λ g. (let first : x ≡ y = cc in omega arith))

-- a token is the word or not
pub same_token : (w : List ℕ) (t : Token) → (t ≡ word w) ⊎ (t ≢ word w)
same_token w t = both (cases_order t.0 0) (same_word t.1 w)
  where
    both : (t.0 ≡ 0) ⊎ ((t.0 < 0) ⊎ (0 < t.0)) → (t.1 ≡ w) ⊎ (t.1 ≢ w) → (t ≡ word w) ⊎ (t ≢ word w)
    both (inl e) (inl f) = inl (λ i. (e i, f i))
    both (inl e) (inr f) = inr (λ g. f (ap (λ (u : Token). u.1) g))
    both (inr (inl lt)) s = absurd (omega arith)
    both (inr (inr lt)) s = inr (λ g. (let kind : t.0 ≡ 0 = ap (λ (u : Token). u.0) g in omega arith))

pub stands_or_not : (w : List ℕ) (ts : List Token) → StandsIn w ts ⊎ (StandsIn w ts → ⊥)
stands_or_not w [] = inr (λ h. h)
stands_or_not w (t ∷ ts) = both (same_token w t) (stands_or_not w ts)
  where
    neither : (t ≢ word w) → (StandsIn w ts → ⊥) → StandsIn w (t ∷ ts) → ⊥
    neither e f (inl h) = e h
    neither e f (inr h) = f h

    both : (t ≡ word w) ⊎ (t ≢ word w) → StandsIn w ts ⊎ (StandsIn w ts → ⊥) → StandsIn w (t ∷ ts) ⊎ (StandsIn w (t ∷ ts) → ⊥)
    both (inl e) s = inl (inl e)
    both (inr e) (inl h) = inl (inr h)
    both (inr e) (inr f) = inr (neither e f)

-- the forms one after the other
abbrev pub joined : List (List Token) → List Token
joined forms = flat_map (λ form. form) forms

pub word_joined : (forms : List (List Token)) (w : List ℕ) → IsWordOf forms w → StandsIn w (joined forms)
word_joined [] w h = h
word_joined (form ∷ forms) w (inl h) = any_front (λ t. t ≡ word w) form (joined forms) h
word_joined (form ∷ forms) w (inr h) = any_back (λ t. t ≡ word w) form (joined forms) (word_joined forms w h)

pub joined_word : (forms : List (List Token)) (w : List ℕ) → StandsIn w (joined forms) → IsWordOf forms w
joined_word [] w h = h
joined_word (form ∷ forms) w h = which (joined_word forms w) (any_split (λ t. t ≡ word w) form (joined forms) h)
  where
    which : (StandsIn w (joined forms) → IsWordOf forms w) → StandsIn w form ⊎ StandsIn w (joined forms) → IsWordOf (form ∷ forms) w
    which more (inl k) = inl k
    which more (inr k) = inr (more k)

-- no bracket opens in the tokens
abbrev pub HasNoBracket : List Token → Type 0
HasNoBracket ts = AllByRecursion (λ t. t ≢ punctuation 91) ts

module _ (sig : Signature) where
  tells_end : (ts : List Token) → HasNoBracket ts → TellsBrackets sig ts [] []
  tells_end [] h = at_end
  tells_end (t ∷ ts) h = no_bracket h.0

  -- where no bracket opens, the first place of a word tells that it has no parameters
  first_tells : (w : List ℕ) (ts : List Token) → HasNoBracket ts → StandsIn w ts → FirstTells sig w ts []
  first_tells w [] h s = s
  first_tells w (t ∷ ts) h s = which (first_tells w ts h.1) (same_token w t) s
    where
      which : (StandsIn w ts → FirstTells sig w ts []) → (t ≡ word w) ⊎ (t ≢ word w) → StandsIn w (t ∷ ts) → FirstTells sig w (t ∷ ts) []
      which more (inl e) s = inl (e, ([], tells_end ts h.1, tt))
      which more (inr e) (inl s) = absurd (e s)
      which more (inr e) (inr s) = inr (λ ds k. e k.0, more s)

  tells_nothing : (w : List ℕ) (ts : List Token) → (StandsIn w ts → ⊥) → TellsNothing sig w ts
  tells_nothing w [] none = tt
  tells_nothing w (t ∷ ts) none = (λ cs k. none (inl k.0), tells_nothing w ts (λ s. none (inr s)))

  pub has_no_parameters : (w : List ℕ) (forms : List (List Token)) → AllByRecursion HasNoBracket forms → IsWordOf forms w → HasParameters sig w forms []
  has_no_parameters w [] h s = s
  has_no_parameters w (form ∷ forms) h s = which (has_no_parameters w forms h.1) (stands_or_not w form) s
    where
      which : (IsWordOf forms w → HasParameters sig w forms []) → StandsIn w form ⊎ (StandsIn w form → ⊥) → IsWordOf (form ∷ forms) w → HasParameters sig w (form ∷ forms) []
      which more (inl here) s = inl (first_tells w form h.0 here)
      which more (inr none) (inl s) = absurd (none s)
      which more (inr none) (inr s) = inr (tells_nothing w form none, more s)

  module _ (no_variable : AllByRecursion (λ (k : Cat). k.var ≡ None) sig.cats) where
    no_words : {ts : List Token} {ws : List (List ℕ)} {cs : List ℕ} → TellsWords sig ts ws cs → ⊥
    no_words (comma {w = w} {c = c} h r) = not_variable sig.cats c w no_variable h.here
    no_words (close_bracket {w = w} {c = c} h r) = not_variable sig.cats c w no_variable h.here

    no_cats : {ts : List Token} {ws : List (List ℕ)} {cs : List ℕ} → TellsBrackets sig ts ws cs → cs ≡ []
    no_cats at_end = refl
    no_cats (no_bracket e) = refl
    no_cats (open_bracket h) = absurd (no_words h)

    telling_none : (w : List ℕ) (ts : List Token) (cs : List ℕ) → IsTelling sig w ts cs → cs ≡ []
    telling_none w [] cs h = absurd h
    telling_none w (t ∷ ts) cs h = no_cats (h.1).1

    first_none : (w : List ℕ) (ts : List Token) (cs : List ℕ) → FirstTells sig w ts cs → cs ≡ []
    first_none w [] cs h = absurd h
    first_none w (t ∷ ts) cs (inl h) = telling_none w (t ∷ ts) cs h
    first_none w (t ∷ ts) cs (inr h) = first_none w ts cs h.1

    -- where no category has a variable, no name has parameters
    pub parameters_none : (w : List ℕ) (forms : List (List Token)) (cs : List ℕ) → HasParameters sig w forms cs → cs ≡ []
    parameters_none w [] cs h = absurd h
    parameters_none w (form ∷ forms) cs (inl h) = first_none w form cs h
    parameters_none w (form ∷ forms) cs (inr h) = parameters_none w forms cs h.1
