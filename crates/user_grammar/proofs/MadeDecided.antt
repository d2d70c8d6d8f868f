-- What can be told of names and tokens: each is so or is not.
use Rattle.std.proofs.Common.{◌≡◌, ◌≢◌, ◌≤◌, ℕ, zero, suc, Bool, true, false, IsTrue, List, [], ◌∷◌, ◌++◌, refl, ap, sym, subst, inl, inr, ◌⊎◌, arith}
use Rattle.std.specs.List.{AllByRecursion}
use Rattle.sy_base.specs.Tokens.{PlainToken, is_numeral}
use Rattle.binding_terms.specs.Numbered.{AnyByRecursion}
use Rattle.rule_schemes.specs.Reading.{IsEnding, IsSpelling, MayBeTerminal}
use Rattle.user_grammar.specs.Names.{IsAmong, IsNoSpelling}
use Rattle.user_grammar.specs.Production.{IsTerminal, IsMark, IsVariable}

abbrev pub Decided : Type 0 → Type 0
Decided A = A ⊎ (A → ⊥)

-- what is not refused holds
pub not_refused : {A : Type 0} → Decided A → ((A → ⊥) → ⊥) → A
not_refused (inl is) not = is
not_refused (inr is_not) not = absurd (not is_not)

pub both_decided : {A B : Type 0} → Decided A → Decided B → Decided (A × B)
both_decided (inl a) (inl b) = inl (a, b)
both_decided (inl a) (inr b) = inr (λ h. b h.1)
both_decided (inr a) other = inr (λ h. a h.0)

pub either_decided : {A B : Type 0} → Decided A → Decided B → Decided (A ⊎ B)
either_decided (inl a) other = inl (inl a)
either_decided {A = A} {B = B} (inr a) (inl b) = inl (inr b)
either_decided {A = A} {B = B} (inr a) (inr b) = inr neither
  where
    neither : A ⊎ B → ⊥
    neither (inl h) = a h
    neither (inr h) = b h

pub not_decided : {A : Type 0} → Decided A → Decided (A → ⊥)
not_decided (inl a) = inr (λ h. h a)
not_decided (inr a) = inl a

pub if_decided : {A B : Type 0} → Decided A → Decided B → Decided (A → B)
if_decided one (inl b) = inl (λ a. b)
if_decided (inl a) (inr b) = inr (λ h. b (h a))
if_decided (inr a) (inr b) = inl (λ h. absurd (a h))

pub all_decided : {X : Type 0} (P : X → Type 0) → ((x : X) → Decided (P x)) → (xs : List X) → Decided (AllByRecursion P xs)
all_decided P tells [] = inl tt
all_decided P tells (x ∷ xs) = both_decided (tells x) (all_decided P tells xs)

pub any_decided : {X : Type 0} (P : X → Type 0) → ((x : X) → Decided (P x)) → (xs : List X) → Decided (AnyByRecursion P xs)
any_decided P tells [] = inr (λ h. h)
any_decided P tells (x ∷ xs) = either_decided (tells x) (any_decided P tells xs)

pub numbers_decided : (m n : ℕ) → Decided (m ≡ n)
numbers_decided zero zero = inl refl
numbers_decided zero (suc n) = inr (λ same. (let never : ⊥ = omega (arith, same) in never))
numbers_decided (suc m) zero = inr (λ same. (let never : ⊥ = omega (arith, same) in never))
numbers_decided (suc m) (suc n) = step (numbers_decided m n)
  where
    step : Decided (m ≡ n) → Decided (suc m ≡ suc n)
    step (inl same) = inl (ap suc same)
    step (inr differ) = inr (λ same. differ (omega (arith, same)))

pub order_decided : (m n : ℕ) → Decided (m ≤ n)
order_decided zero n = inl (omega arith)
order_decided (suc m) zero = inr (λ below. (let never : ⊥ = omega (arith, below) in never))
order_decided (suc m) (suc n) = step (order_decided m n)
  where
    step : Decided (m ≤ n) → Decided (suc m ≤ suc n)
    step (inl below) = inl (omega (arith, below))
    step (inr above) = inr (λ below. above (omega (arith, below)))

pub texts_decided : (xs ys : List ℕ) → Decided (xs ≡ ys)
texts_decided [] [] = inl refl
texts_decided [] (y ∷ ys) = inr (λ same. cc)
texts_decided (x ∷ xs) [] = inr (λ same. cc)
texts_decided (x ∷ xs) (y ∷ ys) = step (numbers_decided x y) (texts_decided xs ys)
  where
    step : Decided (x ≡ y) → Decided (xs ≡ ys) → Decided (x ∷ xs ≡ y ∷ ys)
    step (inl head) (inl tail) = inl cc
    step (inl head) (inr differ) = inr (λ same. differ cc)
    step (inr differ) other = inr (λ same. differ cc)

pub true_decided : (b : Bool) → Decided (IsTrue b)
true_decided true = inl refl
true_decided false = inr (λ same. cc)

pub ending_decided : (c : ℕ) → Decided (IsEnding c)
ending_decided c = either_decided (both_decided (order_decided 48 c) (order_decided (suc c) 58)) (numbers_decided c 39)

pub spelling_decided : (name word : List ℕ) → Decided (IsSpelling name word)
spelling_decided [] word = step (all_decided IsEnding ending_decided word)
  where
    step : Decided (AllByRecursion IsEnding word) → Decided (IsSpelling [] word)
    step (inl ends) = inl (word, refl, ends)
    step (inr not) = inr (λ spells. not (subst (AllByRecursion IsEnding) (sym spells.1) spells.2))
spelling_decided (c ∷ name) [] = inr (λ spells. (let never : [] ≡ c ∷ (name ++ spells.0) = spells.1 in cc))
spelling_decided (c ∷ name) (d ∷ word) = step (numbers_decided c d) (spelling_decided name word)
  where
    step : Decided (c ≡ d) → Decided (IsSpelling name word) → Decided (IsSpelling (c ∷ name) (d ∷ word))
    step (inl head) (inl spells) = inl (spells.0, (let is : word ≡ name ++ spells.0 = spells.1 in cc), spells.2)
    step (inl head) (inr not) = inr (λ spells. not (spells.0, (let is : d ∷ word ≡ c ∷ (name ++ spells.0) = spells.1 in cc), spells.2))
    step (inr differ) other = inr (λ spells. differ (let is : d ∷ word ≡ c ∷ (name ++ spells.0) = spells.1 in cc))

pub among_decided : (texts : List (List ℕ)) (text : List ℕ) → Decided (IsAmong texts text)
among_decided texts text = any_decided (λ one. one ≡ text) (λ one. texts_decided one text) texts

pub no_spelling_decided : (names : List (List ℕ)) (word : List ℕ) → Decided (IsNoSpelling names word)
no_spelling_decided names word = all_decided (λ name. IsSpelling name word → ⊥) (λ name. not_decided (spelling_decided name word)) names

pub mark_decided : (code : ℕ) (token : PlainToken) → Decided (IsMark code token)
mark_decided code token = both_decided (numbers_decided token.kind 2) (texts_decided token.text (code ∷ []))

pub three : {A B C : Type 0} → Decided A → Decided B → Decided C → Decided (A × B × C)
three (inl a) (inl b) (inl d) = inl (a, b, d)
three (inr a) second third = inr (λ h. a h.0)
three (inl a) (inr b) third = inr (λ h. b h.1)
three (inl a) (inl b) (inr d) = inr (λ h. d h.2)

-- punctuation that may be a terminal
punctuation_decided : (kind : ℕ) (text : List ℕ) → Decided ((kind ≡ 2) × (text ≢ 40 ∷ []) × (text ≢ 41 ∷ []) × (text ≢ 91 ∷ []) × (text ≢ 93 ∷ []))
punctuation_decided kind text =
    step (numbers_decided kind 2)
    (three (not_decided (texts_decided text (40 ∷ []))) (not_decided (texts_decided text (41 ∷ [])))
    (both_decided (not_decided (texts_decided text (91 ∷ []))) (not_decided (texts_decided text (93 ∷ [])))))
  where
    step : Decided (kind ≡ 2) → Decided ((text ≢ 40 ∷ []) × (text ≢ 41 ∷ []) × ((text ≢ 91 ∷ []) × (text ≢ 93 ∷ [])))
        → Decided ((kind ≡ 2) × (text ≢ 40 ∷ []) × (text ≢ 41 ∷ []) × (text ≢ 91 ∷ []) × (text ≢ 93 ∷ []))
    step (inl k) (inl t) = inl (k, t.0, t.1, t.2.0, t.2.1)
    step (inl k) (inr t) = inr (λ h. t (h.1, h.2, (h.3, h.4)))
    step (inr k) other = inr (λ h. k h.0)

pub may_be_decided : (kind : ℕ) (text : List ℕ) → Decided (MayBeTerminal kind text)
may_be_decided kind text =
    step (numbers_decided kind 0) (both_decided (numbers_decided kind 1) (not_decided (texts_decided text (124 ∷ [])))) (punctuation_decided kind text) (numbers_decided kind 4)
  where
    step : Decided (kind ≡ 0) → Decided ((kind ≡ 1) × (text ≢ 124 ∷ []))
        → Decided ((kind ≡ 2) × (text ≢ 40 ∷ []) × (text ≢ 41 ∷ []) × (text ≢ 91 ∷ []) × (text ≢ 93 ∷ [])) → Decided (kind ≡ 4) → Decided (MayBeTerminal kind text)
    step word symbol single quoted = either_decided word (either_decided symbol (either_decided single quoted))

pub terminal_decided : (listed : List (List ℕ)) (token : PlainToken) → Decided (IsTerminal listed token)
terminal_decided listed token =
    step (may_be_decided token.kind token.text)
    (if_decided (numbers_decided token.kind 0) (either_decided (among_decided listed token.text) (true_decided (is_numeral token.text))))
    (not_decided (texts_decided token.text (40 ∷ []))) (not_decided (texts_decided token.text (41 ∷ [])))
  where
    step : Decided (MayBeTerminal token.kind token.text) → Decided (token.kind ≡ 0 → IsAmong listed token.text ⊎ IsTrue (is_numeral token.text))
        → Decided (token.text ≢ 40 ∷ []) → Decided (token.text ≢ 41 ∷ []) → Decided (IsTerminal listed token)
    step (inl a) (inl b) (inl d) (inl e) = inl (record { may_be = a; word = b; not_open = d; not_close = e })
    step (inr a) second third fourth = inr (λ is. a is.may_be)
    step (inl a) (inr b) third fourth = inr (λ is. b is.word)
    step (inl a) (inl b) (inr d) fourth = inr (λ is. d is.not_open)
    step (inl a) (inl b) (inl d) (inr e) = inr (λ is. e is.not_close)

pub variable_decided : (categories listed : List (List ℕ)) (form : List PlainToken) → Decided (IsVariable categories listed form)
variable_decided categories listed [] = inr (λ is. is)
variable_decided categories listed (token ∷ other ∷ form) = inr (λ is. is)
variable_decided categories listed (token ∷ []) =
    step (numbers_decided token.kind 0) (not_decided (true_decided (is_numeral token.text))) (not_decided (among_decided listed token.text)) (no_spelling_decided categories token.text)
  where
    step : Decided (token.kind ≡ 0) → Decided (IsTrue (is_numeral token.text) → ⊥) → Decided (IsAmong listed token.text → ⊥) → Decided (IsNoSpelling categories token.text)
        → Decided (IsVariable categories listed (token ∷ []))
    step (inl a) (inl b) (inl d) (inl e) = inl (a, b, d, e)
    step (inr a) second third fourth = inr (λ is. a is.0)
    step (inl a) (inr b) third fourth = inr (λ is. b is.1)
    step (inl a) (inl b) (inr d) fourth = inr (λ is. d is.2)
    step (inl a) (inl b) (inl d) (inr e) = inr (λ is. e is.3)
