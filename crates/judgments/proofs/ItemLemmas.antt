-- The items for which tokens stand.
use Rattle.std.proofs.Common.{◌≡◌, ◌↔◌, ◌⊎◌, ◌≤◌, ◌<◌, ◌+◌, IsTrue, Bool, true, false, ℕ, None, List, [], ◌∷◌, ◌++◌, length, map, take, drop, get_or, inl, inr, refl, ap, ◌∙◌, sym, subst, arith, append_assoc, append-nil, zero, suc}
use Rattle.std.proofs.lemmas.List.{take_more, drop_more, take-append-drop}
use Rattle.std.specs.List.{AllZip, AllByRecursion}
use Rattle.binding_terms.specs.declared.grammar.Cat.{Cat}
use Rattle.judgments.specs.Statements.{IsFreeName}
use Rattle.judgments.proofs.ReadingLemmas.{not_variable}
use Rattle.binding_terms.specs.Signature.{Signature}
use Rattle.binding_terms.specs.declared.grammar.Item.{Item}
use Rattle.binding_terms.specs.declared.grammar.Item.TheVariants.{Word, Slot, Binder}
use Rattle.judgments.proofs.Spelling.{none_spelled}
use Rattle.sy_base.specs.Tokens.{PlainToken, is_numeral}
use Rattle.outline_reader.specs.Plain.{PlainPortion}
use Rattle.judgments.specs.Spellings.{IsNoSpelling}
use Rattle.rule_schemes.specs.declared.rule.Judgment.{Judgment}
use Rattle.user_grammar.specs.File.{listed_in, listed}
use Rattle.rule_schemes.specs.Reading.{IsCategoryWord}
use Rattle.user_grammar.specs.Names.{IsAmong}
use Rattle.judgments.specs.Built.{IsBuiltJudgment}
use Rattle.judgments.specs.Texts.{JudgmentText, judgment_in, judgments_in}
use Rattle.judgments.specs.Theory.{IsTerminalToken, IsItemOf}
use Rattle.binding_terms.proofs.Lists.{any_back, any_front, any_split, map_append, zip_append, zip_split}

-- a word that is no numeral
pub word_terminal : (sig : Signature) (portions : List PlainPortion) (token : PlainToken) (r : Bool) → token.kind ≡ 0 → IsNoSpelling sig.cats token.text
    → is_numeral token.text ≡ false → (IsTrue r ↔ IsAmong (listed portions) token.text) → IsTrue r ↔ IsTerminalToken sig portions token
word_terminal sig portions token r kind none numeral test = (
  λ t. record { kind = inl kind; word = λ _. (none, inl (test.0 t)); quoted = λ k. (let never : 0 ≡ 4 = sym kind ∙ k in omega arith) },
  λ h. (let k = (h.word kind).1 in which k),
)
  where
    which : IsAmong (listed portions) token.text ⊎ IsTrue (is_numeral token.text) → IsTrue r
    which (inl l) = test.1 l
    which (inr n) = (let never : false ≡ true = sym numeral ∙ n in cc)

-- the judgment of these items
pub built_judgment : (sig : Signature) (portions : List PlainPortion) (v w : List ℕ) (form : List PlainToken) (items : List Item) → v ≡ w → length form ≤ 256
    → AllZip (IsItemOf sig portions) form items
    → IsBuiltJudgment sig portions (record { name = w; form = form; assumes = None }) (record { name = v; ctx = None; items = items })
built_judgment sig portions v w form items named short h = (
  record {
    named = named;
    within = short;
    items = h;
    assumed = tt;
  },
  record { no_context = refl },
)

pub no_judgment : (sig : Signature) (portions : List PlainPortion) (text : JudgmentText) → ((items : List Item) → AllZip (IsItemOf sig portions) text.form items → ⊥)
    → (j : Judgment) → IsBuiltJudgment sig portions text j → ⊥
no_judgment sig portions text none j h = none j.items h.0.items

judgments_append : (ps qs : List PlainPortion) → judgments_in (ps ++ qs) ≡ judgments_in ps ++ judgments_in qs
judgments_append [] qs = refl
judgments_append (p ∷ ps) qs = ap (λ l. judgment_in p ++ l) (judgments_append ps qs) ∙ sym (append_assoc (judgment_in p) (judgments_in ps) (judgments_in qs))

one_judgment : (p : PlainPortion) → judgments_in (p ∷ []) ≡ judgment_in p
one_judgment p = append-nil (judgment_in p)

module _ {X : Type 0} (f : X → PlainPortion) (R : JudgmentText → Judgment → Type 0) (xs : List X) (i : ℕ) (d : X) (lt : i < length xs) where
  -- the judgments of one portion more
  pub more_judgments : (js more : List Judgment) → AllZip R (judgments_in (map f (take i xs))) js → AllZip R (judgment_in (f (get_or xs i d))) more
      → AllZip R (judgments_in (map f (take (i + 1) xs))) (js ++ more)
  more_judgments js more h k =
      let e : map f (take (i + 1) xs) ≡ map f (take i xs) ++ f (get_or xs i d) ∷ [] = ap (map f) (take_more xs i d lt) ∙ map_append f (take i xs) (get_or xs i d ∷ []) in
      let all : judgments_in (map f (take (i + 1) xs)) ≡ judgments_in (map f (take i xs)) ++ judgment_in (f (get_or xs i d)) =
      ap judgments_in e ∙ judgments_append (map f (take i xs)) (f (get_or xs i d) ∷ []) ∙ ap (λ l. judgments_in (map f (take i xs)) ++ l) (one_judgment (f (get_or xs i d))) in
      subst (λ l. AllZip R l (js ++ more)) (sym all) (zip_append R (judgments_in (map f (take i xs))) (judgment_in (f (get_or xs i d))) js more h k)

  -- where one portion has none, there are none
  pub no_judgments : ((js : List Judgment) → AllZip R (judgment_in (f (get_or xs i d))) js → ⊥) → (js : List Judgment) → AllZip R (judgments_in (map f xs)) js → ⊥
  no_judgments none js h =
      let e : map f xs ≡ map f (take i xs) ++ (f (get_or xs i d) ∷ map f (drop (i + 1) xs)) =
      ap (map f) (sym (take-append-drop i xs) ∙ ap (λ l. take i xs ++ l) (drop_more xs i d lt)) ∙ map_append f (take i xs) (get_or xs i d ∷ drop (i + 1) xs) in
      let all = ap judgments_in e ∙ judgments_append (map f (take i xs)) (f (get_or xs i d) ∷ map f (drop (i + 1) xs)) in
      let parts = zip_split R (judgments_in (map f (take i xs))) (judgment_in (f (get_or xs i d)) ++ judgments_in (map f (drop (i + 1) xs))) js (subst (λ l. AllZip R l js) all h) in
      let here = zip_split R (judgment_in (f (get_or xs i d))) (judgments_in (map f (drop (i + 1) xs))) parts.1 parts.4 in
      none here.0 here.3

-- a token that is no terminal and no spelling stands for no item
pub no_terminal : (sig : Signature) (portions : List PlainPortion) (token : PlainToken) → (token.kind ≡ 0 → IsNoSpelling sig.cats token.text) → (IsTerminalToken sig portions token → ⊥)
    → (item : Item) → IsItemOf sig portions token item → ⊥
no_terminal sig portions token none other (Word text quoted) h = other h.2
no_terminal sig portions token none other (Slot c binds) h = none_spelled sig.cats c.0 token.text (none h.0) h.1
no_terminal sig portions token none other (Binder c) h = h

spelled_none : (cats : List Cat) (w : List ℕ) → ((c : ℕ) → IsCategoryWord cats c w → ⊥) → IsNoSpelling cats w
spelled_none [] w f = tt
spelled_none (k ∷ cats) w f = (f zero, spelled_none cats w (λ c. f (suc c)))

-- a name that is no spelling of a category, where there are no variables
pub free_name : (sig : Signature) (w : List ℕ) → AllByRecursion (λ (k : Cat). k.var ≡ None) sig.cats → IsNoSpelling sig.cats w ↔ IsFreeName sig w
free_name sig w variables = (λ none c. (none_spelled sig.cats c w none, not_variable sig.cats c w variables), λ free. spelled_none sig.cats w (λ c. (free c).0))

-- what one portion lists, or those after it
pub listed_step : {X : Type 0} (f : X → PlainPortion) (text : List ℕ) (xs : List X) (i : ℕ) (d : X) → i < length xs
    → IsAmong (listed (map f (drop i xs))) text ↔ (IsAmong (listed_in (f (get_or xs i d))) text ⊎ IsAmong (listed (map f (drop (i + 1) xs))) text)
listed_step {X} f text xs i d lt =
    subst (λ (l : List X). IsAmong (listed (map f l)) text ↔ (IsAmong (listed_in (f (get_or xs i d))) text ⊎ IsAmong (listed (map f (drop (i + 1) xs))) text)) (sym (drop_more xs i d lt))
    (any_split (λ one. one ≡ text) (listed_in (f (get_or xs i d))) (listed (map f (drop (i + 1) xs))), either)
  where
    either : IsAmong (listed_in (f (get_or xs i d))) text ⊎ IsAmong (listed (map f (drop (i + 1) xs))) text
        → IsAmong (listed_in (f (get_or xs i d)) ++ listed (map f (drop (i + 1) xs))) text
    either (inl h) = any_front (λ one. one ≡ text) (listed_in (f (get_or xs i d))) (listed (map f (drop (i + 1) xs))) h
    either (inr h) = any_back (λ one. one ≡ text) (listed_in (f (get_or xs i d))) (listed (map f (drop (i + 1) xs))) h

pub right_of : (A B : Type 0) (r : Bool) → (IsTrue r ↔ A) → r ≡ false → A ⊎ B → B
right_of A B r test fails (inl a) = absurd (let never : false ≡ true = sym fails ∙ test.1 a in cc)
right_of A B r test fails (inr b) = b
