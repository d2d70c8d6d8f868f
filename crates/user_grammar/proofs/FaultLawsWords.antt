-- Which words of a file are slots and binders, by its portions and by its signature.
use Rattle.std.proofs.Common.{◌≡◌, ℕ, zero, suc, List, [], ◌∷◌, map, Option, sym, subst, inl, inr}
use Rattle.std.specs.Option.{MatchOption}
use Rattle.sy_base.specs.Tokens.{PlainToken}
use Rattle.binding_terms.specs.Numbered.{AnyByRecursion}
use Rattle.binding_terms.specs.Signature.{Signature}
use Rattle.binding_terms.specs.declared.grammar.Cat.{Cat}
use Rattle.binding_terms.specs.declared.grammar.Prod.{Prod}
use Rattle.rule_schemes.specs.Reading.{IsSpelling, IsCategoryWord}
use Rattle.outline_reader.specs.Plain.{PlainPortion}
use Rattle.user_grammar.specs.File.{WrittenCategory, listed, categories, assumed}
use Rattle.user_grammar.specs.Names.{category_names, names, IsNoSpelling}
use Rattle.user_grammar.specs.Production.{IsVariable}
use Rattle.user_grammar.specs.Grammar.{AreForms, no_forms, variable, production, AreProductions, IsWritten}
use Rattle.user_grammar.specs.Fault.{category_texts, DeclaresVariable, SpellsVariable, IsSlotWord, IsBinderWord}
use Rattle.user_grammar.proofs.Spellings.{Spells, not_both, no_category, no_variable}
use Rattle.user_grammar.proofs.OneSignature.{written_names}

-- ---- words of categories

pub some_category : (cats : List Cat) (c : ℕ) (word : List ℕ) → IsCategoryWord cats c word → AnyByRecursion (λ name. IsSpelling name word) (category_names cats)
some_category [] c word at = absurd at
some_category (cat ∷ cats) zero word at = inl at
some_category (cat ∷ cats) (suc c) word at = inr (some_category cats c word at)

pub which_category : (cats : List Cat) (word : List ℕ) → AnyByRecursion (λ name. IsSpelling name word) (category_names cats) → (c : ℕ) × IsCategoryWord cats c word
which_category [] word some = absurd some
which_category (cat ∷ cats) word (inl spells) = (0, spells)
which_category (cat ∷ cats) word (inr some) = let more = which_category cats word some in (suc more.0, more.1)

-- ---- words of variables

-- the word is a spelling of the variable, if there is one
abbrev pub SpellsOption : List ℕ → Option (List ℕ) → Type 0
SpellsOption word var = MatchOption var ⊥ (λ name. IsSpelling name word)

module _ (portions : List PlainPortion) (cats : List Cat) (same : category_names cats ≡ category_texts portions) where
  declares : (form : List PlainToken) → IsVariable (category_names cats) (listed portions) form → DeclaresVariable portions form
  declares form is = subst (λ ns. IsVariable ns (listed portions) form) same is

  pub declared : (form : List PlainToken) → DeclaresVariable portions form → IsVariable (category_names cats) (listed portions) form
  declared form is = subst (λ ns. IsVariable ns (listed portions) form) (sym same) is

  spelled : (word : List ℕ) (form : List PlainToken) → SpellsVariable portions word form → DeclaresVariable portions form
  spelled word [] is = absurd is
  spelled word (token ∷ rest) is = is.0

  spells_own : {c : ℕ} {var : Option (List ℕ)} {forms : List (List PlainToken)} {prods : List Prod} (word : List ℕ) → AreForms cats (listed portions) c var forms prods
      → AnyByRecursion (SpellsVariable portions word) forms → SpellsOption word var
  spells_own word no_forms some = absurd some
  spells_own word (variable is more) (inl spells) = spells.1
  spells_own word (variable is more) (inr some) = absurd (spells_own word more some)
  spells_own word (production {form = form} not made more) (inl spells) = absurd (not (declared form (spelled word form spells)))
  spells_own word (production not made more) (inr some) = spells_own word more some

  own_spells : {c : ℕ} {var : Option (List ℕ)} {forms : List (List PlainToken)} {prods : List Prod} (word : List ℕ) → AreForms cats (listed portions) c var forms prods
      → SpellsOption word var → AnyByRecursion (SpellsVariable portions word) forms
  own_spells word no_forms spells = absurd spells
  own_spells word (variable {token = token} is more) spells = inl (declares (token ∷ []) is, spells)
  own_spells word (production not made more) spells = inr (own_spells word more spells)

  which_variable : (n : ℕ) (written : List WrittenCategory) (own : List Cat) (prods : List Prod) (word : List ℕ)
      → AreProductions cats (listed portions) n written (map (λ cat. cat.var) own) prods
      → AnyByRecursion (λ w. AnyByRecursion (SpellsVariable portions word) w.forms) written → (c : ℕ) × Spells own c word
  which_variable n [] own prods word made some = absurd some
  which_variable n (w ∷ written) [] prods word made some = absurd made
  which_variable n (w ∷ written) (cat ∷ own) prods word made (inl some) = (0, spells_own word made.3 some)
  which_variable n (w ∷ written) (cat ∷ own) prods word made (inr some) =
      let more = which_variable (suc n) written own made.1 word made.4 some in (suc more.0, more.1)

  some_variable : (n : ℕ) (written : List WrittenCategory) (own : List Cat) (prods : List Prod) (word : List ℕ)
      → AreProductions cats (listed portions) n written (map (λ cat. cat.var) own) prods
      → (c : ℕ) → Spells own c word → AnyByRecursion (λ w. AnyByRecursion (SpellsVariable portions word) w.forms) written
  some_variable n [] [] prods word made c spells = absurd spells
  some_variable n [] (cat ∷ own) prods word made c spells = absurd made
  some_variable n (w ∷ written) [] prods word made c spells = absurd made
  some_variable n (w ∷ written) (cat ∷ own) prods word made zero spells = inl (own_spells word made.3 spells)
  some_variable n (w ∷ written) (cat ∷ own) prods word made (suc c) spells =
      inr (some_variable (suc n) written own made.1 word made.4 c spells)

-- ---- both, of a file and its signature

module _ (portions : List PlainPortion) (sig : Signature) (file : IsWritten portions sig) where
  pub same_names : category_names sig.cats ≡ category_texts portions
  same_names = written_names (assumed portions) (categories portions) sig.cats file.cats

  pub slot_word : (token : PlainToken) (c : ℕ) → token.kind ≡ 0 → IsCategoryWord sig.cats c token.text → IsSlotWord portions token
  slot_word token c kind at = (kind, subst (AnyByRecursion (λ name. IsSpelling name token.text)) same_names (some_category sig.cats c token.text at))

  pub slot_number : (token : PlainToken) → IsSlotWord portions token → (c : ℕ) × IsCategoryWord sig.cats c token.text
  slot_number token is = which_category sig.cats token.text (subst (AnyByRecursion (λ name. IsSpelling name token.text)) (sym same_names) is.1)

  pub binder_word : (token : PlainToken) (c : ℕ) → token.kind ≡ 0 → Spells sig.cats c token.text → IsBinderWord portions token
  binder_word token c kind spells = (kind, some_variable portions sig.cats same_names 0 (categories portions) sig.cats sig.prods token.text file.prods c spells)

  pub binder_number : (token : PlainToken) → IsBinderWord portions token → (c : ℕ) × Spells sig.cats c token.text
  binder_number token is = which_variable portions sig.cats same_names 0 (categories portions) sig.cats sig.prods token.text file.prods is.1

  -- a word that is no spelling is neither
  pub no_slot_word : (token : PlainToken) → (token.kind ≡ 0 → IsNoSpelling (names sig.cats) token.text) → IsSlotWord portions token → ⊥
  no_slot_word token plain is = let at = slot_number token is in no_category sig.cats at.0 token.text (plain is.0) at.1

  pub no_binder_word : (token : PlainToken) → (token.kind ≡ 0 → IsNoSpelling (names sig.cats) token.text) → IsBinderWord portions token → ⊥
  no_binder_word token plain is = let at = binder_number token is in no_variable sig.cats at.0 token.text (plain is.0) at.1

  -- and no word is both
  pub slot_or_binder : (token : PlainToken) → IsSlotWord portions token → IsBinderWord portions token → ⊥
  slot_or_binder token slot binder =
      let at = slot_number token slot in let also = binder_number token binder in not_both sig.cats at.0 also.0 token.text file.names.apart at.1 also.1
