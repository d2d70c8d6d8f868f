-- Where the tokens of a form stand, and what is there, where the form is items.
use Rattle.std.proofs.Common.{◌≡◌, ℕ, List, [], ◌∷◌, ◌++◌, refl, ◌∙◌, sym, subst, inl, inr, ◌⊎◌, arith}
use Rattle.std.specs.List.{AllByRecursion}
use Rattle.sy_base.specs.Tokens.{PlainToken}
use Rattle.binding_terms.specs.Signature.{Signature, slots}
use Rattle.binding_terms.specs.declared.grammar.Item.{Item}
use Rattle.outline_reader.specs.Plain.{PlainPortion}
use Rattle.user_grammar.specs.File.{listed}
use Rattle.user_grammar.specs.Production.{IsMark, AreBrackets, no_brackets, brackets, AreWords, one_more, last_one, AreNumbers, AreItems, terminal, binder, slot}
use Rattle.user_grammar.specs.Grammar.{IsWritten}
use Rattle.user_grammar.specs.Fault.{IsSlotWord, Place, outside, behind_slot, before_word, behind_word, IsOutside, Follows, slot as to_slot, item, opens, in_brackets, separator, closes, closes_behind, IsPlaceBehind, at_start, behind_one_more, StandsAt}
use Rattle.user_grammar.proofs.OneReading.{not_opened}
use Rattle.user_grammar.proofs.FaultLawsWords.{slot_word, no_slot_word, binder_word, slot_or_binder}

-- a token is one mark alone, and no word is one
pub two_marks : (token : PlainToken) → IsMark 44 token → IsMark 93 token → ⊥
two_marks token comma closing = differ (sym comma.1 ∙ closing.1)
  where
    differ : ◌≡◌ {A = List ℕ} (44 ∷ []) (93 ∷ []) → ⊥
    differ same = cc

pub word_or_mark : (token : PlainToken) (code : ℕ) → token.kind ≡ 0 → IsMark code token → ⊥
word_or_mark token code kind mark = absurd (let same : 0 ≡ 2 = sym kind ∙ mark.0 in let never : ⊥ = omega (arith, same) in never)

-- ---- the way through a form, from its start on

module _ (portions : List PlainPortion) where
  -- from one place these tokens lead to another
  abbrev pub Leads : Place → List PlainToken → Place → Type 0
  Leads place [] end = place ≡ end
  Leads place (token ∷ tokens) end = (next : Place) × Follows portions place token next × Leads next tokens end

  leads_on : (place : Place) (tokens : List PlainToken) (end : Place) (token : PlainToken) (next : Place)
      → Leads place tokens end → Follows portions end token next → Leads place (tokens ++ token ∷ []) next
  leads_on place [] end token next same follows = (next, subst (λ p. Follows portions p token next) (sym same) follows, refl)
  leads_on place (t ∷ tokens) end token next way follows = (way.0, way.1, leads_on way.0 tokens end token next way.2 follows)

  pub leads : {front : List PlainToken} {place : Place} → IsPlaceBehind portions front place → Leads outside front place
  leads at_start = refl
  leads (behind_one_more {front = front} {place = place} {next = next} {token = token} before follows) =
      leads_on outside front place token next (leads before) follows

  -- a token leads to one place
  pub one_next : {place : Place} {token : PlainToken} {next other : Place} → Follows portions place token next → Follows portions place token other → next ≡ other
  one_next (to_slot out is) (to_slot out_too also) = refl
  one_next (to_slot out is) (item out_too not) = absurd (not is)
  one_next (to_slot out is) (opens mark) = absurd (out mark)
  one_next (to_slot out is) (in_brackets unclosed) = absurd out
  one_next (to_slot out is) (separator unclosed) = absurd out
  one_next (to_slot out is) (closes mark) = absurd out
  one_next (to_slot out is) (closes_behind mark) = absurd out
  one_next (item out not) (to_slot out_too also) = absurd (not also)
  one_next (item out not) (item out_too nor) = refl
  one_next (item out not) (opens mark) = absurd (out mark)
  one_next (item out not) (in_brackets unclosed) = absurd out
  one_next (item out not) (separator unclosed) = absurd out
  one_next (item out not) (closes mark) = absurd out
  one_next (item out not) (closes_behind mark) = absurd out
  one_next (opens mark) (to_slot out also) = absurd (out mark)
  one_next (opens mark) (item out nor) = absurd (out mark)
  one_next (opens mark) (opens again) = refl
  one_next (in_brackets unclosed) (to_slot out also) = absurd out
  one_next (in_brackets unclosed) (item out nor) = absurd out
  one_next (in_brackets unclosed) (in_brackets again) = refl
  one_next (in_brackets unclosed) (closes mark) = absurd (unclosed mark)
  one_next (separator unclosed) (to_slot out also) = absurd out
  one_next (separator unclosed) (item out nor) = absurd out
  one_next (separator unclosed) (separator again) = refl
  one_next (separator unclosed) (closes_behind mark) = absurd (unclosed mark)
  one_next (closes mark) (to_slot out also) = absurd out
  one_next (closes mark) (item out nor) = absurd out
  one_next (closes mark) (in_brackets unclosed) = absurd (unclosed mark)
  one_next (closes mark) (closes again) = refl
  one_next (closes_behind mark) (to_slot out also) = absurd out
  one_next (closes_behind mark) (item out nor) = absurd out
  one_next (closes_behind mark) (separator unclosed) = absurd (unclosed mark)
  one_next (closes_behind mark) (closes_behind again) = refl

  pub one_end : (place : Place) (tokens : List PlainToken) (end other : Place) → Leads place tokens end → Leads place tokens other → end ≡ other
  one_end place [] end other way also = sym way ∙ also
  one_end place (token ∷ tokens) end other way also =
      one_end way.0 tokens end other way.2 (subst (λ p. Leads p tokens other) (sym (one_next way.1 also.1)) also.2)

  -- a way over some tokens and more
  pub first_part : (place : Place) (front rest : List PlainToken) (end : Place) → Leads place (front ++ rest) end
      → (middle : Place) × Leads place front middle × Leads middle rest end
  first_part place [] rest end way = (place, refl, way)
  first_part place (token ∷ front) rest end way =
      let more = first_part way.0 front rest end way.2 in (more.0, (way.0, way.1, more.1), more.2)

-- ---- what is ahead at a place

-- S is kept of each slot, P of the words of the binders that are left, and D of the words in brackets, before a place and behind it.
module _ (portions : List PlainPortion) (sig : Signature) (file : IsWritten portions sig) (own : List (List ℕ))
    (S : ℕ → List ℕ → Type 0) (P : List (List ℕ) → Type 0) (D : List (List ℕ) → List (List ℕ) → Type 0)
    (fewer : (word : List ℕ) (words : List (List ℕ)) → P (word ∷ words) → P words)
    (entered : (cat : ℕ) (bound : List (List ℕ)) (binds : List ℕ) → S cat binds → AreNumbers own bound binds → D [] bound)
    (passed : (named : List (List ℕ)) (word : List ℕ) (bound : List (List ℕ)) → D named (word ∷ bound) → D (word ∷ named) bound) where
  pub record AreKeptItems (tokens : List PlainToken) : Type 0 where
    pub items : List Item
    pub words : List (List ℕ)
    pub read : AreItems sig.cats (listed portions) own tokens items words
    pub kept : AllByRecursion (λ s. S s.cat s.binds) (slots items)
    pub left : P words

  -- in brackets: what is left of them, and the items behind
  pub record IsBehind (named bound : List (List ℕ)) (rest : List PlainToken) : Type 0 where
    pub words_kept : D named bound
    pub behind : AreKeptItems rest

  abbrev pub IsAhead : Place → List PlainToken → Type 0
  IsAhead outside tokens = AreKeptItems tokens
  IsAhead (behind_slot named) tokens = (bound : List (List ℕ)) × (rest : List PlainToken) × AreBrackets bound tokens rest × IsBehind named bound rest
  IsAhead (before_word named) tokens = (bound : List (List ℕ)) × (rest : List PlainToken) × AreWords bound tokens rest × IsBehind named bound rest
  IsAhead (behind_word named) [] = ⊥
  IsAhead (behind_word named) (token ∷ tokens) =
      (bound : List (List ℕ)) × (rest : List PlainToken)
      × ((IsMark 44 token × AreWords bound tokens rest) ⊎ (IsMark 93 token × AreBrackets bound tokens rest)) × IsBehind named bound rest

  no_mark_opens : (token : PlainToken) (tokens : List PlainToken) → AreKeptItems (token ∷ tokens) → IsMark 91 token → ⊥
  no_mark_opens token tokens more = not_opened sig.cats (listed portions) file.names.apart more.read

  without_brackets : {token : PlainToken} {tokens : List PlainToken} {named bound : List (List ℕ)} {rest : List PlainToken}
      → AreBrackets bound (token ∷ tokens) rest → IsBehind named bound rest → (IsMark 91 token → ⊥) → AreKeptItems (token ∷ tokens)
  without_brackets no_brackets behind out = behind.behind
  without_brackets (brackets mark words) behind out = absurd (out mark)

  -- items, where the token stands outside brackets
  pub items_ahead : (place : Place) (token : PlainToken) (tokens : List PlainToken) → IsOutside place token → IsAhead place (token ∷ tokens) → AreKeptItems (token ∷ tokens)
  items_ahead outside token tokens out ahead = ahead
  items_ahead (behind_slot named) token tokens out ahead = without_brackets ahead.2 ahead.3 out
  items_ahead (before_word named) token tokens out ahead = absurd out
  items_ahead (behind_word named) token tokens out ahead = absurd out

  behind_kept : {cat : ℕ} {bound : List (List ℕ)} {binds : List ℕ} {rest : List PlainToken} {items : List Item} {words : List (List ℕ)}
      → S cat binds → AreNumbers own bound binds → AreItems sig.cats (listed portions) own rest items words
      → AllByRecursion (λ s. S s.cat s.binds) (slots items) → P words → IsBehind [] bound rest
  behind_kept {cat = cat} {bound = bound} {binds = binds} {items = items} {words = words} is numbers more kept left = record {
    words_kept = entered cat bound binds is numbers;
    behind = record { items = items; words = words; read = more; kept = kept; left = left };
  }

  over_slot : {token : PlainToken} {tokens : List PlainToken} {items : List Item} {words : List (List ℕ)}
      → AreItems sig.cats (listed portions) own (token ∷ tokens) items words → AllByRecursion (λ s. S s.cat s.binds) (slots items) → P words
      → IsSlotWord portions token → IsAhead (behind_slot []) tokens
  over_slot (terminal {token = token} is plain more) kept left as_slot = absurd (no_slot_word portions sig file token plain as_slot)
  over_slot (binder {token = token} {c = c} kind spells more) kept left as_slot =
      absurd (slot_or_binder portions sig file token as_slot (binder_word portions sig file token c.0 kind spells))
  over_slot (slot {rest = rest} {bound = bound} kind spells bracketed numbers more) kept left as_slot =
      (bound, rest, bracketed, behind_kept kept.0 numbers more kept.1 left)

  over_item : {token : PlainToken} {tokens : List PlainToken} {items : List Item} {words : List (List ℕ)}
      → AreItems sig.cats (listed portions) own (token ∷ tokens) items words → AllByRecursion (λ s. S s.cat s.binds) (slots items) → P words
      → (IsSlotWord portions token → ⊥) → AreKeptItems tokens
  over_item (terminal {items = items} {words = words} is plain more) kept left not = record { items = items; words = words; read = more; kept = kept; left = left }
  over_item (binder {token = token} {items = items} {words = words} kind spells more) kept left not =
      record { items = items; words = words; read = more; kept = kept; left = fewer token.text words left }
  over_item (slot {token = token} {c = c} kind spells bracketed numbers more) kept left not = absurd (not (slot_word portions sig file token c.0 kind spells))

  over_opening : {token : PlainToken} {tokens : List PlainToken} {named bound : List (List ℕ)} {rest : List PlainToken}
      → AreBrackets bound (token ∷ tokens) rest → IsBehind named bound rest → IsMark 91 token → IsAhead (before_word named) tokens
  over_opening {token = token} {tokens = tokens} no_brackets behind mark = absurd (no_mark_opens token tokens behind.behind mark)
  over_opening {bound = bound} {rest = rest} (brackets opening words) behind mark = (bound, rest, words, behind)

  over_word : {token : PlainToken} {tokens : List PlainToken} {named bound : List (List ℕ)} {rest : List PlainToken}
      → AreWords bound (token ∷ tokens) rest → IsBehind named bound rest → IsAhead (behind_word (token.text ∷ named)) tokens
  over_word {named = named} {rest = rest} (one_more {words = words} {token = token} kind comma more) behind =
      (words, rest, inl (comma, more), record { words_kept = passed named token.text words behind.words_kept; behind = behind.behind })
  over_word {named = named} {rest = rest} (last_one {words = words} {token = token} kind closing more) behind =
      (words, rest, inr (closing, more), record { words_kept = passed named token.text words behind.words_kept; behind = behind.behind })

  pub is_word_ahead : {token : PlainToken} {tokens : List PlainToken} {bound : List (List ℕ)} {rest : List PlainToken} → AreWords bound (token ∷ tokens) rest → token.kind ≡ 0
  is_word_ahead (one_more kind comma more) = kind
  is_word_ahead (last_one kind closing more) = kind

  over_separator : (token : PlainToken) {tokens : List PlainToken} {named bound : List (List ℕ)} {rest : List PlainToken}
      → (IsMark 44 token × AreWords bound tokens rest) ⊎ (IsMark 93 token × AreBrackets bound tokens rest) → IsBehind named bound rest
      → (IsMark 93 token → ⊥) → IsAhead (before_word named) tokens
  over_separator token {bound = bound} {rest = rest} (inl comma) behind unclosed = (bound, rest, comma.1, behind)
  over_separator token (inr closing) behind unclosed = absurd (unclosed closing.0)

  over_closing : (token : PlainToken) {tokens : List PlainToken} {named bound : List (List ℕ)} {rest : List PlainToken}
      → (IsMark 44 token × AreWords bound tokens rest) ⊎ (IsMark 93 token × AreBrackets bound tokens rest) → IsBehind named bound rest
      → IsMark 93 token → IsAhead (behind_slot named) tokens
  over_closing token (inl comma) behind mark = absurd (two_marks token comma.0 mark)
  over_closing token {bound = bound} {rest = rest} (inr closing) behind mark = (bound, rest, closing.1, behind)

  next_ahead : {place : Place} {token : PlainToken} {next : Place} (tokens : List PlainToken)
      → Follows portions place token next → IsAhead place (token ∷ tokens) → IsAhead next tokens
  next_ahead tokens (to_slot {place = place} {token = token} out is) ahead =
      let more = items_ahead place token tokens out ahead in over_slot more.read more.kept more.left is
  next_ahead tokens (item {place = place} {token = token} out not) ahead =
      let more = items_ahead place token tokens out ahead in over_item more.read more.kept more.left not
  next_ahead tokens (opens mark) ahead = over_opening ahead.2 ahead.3 mark
  next_ahead tokens (in_brackets unclosed) ahead = over_word ahead.2 ahead.3
  next_ahead tokens (separator {token = token} unclosed) ahead = over_separator token ahead.2 ahead.3 unclosed
  next_ahead tokens (closes {token = token} mark) ahead = absurd (word_or_mark token 93 (is_word_ahead ahead.2) mark)
  next_ahead tokens (closes_behind {token = token} mark) ahead = over_closing token ahead.2 ahead.3 mark

  pub ahead_behind : (place : Place) (front rest : List PlainToken) (end : Place) → Leads portions place front end → IsAhead place (front ++ rest) → IsAhead end rest
  ahead_behind place [] rest end way ahead = subst (λ p. IsAhead p rest) way ahead
  ahead_behind place (token ∷ front) rest end way ahead = ahead_behind way.0 front rest end way.2 (next_ahead (front ++ rest) way.1 ahead)

  -- at a token of a form that is items
  pub ahead_at : (form : List PlainToken) (place : Place) (token : PlainToken) (stands : StandsAt portions form place token)
      → AreKeptItems form → IsAhead place (token ∷ stands.rest)
  ahead_at form place token stands whole =
      ahead_behind outside stands.front (token ∷ stands.rest) place (leads portions stands.is_place) (subst AreKeptItems stands.split whole)
