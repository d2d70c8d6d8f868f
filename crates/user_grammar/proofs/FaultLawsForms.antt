-- A form that is items has none of the faults of a form.
use Rattle.std.proofs.Common.{◌≡◌, ◌≢◌, ℕ, zero, suc, List, [], ◌∷◌, ◌++◌, Some, refl, ap, ◌∙◌, sym, subst, inl, inr, ◌⊎◌, slice_get}
use Rattle.std.proofs.lemmas.List.{append_assoc}
use Rattle.std.specs.List.{AllByRecursion}
use Rattle.sy_base.specs.Tokens.{PlainToken}
use Rattle.binding_terms.specs.Numbered.{AreDifferent}
use Rattle.binding_terms.specs.Signature.{Signature, slots, IsSingle}
use Rattle.binding_terms.specs.declared.grammar.Item.{Item}
use Rattle.binding_terms.specs.declared.grammar.Item.TheVariants.{Slot}
use Rattle.outline_reader.specs.Plain.{PlainPortion}
use Rattle.user_grammar.specs.File.{listed}
use Rattle.user_grammar.specs.Names.{IsAmong, AllDiffer}
use Rattle.user_grammar.specs.Production.{IsMark, AreBrackets, no_brackets, brackets, AreWords, one_more, last_one, AreNumbers, IsTerminal, AreItems, no_items, terminal, binder, slot}
use Rattle.user_grammar.specs.Grammar.{IsWritten}
use Rattle.user_grammar.specs.Fault.{IsSlotWord, IsBinderWord, IsOneSlot, Place, outside, behind_slot, before_word, behind_word, IsOutside, slot as to_slot, item, opens, in_brackets, separator, closes_behind, IsPlaceBehind, at_start, behind_one_more, Follows, StandsAt, IsBinderOf, IsUnknown, IsWrongInBrackets, no_word, no_binder, again, no_comma, not_closed, IsSecondBinder}
use Rattle.user_grammar.proofs.Spellings.{one_place}
use Rattle.user_grammar.proofs.OneWay.{NotOpened, one_way}
use Rattle.user_grammar.proofs.OneReading.{not_opened}
use Rattle.user_grammar.proofs.FaultLawsWords.{slot_word, no_slot_word, no_binder_word, binder_word, slot_or_binder}
use Rattle.user_grammar.proofs.FaultLawsPlaces.{two_marks, word_or_mark, Leads, leads, one_end, first_part, AreKeptItems, IsAhead, items_ahead, is_word_ahead, one_next, ahead_behind, ahead_at}

-- ---- words in brackets

-- the words that are left are none of those before, differ, and are words of binders
pub record AreNew (own named bound : List (List ℕ)) : Type 0 where
  pub new : AllByRecursion (λ word. IsAmong named word → ⊥) bound
  pub different : AllDiffer bound
  pub own_words : AllByRecursion (IsAmong own) bound

among_at : (own : List (List ℕ)) (n : ℕ) (word : List ℕ) → slice_get own n ≡ Some word → IsAmong own word
among_at [] n word at = cc
among_at (w ∷ own) zero word at = inl (let same : w ≡ word = cc in same)
among_at (w ∷ own) (suc n) word at = inr (among_at own n word at)

own_words_of : (own bound : List (List ℕ)) (binds : List ℕ) → AreNumbers own bound binds → AllByRecursion (IsAmong own) bound
own_words_of own [] binds numbers = tt
own_words_of own (word ∷ bound) [] numbers = absurd numbers
own_words_of own (word ∷ bound) (n ∷ binds) numbers = (among_at own n word numbers.0, own_words_of own bound binds numbers.1)

differs_from_all : (own bound : List (List ℕ)) (binds : List ℕ) (word : List ℕ) (n : ℕ) → AllDiffer own → slice_get own n ≡ Some word
    → AreNumbers own bound binds → AllByRecursion (λ m. n ≢ m) binds → AllByRecursion (λ other. word ≢ other) bound
differs_from_all own [] binds word n differ at numbers apart = tt
differs_from_all own (other ∷ bound) [] word n differ at numbers apart = absurd numbers
differs_from_all own (other ∷ bound) (m ∷ binds) word n differ at numbers apart = (
  λ same. apart.0 (one_place own n m other differ (at ∙ ap Some same) numbers.0),
  differs_from_all own bound binds word n differ at numbers.1 apart.1,
)

different_words : (own bound : List (List ℕ)) (binds : List ℕ) → AllDiffer own → AreNumbers own bound binds → AreDifferent binds → AllDiffer bound
different_words own [] binds differ numbers apart = tt
different_words own (word ∷ bound) [] differ numbers apart = absurd numbers
different_words own (word ∷ bound) (n ∷ binds) differ numbers apart =
    (differs_from_all own bound binds word n differ numbers.0 numbers.1 apart.0, different_words own bound binds differ numbers.1 apart.1)

nothing_named : (bound : List (List ℕ)) → AllByRecursion (λ word. IsAmong [] word → ⊥) bound
nothing_named [] = tt
nothing_named (word ∷ bound) = ((λ among. among), nothing_named bound)

one_named_more : (named bound : List (List ℕ)) (word : List ℕ) → AllByRecursion (λ other. IsAmong named other → ⊥) bound → AllByRecursion (λ other. word ≢ other) bound
    → AllByRecursion (λ other. IsAmong (word ∷ named) other → ⊥) bound
one_named_more named [] word new differ = tt
one_named_more named (other ∷ bound) word new differ = (not_here, one_named_more named bound word new.1 differ.1)
  where
    not_here : IsAmong (word ∷ named) other → ⊥
    not_here (inl same) = differ.0 same
    not_here (inr among) = new.0 among

entered : (own : List (List ℕ)) → AllDiffer own → (cat : ℕ) (bound : List (List ℕ)) (binds : List ℕ) → AreDifferent binds → AreNumbers own bound binds → AreNew own [] bound
entered own differ cat bound binds apart numbers = record {
  new = nothing_named bound;
  different = different_words own bound binds differ numbers apart;
  own_words = own_words_of own bound binds numbers;
}

passed : (own named : List (List ℕ)) (word : List ℕ) (bound : List (List ℕ)) → AreNew own named (word ∷ bound) → AreNew own (word ∷ named) bound
passed own named word bound kept = record {
  new = one_named_more named bound word kept.new.1 kept.different.0;
  different = kept.different.1;
  own_words = kept.own_words.1;
}

-- ---- the words of the items' binders are binders of the form

-- tokens that begin outside brackets
abbrev BeginOutside : Place → List PlainToken → Type 0
BeginOutside place [] = Unit {0}
BeginOutside place (token ∷ tokens) = IsOutside place token

begin_outside : (tokens : List PlainToken) → BeginOutside outside tokens
begin_outside [] = tt
begin_outside (token ∷ tokens) = tt

begin_behind : (named : List (List ℕ)) (tokens : List PlainToken) → NotOpened tokens → BeginOutside (behind_slot named) tokens
begin_behind named [] closed = tt
begin_behind named (token ∷ tokens) closed = closed

module _ (portions : List PlainPortion) (sig : Signature) (file : IsWritten portions sig) where
  -- the place behind some tokens of a form, before the others
  record IsBetween (form tokens : List PlainToken) (place : Place) : Type 0 where
    front : List PlainToken
    split : form ≡ front ++ tokens
    is_place : IsPlaceBehind portions front place

  one_further : {form tokens : List PlainToken} {place : Place} (token : PlainToken) (next : Place) → IsBetween form (token ∷ tokens) place
      → Follows portions place token next → IsBetween form tokens next
  one_further {tokens = tokens} token next between follows = record {
    front = between.front ++ token ∷ [];
    split = between.split ∙ sym (append_assoc between.front (token ∷ []) tokens);
    is_place = behind_one_more between.is_place follows;
  }

  mutual
    past_brackets : {form tokens rest : List PlainToken} {bound : List (List ℕ)} (named : List (List ℕ)) → AreBrackets bound tokens rest
        → IsBetween form tokens (behind_slot named) → (after : List (List ℕ)) × IsBetween form rest (behind_slot after)
    past_brackets named no_brackets between = (named, between)
    past_brackets named (brackets {opening = opening} mark words) between =
        past_words named words (one_further opening (before_word named) between (opens mark))

    past_words : {form tokens rest : List PlainToken} {bound : List (List ℕ)} (named : List (List ℕ)) → AreWords bound tokens rest
        → IsBetween form tokens (before_word named) → (after : List (List ℕ)) × IsBetween form rest (behind_slot after)
    past_words named (one_more {token = token} {comma = comma} kind mark more) between =
        let now = token.text ∷ named in
        past_words now more
        (one_further comma (before_word now) (one_further token (behind_word now) between (in_brackets (word_or_mark token 93 kind))) (separator (λ other. two_marks comma mark other)))
    past_words named (last_one {token = token} {closing = closing} kind mark more) between =
        let now = token.text ∷ named in
        past_brackets now more
        (one_further closing (behind_slot now) (one_further token (behind_word now) between (in_brackets (word_or_mark token 93 kind))) (closes_behind mark))

  binder_there : {own words : List (List ℕ)} {form tokens : List PlainToken} {items : List Item} (place : Place) (word : List ℕ)
      → AreItems sig.cats (listed portions) own tokens items words → IsBetween form tokens place → BeginOutside place tokens → IsAmong words word → IsBinderOf portions form word
  binder_there place word no_items between out among = absurd among
  binder_there place word (terminal {token = token} {tokens = tokens} is plain more) between out among =
      binder_there outside word more (one_further token outside between (item out (no_slot_word portions sig file token plain))) (begin_outside tokens) among
  binder_there place word (binder {token = token} {tokens = tokens} {c = c} kind spells more) between out (inl same) = record {
    token = token;
    stands = record { place = place; stands = record { front = between.front; rest = tokens; split = between.split; is_place = between.is_place }; is_outside = out };
    is_binder = binder_word portions sig file token c.0 kind spells;
    same = same;
  }
  binder_there place word (binder {token = token} {tokens = tokens} {c = c} kind spells more) between out (inr among) =
      let is = binder_word portions sig file token c.0 kind spells in
      binder_there outside word more (one_further token outside between (item out (λ slots. slot_or_binder portions sig file token slots is))) (begin_outside tokens) among
  binder_there place word (slot {token = token} {tokens = tokens} {rest = rest} {c = c} kind spells bracketed numbers more) between out among =
      let after = past_brackets [] bracketed (one_further token (behind_slot []) between (to_slot out (slot_word portions sig file token c.0 kind spells))) in
      binder_there (behind_slot after.0) word more after.1 (begin_behind after.0 rest (not_opened sig.cats (listed portions) file.names.apart more)) among

  binder_of_form : {own : List (List ℕ)} {form : List PlainToken} {items : List Item} (word : List ℕ)
      → AreItems sig.cats (listed portions) own form items own → IsAmong own word → IsBinderOf portions form word
  binder_of_form {form = form} word read among =
      binder_there outside word read (record { front = []; split = refl; is_place = at_start }) (begin_outside form) among

  -- ---- the faults of a form

  -- the form is items, no two of whose binders have one word, and no slot of which binds one twice
  pub record IsRead (form : List PlainToken) : Type 0 where
    pub items : List Item
    pub own : List (List ℕ)
    pub read : AreItems sig.cats (listed portions) own form items own
    pub different : AllDiffer own
    pub binds : AllByRecursion (λ s. AreDifferent s.binds) (slots items)

  -- what is kept at each place of such a form
  abbrev Differ : ℕ → List ℕ → Type 0
  Differ cat binds = AreDifferent binds

  abbrev Ahead : (form : List PlainToken) (is : IsRead form) → Place → List PlainToken → Type 0
  Ahead form is = IsAhead portions sig file is.own Differ AllDiffer (AreNew is.own) (λ word words differ. differ.1) (entered is.own is.different) (passed is.own)

  whole : (form : List PlainToken) (is : IsRead form) → Ahead form is outside form
  whole form is = record { items = is.items; words = is.own; read = is.read; kept = is.binds; left = is.different }

  at_token : (form : List PlainToken) (is : IsRead form) (place : Place) (token : PlainToken) (stands : StandsAt portions form place token) → Ahead form is place (token ∷ stands.rest)
  at_token form is place token stands =
      ahead_at portions sig file is.own Differ AllDiffer (AreNew is.own) (λ word words differ. differ.1) (entered is.own is.different) (passed is.own) form place token stands (whole form is)

  items_at : (form : List PlainToken) (is : IsRead form) (place : Place) (token : PlainToken) (rest : List PlainToken) → IsOutside place token
      → Ahead form is place (token ∷ rest) → Ahead form is outside (token ∷ rest)
  items_at form is place token rest out ahead =
      items_ahead portions sig file is.own Differ AllDiffer (AreNew is.own) (λ word words differ. differ.1) (entered is.own is.different) (passed is.own) place token rest out ahead

  -- each token outside brackets is known
  known : {own words : List (List ℕ)} {token : PlainToken} {tokens : List PlainToken} {items : List Item}
      → AreItems sig.cats (listed portions) own (token ∷ tokens) items words → (IsSlotWord portions token → ⊥) → (IsBinderWord portions token → ⊥)
      → (IsTerminal (listed portions) token → ⊥) → ⊥
  known (terminal is plain more) not_slot not_binder not_terminal = not_terminal is
  known (binder {token = token} {c = c} kind spells more) not_slot not_binder not_terminal = not_binder (binder_word portions sig file token c.0 kind spells)
  known (slot {token = token} {c = c} kind spells bracketed numbers more) not_slot not_binder not_terminal = not_slot (slot_word portions sig file token c.0 kind spells)

  pub nothing_unknown : (form : List PlainToken) → IsRead form → (token : PlainToken) → IsUnknown portions form token → ⊥
  nothing_unknown form is token fault =
      let place = fault.stands.place in
      let here = items_at form is place token fault.stands.stands.rest fault.stands.is_outside (at_token form is place token fault.stands.stands) in
      known here.read fault.no_slot fault.no_binder fault.no_terminal

  -- what is wrong in brackets
  first_word : {token : PlainToken} {tokens rest : List PlainToken} {bound : List (List ℕ)} (Q : List ℕ → Type 0) → AreWords bound (token ∷ tokens) rest → AllByRecursion Q bound → Q token.text
  first_word Q (one_more kind mark more) all = all.0
  first_word Q (last_one kind mark more) all = all.0

  closes_somewhere : {tokens rest : List PlainToken} {bound : List (List ℕ)} → AreWords bound tokens rest → AllByRecursion (λ t. IsMark 93 t → ⊥) tokens → ⊥
  closes_somewhere (one_more kind mark more) none = closes_somewhere more none.1.1
  closes_somewhere (last_one kind mark more) none = none.1.0 mark

  bracket_closes : {own words : List (List ℕ)} {token : PlainToken} {tokens rest : List PlainToken} {bound : List (List ℕ)} {items : List Item}
      → AreBrackets bound (token ∷ tokens) rest → AreItems sig.cats (listed portions) own rest items words → IsMark 91 token → AllByRecursion (λ t. IsMark 93 t → ⊥) tokens → ⊥
  bracket_closes no_brackets more mark none = not_opened sig.cats (listed portions) file.names.apart more mark
  bracket_closes (brackets opening words) more mark none = closes_somewhere words none

  comma_or_end : (token : PlainToken) {tokens rest : List PlainToken} {bound : List (List ℕ)}
      → (IsMark 44 token × AreWords bound tokens rest) ⊎ (IsMark 93 token × AreBrackets bound tokens rest) → (IsMark 44 token → ⊥) → (IsMark 93 token → ⊥) → ⊥
  comma_or_end token (inl comma) not_comma not_end = not_comma comma.0
  comma_or_end token (inr closing) not_comma not_end = not_end closing.0

  pub nothing_wrong : (form : List PlainToken) → IsRead form → (token : PlainToken) → IsWrongInBrackets portions form token → ⊥
  nothing_wrong form is token (no_word named stands other) =
      other (is_word_ahead portions sig file is.own Differ AllDiffer (AreNew is.own) (λ word words differ. differ.1) (entered is.own is.different) (passed is.own)
      (at_token form is (before_word named) token stands).2)
  nothing_wrong form is token (no_binder named stands none) =
      let here = at_token form is (before_word named) token stands in
      none (binder_of_form token.text is.read (first_word (IsAmong is.own) here.2 here.3.words_kept.own_words))
  nothing_wrong form is token (again named stands kind among) =
      let here = at_token form is (before_word named) token stands in
      first_word (λ word. IsAmong named word → ⊥) here.2 here.3.words_kept.new among
  nothing_wrong form is token (no_comma named stands other nor) =
      let here = at_token form is (behind_word named) token stands in comma_or_end token here.2 other nor
  nothing_wrong form is token (not_closed named stands mark none) =
      let here = at_token form is (behind_slot named) token stands in bracket_closes here.2 here.3.behind.read mark none

  -- a second binder with one word
  record IsAtBinder (own words : List (List ℕ)) (token : PlainToken) (tokens : List PlainToken) (items : List Item) : Type 0 where
    others : List (List ℕ)
    after : List Item
    first : words ≡ token.text ∷ others
    read : AreItems sig.cats (listed portions) own tokens after others

  at_binder : {own words : List (List ℕ)} {token : PlainToken} {tokens : List PlainToken} {items : List Item}
      → AreItems sig.cats (listed portions) own (token ∷ tokens) items words → IsBinderWord portions token → IsAtBinder own words token tokens items
  at_binder (terminal {token = token} is plain more) binds = absurd (no_binder_word portions sig file token plain binds)
  at_binder (binder {items = items} {words = words} kind spells more) binds = record { others = words; after = items; first = refl; read = more }
  at_binder (slot {token = token} {c = c} kind spells bracketed numbers more) binds =
      absurd (slot_or_binder portions sig file token (slot_word portions sig file token c.0 kind spells) binds)

  anything_kept : {own words : List (List ℕ)} {tokens : List PlainToken} {items : List Item} → AreItems sig.cats (listed portions) own tokens items words
      → AllByRecursion (λ s. Unit {0}) (slots items)
  anything_kept no_items = tt
  anything_kept (terminal is plain more) = anything_kept more
  anything_kept (binder kind spells more) = anything_kept more
  anything_kept (slot kind spells bracketed numbers more) = (tt, anything_kept more)

  -- behind a binder no other has its word
  not_again : (own : List (List ℕ)) (text : List ℕ) (front : List PlainToken) (place : Place) (token : PlainToken) (rest : List PlainToken) (items : List Item) (words : List (List ℕ))
      → AreItems sig.cats (listed portions) own (front ++ token ∷ rest) items words → AllByRecursion (λ other. text ≢ other) words
      → Leads portions outside front place → IsOutside place token → IsBinderWord portions token → text ≡ token.text → ⊥
  not_again own text front place token rest items words read differ way out binds same =
      let nothing : (cat : ℕ) (bound : List (List ℕ)) (ns : List ℕ) → Unit {0} → AreNumbers own bound ns → Unit {0} = λ cat bound ns kept numbers. tt in
      let still : (named : List (List ℕ)) (word : List ℕ) (bound : List (List ℕ)) → Unit {0} → Unit {0} = λ named word bound kept. tt in
      let start : AreKeptItems portions sig file own (λ cat ns. Unit {0}) (AllByRecursion (λ other. text ≢ other)) (λ named bound. Unit {0}) (λ word words all. all.1) nothing still (front ++ token ∷ rest) =
      record { items = items; words = words; read = read; kept = anything_kept read; left = differ } in
      let ahead = ahead_behind portions sig file own (λ cat ns. Unit {0}) (AllByRecursion (λ other. text ≢ other)) (λ named bound. Unit {0}) (λ word words all. all.1) nothing still
      outside front (token ∷ rest) place way start in
      let here = items_ahead portions sig file own (λ cat ns. Unit {0}) (AllByRecursion (λ other. text ≢ other)) (λ named bound. Unit {0}) (λ word words all. all.1) nothing still
      place token rest out ahead in
      let at = at_binder here.read binds in
      (subst (AllByRecursion (λ other. text ≢ other)) at.first here.left).0 same

  pub nothing_twice : (form : List PlainToken) → IsRead form → (token : PlainToken) → IsSecondBinder portions form token → ⊥
  nothing_twice form is token fault =
      let second = fault.stands in
      let first = fault.earlier in
      let front = first.stands.stands.front in
      let between = first.stands.stands.rest in
      let way = first_part portions outside front (first.token ∷ between) second.place
      (subst (λ ts. Leads portions outside ts second.place) first.stands.stands.split (leads portions second.stands.is_place)) in
      let same = one_end portions outside front way.0 first.stands.place way.1 (leads portions first.stands.stands.is_place) in
      let binder_next : Follows portions first.stands.place first.token outside = item first.stands.is_outside (λ slots. slot_or_binder portions sig file first.token slots first.is_binder) in
      let next = one_next portions (subst (λ p. Follows portions p first.token way.2.0) same way.2.1) binder_next in
      let whole_split : form ≡ front ++ first.token ∷ (between ++ token ∷ second.stands.rest) =
      second.stands.split ∙ ap (λ ts. ts ++ token ∷ second.stands.rest) first.stands.stands.split ∙ append_assoc front (first.token ∷ between) (token ∷ second.stands.rest) in
      let ahead = ahead_behind portions sig file is.own Differ AllDiffer (AreNew is.own) (λ word words differ. differ.1) (entered is.own is.different) (passed is.own)
      outside front (first.token ∷ (between ++ token ∷ second.stands.rest)) first.stands.place (leads portions first.stands.stands.is_place)
      (subst (λ ts. Ahead form is outside ts) whole_split (whole form is)) in
      let here = items_at form is first.stands.place first.token (between ++ token ∷ second.stands.rest) first.stands.is_outside ahead in
      let at = at_binder here.read first.is_binder in
      not_again is.own first.token.text between second.place token second.stands.rest at.after at.others at.read (subst AllDiffer at.first here.left).0
      (subst (λ p. Leads portions p between second.place) next way.2.2) second.is_outside fault.is_binder first.same

  -- one slot alone
  nothing_left : {own words : List (List ℕ)} {tokens : List PlainToken} {items : List Item} → AreItems sig.cats (listed portions) own tokens items words → tokens ≡ [] → items ≡ []
  nothing_left no_items none = refl
  nothing_left (terminal is plain more) none = cc
  nothing_left (binder kind spells more) none = cc
  nothing_left (slot kind spells bracketed numbers more) none = cc

  pub no_items_left : {own words : List (List ℕ)} {items : List Item} → AreItems sig.cats (listed portions) own [] items words → items ≡ []
  no_items_left read = nothing_left read refl

  pub single_item : {own words : List (List ℕ)} {form : List PlainToken} {items : List Item} → AreItems sig.cats (listed portions) own form items words
      → IsOneSlot portions form → IsSingle items
  single_item no_items one = absurd one
  single_item (terminal {token = token} is plain more) one = absurd (no_slot_word portions sig file token plain one.0)
  single_item (binder {token = token} {c = c} kind spells more) one = absurd (slot_or_binder portions sig file token one.0 (binder_word portions sig file token c.0 kind spells))
  single_item (slot {c = c} {binds = binds} kind spells bracketed numbers more) one =
      let same = one_way bracketed one.1.1 (not_opened sig.cats (listed portions) file.names.apart more) tt in
      subst (λ left. IsSingle (Slot c binds ∷ left)) (sym (nothing_left more same.1)) tt
