-- A form of a grammar without a fault is read token by token.
use Rattle.std.proofs.Common.{◌≡◌, ℕ, List, [], ◌∷◌, ◌++◌, refl, ◌∙◌, sym, subst, inl, inr, ◌⊎◌, arith}
use Rattle.std.proofs.lemmas.List.{append-nil, append_assoc}
use Rattle.std.specs.List.{AllByRecursion}
use Rattle.sy_base.specs.Tokens.{PlainToken}
use Rattle.binding_terms.specs.declared.grammar.Cat.{Cat}
use Rattle.binding_terms.specs.declared.grammar.CatId.{CatId}
use Rattle.outline_reader.specs.Plain.{PlainPortion}
use Rattle.user_grammar.specs.File.{listed}
use Rattle.rule_schemes.specs.Reading.{IsCategoryWord}
use Rattle.user_grammar.specs.Production.{IsTerminal, IsMark, AreBrackets, no_brackets, brackets, AreWords, one_more, last_one}
use Rattle.user_grammar.specs.Fault.{Place, outside, behind_slot, before_word, behind_word, IsOutside, IsSlotWord, IsBinderWord, IsPlaceBehind, at_start, behind_one_more, slot, item, opens, in_brackets, separator, closes_behind, StandsAt, StandsOutside, IsUnknown, IsWrongInBrackets, no_word, no_comma, not_closed, IsSecondBinder}
use Rattle.user_grammar.specs.MadeItems.{IsBinderSpelling, AreBracketsFrom}
use Rattle.user_grammar.specs.declared.made_tokens.Spot.{Spot}
use Rattle.user_grammar.specs.declared.made_tokens.Spot.TheVariants.{Outside, BeforeWord, BehindWord}
use Rattle.user_grammar.proofs.MadeDecided.{Decided, not_refused, numbers_decided, mark_decided, terminal_decided}
use Rattle.binding_terms.proofs.Lists.{all_append}

-- an item, before its binders have numbers
pub data Part : Type 0 where
  itself : PlainToken → Part
  bound_as : CatId → List ℕ → Part
  part_of : CatId → (bound : List (List ℕ)) → Part

-- which words of a file are spelled as the categories and variables with these numbers
pub record AreNamesOf (portions : List PlainPortion) (cats : List Cat) : Type 0 where
  pub slot_tells : (token : PlainToken) → Decided (IsSlotWord portions token)
  pub binder_tells : (token : PlainToken) → Decided (IsBinderWord portions token)
  pub slot_word : (token : PlainToken) → IsSlotWord portions token → (c : CatId) × IsCategoryWord cats c.0 token.text
  pub word_slot : (token : PlainToken) (c : ℕ) → token.kind ≡ 0 → IsCategoryWord cats c token.text → IsSlotWord portions token
  pub binder_word : (token : PlainToken) → IsBinderWord portions token → (c : CatId) × IsBinderSpelling cats c.0 token.text
  pub word_binder : (token : PlainToken) (c : ℕ) → token.kind ≡ 0 → IsBinderSpelling cats c token.text → IsBinderWord portions token

-- no token of the form is a fault
pub record IsSound (portions : List PlainPortion) (form : List PlainToken) : Type 0 where
  pub no_unknown : (token : PlainToken) → IsUnknown portions form token → ⊥
  pub no_wrong : (token : PlainToken) → IsWrongInBrackets portions form token → ⊥
  pub no_second : (token : PlainToken) → IsSecondBinder portions form token → ⊥

module _ (portions : List PlainPortion) (cats : List Cat) (names : AreNamesOf portions cats) (form : List PlainToken) (sound : IsSound portions form) where
  -- the words stand in brackets, behind those that are named
  abbrev pub InBrackets : (named bound : List (List ℕ)) → Type 0
  InBrackets named [] = Unit {0}
  InBrackets named (word ∷ bound) =
      (token : PlainToken) × StandsAt portions form (before_word named) token × (token.text ≡ word) × (token.kind ≡ 0) × InBrackets (word ∷ named) bound

  -- a bracket opens in the form, if there are words
  abbrev pub OpensFor : (bound : List (List ℕ)) → Type 0
  OpensFor bound = (bound ≡ []) ⊎ ((named : List (List ℕ)) × (token : PlainToken) × StandsAt portions form (behind_slot named) token × IsMark 91 token)

  -- tokens and the parts that they are, each where it stands
  pub data Parts : List PlainToken → List Part → Type 0 where
    no_parts : Parts [] []
    terminal_part : {token : PlainToken} {tokens : List PlainToken} {parts : List Part} →
        (at : StandsOutside portions form token) → at.stands.rest ≡ tokens → IsTerminal (listed portions) token →
        (IsSlotWord portions token → ⊥) → (IsBinderWord portions token → ⊥) → Parts tokens parts → Parts (token ∷ tokens) (itself token ∷ parts)
    binder_part : {token : PlainToken} {tokens : List PlainToken} {parts : List Part} {c : CatId} →
        (at : StandsOutside portions form token) → at.stands.rest ≡ tokens → (IsSlotWord portions token → ⊥) → IsBinderWord portions token →
        IsBinderSpelling cats c.0 token.text → Parts tokens parts → Parts (token ∷ tokens) (bound_as c token.text ∷ parts)
    slot_part : {token : PlainToken} {tokens rest : List PlainToken} {parts : List Part} {c : CatId} {bound : List (List ℕ)} →
        (at : StandsOutside portions form token) → at.stands.rest ≡ tokens → IsSlotWord portions token → IsCategoryWord cats c.0 token.text →
        AreBrackets bound tokens rest → InBrackets [] bound → OpensFor bound → Parts rest parts → Parts (token ∷ tokens) (part_of c bound ∷ parts)

  -- a bracket that is unclosed, and the tokens since, none of which closes it
  pub record IsOpen (rest : List PlainToken) : Type 0 where
    pub named : List (List ℕ)
    pub opening : PlainToken
    pub stands : StandsAt portions form (behind_slot named) opening
    pub mark : IsMark 91 opening
    pub since : List PlainToken
    pub split : stands.rest ≡ since ++ rest
    pub none : AllByRecursion (λ t. IsMark 93 t → ⊥) since

  pub record BracketsRead (spot : Spot) (named : List (List ℕ)) (rest : List PlainToken) : Type 0 where
    pub bound : List (List ℕ)
    pub behind : List PlainToken
    pub parts : List Part
    pub are_brackets : AreBracketsFrom spot bound rest behind
    pub stand : InBrackets named bound
    pub opened : OpensFor bound
    pub are_parts : Parts behind parts

  abbrev Result : Place → List PlainToken → Type 0
  Result outside rest = (parts : List Part) × Parts rest parts
  Result (behind_slot named) rest = BracketsRead Outside named rest
  Result (before_word named) rest = BracketsRead BeforeWord named rest
  Result (behind_word named) rest = BracketsRead BehindWord named rest

  abbrev Since : Place → List PlainToken → Type 0
  Since outside rest = Unit {0}
  Since (behind_slot named) rest = Unit {0}
  Since (before_word named) rest = IsOpen rest
  Since (behind_word named) rest = IsOpen rest

  never_closed : IsOpen [] → ⊥
  never_closed unclosed =
      sound.no_wrong unclosed.opening (not_closed unclosed.named unclosed.stands unclosed.mark
      (subst (AllByRecursion (λ (t : PlainToken). IsMark 93 t → ⊥)) (sym (unclosed.split ∙ append-nil unclosed.since)) unclosed.none))

  still_open : (token : PlainToken) (rest : List PlainToken) → IsOpen (token ∷ rest) → (IsMark 93 token → ⊥) → IsOpen rest
  still_open token rest unclosed not = record {
    named = unclosed.named;
    opening = unclosed.opening;
    stands = unclosed.stands;
    mark = unclosed.mark;
    since = unclosed.since ++ token ∷ [];
    split = unclosed.split ∙ sym (append_assoc unclosed.since (token ∷ []) rest);
    none = all_append (λ (t : PlainToken). IsMark 93 t → ⊥) unclosed.since (token ∷ []) unclosed.none (not, tt);
  }

  word_closes_nothing : (token : PlainToken) → token.kind ≡ 0 → IsMark 93 token → ⊥
  word_closes_nothing token kind mark = absurd (let same : 0 ≡ 2 = sym kind ∙ mark.0 in let never : ⊥ = omega (arith, same) in never)

  -- after a word come a comma or the end
  words_from : (token : PlainToken) (words : List (List ℕ)) (tokens behind : List PlainToken) → token.kind ≡ 0
      → AreBracketsFrom BehindWord words tokens behind → AreWords (token.text ∷ words) (token ∷ tokens) behind
  words_from token words [] behind kind are = absurd are
  words_from token words (comma ∷ tokens) behind kind (inl are) = one_more kind are.0 are.1
  words_from token words (closing ∷ tokens) behind kind (inr are) = last_one kind are.0 are.1

  abbrev stands_here : (front : List PlainToken) (token : PlainToken) (rest : List PlainToken) (place : Place) → form ≡ front ++ token ∷ rest → IsPlaceBehind portions front place
      → StandsAt portions form place token
  stands_here front token rest place split is = record { front = front; rest = rest; split = split; is_place = is }

  one_further : (front : List PlainToken) (token : PlainToken) (rest : List PlainToken) → form ≡ front ++ token ∷ rest → form ≡ (front ++ token ∷ []) ++ rest
  one_further front token rest split = split ∙ sym (append_assoc front (token ∷ []) rest)

  abbrev Goes : List PlainToken → Type 0
  Goes rest = (place : Place) (front : List PlainToken) → form ≡ front ++ rest → IsPlaceBehind portions front place → Since place rest → Result place rest

  -- an item outside brackets
  item_here : (token : PlainToken) (rest : List PlainToken) → Goes rest → (place : Place) (front : List PlainToken) → form ≡ front ++ token ∷ rest
      → IsPlaceBehind portions front place → IsOutside place token → (parts : List Part) × Parts (token ∷ rest) parts
  item_here token rest goes place front split is out = by_slot (names.slot_tells token)
    where
      at : StandsOutside portions form token
      at = record { place = place; stands = stands_here front token rest place split is; is_outside = out }

      by_binder : (IsSlotWord portions token → ⊥) → (parts : List Part) × Parts rest parts → Decided (IsBinderWord portions token)
          → (parts : List Part) × Parts (token ∷ rest) parts
      by_binder no_slot more (inl binds) =
          let c = names.binder_word token binds in (bound_as c.0 token.text ∷ more.0, binder_part at refl no_slot binds c.1 more.1)
      by_binder no_slot more (inr no_binds) =
          let is_terminal = not_refused (terminal_decided (listed portions) token)
          (λ not. sound.no_unknown token (record { stands = at; no_slot = no_slot; no_binder = no_binds; no_terminal = not })) in
          (itself token ∷ more.0, terminal_part at refl is_terminal no_slot no_binds more.1)

      by_slot : Decided (IsSlotWord portions token) → (parts : List Part) × Parts (token ∷ rest) parts
      by_slot (inl is_slot) =
          let c = names.slot_word token is_slot in
          let more = goes (behind_slot []) (front ++ token ∷ []) (one_further front token rest split) (behind_one_more is (slot out is_slot)) tt in
          (part_of c.0 more.bound ∷ more.parts, slot_part at refl is_slot c.1 more.are_brackets more.stand more.opened more.are_parts)
      by_slot (inr no_slot) =
          by_binder no_slot (goes outside (front ++ token ∷ []) (one_further front token rest split) (behind_one_more is (item out no_slot)) tt) (names.binder_tells token)

  behind_slot_here : (named : List (List ℕ)) (token : PlainToken) (rest front : List PlainToken) → Goes rest → form ≡ front ++ token ∷ rest
      → IsPlaceBehind portions front (behind_slot named) → Decided (IsMark 91 token) → BracketsRead Outside named (token ∷ rest)
  behind_slot_here named token rest front goes split is (inr not) =
      let more = item_here token rest goes (behind_slot named) front split is not in
      record { bound = []; behind = token ∷ rest; parts = more.0; are_brackets = no_brackets; stand = tt; opened = inl refl; are_parts = more.1 }
  behind_slot_here named token rest front goes split is (inl mark) =
      let at = stands_here front token rest (behind_slot named) split is in
      let more = goes (before_word named) (front ++ token ∷ []) (one_further front token rest split) (behind_one_more is (opens mark))
      (record { named = named; opening = token; stands = at; mark = mark; since = []; split = refl; none = tt }) in
      record {
        bound = more.bound;
        behind = more.behind;
        parts = more.parts;
        are_brackets = brackets mark more.are_brackets;
        stand = more.stand;
        opened = inr (named, token, at, mark);
        are_parts = more.are_parts;
      }

  before_word_here : (named : List (List ℕ)) (token : PlainToken) (rest front : List PlainToken) → Goes rest → form ≡ front ++ token ∷ rest
      → IsPlaceBehind portions front (before_word named) → IsOpen (token ∷ rest) → Decided (token.kind ≡ 0) → BracketsRead BeforeWord named (token ∷ rest)
  before_word_here named token rest front goes split is unclosed (inr not) =
      absurd (sound.no_wrong token (no_word named (stands_here front token rest (before_word named) split is) not))
  before_word_here named token rest front goes split is unclosed (inl kind) =
      let not_end = word_closes_nothing token kind in
      let more = goes (behind_word (token.text ∷ named)) (front ++ token ∷ []) (one_further front token rest split) (behind_one_more is (in_brackets not_end))
      (still_open token rest unclosed not_end) in
      record {
        bound = token.text ∷ more.bound;
        behind = more.behind;
        parts = more.parts;
        are_brackets = words_from token more.bound rest more.behind kind more.are_brackets;
        stand = (token, stands_here front token rest (before_word named) split is, refl, kind, more.stand);
        opened = inr (unclosed.named, unclosed.opening, unclosed.stands, unclosed.mark);
        are_parts = more.are_parts;
      }

  behind_word_here : (named : List (List ℕ)) (token : PlainToken) (rest front : List PlainToken) → Goes rest → form ≡ front ++ token ∷ rest
      → IsPlaceBehind portions front (behind_word named) → IsOpen (token ∷ rest) → Decided (IsMark 93 token) → Decided (IsMark 44 token)
      → BracketsRead BehindWord named (token ∷ rest)
  behind_word_here named token rest front goes split is unclosed (inl mark) other =
      let more = goes (behind_slot named) (front ++ token ∷ []) (one_further front token rest split) (behind_one_more is (closes_behind mark)) tt in
      record {
        bound = more.bound;
        behind = more.behind;
        parts = more.parts;
        are_brackets = inr (mark, more.are_brackets);
        stand = more.stand;
        opened = more.opened;
        are_parts = more.are_parts;
      }
  behind_word_here named token rest front goes split is unclosed (inr not) (inl comma) =
      let more = goes (before_word named) (front ++ token ∷ []) (one_further front token rest split) (behind_one_more is (separator not)) (still_open token rest unclosed not) in
      record {
        bound = more.bound;
        behind = more.behind;
        parts = more.parts;
        are_brackets = inl (comma, more.are_brackets);
        stand = more.stand;
        opened = more.opened;
        are_parts = more.are_parts;
      }
  behind_word_here named token rest front goes split is unclosed (inr not) (inr neither) =
      absurd (sound.no_wrong token (no_comma named (stands_here front token rest (behind_word named) split is) neither not))

  read_from : (rest : List PlainToken) → Goes rest
  read_from [] outside front split is since = ([], no_parts)
  read_from [] (behind_slot named) front split is since =
      record { bound = []; behind = []; parts = []; are_brackets = no_brackets; stand = tt; opened = inl refl; are_parts = no_parts }
  read_from [] (before_word named) front split is since = absurd (never_closed since)
  read_from [] (behind_word named) front split is since = absurd (never_closed since)
  read_from (token ∷ rest) outside front split is since = item_here token rest (read_from rest) outside front split is tt
  read_from (token ∷ rest) (behind_slot named) front split is since = behind_slot_here named token rest front (read_from rest) split is (mark_decided 91 token)
  read_from (token ∷ rest) (before_word named) front split is since =
      before_word_here named token rest front (read_from rest) split is since (numbers_decided token.kind 0)
  read_from (token ∷ rest) (behind_word named) front split is since =
      behind_word_here named token rest front (read_from rest) split is since (mark_decided 93 token) (mark_decided 44 token)

  pub parts_of_form : (parts : List Part) × Parts form parts
  parts_of_form = read_from form outside [] refl at_start tt
