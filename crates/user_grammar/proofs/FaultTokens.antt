-- Faults at the tokens of a production, by their places.
use Rattle.std.proofs.Common.{reverse, ◌≡◌, ◌↔◌, Bool, true, false, IsTrue, ◌⊎◌, ◌<◌, ◌≤◌, ◌+◌, ◌-◌, ◌++◌, ℕ, List, [], ◌∷◌, map, length, get_or, take, drop, refl, ap, ◌∙◌, sym, subst, inl, inr, Option, None, Some, arith, suc, drop-cons, length-append}
use Rattle.std.proofs.lemmas.List.{append_assoc, take_more, map-append, reverse-append, take-append-drop, length-map, length-take-le}
use Rattle.sy_base.specs.Tokens.{PlainToken}
use Rattle.sy_base.specs.declared.fault.Code.{Code}
use Rattle.sy_base.specs.declared.fault.Code.TheVariants as code
use Rattle.proof_lexer.specs.View.{token_view}
use Rattle.proof_lexer.specs.declared.token.Token.{Token}
use Rattle.outline_reader.specs.Plain.{PlainPortion, plain_form}
use Rattle.user_grammar.specs.File.{listed}
use Rattle.user_grammar.specs.Names.{IsAmong}
use Rattle.user_grammar.specs.Production.{IsTerminal}
use Rattle.user_grammar.specs.Fault.{Place, outside, behind_slot, before_word, behind_word, IsOutside, IsSlotWord, IsBinderWord, IsBinderOf, Follows, IsPlaceBehind, behind_one_more}
use Rattle.sy_base.specs.FirstFault.{Either, at_token, IsEarlierOf}
use Rattle.user_grammar.specs.Finding.{IsLeast, IsFoundAt, lent_words, LentFault}
use Rattle.user_grammar.specs.FindingPlaces.{AreBinders, IsWrongAt, HasCode, unknown, wrong, twice, AtPlace, AmongFirst, TokensOf}
use Rattle.sy_base.proofs.FirstLemmas.{found_alone, found_of_two, found_same, none_found}
use Rattle.user_grammar.proofs.FaultPlaces.{place_once}
use Rattle.binding_terms.proofs.Lists.{nothing_before, same_split_behind, split_last}

-- ---- binders

pub none_at_start : (portions : List PlainPortion) (w : List ℕ) → IsBinderOf portions [] w → ⊥
none_at_start portions w is = nothing_before is.stands.stands.front is.token is.stands.stands.rest is.stands.stands.split

binder_longer : (portions : List PlainPortion) (own : List PlainToken) (u : PlainToken) (w : List ℕ) → IsBinderOf portions own w → IsBinderOf portions (own ++ u ∷ []) w
binder_longer portions own u w is = record {
  token = is.token;
  stands = record {
    place = is.stands.place;
    stands = record {
      front = is.stands.stands.front;
      rest = is.stands.stands.rest ++ u ∷ [];
      split = ap (λ ts. ts ++ u ∷ []) is.stands.stands.split ∙ append_assoc is.stands.stands.front (is.token ∷ is.stands.stands.rest) (u ∷ []);
      is_place = is.stands.stands.is_place;
    };
    is_outside = is.stands.is_outside;
  };
  is_binder = is.is_binder;
  same = is.same;
}

-- the binders of one token more: those before it, and the token itself
last_binder : (portions : List PlainPortion) (front : List PlainToken) (place : Place) (t : PlainToken) (w : List ℕ) → IsPlaceBehind portions front place
    → (own : List PlainToken) (p : Place) (s : PlainToken) → front ≡ own → t ≡ s → IsPlaceBehind portions own p → IsOutside p s → IsBinderWord portions s → s.text ≡ w
    → IsOutside place t × IsBinderWord portions t × (t.text ≡ w)
last_binder portions front place t w at own p s same_front same_token is out word same =
    let same_place : p ≡ place = place_once portions (subst (λ ts. IsPlaceBehind portions ts p) (sym same_front) is) at in (
      subst (λ q. IsOutside q t) same_place (subst (IsOutside p) (sym same_token) out),
      subst (IsBinderWord portions) (sym same_token) word,
      ap (λ (x : PlainToken). x.text) same_token ∙ same,
    )

binder_cases : (portions : List PlainPortion) (front : List PlainToken) (place : Place) (t : PlainToken) (w : List ℕ) → IsPlaceBehind portions front place
    → IsBinderOf portions (front ++ t ∷ []) w → IsBinderOf portions front w ⊎ (IsOutside place t × IsBinderWord portions t × (t.text ≡ w))
binder_cases portions front place t w at is = elim (split_last front t is.stands.stands.front is.token is.stands.stands.rest is.stands.stands.split) [
  | inl l ↦ inr (last_binder portions front place t w at is.stands.stands.front is.stands.place is.token l.0 l.1 is.stands.stands.is_place is.stands.is_outside is.is_binder is.same)
  | inr r ↦ inl (record {
    token = is.token;
    stands = record {
      place = is.stands.place;
      stands = record { front = is.stands.stands.front; rest = r.0; split = r.1; is_place = is.stands.stands.is_place };
      is_outside = is.stands.is_outside;
    };
    is_binder = is.is_binder;
    same = is.same;
  })
]

binder_here : (portions : List PlainPortion) (front : List PlainToken) (place : Place) (t : PlainToken) (w : List ℕ) → IsPlaceBehind portions front place → IsOutside place t
    → IsBinderWord portions t → t.text ≡ w → IsBinderOf portions (front ++ t ∷ []) w
binder_here portions front place t w at out word same = record {
  token = t;
  stands = record { place = place; stands = record { front = front; rest = []; split = refl; is_place = at }; is_outside = out };
  is_binder = word;
  same = same;
}

pub no_words_yet : (portions : List PlainPortion) (words : List (List ℕ)) → words ≡ [] → AreBinders portions [] words
no_words_yet portions words none = record { are = λ w. ((λ any. absurd (subst (λ ws. IsAmong ws w) none any)), (λ is. absurd (none_at_start portions w is))) }

-- a token that is no binder adds no word
pub no_binder_more : (portions : List PlainPortion) (front : List PlainToken) (place : Place) (t : PlainToken) (words : List (List ℕ)) → IsPlaceBehind portions front place
    → (IsOutside place t → IsBinderWord portions t → ⊥) → AreBinders portions front words → AreBinders portions (front ++ t ∷ []) words
no_binder_more portions front place t words at none all = record {
  are = λ w. (
    (λ any. binder_longer portions front t w ((all.are w).0 any)),
    (λ is. elim (binder_cases portions front place t w at is) [ inl l ↦ (all.are w).1 l | inr r ↦ absurd (none r.0 r.1) ]),
  );
}

-- a binder adds its word
pub one_binder_more : (portions : List PlainPortion) (front : List PlainToken) (place : Place) (t : PlainToken) (words more : List (List ℕ)) → IsPlaceBehind portions front place
    → IsOutside place t → IsBinderWord portions t → ((w : List ℕ) → IsAmong more w ↔ (IsAmong words w ⊎ (t.text ≡ w))) → AreBinders portions front words
    → AreBinders portions (front ++ t ∷ []) more
one_binder_more portions front place t words more at out word added all = record {
  are = λ w. (
    (λ any. elim ((added w).0 any) [ inl l ↦ binder_longer portions front t w ((all.are w).0 l) | inr same ↦ binder_here portions front place t w at out word same ]),
    (λ is. (added w).1 (elim (binder_cases portions front place t w at is) [ inl l ↦ inl ((all.are w).1 l) | inr r ↦ inr r.2 ])),
  );
}

-- ---- one token

module _ (portions : List PlainPortion) (form front rest : List PlainToken) (place : Place) (t : PlainToken) where
  abbrev Has : Code → Type 0
  Has c = HasCode portions form front rest place t c

  outside_not_wrong : (p : Place) → IsOutside p t → IsWrongAt portions form rest p t → ⊥
  outside_not_wrong outside out is = is
  outside_not_wrong (behind_slot named) out is = out is.0
  outside_not_wrong (before_word named) out is = out
  outside_not_wrong (behind_word named) out is = out

  pub none_at_place : ((o : Code) → Has o → ⊥) → IsLeast (AtPlace portions form front rest place t) None
  none_at_place none = none_found at_token lent_words (AtPlace portions form front rest place t) (λ o s d x. none o x.has)

  pub least_at_place : (c : Code) (f : LentFault) → IsFoundAt c t f → Has c → ((o : Code) → Has o → o ≡ c) → IsLeast (AtPlace portions form front rest place t) (Some f)
  least_at_place c f found is only = found_alone at_token lent_words (AtPlace portions form front rest place t) c t t.text f found (record { there = refl; text = refl; has = is })
      (λ o s w x. (only o x.has, ap at_token x.there))

  twice_only : IsOutside place t → IsBinderWord portions t → (o : Code) → Has o → o ≡ code.BinderTwice
  twice_only out word o (unknown e is no_slot no_binder no_terminal) = absurd (no_binder word)
  twice_only out word o (wrong e is) = absurd (outside_not_wrong place out is)
  twice_only out word o (twice e is binder earlier) = e

  pub least_twice : (f : LentFault) → IsFoundAt code.BinderTwice t f → IsOutside place t → IsBinderWord portions t → IsBinderOf portions front t.text → IsLeast (AtPlace portions form front rest place t) (Some f)
  least_twice f found out word earlier = least_at_place code.BinderTwice f found (twice refl out word earlier) (twice_only out word)

  pub none_twice : IsOutside place t → IsBinderWord portions t → (IsBinderOf portions front t.text → ⊥) → IsLeast (AtPlace portions form front rest place t) None
  none_twice out word none = none_at_place never
    where
      never : (o : Code) → Has o → ⊥
      never o (unknown e is no_slot no_binder no_terminal) = no_binder word
      never o (wrong e is) = outside_not_wrong place out is
      never o (twice e is binder earlier) = none earlier

  pub none_slot : IsOutside place t → (IsBinderWord portions t → ⊥) → IsSlotWord portions t → IsLeast (AtPlace portions form front rest place t) None
  none_slot out no_word slot_word = none_at_place never
    where
      never : (o : Code) → Has o → ⊥
      never o (unknown e is no_slot no_binder no_terminal) = no_slot slot_word
      never o (wrong e is) = outside_not_wrong place out is
      never o (twice e is binder earlier) = no_word binder

  pub none_terminal : IsOutside place t → (IsBinderWord portions t → ⊥) → IsTerminal (listed portions) t → IsLeast (AtPlace portions form front rest place t) None
  none_terminal out no_word terminal = none_at_place never
    where
      never : (o : Code) → Has o → ⊥
      never o (unknown e is no_slot no_binder no_terminal) = no_terminal terminal
      never o (wrong e is) = outside_not_wrong place out is
      never o (twice e is binder earlier) = no_word binder

  pub least_unknown : (f : LentFault) → IsFoundAt code.UnknownWord t f → IsOutside place t → (IsBinderWord portions t → ⊥) → (IsSlotWord portions t → ⊥) → (IsTerminal (listed portions) t → ⊥)
      → IsLeast (AtPlace portions form front rest place t) (Some f)
  least_unknown f found out no_word no_slot no_terminal = least_at_place code.UnknownWord f found (unknown refl out no_slot no_word no_terminal) only
    where
      only : (o : Code) → Has o → o ≡ code.UnknownWord
      only o (unknown e is none none' none'') = e
      only o (wrong e is) = absurd (outside_not_wrong place out is)
      only o (twice e is binder earlier) = absurd (no_word binder)

  pub least_wrong : (f : LentFault) → IsFoundAt code.BadBinder t f → (IsOutside place t → ⊥) → IsWrongAt portions form rest place t → IsLeast (AtPlace portions form front rest place t) (Some f)
  least_wrong f found inside bad = least_at_place code.BadBinder f found (wrong refl bad) only
    where
      only : (o : Code) → Has o → o ≡ code.BadBinder
      only o (unknown e is none none' none'') = absurd (inside is)
      only o (wrong e is) = e
      only o (twice e is binder earlier) = absurd (inside is)

  pub none_wrong : (IsOutside place t → ⊥) → (IsWrongAt portions form rest place t → ⊥) → IsLeast (AtPlace portions form front rest place t) None
  none_wrong inside right = none_at_place never
    where
      never : (o : Code) → Has o → ⊥
      never o (unknown e is none none' none'') = inside is
      never o (wrong e is) = right is
      never o (twice e is binder earlier) = inside is

-- ---- the tokens of a form, one after another

pub less_or_same : (k n : ℕ) → k < n + 1 → (k < n) ⊎ (k ≡ n)
less_or_same k n lt = grind (arith, lt)

pub among_none : (portions : List PlainPortion) (form : List PlainToken) → IsLeast (AmongFirst portions form 0) None
among_none portions form = none_found at_token lent_words (AmongFirst portions form 0) (λ o s d x. omega (arith, x.near))

at_same : (portions : List PlainPortion) (form front rest own more : List PlainToken) (place q : Place) (t s : PlainToken) (o : Code) (u : PlainToken) (d : List ℕ)
    → own ≡ front → s ≡ t → more ≡ rest → q ≡ place → AtPlace portions form own more q s o u d → AtPlace portions form front rest place t o u d
at_same portions form front rest own more place q t s o u d same_front same_token same_rest same_place x =
    subst (λ v. AtPlace portions form front rest place v o u d) same_token
    (subst (λ p. AtPlace portions form front rest p s o u d) same_place
    (subst (λ r. AtPlace portions form front r q s o u d) same_rest
    (subst (λ f. AtPlace portions form f more q s o u d) same_front x)))

-- one token more is looked at
among_more : (portions : List PlainPortion) (form : List PlainToken) (n : ℕ) (front rest : List PlainToken) (place : Place) (t : PlainToken) (a b r : Option LentFault)
    → form ≡ front ++ t ∷ rest → length front ≡ n → IsPlaceBehind portions front place → IsEarlierOf a b r
    → IsLeast (AmongFirst portions form n) a → IsLeast (AtPlace portions form front rest place t) b → IsLeast (AmongFirst portions form (n + 1)) r
among_more portions form n front rest place t a b r split len at is all one = found_same at_token lent_words (Either (AmongFirst portions form n) (AtPlace portions form front rest place t)) (AmongFirst portions form (n + 1)) r
    (λ o s d x. elim x [
      | inl y ↦ record { front = y.front; rest = y.rest; place = y.place; split = y.split; is_place = y.is_place; near = omega (arith, y.near); fault = y.fault }
      | inr y ↦ record {
        front = front;
        rest = rest;
        place = place;
        split = subst (λ v. form ≡ front ++ v ∷ rest) (sym y.there) split;
        is_place = at;
        near = omega (arith, len);
        fault = subst (λ v. AtPlace portions form front rest place v o s d) (sym y.there) y;
      }
    ])
    (λ o s d x. elim (less_or_same (length x.front) n x.near) [
      | inl lt ↦ inl (record { front = x.front; rest = x.rest; place = x.place; split = x.split; is_place = x.is_place; near = lt; fault = x.fault })
      | inr e ↦ (
          let same = same_split_behind front t rest x.front s x.rest (e ∙ sym len) (sym split ∙ x.split) in
          let where_is : x.place ≡ place = place_once portions (subst (λ ts. IsPlaceBehind portions ts x.place) same.0 x.is_place) at in
          inr (at_same portions form front rest x.front x.rest place x.place t s o s d same.0 same.1 same.2 where_is x.fault)
          )
    ])
    (found_of_two at_token lent_words (AmongFirst portions form n) (AtPlace portions form front rest place t) a b r is all one)

at_drop : (xs : List Token) (i : ℕ) (d : Token) → i < length xs → drop i xs ≡ get_or xs i d ∷ drop (i + 1) xs
at_drop xs i d lt = let e : suc i ≡ i + 1 = omega arith in drop-cons xs i d lt ∙ ap (λ n. get_or xs i d ∷ drop n xs) e

pub form_split : (xs : List Token) (i : ℕ) (d : Token) → i < length xs → plain_form xs ≡ plain_form (take i xs) ++ token_view (get_or xs i d) ∷ plain_form (drop (i + 1) xs)
form_split xs i d lt =
    ap plain_form (sym (take-append-drop i xs)) ∙ map-append token_view (take i xs) (drop i xs) ∙ ap (λ ts. plain_form (take i xs) ++ plain_form ts) (at_drop xs i d lt)

pub form_more : (portions : List PlainPortion) (xs : List Token) (i : ℕ) (d : Token) (place : Place) (a b r : Option LentFault) → i < length xs
    → IsPlaceBehind portions (plain_form (take i xs)) place → IsEarlierOf a b r → IsLeast (AmongFirst portions (plain_form xs) i) a
    → IsLeast (AtPlace portions (plain_form xs) (plain_form (take i xs)) (plain_form (drop (i + 1) xs)) place (token_view (get_or xs i d))) b
    → IsLeast (AmongFirst portions (plain_form xs) (i + 1)) r
form_more portions xs i d place a b r lt at is all one =
    let long : length (plain_form (take i xs)) ≡ i = length-map (take i xs) token_view ∙ length-take-le i xs (omega (arith, lt)) in
    among_more portions (plain_form xs) i (plain_form (take i xs)) (plain_form (drop (i + 1) xs)) place (token_view (get_or xs i d)) a b r (form_split xs i d lt) long at is all one

form_push : (xs : List Token) (i : ℕ) (d : Token) → i < length xs → plain_form (take i xs) ++ token_view (get_or xs i d) ∷ [] ≡ plain_form (take (i + 1) xs)
form_push xs i d lt = sym (map-append token_view (take i xs) (get_or xs i d ∷ [])) ∙ ap plain_form (sym (take_more xs i d lt))

pub place_more : (portions : List PlainPortion) (xs : List Token) (i : ℕ) (d : Token) (place next : Place) → i < length xs → IsPlaceBehind portions (plain_form (take i xs)) place
    → Follows portions place (token_view (get_or xs i d)) next → IsPlaceBehind portions (plain_form (take (i + 1) xs)) next
place_more portions xs i d place next lt at follows = subst (λ ts. IsPlaceBehind portions ts next) (form_push xs i d lt) (behind_one_more at follows)

pub binders_more : (portions : List PlainPortion) (xs : List Token) (i : ℕ) (d : Token) (bs : List (List ℕ)) → i < length xs
    → AreBinders portions (plain_form (take i xs) ++ token_view (get_or xs i d) ∷ []) bs → AreBinders portions (plain_form (take (i + 1) xs)) bs
binders_more portions xs i d bs lt are = subst (λ ts. AreBinders portions ts bs) (form_push xs i d lt) are

pub split_near : (form front : List PlainToken) (t : PlainToken) (rest : List PlainToken) → form ≡ front ++ t ∷ rest → length front < length form
split_near form front t rest split =
    let long : length form ≡ length front + length (t ∷ rest) = ap length split ∙ length-append front (t ∷ rest) in
    omega (arith, long)

-- all tokens were looked at
pub form_whole : (portions : List PlainPortion) (xs : List Token) (i : ℕ) (r : Option LentFault) → length xs ≤ i → IsLeast (AmongFirst portions (plain_form xs) i) r → IsLeast (TokensOf portions (plain_form xs)) r
form_whole portions xs i r le all = found_same at_token lent_words (AmongFirst portions (plain_form xs) i) (TokensOf portions (plain_form xs)) r
    (λ o s d x. record { front = x.front; rest = x.rest; place = x.place; split = x.split; is_place = x.is_place; near = split_near (plain_form xs) x.front s x.rest x.split; fault = x.fault })
    (λ o s d x.
    let long : length (plain_form xs) ≡ length xs = length-map xs token_view in
    record { front = x.front; rest = x.rest; place = x.place; split = x.split; is_place = x.is_place; near = omega (arith, x.near, long, le); fault = x.fault })
    all

-- ---- words in brackets

pub pushed : {X : Type 0} (f : X → List ℕ) (old new : List X) (x : X) (text : List ℕ) → new ≡ old ++ x ∷ [] → f x ≡ text → text ∷ reverse (map f old) ≡ reverse (map f new)
pushed f old new x text e same =
    sym (ap (λ xs. reverse (map f xs)) e ∙ ap reverse (map-append f old (x ∷ [])) ∙ reverse-append (map f old) (f x ∷ []) ∙ ap (λ t. t ∷ reverse (map f old)) same)

pub emptied : {X : Type 0} (f : X → List ℕ) (items : List X) → items ≡ [] → [] ≡ reverse (map f items)
emptied f items e = sym (ap (λ xs. reverse (map f xs)) e)

pub wrong_word : {K A B : Type 0} (r : Bool) → K → A → (IsTrue r ↔ B) → IsTrue r ↔ ((K → ⊥) ⊎ (A → ⊥) ⊎ (K × B))
wrong_word r k a is = (
  (λ t. inr (inr (k, is.0 t))),
  (λ w. elim w [ inl n ↦ absurd (n k) | inr v ↦ elim v [ inl m ↦ absurd (m a) | inr b ↦ is.1 b.1 ] ]),
)

pub wrong_by_binders : {K A C B : Type 0} (r : Bool) → (A ↔ C) → (IsTrue r ↔ (K ⊎ (A → ⊥) ⊎ B)) → IsTrue r ↔ (K ⊎ (C → ⊥) ⊎ B)
wrong_by_binders r same is = (
  (λ t. elim (is.0 t) [ inl k ↦ inl k | inr v ↦ elim v [ inl m ↦ inr (inl (λ c. m (same.1 c))) | inr b ↦ inr (inr b) ] ]),
  (λ w. elim w [ inl k ↦ is.1 (inl k) | inr v ↦ elim v [ inl m ↦ is.1 (inr (inl (λ a. m (same.0 a)))) | inr b ↦ is.1 (inr (inr b)) ] ]),
)

pub never_wrong : (portions : List PlainPortion) (form rest : List PlainToken) (t : PlainToken) → IsTrue false ↔ IsWrongAt portions form rest outside t
never_wrong portions form rest t = ((λ h. (let never : false ≡ true = h in cc)), (λ w. absurd w))

-- the same, where what is behind the token is given
pub form_more_rest : (portions : List PlainPortion) (xs : List Token) (i : ℕ) (d : Token) (place : Place) (rest : List Token) (a b r : Option LentFault) → i < length xs → rest ≡ drop (i + 1) xs
    → IsPlaceBehind portions (plain_form (take i xs)) place → IsEarlierOf a b r → IsLeast (AmongFirst portions (plain_form xs) i) a
    → IsLeast (AtPlace portions (plain_form xs) (plain_form (take i xs)) (plain_form rest) place (token_view (get_or xs i d))) b
    → IsLeast (AmongFirst portions (plain_form xs) (i + 1)) r
form_more_rest portions xs i d place rest a b r lt same at is all one =
    form_more portions xs i d place a b r lt at is all
    (subst (λ ts. IsLeast (AtPlace portions (plain_form xs) (plain_form (take i xs)) (plain_form ts) place (token_view (get_or xs i d))) b) same one)
