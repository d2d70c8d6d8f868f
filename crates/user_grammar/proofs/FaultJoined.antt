-- The faults of a grammar are those that are looked for.
use Rattle.std.proofs.Common.{◌≡◌, ◌⊎◌, ◌++◌, ℕ, List, [], ◌∷◌, refl, subst, inl, inr}
use Rattle.std.specs.List.{Contains}
use Rattle.sy_base.specs.Tokens.{PlainToken}
use Rattle.sy_base.specs.declared.fault.Code.{Code}
use Rattle.sy_base.specs.declared.fault.Code.TheVariants as code
use Rattle.outline_reader.specs.Plain.{PlainPortion}
use Rattle.user_grammar.specs.File.{WrittenCategory, categories}
use Rattle.user_grammar.specs.Fault.{Place, outside, behind_slot, before_word, behind_word, IsPlaceBehind, IsFault, duplicate, empty_production, single_category, unknown_word, unknown_context, bad_binder, binder_twice, bad_context, IsWrongInBrackets, no_word, no_binder, again, no_comma, not_closed, StandsAt}
use Rattle.sy_base.specs.FirstFault.{OfSome}
use Rattle.user_grammar.specs.Finding.{ShortOf, SingleOf, UnknownContexts}
use Rattle.user_grammar.specs.FindingPlaces.{IsWrongAt, HasCode, unknown, wrong, twice, TokensOf, InProductions, ButContexts, BadContextOf}
use Rattle.user_grammar.proofs.FaultTokens.{split_near}
use Rattle.binding_terms.proofs.Lists.{any_contained, contained_any}

module _ (portions : List PlainPortion) where
  wrong_by_place : (form front rest : List PlainToken) (place : Place) (t : PlainToken) → form ≡ front ++ t ∷ rest → IsPlaceBehind portions front place → IsWrongAt portions form rest place t
      → IsWrongInBrackets portions form t
  wrong_by_place form front rest outside t split at w = absurd w
  wrong_by_place form front rest (behind_slot named) t split at w = not_closed named (record { front = front; rest = rest; split = split; is_place = at }) w.0 w.1
  wrong_by_place form front rest (before_word named) t split at w =
      let stands : StandsAt portions form (before_word named) t = record { front = front; rest = rest; split = split; is_place = at } in
      elim w [ inl k ↦ no_word named stands k | inr v ↦ elim v [ inl none ↦ no_binder named stands none | inr b ↦ again named stands b.0 b.1 ] ]
  wrong_by_place form front rest (behind_word named) t split at w = no_comma named (record { front = front; rest = rest; split = split; is_place = at }) w.0 w.1

  of_code : (written : WrittenCategory) (form front rest : List PlainToken) (place : Place) (t : PlainToken) (c : Code) (d : List ℕ) → Contains (categories portions) written → Contains written.forms form
      → form ≡ front ++ t ∷ rest → IsPlaceBehind portions front place → d ≡ t.text → HasCode portions form front rest place t c → IsFault portions c t d
  of_code written form front rest place t c d in_file in_category split at detail (unknown e out no_slot no_binder' no_terminal) = unknown_word written form e detail in_file in_category (record {
    stands = record { place = place; stands = record { front = front; rest = rest; split = split; is_place = at }; is_outside = out };
    no_slot = no_slot;
    no_binder = no_binder';
    no_terminal = no_terminal;
  })
  of_code written form front rest place t c d in_file in_category split at detail (wrong e w) = bad_binder written form e detail in_file in_category (wrong_by_place form front rest place t split at w)
  of_code written form front rest place t c d in_file in_category split at detail (twice e out word earlier) = binder_twice written form e detail in_file in_category (record {
    stands = record { place = place; stands = record { front = front; rest = rest; split = split; is_place = at }; is_outside = out };
    is_binder = word;
    earlier = earlier;
  })

  of_short : (written : WrittenCategory) (c : Code) (t : PlainToken) (d : List ℕ) → Contains (categories portions) written → ShortOf portions written c t d → IsFault portions c t d
  of_short written c t d in_file (inl x) =
      let some = contained_any (λ (f : List PlainToken). f ≡ []) written.forms x.2.empty in
      empty_production written x.0 x.1 in_file x.2.is (subst (Contains written.forms) some.2 some.1)
  of_short written c t d in_file (inr x) =
      let some = contained_any (λ f. SingleOf portions written.name.text f c t d) written.forms x.some in
      single_category written some.2.2.rest some.2.0 some.2.1 in_file (subst (Contains written.forms) some.2.2.split some.1) some.2.2.one

  of_tokens : (c : Code) (t : PlainToken) (d : List ℕ) → InProductions portions c t d → IsFault portions c t d
  of_tokens c t d x =
      let one = contained_any (λ (w : WrittenCategory). OfSome (TokensOf portions) w.forms c t d) (categories portions) x.some in
      let form = contained_any (λ f. TokensOf portions f c t d) one.0.forms one.2.some in
      let at = form.2 in
      of_code one.0 form.0 at.front at.rest at.place t c d one.1 form.1 at.split at.is_place at.fault.text at.fault.has

  pub of_those : (c : Code) (t : PlainToken) (d : List ℕ) → ButContexts portions c t d → IsFault portions c t d
  of_those c t d (inl x) = duplicate x.0 x.1 x.2
  of_those c t d (inr (inl x)) =
      let one = contained_any (λ w. ShortOf portions w c t d) (categories portions) x.some in of_short one.0 c t d one.1 one.2
  of_those c t d (inr (inr (inl x))) = of_tokens c t d x
  of_those c t d (inr (inr (inr x))) =
      let one = contained_any (λ p. UnknownContexts portions p c t d) portions x.some in unknown_context one.0 one.2.0 one.2.1 one.1 one.2.2.assumes one.2.2.unknown

  among : (written : WrittenCategory) (form front rest : List PlainToken) (place : Place) (t : PlainToken) (c : Code) (d : List ℕ) → Contains (categories portions) written → Contains written.forms form
      → form ≡ front ++ t ∷ rest → IsPlaceBehind portions front place → d ≡ t.text → HasCode portions form front rest place t c → ButContexts portions c t d
  among written form front rest place t c d in_file in_category split at detail has = inr (inr (inl (record {
    some = any_contained (λ (w : WrittenCategory). OfSome (TokensOf portions) w.forms c t d) (categories portions) written in_file (record {
      some = any_contained (λ f. TokensOf portions f c t d) written.forms form in_category (record {
        front = front;
        rest = rest;
        place = place;
        split = split;
        is_place = at;
        near = split_near form front t rest split;
        fault = record { there = refl; text = detail; has = has };
      });
    });
  })))

  wrong_among : (written : WrittenCategory) (form : List PlainToken) (t : PlainToken) (c : Code) (d : List ℕ) → Contains (categories portions) written → Contains written.forms form
      → c ≡ code.BadBinder → d ≡ t.text → IsWrongInBrackets portions form t → ButContexts portions c t d
  wrong_among written form t c d in_file in_category e detail (no_word named stands k) =
      among written form stands.front stands.rest (before_word named) t c d in_file in_category stands.split stands.is_place detail (wrong e (inl k))
  wrong_among written form t c d in_file in_category e detail (no_binder named stands none) =
      among written form stands.front stands.rest (before_word named) t c d in_file in_category stands.split stands.is_place detail (wrong e (inr (inl none)))
  wrong_among written form t c d in_file in_category e detail (again named stands k is) =
      among written form stands.front stands.rest (before_word named) t c d in_file in_category stands.split stands.is_place detail (wrong e (inr (inr (k, is))))
  wrong_among written form t c d in_file in_category e detail (no_comma named stands a b) =
      among written form stands.front stands.rest (behind_word named) t c d in_file in_category stands.split stands.is_place detail (wrong e (a, b))
  wrong_among written form t c d in_file in_category e detail (not_closed named stands mark none) =
      among written form stands.front stands.rest (behind_slot named) t c d in_file in_category stands.split stands.is_place detail (wrong e (mark, none))

  -- a fault is one of those, or one of a context category
  pub those_or_context : (c : Code) (t : PlainToken) (d : List ℕ) → IsFault portions c t d
      → ButContexts portions c t d ⊎ OfSome (BadContextOf portions) (categories portions) c t d
  those_or_context c t d (duplicate e detail is) = inl (inl (e, detail, is))
  those_or_context c t d (empty_production written e detail in_file same empty) = inl (inr (inl (record {
    some = any_contained (λ w. ShortOf portions w c t d) (categories portions) written in_file
        (inl (e, detail, record { is = same; empty = any_contained (λ (f : List PlainToken). f ≡ []) written.forms [] empty refl }));
  })))
  those_or_context c t d (single_category written rest e detail in_file in_category one) = inl (inr (inl (record {
    some = any_contained (λ w. ShortOf portions w c t d) (categories portions) written in_file (inr (record {
      some = any_contained (λ f. SingleOf portions written.name.text f c t d) written.forms (t ∷ rest) in_category (e, detail, record { rest = rest; split = refl; one = one });
    }));
  })))
  those_or_context c t d (unknown_word written form e detail in_file in_category is) =
      inl (among written form is.stands.stands.front is.stands.stands.rest is.stands.place t c d in_file in_category is.stands.stands.split is.stands.stands.is_place detail
      (unknown e is.stands.is_outside is.no_slot is.no_binder is.no_terminal))
  those_or_context c t d (unknown_context portion e detail in_file assumes none) = inl (inr (inr (inr (record {
    some = any_contained (λ p. UnknownContexts portions p c t d) portions portion in_file (e, detail, record { assumes = assumes; unknown = none });
  }))))
  those_or_context c t d (bad_binder written form e detail in_file in_category is) = inl (wrong_among written form t c d in_file in_category e detail is)
  those_or_context c t d (binder_twice written form e detail in_file in_category is) =
      inl (among written form is.stands.stands.front is.stands.stands.rest is.stands.place t c d in_file in_category is.stands.stands.split is.stands.stands.is_place detail
      (twice e is.stands.is_outside is.is_binder is.earlier))
  those_or_context c t d (bad_context written e detail in_file same is breaks) = inr (record {
    some = any_contained (λ w. BadContextOf portions w c t d) (categories portions) written in_file (e, detail, record { marked = same; assumed = is; breaks = breaks });
  })

  pub of_context : (c : Code) (t : PlainToken) (d : List ℕ) → OfSome (BadContextOf portions) (categories portions) c t d → IsFault portions c t d
  of_context c t d x =
      let one = contained_any (λ w. BadContextOf portions w c t d) (categories portions) x.some in
      bad_context one.0 one.2.0 one.2.1 one.1 one.2.2.marked one.2.2.assumed one.2.2.breaks
