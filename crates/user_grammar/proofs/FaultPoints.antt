-- What is so of each token of a form, by its place.
use Rattle.std.proofs.Common.{◌≡◌, ◌↔◌, true, false, IsTrue, ◌<◌, ◌≤◌, ◌+◌, ◌++◌, ℕ, List, ◌∷◌, length, get_or, take, drop, refl, ◌∙◌, sym, subst, inl, inr, arith}
use Rattle.std.proofs.lemmas.List.{length-map, length-take-le}
use Rattle.sy_base.specs.Tokens.{PlainToken}
use Rattle.proof_lexer.specs.View.{token_view}
use Rattle.proof_lexer.specs.declared.token.Token.{Token}
use Rattle.outline_reader.specs.Plain.{PlainPortion, plain_form}
use Rattle.user_grammar.specs.Fault.{Place, outside, behind_slot, before_word, behind_word, IsPlaceBehind, HasNoBrackets}
use Rattle.user_grammar.specs.FindingContexts.{AllPoints, OpensAt, OpensNone}
use Rattle.user_grammar.proofs.FaultPlaces.{place_once}
use Rattle.user_grammar.proofs.FaultTokens.{less_or_same, form_split, split_near}
use Rattle.binding_terms.proofs.Lists.{same_split_behind}

module _ (portions : List PlainPortion) (Q : List PlainToken → Place → PlainToken → Type 0) where
  pub no_points : (form : List PlainToken) → AllPoints portions Q form 0
  no_points form = record { all = λ front rest place token split at near. absurd (omega (arith, near)) }

  points_more : (form : List PlainToken) (n : ℕ) (front rest : List PlainToken) (place : Place) (t : PlainToken) → form ≡ front ++ t ∷ rest → length front ≡ n → IsPlaceBehind portions front place
      → Q front place t → AllPoints portions Q form n → AllPoints portions Q form (n + 1)
  points_more form n front rest place t split len at is all = record {
    all = λ own more q s split' at' near. elim (less_or_same (length own) n near) [
      | inl lt ↦ all.all own more q s split' at' lt
      | inr e ↦ (
          let same = same_split_behind front t rest own s more (e ∙ sym len) (sym split ∙ split') in
          let where_is : q ≡ place = place_once portions (subst (λ ts. IsPlaceBehind portions ts q) same.0 at') at in
          subst (λ f. Q f q s) (sym same.0) (subst (λ p. Q front p s) (sym where_is) (subst (Q front place) (sym same.1) is))
          )
    ];
  }

  -- one token more of a form
  pub form_points_more : (xs : List Token) (i : ℕ) (d : Token) (place : Place) → i < length xs → IsPlaceBehind portions (plain_form (take i xs)) place
      → Q (plain_form (take i xs)) place (token_view (get_or xs i d)) → AllPoints portions Q (plain_form xs) i → AllPoints portions Q (plain_form xs) (i + 1)
  form_points_more xs i d place lt at is all =
      let long : length (plain_form (take i xs)) ≡ i = length-map (take i xs) token_view ∙ length-take-le i xs (omega (arith, lt)) in
      points_more (plain_form xs) i (plain_form (take i xs)) (plain_form (drop (i + 1) xs)) place (token_view (get_or xs i d)) (form_split xs i d lt) long at is all

  -- all tokens of a form
  pub every_point : (xs : List Token) (i : ℕ) → length xs ≤ i → AllPoints portions Q (plain_form xs) i → (front rest : List PlainToken) (place : Place) (t : PlainToken) → plain_form xs ≡ front ++ t ∷ rest
      → IsPlaceBehind portions front place → Q front place t
  every_point xs i le all front rest place t split at =
      let long : length (plain_form xs) ≡ length xs = length-map xs token_view in
      all.all front rest place t split at (omega (arith, split_near (plain_form xs) front t rest split, long, le))

module _ (portions : List PlainPortion) where
  pub no_brackets : (xs : List Token) (i : ℕ) → length xs ≤ i → AllPoints portions OpensNone (plain_form xs) i → HasNoBrackets portions (plain_form xs)
  no_brackets xs i le all named t stands mark = every_point portions OpensNone xs i le all stands.front stands.rest (behind_slot named) t stands.split stands.is_place mark

  opened : (form front rest : List PlainToken) (place : Place) (t : PlainToken) → form ≡ front ++ t ∷ rest → IsPlaceBehind portions front place → OpensAt place t → HasNoBrackets portions form → ⊥
  opened form front rest outside t split at opens none = opens
  opened form front rest (behind_slot named) t split at opens none = none named t (record { front = front; rest = rest; split = split; is_place = at }) opens
  opened form front rest (before_word named) t split at opens none = opens
  opened form front rest (behind_word named) t split at opens none = opens

  pub some_brackets : (xs : List Token) (i : ℕ) (d : Token) (place : Place) → i < length xs → IsPlaceBehind portions (plain_form (take i xs)) place → OpensAt place (token_view (get_or xs i d))
      → HasNoBrackets portions (plain_form xs) → ⊥
  some_brackets xs i d place lt at opens none =
      opened (plain_form xs) (plain_form (take i xs)) (plain_form (drop (i + 1) xs)) place (token_view (get_or xs i d)) (form_split xs i d lt) at opens none

  pub brackets_refused : (xs : List Token) (i : ℕ) (d : Token) (place : Place) → i < length xs → IsPlaceBehind portions (plain_form (take i xs)) place → OpensAt place (token_view (get_or xs i d))
      → IsTrue false ↔ HasNoBrackets portions (plain_form xs)
  brackets_refused xs i d place lt at opens = ((λ t. (let never : false ≡ true = t in cc)), (λ none. absurd (some_brackets xs i d place lt at opens none)))

  pub brackets_none : (xs : List Token) (i : ℕ) → length xs ≤ i → AllPoints portions OpensNone (plain_form xs) i → IsTrue true ↔ HasNoBrackets portions (plain_form xs)
  brackets_none xs i le all = ((λ t. no_brackets xs i le all), (λ none. refl))
