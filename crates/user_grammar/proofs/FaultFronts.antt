-- The rule on categories of contexts, by its parts.
use Rattle.std.proofs.Common.{◌≡◌, ◌↔◌, ◌⊎◌, ◌<◌, ◌≤◌, ◌+◌, ℕ, suc, Bool, true, false, IsTrue, List, [], ◌∷◌, length, get_or, take, drop, None, Some, refl, ap, ◌∙◌, sym, arith}
use Rattle.std.proofs.lemmas.List.{length-map, length-take-le}
use Rattle.std.specs.List.{AllByRecursion}
use Rattle.sy_base.specs.Tokens.{PlainToken}
use Rattle.proof_lexer.specs.View.{token_view}
use Rattle.proof_lexer.specs.declared.token.Token.{Token}
use Rattle.outline_reader.specs.Plain.{PlainPortion, plain_form}
use Rattle.sy_base.specs.FirstFault.{at_token, IsFoundAt as IsThere}
use Rattle.user_grammar.specs.File.{WrittenCategory, assumed, categories}
use Rattle.user_grammar.specs.Names.{IsAmong}
use Rattle.user_grammar.specs.Finding.{IsLeast, lent_words, LentFault}
use Rattle.user_grammar.specs.FindingPlaces.{IsBadContext, BadContextOf}
use Rattle.sy_base.specs.declared.fault.Code.TheVariants.{BadContext}
use Rattle.user_grammar.specs.Fault.{Place, IsOutside, IsPlaceBehind, IsWordOf, DeclaresVariable, IsEmptyForm, IsEntryForm, IsOnlyInFront, IsContextCategory}
use Rattle.user_grammar.specs.FindingContexts.{One, AllPoints, IsInFront, KeepsFront}
use Rattle.user_grammar.proofs.FaultContexts.{one_exactly, exactly_one}
use Rattle.sy_base.proofs.FirstLemmas.{found_one, none_found}
use Rattle.user_grammar.proofs.Tests.{refused}
use Rattle.user_grammar.proofs.FaultPoints.{every_point}
use Rattle.user_grammar.proofs.FaultTokens.{form_split, split_near}
use Rattle.binding_terms.proofs.Lists.{all_contained, all_from}

pub never : {P : Type 0} → (P → ⊥) → IsTrue false ↔ P
never none = ((λ t. (let wrong : false ≡ true = t in cc)), (λ p. absurd (none p)))

pub always : {P : Type 0} → P → IsTrue true ↔ P
always p = ((λ t. p), (λ q. refl))

module _ (portions : List PlainPortion) (written other : WrittenCategory) where
  pub no_word_is_kept : (front : List PlainToken) (place : Place) (token : PlainToken) (r : Bool) → (IsTrue r ↔ IsWordOf portions written token) → r ≡ false
      → IsTrue true ↔ IsInFront portions written other front place token
  no_word_is_kept front place token r is none = always (λ out word. absurd (refused r is none word))

  empty_front : (front : List PlainToken) → length front ≡ 0 → front ≡ []
  empty_front [] long = refl
  empty_front (t ∷ front) long = absurd (let wrong : suc (length front) ≡ 0 = long in omega (arith, wrong))

  pub slot_is_kept : (front : List PlainToken) (place : Place) (token : PlainToken) (n : ℕ) (r : Bool) → length front ≡ n → IsOutside place token → IsWordOf portions written token
      → (IsTrue r ↔ ((other.name.text ≡ written.name.text) × (n ≡ 0))) → IsTrue r ↔ IsInFront portions written other front place token
  slot_is_kept front place token n r long out word is = (
    (λ t out_too word_too. (let both = is.0 t in (both.0, empty_front front (long ∙ both.1)))),
    (λ kept. (let both = kept out word in is.1 (both.0, sym long ∙ ap length both.1))),
  )

  pub kept_of_form : (xs : List Token) (i : ℕ) → length xs ≤ i → AllPoints portions (IsInFront portions written other) (plain_form xs) i
      → IsTrue true ↔ AllPoints portions (IsInFront portions written other) (plain_form xs) (length (plain_form xs))
  kept_of_form xs i le all =
      always (record { all = λ front rest place token split at near. every_point portions (IsInFront portions written other) xs i le all front rest place token split at })

  pub not_kept : (xs : List Token) (i : ℕ) (d : Token) (place : Place) → i < length xs → IsPlaceBehind portions (plain_form (take i xs)) place
      → (IsInFront portions written other (plain_form (take i xs)) place (token_view (get_or xs i d)) → ⊥)
      → IsTrue false ↔ AllPoints portions (IsInFront portions written other) (plain_form xs) (length (plain_form xs))
  not_kept xs i d place lt at fails =
      let front = plain_form (take i xs) in
      let rest = plain_form (drop (i + 1) xs) in
      let split = form_split xs i d lt in
      never (λ all. fails (all.all front rest place (token_view (get_or xs i d)) split at (split_near (plain_form xs) front (token_view (get_or xs i d)) rest split)))

pub front_length : (xs : List Token) (i : ℕ) → i < length xs → length (plain_form (take i xs)) ≡ i
front_length xs i lt = length-map (take i xs) token_view ∙ length-take-le i xs (omega (arith, lt))

pub only_in_front_is : (portions : List PlainPortion) (written : WrittenCategory) → AllByRecursion (KeepsFront portions written) (categories portions) ↔ IsOnlyInFront portions written
only_in_front_is portions written = (
  (λ all other form token at among stands word. (
      let keeps = all_contained (KeepsFront portions written) (categories portions) other all at in
      let points = all_contained (λ form. AllPoints portions (IsInFront portions written other) form (length form)) other.forms form keeps among in
      points.all stands.stands.front stands.stands.rest stands.place token stands.stands.split stands.stands.is_place
      (split_near form stands.stands.front token stands.stands.rest stands.stands.split) stands.is_outside word
      )),
  (λ only. all_from (KeepsFront portions written) (categories portions)
      (λ other at. all_from (λ form. AllPoints portions (IsInFront portions written other) form (length form)) other.forms
      (λ form among. record {
        all = λ front rest place token split is_place near out word.
            only other form token at among (record { place = place; stands = record { front = front; rest = rest; split = split; is_place = is_place }; is_outside = out }) word;
      }))),
)

-- ---- the rule as a whole

module _ (portions : List PlainPortion) (written : WrittenCategory) where
  pub a_variable_breaks : (r : Bool) → (IsTrue r ↔ AllByRecursion (λ form. DeclaresVariable portions form → ⊥) written.forms) → r ≡ false → IsTrue false ↔ IsContextCategory portions written
  a_variable_breaks r is none = never (λ rule. refused r is none rule.no_variable)

  pub empty_forms_break : (r : Bool) → (IsTrue r ↔ One (IsEmptyForm portions) written.forms) → r ≡ false → IsTrue false ↔ IsContextCategory portions written
  empty_forms_break r is none = never (λ rule. refused r is none (exactly_one (IsEmptyForm portions) written.forms rule.empty_form))

  pub another_form_breaks : (r : Bool) → (IsTrue r ↔ AllByRecursion (λ form. IsEmptyForm portions form ⊎ IsEntryForm portions written form) written.forms) → r ≡ false
      → IsTrue false ↔ IsContextCategory portions written
  another_form_breaks r is none = never (λ rule. refused r is none rule.others)

  pub rule_is : (r : Bool) → AllByRecursion (λ form. DeclaresVariable portions form → ⊥) written.forms → One (IsEmptyForm portions) written.forms
      → AllByRecursion (λ form. IsEmptyForm portions form ⊎ IsEntryForm portions written form) written.forms → (IsTrue r ↔ IsOnlyInFront portions written)
      → IsTrue r ↔ IsContextCategory portions written
  rule_is r no_variables one others is = (
    (λ t. record { no_variable = no_variables; empty_form = one_exactly (IsEmptyForm portions) written.forms one; others = others; only_in_front = is.0 t }),
    (λ rule. is.1 rule.only_in_front),
  )

pub only_by_all : (portions : List PlainPortion) (written : WrittenCategory) (r : Bool) → (IsTrue r ↔ AllByRecursion (KeepsFront portions written) (categories portions))
    → IsTrue r ↔ IsOnlyInFront portions written
only_by_all portions written r is =
    let only = only_in_front_is portions written in ((λ t. only.0 (is.0 t)), (λ o. is.1 (only.1 o)))

-- ---- what is found of a category

module _ (portions : List PlainPortion) (written : WrittenCategory) where
  pub not_assumed : (r : Bool) → (IsTrue r ↔ IsAmong (assumed portions) written.name.text) → r ≡ false → IsLeast (BadContextOf portions written) None
  not_assumed r is none = none_found at_token lent_words (BadContextOf portions written) (λ o t d x. refused r is none x.2.assumed)

  pub rule_kept : IsContextCategory portions written → IsLeast (BadContextOf portions written) None
  rule_kept keeps = none_found at_token lent_words (BadContextOf portions written) (λ o t d x. x.2.breaks keeps)

  pub rule_broken : (f : LentFault) → IsThere at_token lent_words BadContext written.mark written.name.text f
      → IsAmong (assumed portions) written.name.text → (IsContextCategory portions written → ⊥) → IsLeast (BadContextOf portions written) (Some f)
  rule_broken f found among breaks =
      found_one at_token lent_words BadContext (λ one. written.name.text) (IsBadContext portions written) written.mark f found (record { marked = refl; assumed = among; breaks = breaks }) (λ s y. y.marked)
