-- A name of a production that begins its line, with `::=` behind it on that line, is the name of the next category.
use Rattle.std.proofs.Common.{◌≡◌, inl, inr, Bool, true, false, not, if◌then◌else◌, ◌||◌, ◌&&◌, List, [], ◌∷◌, ◌++◌, refl, sym, ◌∙◌, ap, subst}
use Rattle.proof_lexer.specs.declared.token.Token.{Token}
use Rattle.outline_reader.specs.declared.machine.Awaited.{Awaited}
use Rattle.outline_reader.specs.declared.machine.Seen.{Seen}
use Rattle.outline_reader.specs.declared.sort.Sort.TheVariants as s
use Rattle.outline_reader.specs.declared.symbols.Place.{Place}
use Rattle.outline_reader.specs.declared.symbols.Place.TheVariants as place
use Rattle.outline_reader.specs.declared.symbols.Class.{Class}
use Rattle.outline_reader.specs.declared.symbols.Role.{Role}
use Rattle.outline_reader.specs.declared.symbols.Role.TheVariants as role
use Rattle.outline_reader.specs.declared.symbols.Phrase.{Phrase}
use Rattle.outline_reader.specs.declared.symbols.Phrase.TheVariants as p
use Rattle.outline_reader.specs.declared.symbols.Symbol.{Symbol}
use Rattle.outline_reader.specs.declared.symbols.Symbol.TheVariants.{One, Choice}
use Rattle.outline_reader.specs.Grammar.{Alternative, alternatives}
use Rattle.outline_reader.specs.Derives as d
use Rattle.outline_reader.specs.Derives.{Derives, Mark, IsOneOf, same_sort, has, fits, stands, seen, whole}
use Rattle.outline_reader.specs.Fields.{same_role}
use Rattle.outline_reader.specs.Outline.{IsOutlined}
use Rattle.outline_reader.specs.Portions.{names_category}
use Rattle.outline_reader.proofs.Truth.{and_left, and_right, either, where_true}
use Rattle.outline_reader.proofs.OrderLemmas.{is_sort}
use Rattle.outline_reader.proofs.WritingLemmas.{then_come, symbols, symbols_opened, marked_roles}
use Rattle.outline_reader.proofs.FilledLemmas.{every, every_one, every_append}
use Rattle.outline_reader.proofs.FollowLemmas.{is_listed, is_role, no_true, top, listy, lists, right, opens, whole_right}

-- the token stands in a list, is a name and begins its line
unfoldable pub starts_name : Role → Seen → Bool
starts_name one token = is_listed one && (same_sort token.sort s.Name && token.begins)

-- `::=` comes first, on the line of the token before
unfoldable pub defines : List Seen → Bool
defines [] = false
defines (one ∷ tokens) = same_sort one.sort s.Define && not one.begins

unfoldable pub Breaks : List Role → List Seen → Type 0
Breaks [] tokens = Unit {0}
Breaks (one ∷ roles) [] = Unit {0}
Breaks (one ∷ roles) (token ∷ tokens) = (starts_name one token ≡ true → defines tokens ≡ true → names_category roles ≡ true) × Breaks roles tokens

abbrev defining : Seen
defining = record { sort = s.Define; begins = false }

is_defining : (one : Seen) → same_sort one.sort s.Define ≡ true → not one.begins ≡ true → one ≡ defining
is_defining one sorted goes_on = λ i. record { sort = is_sort one.sort s.Define sorted i; begins = no_line one.begins goes_on i }
  where
    no_line : (b : Bool) → not b ≡ true → b ≡ false
    no_line true h = no_true h
    no_line false h = refl

-- ---- what is seen of the table alone

is_next : Place → Bool
is_next place.Next = true
is_next _ = false

after_only : List Symbol → Bool
after_only (Choice p.AfterLineName ∷ []) = true
after_only _ = false

item_alternative : Phrase → Alternative → Bool
item_alternative phrase a = not (is_listed a.2) || (is_next a.0 || (not (has a.1 s.Name) || (after_only (then_come phrase a.3) && lists phrase)))

item_symbol : Symbol → Bool
item_symbol (One place class one) = not (is_listed one) || is_next place
item_symbol (Choice phrase) = true

items_ok : Phrase → Bool
items_ok phrase = every (item_alternative phrase) (alternatives phrase)

symbols_ok : Phrase → Bool
symbols_ok phrase = every (λ a. every item_symbol (then_come phrase a.3)) (alternatives phrase)

top_ok : Phrase → Bool
top_ok phrase = if top (Choice phrase) then every (λ a. not (fits a.0 a.1 defining)) (alternatives phrase) else true

items_table : (phrase : Phrase) → items_ok phrase ≡ true
unfolding items_ok item_alternative is_next is_listed after_only lists listy every
items_table p.Parts = refl
items_table _ = refl

symbols_table : (phrase : Phrase) → symbols_ok phrase ≡ true
unfolding symbols_ok item_symbol is_next is_listed every
symbols_table p.Parts = refl
symbols_table _ = refl

top_table : (phrase : Phrase) → top_ok phrase ≡ true
unfolding top_ok top every
top_table p.Parts = refl
top_table _ = refl

after_table : every (λ (a : Alternative). same_role a.2 role.NewCategory || not (fits a.0 a.1 defining)) (alternatives p.AfterLineName) ≡ true
unfolding every
after_table = refl

items_begun : (phrase : Phrase) (chosen : Alternative) → IsOneOf chosen (alternatives phrase) → item_alternative phrase chosen ≡ true
unfolding items_ok
items_begun phrase chosen is_one = every_one (item_alternative phrase) is_one (items_table phrase)

symbols_begun : (phrase : Phrase) (chosen : Alternative) → IsOneOf chosen (alternatives phrase) → every item_symbol (then_come phrase chosen.3) ≡ true
unfolding symbols_ok
symbols_begun phrase chosen is_one = every_one (λ a. every item_symbol (then_come phrase a.3)) is_one (symbols_table phrase)

top_begun : (phrase : Phrase) (chosen : Alternative) → IsOneOf chosen (alternatives phrase) → top (Choice phrase) ≡ true → not (fits chosen.0 chosen.1 defining) ≡ true
unfolding top_ok
top_begun phrase chosen is_one h =
    every_one (λ a. not (fits a.0 a.1 defining)) is_one (where_true (top (Choice phrase)) (every (λ (a : Alternative). not (fits a.0 a.1 defining)) (alternatives phrase)) (top_table phrase) h)

-- ---- what is derived

misfit : {A : Type 0} (b : Bool) → not b ≡ true → b ≡ true → A
misfit true h is = no_true h
misfit false h is = no_true is

-- nothing at the top of a file begins with such a sign
no_top : {awaited : List Awaited} {one : Seen} {tokens : List Seen} {marks : List Mark} → Derives awaited (one ∷ tokens) marks → every top (symbols awaited) ≡ true → one ≡ defining → ⊥
unfolding every top
no_top (d.token within place class other rest one more marks fit derived) tops is = no_true (and_left false (every top (symbols rest)) tops)
no_top (d.alternative within phrase rest place class other what one more marks is_one fit derived) tops is =
    misfit (fits place class defining) (top_begun phrase (place, class, other, what) is_one (and_left (top (Choice phrase)) (every top (symbols rest)) tops)) (ap (fits place class) (sym is) ∙ fit)
no_top (d.left_out within phrase rest more marks optional derived) tops is = no_top derived (and_right (top (Choice phrase)) (every top (symbols rest)) tops) is

after_first : List Symbol → Bool
after_first (Choice p.AfterLineName ∷ rest) = every top rest
after_first _ = false

named : (one : Role) (roles : List Role) → same_role one role.NewCategory ≡ true → names_category (one ∷ roles) ≡ true
named one roles same = ap (λ r. names_category (r ∷ roles)) (is_role one role.NewCategory same)

after_name : {awaited : List Awaited} {one : Seen} {tokens : List Seen} {marks : List Mark} → Derives awaited (one ∷ tokens) marks → after_first (symbols awaited) ≡ true → one ≡ defining →
    names_category (marked_roles marks) ≡ true
unfolding after_first
after_name (d.token within place class other rest one more marks fit derived) after is = no_true after
after_name (d.alternative within p.AfterLineName rest place class other what one more marks is_one fit derived) after is =
    elim (either (same_role other role.NewCategory) (not (fits place class defining)) (every_one (λ a. same_role a.2 role.NewCategory || not (fits a.0 a.1 defining)) is_one after_table)) [
      | inl new ↦ named other (marked_roles marks) new
      | inr misfits ↦ misfit (fits place class defining) misfits (ap (fits place class) (sym is) ∙ fit)
    ]
after_name (d.alternative within _ rest place class other what one more marks is_one fit derived) after is = no_true after
after_name (d.left_out within p.AfterLineName rest more marks optional derived) after is = absurd (no_top derived after is)
after_name (d.left_out within _ rest more marks optional derived) after is = no_true after

after_more : (awaited : List Awaited) (more : List Seen) (marks : List Mark) → Derives awaited more marks → after_first (symbols awaited) ≡ true → defines more ≡ true → names_category (marked_roles marks) ≡ true
unfolding defines
after_more awaited [] marks derived after is = no_true is
after_more awaited (one ∷ more) marks derived after is =
    after_name derived after (is_defining one (and_left (same_sort one.sort s.Define) (not one.begins) is) (and_right (same_sort one.sort s.Define) (not one.begins) is))

after_append : (front rest : List Symbol) → after_only front ≡ true → every top rest ≡ true → after_first (front ++ rest) ≡ true
unfolding after_only after_first
after_append [] rest only tops = no_true only
after_append (One place class one ∷ front) rest only tops = no_true only
after_append (Choice p.AfterLineName ∷ []) rest only tops = tops
after_append (Choice p.AfterLineName ∷ next ∷ front) rest only tops = no_true only
after_append (Choice _ ∷ front) rest only tops = no_true only

-- a token that goes on its line does not begin it
goes_on : {A : Type 0} (place : Place) (class : Class) (one : Seen) → is_next place ≡ true → fits place class one ≡ true → one.begins ≡ true → A
unfolding is_next
goes_on place.Next class one next fit begins = misfit one.begins (and_left (not one.begins) (has class one.sort) fit) begins
goes_on _ class one next fit begins = no_true next

if_item : (asked given : Bool) → (not asked || given) ≡ true → asked ≡ true → given ≡ true
if_item true given h is = h
if_item false given h is = no_true is

breaks : {awaited : List Awaited} {tokens : List Seen} {marks : List Mark} → Derives awaited tokens marks → right (symbols awaited) ≡ true → every item_symbol (symbols awaited) ≡ true → Breaks (marked_roles marks) tokens
unfolding Breaks starts_name right every item_symbol item_alternative
breaks d.here ok items = tt
breaks (d.token within place class one rest token more marks fit derived) ok items = (
  (λ starts defined.
      let is_item = and_left (is_listed one) (same_sort token.sort s.Name && token.begins) starts in
      let begins = and_right (same_sort token.sort s.Name) token.begins (and_right (is_listed one) (same_sort token.sort s.Name && token.begins) starts) in
      goes_on place class token (if_item (is_listed one) (is_next place) (and_left (item_symbol (One place class one)) (every item_symbol (symbols rest)) items) is_item) fit begins),
  breaks derived (and_right _ (right (symbols rest)) ok) (and_right (item_symbol (One place class one)) (every item_symbol (symbols rest)) items),
)
breaks (d.alternative within phrase rest place class one what token more marks is_one fit derived) ok items =
    let chosen : Alternative = (place, class, one, what) in
    let below = and_left (if lists phrase then every top (symbols rest) else true) (right (symbols rest)) ok in
    let same = symbols_opened within phrase what rest in
    let opened = opens phrase (symbols rest) chosen is_one below (and_right (if lists phrase then every top (symbols rest) else true) (right (symbols rest)) ok) in (
      (λ starts defined.
          let is_item = and_left (is_listed one) (same_sort token.sort s.Name && token.begins) starts in
          let seen_so = and_right (is_listed one) (same_sort token.sort s.Name && token.begins) starts in
          let begins = and_right (same_sort token.sort s.Name) token.begins seen_so in
          let is_name = is_sort token.sort s.Name (and_left (same_sort token.sort s.Name) token.begins seen_so) in
          let how = if_item (is_listed one) _ (items_begun phrase chosen is_one) is_item in
          elim (either (is_next place) _ how) [
            | inl next ↦ goes_on place class token next fit begins
            | inr other ↦ elim (either (not (has class s.Name)) _ other) [
              | inl no_name ↦ misfit (has class s.Name) no_name (ap (has class) (sym is_name) ∙ and_right (stands place token.begins) (has class token.sort) fit)
              | inr after ↦
                  after_more _ more marks derived
                  (ap after_first same
                  ∙ after_append (then_come phrase what) (symbols rest) (and_left (after_only (then_come phrase what)) (lists phrase) after)
                  (where_true (lists phrase) (every top (symbols rest)) below (and_right (after_only (then_come phrase what)) (lists phrase) after)))
                  defined
            ]
          ]),
      breaks derived (ap right same ∙ opened.1)
          (ap (every item_symbol) same ∙ every_append item_symbol (then_come phrase what) (symbols rest) (symbols_begun phrase chosen is_one) (and_right (item_symbol (Choice phrase)) (every item_symbol (symbols rest)) items)),
    )
breaks (d.left_out within phrase rest more marks optional derived) ok items =
    breaks derived (and_right (if lists phrase then every top (symbols rest) else true) (right (symbols rest)) ok) (and_right (item_symbol (Choice phrase)) (every item_symbol (symbols rest)) items)

whole_items : every item_symbol (symbols whole) ≡ true
unfolding every item_symbol
whole_items = refl

pub outlined_breaks : (tokens : List Token) (roles : List Role) → IsOutlined tokens roles → Breaks roles (seen tokens)
outlined_breaks tokens roles is = subst (λ (rs : List Role). Breaks rs (seen tokens)) (sym is.2) (breaks is.1 whole_right whole_items)
