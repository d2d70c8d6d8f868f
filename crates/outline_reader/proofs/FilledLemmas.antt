-- No portion of an outline lacks a token for one of its fields.
use Rattle.std.proofs.Common.{◌≡◌, ◌⊎◌, inl, inr, ◌+◌, Bool, true, false, not, cond, if◌then◌else◌, ◌||◌, ◌&&◌, IsTrue, List, [], ◌∷◌, ◌++◌, take, refl, sym, ◌∙◌, ap, subst, add-one}
use Rattle.std.specs.List.{AllByRecursion}
use Rattle.outline_reader.specs.declared.symbols.Role.{Role}
use Rattle.outline_reader.specs.declared.symbols.Role.TheVariants as role
use Rattle.outline_reader.specs.declared.symbols.Phrase.{Phrase}
use Rattle.outline_reader.specs.declared.symbols.Phrase.TheVariants as p
use Rattle.outline_reader.specs.declared.symbols.Times.{Times}
use Rattle.outline_reader.specs.declared.symbols.Times.TheVariants as times
use Rattle.outline_reader.specs.declared.symbols.Symbol.{Symbol}
use Rattle.outline_reader.specs.declared.symbols.Symbol.TheVariants.{One, Choice}
use Rattle.outline_reader.specs.Grammar.{Alternative, times_of, alternatives}
use Rattle.outline_reader.specs.Derives as d
use Rattle.outline_reader.specs.Derives.{IsOneOf, whole}
use Rattle.outline_reader.specs.Machine.{is_once}
use Rattle.outline_reader.specs.Portions.{begins, names_category, portion_length}
use Rattle.outline_reader.specs.Filled.{Need, a_name, a_kind_word, a_form, an_output, an_argument, a_conclusion, a_justification, a_definition, a_new_definition, is_new_definition, meets, met_in, needs, within_portion, AreFilled}
use Rattle.outline_reader.specs.Laws.{PortionsAreFilled}
use Rattle.outline_reader.proofs.Truth.{and_left, and_right, and_both, or_left, or_right, either, not_true, where_true}
use Rattle.outline_reader.proofs.WritingLemmas.{then_come, Writes, nothing, one_token, begun, none, writes}

-- ---- lists

unfoldable pub every : {A : Type 0} → (A → Bool) → List A → Bool
every test [] = true
every test (x ∷ xs) = test x && every test xs

pub every_one : (test : Alternative → Bool) {chosen : Alternative} {all : List Alternative} → IsOneOf chosen all → every test all ≡ true → test chosen ≡ true
unfolding every
every_one test {chosen = chosen} (d.first rest) h = and_left (test chosen) (every test rest) h
every_one test (d.later other rest is_one) h = every_one test is_one (and_right (test other) (every test rest) h)

pub every_append : {A : Type 0} (test : A → Bool) (xs ys : List A) → every test xs ≡ true → every test ys ≡ true → every test (xs ++ ys) ≡ true
unfolding every
every_append test [] ys first second = second
every_append test (x ∷ xs) ys first second =
    and_both (test x) (every test (xs ++ ys)) (and_left (test x) (every test xs) first)
    (every_append test xs ys (and_right (test x) (every test xs) first) second)

every_is_all : (test other : Need → Bool) (all : List Need) → ((need : Need) → test need ≡ true → other need ≡ true) → every test all ≡ true → AllByRecursion (λ need. IsTrue (other need)) all
unfolding every
every_is_all test other [] turns h = tt
every_is_all test other (need ∷ all) turns h = (turns need (and_left (test need) (every test all) h), every_is_all test other all turns (and_right (test need) (every test all) h))

-- ---- symbols that do not begin with the `::=` of a later category

unfoldable pub calm : Symbol → Bool
calm (One place class role) = not (is_new_definition role)
calm (Choice p.AfterLineName) = false
calm (Choice _) = true

unfoldable pub tail_calm : List Symbol → Bool
tail_calm [] = true
tail_calm (symbol ∷ rest) = every calm rest

pub tail_of_calm : (rest : List Symbol) → every calm rest ≡ true → tail_calm rest ≡ true
unfolding every tail_calm
tail_of_calm [] h = refl
tail_of_calm (symbol ∷ rest) h = and_right (calm symbol) (every calm rest) h

pub tail_append : (front rest : List Symbol) → tail_calm front ≡ true → every calm rest ≡ true → tail_calm (front ++ rest) ≡ true
unfolding tail_calm
tail_append [] rest first second = tail_of_calm rest second
tail_append (symbol ∷ front) rest first second = every_append calm front rest first second

names_first : (one : Role) (roles : List Role) → names_category (one ∷ roles) ≡ is_new_definition one
names_first role.NewCategory roles = refl
names_first _ roles = refl

-- ---- what comes before the next portion begins

-- phrases whose tokens begin no portion
quiet : Phrase → Bool
quiet p.MoreListed = true
quiet p.MoreOnLine = true
quiet p.MoreOfForm = true
quiet p.JudgmentAssumes = true
quiet p.RuleLines = true
quiet p.TheoremAssumes = true
quiet p.Inputs = true
quiet p.InputForm = true
quiet p.Output = true
quiet p.OutputAfterDot = true
quiet p.OutputTokens = true
quiet p.OutputGoesOn = true
quiet p.MoreTargets = true
quiet p.Args = true
quiet p.MoreArgs = true
quiet p.Arg = true
quiet p.Enclosed = true
quiet p.MoreEnclosed = true
quiet p.CaseHead = true
quiet p.CaseAssumes = true
quiet p.HeadLines = true
quiet p.Inverted = true
quiet _ = false

-- phrases that have what is needed before the next portion begins
sure : Phrase → Need → Bool
sure p.AndKind a_kind_word = true
sure p.AndKind a_name = true
sure p.AndKind an_output = true
sure p.TheoremBody a_name = true
sure p.TheoremBody an_output = true
sure p.LemmaBody a_name = true
sure p.LemmaBody an_output = true
sure p.FirstDefine a_definition = true
sure p.RuleLines a_name = true
sure p.RuleLines a_form = true
sure p.Output an_output = true
sure p.Just a_justification = true
sure p.FirstJust a_justification = true
sure p.InductionOrHypothesis a_justification = true
sure p.Arg an_argument = true
sure p.Enclosed an_argument = true
sure p.CaseHead a_form = true
sure p.HeadLines a_name = true
sure p.HeadLines a_conclusion = true
sure p.HeadLines a_form = true
sure _ _ = false

quiet_symbol : Symbol → Bool
quiet_symbol (One place class role) = not (begins role)
quiet_symbol (Choice phrase) = quiet phrase

promised : Need → List Symbol → Bool
promised need [] = false
promised need (One place class role ∷ rest) = not (begins role) && (meets need role || promised need rest)
promised need (Choice phrase ∷ rest) = sure phrase need || (quiet phrase && promised need rest)

-- each token to come has what it needs
are_met : List Symbol → Bool
are_met [] = true
are_met (One place class role ∷ rest) = every (λ need. promised need rest) (needs role) && are_met rest
are_met (Choice phrase ∷ rest) = are_met rest

-- ---- what is seen of the table alone

calm_ok : Phrase → Bool
calm_ok phrase = if calm (Choice phrase) then every (λ a. not (is_new_definition a.2)) (alternatives phrase) else true

tails_ok : Phrase → Bool
tails_ok phrase = every (λ a. tail_calm (then_come phrase a.3)) (alternatives phrase)

new_ok : Phrase → Bool
new_ok phrase = every (λ a. if is_new_definition a.2 then every calm (then_come phrase a.3) else true) (alternatives phrase)

quiet_ok : Phrase → Bool
quiet_ok phrase =
    if quiet phrase
    then every (λ a. not (begins a.2) && (every quiet_symbol (then_come phrase a.3) && every calm (then_come phrase a.3))) (alternatives phrase)
    else true

sure_ok : Phrase → Need → Bool
sure_ok phrase need =
    if sure phrase need
    then is_once (times_of phrase) && every (λ a. not (begins a.2) && (every calm (then_come phrase a.3) && (meets need a.2 || promised need (then_come phrase a.3)))) (alternatives phrase)
    else true

needs_ok : Phrase → Bool
needs_ok phrase = every (λ a. every (λ need. promised need (then_come phrase a.3)) (needs a.2)) (alternatives phrase)

met_ok : Phrase → Bool
met_ok phrase = every (λ a. are_met (then_come phrase a.3)) (alternatives phrase)

calm_table : (phrase : Phrase) → calm_ok phrase ≡ true
unfolding calm_ok calm every
calm_table p.Parts = refl
calm_table _ = refl

tails_table : (phrase : Phrase) → tails_ok phrase ≡ true
unfolding tails_ok tail_calm calm every
tails_table p.Parts = refl
tails_table _ = refl

new_table : (phrase : Phrase) → new_ok phrase ≡ true
unfolding new_ok calm every
new_table p.Parts = refl
new_table _ = refl

quiet_table : (phrase : Phrase) → quiet_ok phrase ≡ true
unfolding quiet_ok quiet quiet_symbol calm every
quiet_table p.Parts = refl
quiet_table _ = refl

sure_table : (phrase : Phrase) (need : Need) → sure_ok phrase need ≡ true
unfolding sure_ok sure promised quiet calm every
sure_table p.AndKind a_name = refl
sure_table p.AndKind _ = refl
sure_table p.TheoremBody a_name = refl
sure_table p.TheoremBody _ = refl
sure_table p.LemmaBody a_name = refl
sure_table p.LemmaBody _ = refl
sure_table p.FirstDefine a_name = refl
sure_table p.FirstDefine _ = refl
sure_table p.RuleLines a_name = refl
sure_table p.RuleLines _ = refl
sure_table p.Output a_name = refl
sure_table p.Output _ = refl
sure_table p.Just a_name = refl
sure_table p.Just _ = refl
sure_table p.FirstJust a_name = refl
sure_table p.FirstJust _ = refl
sure_table p.InductionOrHypothesis a_name = refl
sure_table p.InductionOrHypothesis _ = refl
sure_table p.Arg a_name = refl
sure_table p.Arg _ = refl
sure_table p.Enclosed a_name = refl
sure_table p.Enclosed _ = refl
sure_table p.CaseHead a_name = refl
sure_table p.CaseHead _ = refl
sure_table p.HeadLines a_name = refl
sure_table p.HeadLines _ = refl
sure_table _ _ = refl

needs_table : (phrase : Phrase) → needs_ok phrase ≡ true
unfolding needs_ok promised sure quiet every
needs_table p.Parts = refl
needs_table _ = refl

met_table : (phrase : Phrase) → met_ok phrase ≡ true
unfolding met_ok are_met promised sure quiet every
met_table p.Parts = refl
met_table _ = refl

-- ---- more to come

promised_append : (need : Need) (front rest : List Symbol) → promised need front ≡ true → promised need (front ++ rest) ≡ true
unfolding promised
promised_append need [] rest h = absurd (let no : false ≡ true = h in cc)
promised_append need (One place class role ∷ front) rest h =
    let after = and_right (not (begins role)) (meets need role || promised need front) h in
    and_both (not (begins role)) (meets need role || promised need (front ++ rest)) (and_left (not (begins role)) (meets need role || promised need front) h)
    (elim (either (meets need role) (promised need front) after) [
      | inl found ↦ or_left (meets need role) (promised need (front ++ rest)) found
      | inr found ↦ or_right (meets need role) (promised need (front ++ rest)) (promised_append need front rest found)
    ])
promised_append need (Choice phrase ∷ front) rest h =
    elim (either (sure phrase need) (quiet phrase && promised need front) h) [
      | inl found ↦ or_left (sure phrase need) (quiet phrase && promised need (front ++ rest)) found
      | inr found ↦ or_right (sure phrase need) (quiet phrase && promised need (front ++ rest))
          (and_both (quiet phrase) (promised need (front ++ rest)) (and_left (quiet phrase) (promised need front) found)
          (promised_append need front rest (and_right (quiet phrase) (promised need front) found)))
    ]

quiet_promised : (need : Need) (front rest : List Symbol) → every quiet_symbol front ≡ true → promised need rest ≡ true → promised need (front ++ rest) ≡ true
unfolding promised every quiet_symbol
quiet_promised need [] rest quiets h = h
quiet_promised need (One place class role ∷ front) rest quiets h =
    and_both (not (begins role)) (meets need role || promised need (front ++ rest)) (and_left (not (begins role)) (every quiet_symbol front) quiets)
    (or_right (meets need role) (promised need (front ++ rest)) (quiet_promised need front rest (and_right (not (begins role)) (every quiet_symbol front) quiets) h))
quiet_promised need (Choice phrase ∷ front) rest quiets h =
    or_right (sure phrase need) (quiet phrase && promised need (front ++ rest))
    (and_both (quiet phrase) (promised need (front ++ rest)) (and_left (quiet phrase) (every quiet_symbol front) quiets)
    (quiet_promised need front rest (and_right (quiet phrase) (every quiet_symbol front) quiets) h))

promises_append : (all : List Need) (front rest : List Symbol) → every (λ need. promised need front) all ≡ true → every (λ need. promised need (front ++ rest)) all ≡ true
unfolding every
promises_append [] front rest h = refl
promises_append (need ∷ all) front rest h =
    and_both (promised need (front ++ rest)) (every (λ need. promised need (front ++ rest)) all)
    (promised_append need front rest (and_left (promised need front) (every (λ need. promised need front) all) h))
    (promises_append all front rest (and_right (promised need front) (every (λ need. promised need front) all) h))

met_append : (front rest : List Symbol) → are_met front ≡ true → are_met rest ≡ true → are_met (front ++ rest) ≡ true
unfolding are_met
met_append [] rest first second = second
met_append (One place class role ∷ front) rest first second =
    and_both (every (λ need. promised need (front ++ rest)) (needs role)) (are_met (front ++ rest))
    (promises_append (needs role) front rest (and_left (every (λ need. promised need front) (needs role)) (are_met front) first))
    (met_append front rest (and_right (every (λ need. promised need front) (needs role)) (are_met front) first) second)
met_append (Choice phrase ∷ front) rest first second = met_append front rest first second

-- ---- what is written

calm_begun : (phrase : Phrase) (chosen : Alternative) → IsOneOf chosen (alternatives phrase) → calm (Choice phrase) ≡ true → is_new_definition chosen.2 ≡ false
unfolding calm_ok
calm_begun phrase chosen is_one h =
    not_true (is_new_definition chosen.2)
    (every_one (λ a. not (is_new_definition a.2)) is_one
    (where_true (calm (Choice phrase)) (every (λ (a : Alternative). not (is_new_definition a.2)) (alternatives phrase)) (calm_table phrase) h))

-- where every symbol is calm, no later category is defined first
pub calm_first : {all : List Symbol} {roles : List Role} → Writes all roles → every calm all ≡ true → names_category roles ≡ false
unfolding every calm
calm_first nothing h = refl
calm_first (one_token place class role rest roles w) h =
    names_first role roles ∙ not_true (is_new_definition role) (and_left (not (is_new_definition role)) (every calm rest) h)
calm_first (begun phrase rest chosen roles is_one w) h = names_first chosen.2 roles ∙ calm_begun phrase chosen is_one (and_left (calm (Choice phrase)) (every calm rest) h)
calm_first (none phrase rest roles optional w) h = calm_first w (and_right (calm (Choice phrase)) (every calm rest) h)

-- a token that begins no portion, before one that begins none either
pub within_more : (one : Role) (roles : List Role) → begins one ≡ false → names_category roles ≡ false → within_portion (one ∷ roles) ≡ one ∷ within_portion roles
within_more one roles begins_none defines_none =
    (λ i. take (cond (begins_none i || defines_none i) 0 (portion_length roles + 1)) (one ∷ roles))
    ∙ ap (λ n. take n (one ∷ roles)) (add-one (portion_length roles))

-- what is needed comes at once or later
comes_more : (need : Need) (one : Role) (roles : List Role) → begins one ≡ false → names_category roles ≡ false →
    (meets need one ≡ true) ⊎ IsTrue (met_in need (within_portion roles)) → IsTrue (met_in need (within_portion (one ∷ roles)))
comes_more need one roles begins_none defines_none found =
    subst (λ (all : List Role). IsTrue (met_in need all)) (sym (within_more one roles begins_none defines_none))
    (elim found [
      | inl here ↦ or_left (meets need one) (met_in need (within_portion roles)) here
      | inr later ↦ or_right (meets need one) (met_in need (within_portion roles)) later
    ])

-- what begins a phrase of which no token begins a portion
quiet_begun : (phrase : Phrase) (chosen : Alternative) → IsOneOf chosen (alternatives phrase) → quiet phrase ≡ true →
    (begins chosen.2 ≡ false) × (every quiet_symbol (then_come phrase chosen.3) ≡ true) × (every calm (then_come phrase chosen.3) ≡ true)
unfolding quiet_ok
quiet_begun phrase chosen is_one h =
    let test : Alternative → Bool = λ a. not (begins a.2) && (every quiet_symbol (then_come phrase a.3) && every calm (then_come phrase a.3)) in
    let all = every_one test is_one (where_true (quiet phrase) (every test (alternatives phrase)) (quiet_table phrase) h) in
    let later = and_right (not (begins chosen.2)) (every quiet_symbol (then_come phrase chosen.3) && every calm (then_come phrase chosen.3)) all in (
      not_true (begins chosen.2) (and_left (not (begins chosen.2)) (every quiet_symbol (then_come phrase chosen.3) && every calm (then_come phrase chosen.3)) all),
      and_left (every quiet_symbol (then_come phrase chosen.3)) (every calm (then_come phrase chosen.3)) later,
      and_right (every quiet_symbol (then_come phrase chosen.3)) (every calm (then_come phrase chosen.3)) later,
    )

sure_parts : (phrase : Phrase) (need : Need) → sure phrase need ≡ true →
    (is_once (times_of phrase) && every (λ (a : Alternative). not (begins a.2) && (every calm (then_come phrase a.3) && (meets need a.2 || promised need (then_come phrase a.3)))) (alternatives phrase)) ≡ true
unfolding sure_ok
sure_parts phrase need h = where_true (sure phrase need) _ (sure_table phrase need) h

-- what begins a phrase that has what is needed
sure_begun : (phrase : Phrase) (need : Need) (chosen : Alternative) → IsOneOf chosen (alternatives phrase) → sure phrase need ≡ true →
    (begins chosen.2 ≡ false) × (every calm (then_come phrase chosen.3) ≡ true) × ((meets need chosen.2 || promised need (then_come phrase chosen.3)) ≡ true)
sure_begun phrase need chosen is_one h =
    let test : Alternative → Bool = λ a. not (begins a.2) && (every calm (then_come phrase a.3) && (meets need a.2 || promised need (then_come phrase a.3))) in
    let all = every_one test is_one (and_right (is_once (times_of phrase)) (every test (alternatives phrase)) (sure_parts phrase need h)) in
    let found = meets need chosen.2 || promised need (then_come phrase chosen.3) in
    let later = and_right (not (begins chosen.2)) (every calm (then_come phrase chosen.3) && found) all in (
      not_true (begins chosen.2) (and_left (not (begins chosen.2)) (every calm (then_come phrase chosen.3) && found) all),
      and_left (every calm (then_come phrase chosen.3)) found later,
      and_right (every calm (then_come phrase chosen.3)) found later,
    )

once_is : (often : Times) → is_once often ≡ true → often ≡ times.Once
once_is times.Once h = refl
once_is times.AtMostOnce h = absurd (let no : false ≡ true = h in cc)
once_is times.Any h = absurd (let no : false ≡ true = h in cc)

sure_once : (phrase : Phrase) (need : Need) → sure phrase need ≡ true → times_of phrase ≡ times.Once
sure_once phrase need h = once_is (times_of phrase) (and_left (is_once (times_of phrase)) _ (sure_parts phrase need h))

-- what is promised comes before the next portion begins
comes : (need : Need) {all : List Symbol} {roles : List Role} → Writes all roles → promised need all ≡ true → tail_calm all ≡ true → IsTrue (met_in need (within_portion roles))
unfolding promised tail_calm
comes need nothing h still = absurd (let no : false ≡ true = h in cc)
comes need (one_token place class role rest roles w) h still =
    comes_more need role roles (not_true (begins role) (and_left (not (begins role)) (meets need role || promised need rest) h)) (calm_first w still)
    (elim (either (meets need role) (promised need rest) (and_right (not (begins role)) (meets need role || promised need rest) h)) [
      | inl found ↦ inl found
      | inr found ↦ inr (comes need w found (tail_of_calm rest still))
    ])
comes need (begun phrase rest chosen roles is_one w) h still =
    let next = then_come phrase chosen.3 in
    elim (either (sure phrase need) (quiet phrase && promised need rest) h) [
      | inl found ↦
          (let facts = sure_begun phrase need chosen is_one found in
          let stays = every_append calm next rest facts.1 still in
          comes_more need chosen.2 roles facts.0 (calm_first w stays)
          (elim (either (meets need chosen.2) (promised need next) facts.2) [
            | inl now ↦ inl now
            | inr later ↦ inr (comes need w (promised_append need next rest later) (tail_of_calm (next ++ rest) stays))
          ]))
      | inr found ↦
          (let facts = quiet_begun phrase chosen is_one (and_left (quiet phrase) (promised need rest) found) in
          let stays = every_append calm next rest facts.2 still in
          comes_more need chosen.2 roles facts.0 (calm_first w stays)
          (inr (comes need w (quiet_promised need next rest facts.1 (and_right (quiet phrase) (promised need rest) found)) (tail_of_calm (next ++ rest) stays))))
    ]
comes need (none phrase rest roles optional w) h still =
    elim (either (sure phrase need) (quiet phrase && promised need rest) h) [
      | inl found ↦ absurd (optional (sure_once phrase need found))
      | inr found ↦ comes need w (and_right (quiet phrase) (promised need rest) found) (tail_of_calm rest still)
    ]

new_begins_none : (one : Role) → is_new_definition one ≡ true → begins one ≡ false
new_begins_none role.NewCategory h = refl
new_begins_none _ h = absurd (let no : false ≡ true = h in cc)

-- the `::=` of a later category stands in the portion of the token before it
defined : {all : List Symbol} {roles : List Role} → Writes all roles → tail_calm all ≡ true → names_category roles ≡ true → IsTrue (met_in a_new_definition (within_portion roles))
unfolding tail_calm new_ok
defined nothing still named = absurd (let no : false ≡ true = named in cc)
defined (one_token place class role rest roles w) still named =
    let is_new = sym (names_first role roles) ∙ named in
    comes_more a_new_definition role roles (new_begins_none role is_new) (calm_first w still) (inl is_new)
defined (begun phrase rest chosen roles is_one w) still named =
    let next = then_come phrase chosen.3 in
    let is_new = sym (names_first chosen.2 roles) ∙ named in
    let stays = where_true (is_new_definition chosen.2) (every calm next)
    (every_one (λ a. if is_new_definition a.2 then every calm (then_come phrase a.3) else true) is_one (new_table phrase)) is_new in
    comes_more a_new_definition chosen.2 roles (new_begins_none chosen.2 is_new) (calm_first w (every_append calm next rest stays still)) (inl is_new)
defined (none phrase rest roles optional w) still named = defined w (tail_of_calm rest still) named

pub tails_begun : (phrase : Phrase) (chosen : Alternative) → IsOneOf chosen (alternatives phrase) → tail_calm (then_come phrase chosen.3) ≡ true
unfolding tails_ok
tails_begun phrase chosen is_one = every_one (λ a. tail_calm (then_come phrase a.3)) is_one (tails_table phrase)

needs_begun : (phrase : Phrase) (chosen : Alternative) → IsOneOf chosen (alternatives phrase) → every (λ need. promised need (then_come phrase chosen.3)) (needs chosen.2) ≡ true
unfolding needs_ok
needs_begun phrase chosen is_one = every_one (λ a. every (λ need. promised need (then_come phrase a.3)) (needs a.2)) is_one (needs_table phrase)

met_begun : (phrase : Phrase) (chosen : Alternative) → IsOneOf chosen (alternatives phrase) → are_met (then_come phrase chosen.3) ≡ true
unfolding met_ok
met_begun phrase chosen is_one = every_one (λ a. are_met (then_come phrase a.3)) is_one (met_table phrase)

filled : {all : List Symbol} {roles : List Role} → Writes all roles → tail_calm all ≡ true → are_met all ≡ true → AreFilled roles
unfolding tail_calm are_met
filled nothing still met = tt
filled (one_token place class role rest roles w) still met =
    let after = tail_of_calm rest still in (
      every_is_all (λ need. promised need rest) (λ need. met_in need (within_portion roles)) (needs role) (λ need h. comes need w h after)
          (and_left (every (λ need. promised need rest) (needs role)) (are_met rest) met),
      (λ named. defined w after named),
      filled w after (and_right (every (λ need. promised need rest) (needs role)) (are_met rest) met),
    )
filled (begun phrase rest chosen roles is_one w) still met =
    let next = then_come phrase chosen.3 in
    let after = tail_append next rest (tails_begun phrase chosen is_one) still in (
      every_is_all (λ need. promised need (next ++ rest)) (λ need. met_in need (within_portion roles)) (needs chosen.2) (λ need h. comes need w h after)
          (promises_append (needs chosen.2) next rest (needs_begun phrase chosen is_one)),
      (λ named. defined w after named),
      filled w after (met_append next rest (met_begun phrase chosen is_one) met),
    )
filled (none phrase rest roles optional w) still met = filled w (tail_of_calm rest still) met

pub portions_filled : PortionsAreFilled
unfolding tail_calm calm every are_met
portions_filled tokens roles outlined = subst (λ (all : List Role). AreFilled all) (sym outlined.2) (filled (writes outlined.1) refl refl)
