-- Categories stand in syntax parts alone, and rules in judgment parts.
use Rattle.std.proofs.Common.{◌≡◌, Bool, true, false, cond, ◌||◌, ◌&&◌, List, [], ◌∷◌, ◌++◌, map, take, Option, Some, None, refl, sym, ◌∙◌, ap, subst}
use Rattle.proof_lexer.specs.declared.token.Token.{Token}
use Rattle.outline_reader.specs.declared.symbols.Role.{Role}
use Rattle.outline_reader.specs.declared.symbols.Role.TheVariants as role
use Rattle.outline_reader.specs.declared.symbols.Phrase.{Phrase}
use Rattle.outline_reader.specs.declared.symbols.Phrase.TheVariants as p
use Rattle.outline_reader.specs.declared.symbols.Symbol.{Symbol}
use Rattle.outline_reader.specs.declared.symbols.Symbol.TheVariants.{One, Choice}
use Rattle.outline_reader.specs.Grammar.{Alternative, alternatives}
use Rattle.outline_reader.specs.Derives.{IsOneOf, whole}
use Rattle.outline_reader.specs.Fields.{same_role}
use Rattle.outline_reader.specs.Outline.{IsOutlined}
use Rattle.outline_reader.specs.Portions.{begins, names_category, portion_size, case_head, category_line, portion, portions}
use Rattle.outline_reader.specs.Plain.{PlainPortion, plain_portion}
use Rattle.outline_reader.proofs.Truth.{and_left, and_right}
use Rattle.outline_reader.proofs.WritingLemmas.{then_come, Writes, nothing, one_token, begun, none, symbols, writes}
use Rattle.outline_reader.proofs.FilledLemmas.{every, every_one}
use Rattle.outline_reader.proofs.FollowLemmas.{Follow, outlined_follow, no_true}
use Rattle.outline_laws.specs.Order.{Place, in_syntax, in_judgment, elsewhere, AreOrdered, PortionsAreOrdered}
use Rattle.outline_laws.proofs.NestLemmas.{only_item, names_item}

-- ---- what a token does

data Turn : Type 0 where
  moves : Place → Turn
  belongs : Place → Turn
  keeps : Turn

abbrev turn : Role → Turn
turn role.SyntaxWord = moves in_syntax
turn role.JudgmentWord = moves in_judgment
turn role.TerminalsWord = moves elsewhere
turn role.AndWord = moves elsewhere
turn role.TheoremWord = moves elsewhere
turn role.StepName = moves elsewhere
turn role.ProofWord = moves elsewhere
turn role.InversionWord = moves elsewhere
turn role.CaseWord = moves elsewhere
turn role.EndWord = moves elsewhere
turn role.CategoryName = belongs in_syntax
turn role.NewCategory = belongs in_syntax
turn role.RulePremise = belongs in_judgment
turn role.RuleBar = belongs in_judgment
turn _ = keeps

abbrev Turns : Place → Turn → (Place → Type 0) → Type 0
Turns place (moves other) on = on other
Turns place (belongs other) on = (place ≡ other) × on place
Turns place keeps on = on place

unfoldable Ordered : Place → List Role → Type 0
Ordered place [] = Unit {0}
Ordered place (one ∷ roles) = Turns place (turn one) (λ later. Ordered later roles)

-- ---- what may come where the place is known, or is not

abbrev when : {A : Type 0} → Option A → (A → Bool) → Bool
when None test = false
when (Some a) test = test a

abbrev same_place : Place → Place → Bool
same_place in_syntax in_syntax = true
same_place in_judgment in_judgment = true
same_place elsewhere elsewhere = true
same_place _ _ = false

abbrev Known : Type 0
Known = Option Place

abbrev is_at : Known → Place → Bool
is_at None place = false
is_at (Some one) place = same_place one place

abbrev where_at : Bool → Known → Option Known
where_at true known = Some known
where_at false known = None

abbrev turned : Known → Turn → Option Known
turned known (moves other) = Some (Some other)
turned known (belongs other) = where_at (is_at known other) known
turned known keeps = Some known

data Sense : Type 0 where
  in_part : Place → Sense
  moves_on : Sense
  calm : Sense

abbrev sense : Phrase → Sense
sense p.FirstDefine = in_part in_syntax
sense p.Productions = in_part in_syntax
sense p.AfterLineName = in_part in_syntax
sense p.AfterLineToken = in_part in_syntax
sense p.Rules = in_part in_judgment
sense p.Parts = moves_on
sense p.FirstTheorem = moves_on
sense p.LaterParts = moves_on
sense p.AndKind = moves_on
sense p.TheoremBody = moves_on
sense p.LemmaBody = moves_on
sense p.Proof = moves_on
sense p.Steps = moves_on
sense p.Just = moves_on
sense p.FirstJust = moves_on
sense p.InductionOrHypothesis = moves_on
sense p.CaseList = moves_on
sense _ = calm

abbrev passed : Known → Sense → Option Known
passed known (in_part place) = where_at (is_at known place) known
passed known moves_on = Some None
passed known calm = Some known

-- what is known suffices for what is asked
abbrev suffices : Known → Known → Bool
suffices known None = true
suffices None (Some place) = false
suffices (Some one) (Some place) = same_place one place

abbrev lined : Known → List Symbol → Known → Bool
lined known [] last = suffices known last
lined known (One place class one ∷ rest) last = when (turned known (turn one)) (λ later. lined later rest last)
lined known (Choice phrase ∷ rest) last = when (passed known (sense phrase)) (λ later. lined later rest last)

-- ---- what is seen of the table alone

begins_lined : Phrase → Known → Known → Alternative → Bool
begins_lined phrase known last a = when (turned known (turn a.2)) (λ later. lined later (then_come phrase a.3) last)

if_passed : Option Known → (Known → Bool) → Bool
if_passed None test = true
if_passed (Some last) test = test last

phrase_lined : Phrase → Known → Bool
phrase_lined phrase known = if_passed (passed known (sense phrase)) (λ last. every (begins_lined phrase known last) (alternatives phrase))

every_known : (Known → Bool) → Bool
every_known test = test None && (test (Some in_syntax) && (test (Some in_judgment) && test (Some elsewhere)))

some_known : (test : Known → Bool) (known : Known) → every_known test ≡ true → test known ≡ true
unfolding every_known
some_known test None h = and_left (test None) _ h
some_known test (Some in_syntax) h = and_left (test (Some in_syntax)) _ (and_right (test None) _ h)
some_known test (Some in_judgment) h = and_left (test (Some in_judgment)) _ (and_right (test (Some in_syntax)) _ (and_right (test None) _ h))
some_known test (Some elsewhere) h = and_right (test (Some in_judgment)) _ (and_right (test (Some in_syntax)) _ (and_right (test None) _ h))

lined_table : (phrase : Phrase) → every_known (phrase_lined phrase) ≡ true
unfolding every_known phrase_lined if_passed begins_lined every
lined_table p.Parts = refl
lined_table _ = refl

-- ---- what is known less suffices for less

place_is : (one other : Place) → same_place one other ≡ true → one ≡ other
place_is in_syntax in_syntax h = refl
place_is in_judgment in_judgment h = refl
place_is elsewhere elsewhere h = refl
place_is _ _ h = no_true h

lined_unknown : (known : Known) (all : List Symbol) (last : Known) → lined None all last ≡ true → lined known all last ≡ true
lined_unknown known [] None h = refl
lined_unknown known [] (Some place) h = no_true h
lined_unknown known (One place class one ∷ rest) last h = which (turn one) h (lined_unknown known rest last)
  where
    which : (one : Turn) → when (turned None one) (λ later. lined later rest last) ≡ true → (lined None rest last ≡ true → lined known rest last ≡ true) → when (turned known one) (λ later. lined later rest last) ≡ true
    which (moves other) h below = h
    which (belongs other) h below = no_true h
    which keeps h below = below h
lined_unknown known (Choice phrase ∷ rest) last h = which (sense phrase) h (lined_unknown known rest last)
  where
    which : (one : Sense) → when (passed None one) (λ later. lined later rest last) ≡ true → (lined None rest last ≡ true → lined known rest last ≡ true) → when (passed known one) (λ later. lined later rest last) ≡ true
    which (in_part place) h below = no_true h
    which moves_on h below = h
    which calm h below = below h

lined_weaker : (known middle : Known) (all : List Symbol) (last : Known) → suffices known middle ≡ true → lined middle all last ≡ true → lined known all last ≡ true
lined_weaker known None all last is h = lined_unknown known all last h
lined_weaker None (Some place) all last is h = no_true is
lined_weaker (Some one) (Some place) all last is h = subst (λ other. lined (Some other) all last ≡ true) (sym (place_is one place is)) h

when_more : {A : Type 0} (one : Option A) (test other : A → Bool) → ((later : A) → test later ≡ true → other later ≡ true) → when one test ≡ true → when one other ≡ true
when_more None test other more h = h
when_more (Some a) test other more h = more a h

lined_append : (front rest : List Symbol) (known middle last : Known) → lined known front middle ≡ true → lined middle rest last ≡ true → lined known (front ++ rest) last ≡ true
lined_append [] rest known middle last h more = lined_weaker known middle rest last h more
lined_append (One place class one ∷ front) rest known middle last h more =
    when_more (turned known (turn one)) (λ later. lined later front middle) (λ later. lined later (front ++ rest) last) (λ later ok. lined_append front rest later middle last ok more) h
lined_append (Choice phrase ∷ front) rest known middle last h more =
    when_more (passed known (sense phrase)) (λ later. lined later front middle) (λ later. lined later (front ++ rest) last) (λ later ok. lined_append front rest later middle last ok more) h

left_lined : (known : Known) (one : Sense) (rest : List Symbol) (last : Known) → when (passed known one) (λ later. lined later rest last) ≡ true → lined known rest last ≡ true
left_lined known (in_part place) rest last h = which (is_at known place) h
  where
    which : (b : Bool) → when (where_at b known) (λ later. lined later rest last) ≡ true → lined known rest last ≡ true
    which true h = h
    which false h = no_true h
left_lined known moves_on rest last h = lined_unknown known rest last h
left_lined known calm rest last h = h

-- ---- what is written

abbrev Knows : Known → Place → Type 0
Knows None place = Unit {0}
Knows (Some one) place = place ≡ one

known_at : (known : Known) (other place : Place) → is_at known other ≡ true → Knows known place → place ≡ other
known_at None other place h knows = no_true h
known_at (Some one) other place h knows = knows ∙ place_is one other h

turns : (known : Known) (one : Turn) (place : Place) (test : Known → Bool) (on : Place → Type 0) → when (turned known one) test ≡ true → Knows known place →
    ((later : Known) (at : Place) → test later ≡ true → Knows later at → on at) → Turns place one on
turns known (moves other) place test on h knows go = go (Some other) other h refl
turns known (belongs other) place test on h knows go = which (is_at known other) refl h
  where
    which : (b : Bool) → is_at known other ≡ b → when (where_at b known) test ≡ true → (place ≡ other) × on place
    which true is h = (known_at known other place is knows, go known place h knows)
    which false is h = no_true h
turns known keeps place test on h knows go = go known place h knows

both_pass : (one : Option Known) (test other : Known → Bool) → when one test ≡ true → if_passed one other ≡ true → (last : Known) × (test last ≡ true) × (other last ≡ true)
unfolding if_passed
both_pass None test other h passes = no_true h
both_pass (Some last) test other h passes = (last, h, passes)

begins_so : (phrase : Phrase) (chosen : Alternative) (known : Known) (test : Known → Bool) → IsOneOf chosen (alternatives phrase) → when (passed known (sense phrase)) test ≡ true →
    (last : Known) × (test last ≡ true) × (when (turned known (turn chosen.2)) (λ later. lined later (then_come phrase chosen.3) last) ≡ true)
unfolding phrase_lined begins_lined
begins_so phrase chosen known test is_one h =
    let found = both_pass (passed known (sense phrase)) test (λ last. every (begins_lined phrase known last) (alternatives phrase)) h (some_known (phrase_lined phrase) known (lined_table phrase)) in
    (found.0, found.1, every_one (begins_lined phrase known found.0) is_one found.2)

ordered : {all : List Symbol} {roles : List Role} → Writes all roles → (known : Known) (at : Place) → lined known all None ≡ true → Knows known at → Ordered at roles
unfolding Ordered
ordered nothing known at h knows = tt
ordered (one_token place class one rest roles w) known at h knows =
    turns known (turn one) at (λ later. lined later rest None) (λ later. Ordered later roles) h knows (λ later other ok so. ordered w later other ok so)
ordered (begun phrase rest chosen roles is_one w) known at h knows =
    let found = begins_so phrase chosen known (λ later. lined later rest None) is_one h in
    turns known (turn chosen.2) at (λ later. lined later (then_come phrase chosen.3) found.0) (λ later. Ordered later roles) found.2 knows
    (λ later other ok so. ordered w later other (lined_append (then_come phrase chosen.3) rest later found.0 None ok found.1) so)
ordered (none phrase rest roles optional w) known at h knows = ordered w known at (left_lined known (sense phrase) rest None h) knows

outlined_ordered : {roles : List Role} → Writes (symbols whole) roles → Ordered elsewhere roles
outlined_ordered w = ordered w None elsewhere refl tt

-- ---- portions

module _ (at : Place) (rest : List PlainPortion) where
  category_ordered : (first : Token) (roles : List Role) (tokens : List Token) → at ≡ in_syntax → AreOrdered at rest → AreOrdered at (plain_portion (category_line first roles tokens) ∷ rest)
  category_ordered first [] tokens is more = (is, subst (λ other. AreOrdered other rest) is more)
  category_ordered first (one ∷ []) tokens is more = (is, subst (λ other. AreOrdered other rest) is more)
  category_ordered first (one ∷ define ∷ roles) tokens is more = (is, subst (λ other. AreOrdered other rest) is more)

  case_ordered : (first : Token) (roles : List Role) (tokens : List Token) → AreOrdered elsewhere rest → AreOrdered at (plain_portion (case_head first roles tokens) ∷ rest)
  case_ordered first [] tokens more = more
  case_ordered first (word ∷ []) tokens more = more
  case_ordered first (word ∷ role.RuleCase ∷ roles) tokens more = more
  case_ordered first (word ∷ other ∷ roles) tokens more = more

  piece_ordered : (one : Role) (on : Place → Type 0) (token : Token) (roles : List Role) (tokens : List Token) → (begins one ≡ false → same_role one role.Item ≡ true) →
      (same_role one role.Item ≡ true → on at → at ≡ in_syntax) → Turns at (turn one) on → ((later : Place) → on later → AreOrdered later rest) → AreOrdered at (plain_portion (portion one token roles tokens) ∷ rest)
  piece_ordered role.TerminalsWord on token roles tokens begun_so top goes below = below elsewhere goes
  piece_ordered role.AndWord on token roles tokens begun_so top goes below = below elsewhere goes
  piece_ordered role.TheoremWord on token roles tokens begun_so top goes below = below elsewhere goes
  piece_ordered role.StepName on token roles tokens begun_so top goes below = below elsewhere goes
  piece_ordered role.ProofWord on token roles tokens begun_so top goes below = below elsewhere goes
  piece_ordered role.InversionWord on token roles tokens begun_so top goes below = below elsewhere goes
  piece_ordered role.EndWord on token roles tokens begun_so top goes below = below elsewhere goes
  piece_ordered role.SyntaxWord on token roles tokens begun_so top goes below = below in_syntax goes
  piece_ordered role.JudgmentWord on token roles tokens begun_so top goes below = below in_judgment goes
  piece_ordered role.RulePremise on token roles tokens begun_so top goes below = (goes.0, subst (λ other. AreOrdered other rest) goes.0 (below at goes.1))
  piece_ordered role.RuleBar on token roles tokens begun_so top goes below = (goes.0, subst (λ other. AreOrdered other rest) goes.0 (below at goes.1))
  piece_ordered role.CategoryName on token roles tokens begun_so top goes below = category_ordered token roles tokens goes.0 (below at goes.1)
  piece_ordered role.Item on token roles tokens begun_so top goes below = category_ordered token roles tokens (top refl goes) (below at goes)
  piece_ordered role.CaseWord on token roles tokens begun_so top goes below = case_ordered token roles tokens (below elsewhere goes)
  piece_ordered _ on token roles tokens begun_so top goes below = no_true (begun_so refl)

quiet_turn : (one : Role) (at : Place) (on : Place → Type 0) → begins one ≡ false → Turns at (turn one) on → on at
quiet_turn role.TerminalsWord at on is goes = absurd (let no : true ≡ false = is in cc)
quiet_turn role.SyntaxWord at on is goes = absurd (let no : true ≡ false = is in cc)
quiet_turn role.CategoryName at on is goes = absurd (let no : true ≡ false = is in cc)
quiet_turn role.JudgmentWord at on is goes = absurd (let no : true ≡ false = is in cc)
quiet_turn role.RulePremise at on is goes = absurd (let no : true ≡ false = is in cc)
quiet_turn role.RuleBar at on is goes = absurd (let no : true ≡ false = is in cc)
quiet_turn role.AndWord at on is goes = absurd (let no : true ≡ false = is in cc)
quiet_turn role.TheoremWord at on is goes = absurd (let no : true ≡ false = is in cc)
quiet_turn role.StepName at on is goes = absurd (let no : true ≡ false = is in cc)
quiet_turn role.ProofWord at on is goes = absurd (let no : true ≡ false = is in cc)
quiet_turn role.InversionWord at on is goes = absurd (let no : true ≡ false = is in cc)
quiet_turn role.CaseWord at on is goes = absurd (let no : true ≡ false = is in cc)
quiet_turn role.EndWord at on is goes = absurd (let no : true ≡ false = is in cc)
quiet_turn role.NewCategory at on is goes = goes.1
quiet_turn _ at on is goes = goes

names_syntax : (at : Place) (roles : List Role) → names_category roles ≡ true → Ordered at roles → at ≡ in_syntax
unfolding Ordered
names_syntax at [] names goes = no_true names
names_syntax at (role.NewCategory ∷ roles) names goes = goes.0
names_syntax at (_ ∷ roles) names goes = no_true names

no_start : (a b : Bool) → (a || b) ≡ false → a ≡ false
no_start true b h = absurd (let no : true ≡ false = h in cc)
no_start false b h = refl

ordered_in : (at : Place) (roles : List Role) (tokens : List Token) → Follow roles → Ordered at roles → AreOrdered at (map plain_portion (portions roles tokens))
unfolding Follow Ordered
ordered_in at [] tokens follow goes = tt
ordered_in at (one ∷ roles) [] follow goes = tt
ordered_in at (one ∷ roles) (token ∷ tokens) follow goes = which (begins one || names_category roles) refl (λ later more. ordered_in later roles tokens follow.2 more)
  where
    which : (b : Bool) → (begins one || names_category roles) ≡ b → ((later : Place) → Ordered later roles → AreOrdered later (map plain_portion (portions roles tokens))) →
        AreOrdered at (map plain_portion (cond b (portion one token (take (portion_size (one ∷ roles)) (one ∷ roles)) (take (portion_size (one ∷ roles)) (token ∷ tokens)) ∷ portions roles tokens) (portions roles tokens)))
    which true is below =
        piece_ordered at (map plain_portion (portions roles tokens)) one (λ later. Ordered later roles) token (take (portion_size (one ∷ roles)) (one ∷ roles)) (take (portion_size (one ∷ roles)) (token ∷ tokens))
        (only_item (begins one) (names_category roles) (same_role one role.Item) is follow.1) (λ item more. names_syntax at roles (names_item one roles is item) more) goes below
    which false is below = below at (quiet_turn one at (λ later. Ordered later roles) (no_start (begins one) (names_category roles) is) goes)

outlined_in_order : (tokens : List Token) (roles : List Role) → IsOutlined tokens roles → AreOrdered elsewhere (map plain_portion (portions roles tokens))
outlined_in_order tokens roles is =
    ordered_in elsewhere roles tokens (subst (λ (rs : List Role). Follow rs) (sym is.2) (outlined_follow (writes is.1))) (subst (λ (rs : List Role). Ordered elsewhere rs) (sym is.2) (outlined_ordered (writes is.1)))

pub portions_ordered : PortionsAreOrdered
portions_ordered source found has =
    subst (AreOrdered elsewhere) (sym (has.plain ∙ ap (map plain_portion) has.outline.2)) (outlined_in_order has.tokens has.outline.0 has.outline.1)
