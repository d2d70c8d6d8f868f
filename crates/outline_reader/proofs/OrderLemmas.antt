-- What may follow a phrase, and that one token tells which way a derivation goes.
use Rattle.std.proofs.Common.{◌≡◌, ◌≢◌, ◌⊎◌, inl, inr, Bool, true, false, cond, not, ◌&&◌, ◌||◌, List, [], ◌∷◌, ◌++◌, map, Some, None, refl, sym, ◌∙◌, ap, subst, append_assoc}
use denote.Enum.Bare.{same_true}
use Rattle.outline_reader.specs.contracts.sort.Sort.{the_type}
use Rattle.outline_reader.specs.declared.fault.Part.{Part}
use Rattle.outline_reader.specs.declared.fault.Part.TheVariants.{Terminals}
use Rattle.outline_reader.specs.declared.sort.Sort.{Sort}
use Rattle.outline_reader.specs.declared.sort.Sort.TheVariants as s
use Rattle.outline_reader.specs.declared.machine.Seen.{Seen}
use Rattle.outline_reader.specs.declared.machine.Awaited.{Awaited}
use Rattle.outline_reader.specs.declared.symbols.Place.{Place}
use Rattle.outline_reader.specs.declared.symbols.Place.TheVariants as place
use Rattle.outline_reader.specs.declared.symbols.Class.{Class}
use Rattle.outline_reader.specs.declared.symbols.Class.TheVariants as class
use Rattle.outline_reader.specs.declared.symbols.Role.{Role}
use Rattle.outline_reader.specs.declared.symbols.Phrase.{Phrase}
use Rattle.outline_reader.specs.declared.symbols.Phrase.TheVariants as p
use Rattle.outline_reader.specs.declared.symbols.Times.{Times}
use Rattle.outline_reader.specs.declared.symbols.Times.TheVariants as times
use Rattle.outline_reader.specs.declared.symbols.Symbol.{Symbol}
use Rattle.outline_reader.specs.declared.symbols.Symbol.TheVariants.{One, Choice}
use Rattle.outline_reader.specs.declared.symbols.Item.{Item}
use Rattle.outline_reader.specs.declared.symbols.Item.TheVariants.{Here}
use Rattle.outline_reader.specs.declared.symbols.Item.TheVariants as item
use Rattle.outline_reader.specs.Grammar.{Alternative, times_of, alternatives, items}
use Rattle.outline_reader.specs.Derives.{same_sort, has, stands, fits, await, again, opened, level, Mark, IsOneOf, first, later, Reaches, here, token, alternative, left_out, whole}
use Rattle.outline_reader.specs.Machine.{chosen, is_once, take_choice, take, missing}
use Rattle.outline_reader.proofs.Truth.{and_left, and_right, either}

-- ---- what a token may begin

-- where a token stands, and which it may be
abbrev pub Start : Type 0
Start = Place × Class

abbrev pub all_of : {A : Type 0} → (A → Bool) → List A → Bool
all_of test [] = true
all_of test (x ∷ xs) = test x && all_of test xs

not_its_negation : {A : Type 0} (b : Bool) → b ≡ true → not b ≡ true → A
not_its_negation true e f = cc
not_its_negation false e f = cc

abbrev pub starts : List Alternative → List Start
starts [] = []
starts (x ∷ others) = (x.0, x.1) ∷ starts others

-- ---- starts that no token has both of

abbrev pub places_apart : Place → Place → Bool
places_apart place.First place.Next = true
places_apart place.Next place.First = true
places_apart place.First place.First = false
places_apart place.First place.Anywhere = false
places_apart place.Next place.Next = false
places_apart place.Next place.Anywhere = false
places_apart place.Anywhere other = false

abbrev pub classes_apart : Class → Class → Bool
classes_apart (class.Is sort) other = not (has other sort)
classes_apart class.Listed (class.Is sort) = not (has class.Listed sort)
classes_apart class.Formed (class.Is sort) = not (has class.Formed sort)
classes_apart class.ButBar (class.Is sort) = not (has class.ButBar sort)
classes_apart class.ButDot (class.Is sort) = not (has class.ButDot sort)
classes_apart class.ButParenthesis (class.Is sort) = not (has class.ButParenthesis sort)
classes_apart class.ButOr (class.Is sort) = not (has class.ButOr sort)
classes_apart class.ButOrDefine (class.Is sort) = not (has class.ButOrDefine sort)
classes_apart class.ButOrName (class.Is sort) = not (has class.ButOrName sort)
classes_apart _ _ = false

abbrev pub apart : Start → Start → Bool
apart x y = places_apart x.0 y.0 || classes_apart x.1 y.1

abbrev pub fits_start : Start → Seen → Bool
fits_start x one = fits x.0 x.1 one

places_not_both : (x y : Place) (b : Bool) → places_apart x y ≡ true → stands x b ≡ true → stands y b ≡ true → ⊥
places_not_both place.First place.Next b e f g = not_its_negation b f g
places_not_both place.Next place.First b e f g = not_its_negation b g f
places_not_both place.First place.First b e f g = cc
places_not_both place.First place.Anywhere b e f g = cc
places_not_both place.Next place.Next b e f g = cc
places_not_both place.Next place.Anywhere b e f g = cc
places_not_both place.Anywhere other b e f g = cc

pub is_sort : (sort one : Sort) → same_sort sort one ≡ true → sort ≡ one
is_sort sort one e = same_true the_type tt sort one e

sort_not_in : (one sort : Sort) (other : Class) → not (has other one) ≡ true → same_sort sort one ≡ true → has other sort ≡ true → ⊥
sort_not_in one sort other e f g = not_its_negation (has other one) (ap (has other) (sym (is_sort sort one f)) ∙ g) e

classes_not_both : (c d : Class) (sort : Sort) → classes_apart c d ≡ true → has c sort ≡ true → has d sort ≡ true → ⊥
classes_not_both (class.Is one) d sort e f g = sort_not_in one sort d e f g
classes_not_both class.Listed (class.Is one) sort e f g = sort_not_in one sort class.Listed e g f
classes_not_both class.Formed (class.Is one) sort e f g = sort_not_in one sort class.Formed e g f
classes_not_both class.ButBar (class.Is one) sort e f g = sort_not_in one sort class.ButBar e g f
classes_not_both class.ButDot (class.Is one) sort e f g = sort_not_in one sort class.ButDot e g f
classes_not_both class.ButParenthesis (class.Is one) sort e f g = sort_not_in one sort class.ButParenthesis e g f
classes_not_both class.ButOr (class.Is one) sort e f g = sort_not_in one sort class.ButOr e g f
classes_not_both class.ButOrDefine (class.Is one) sort e f g = sort_not_in one sort class.ButOrDefine e g f
classes_not_both class.ButOrName (class.Is one) sort e f g = sort_not_in one sort class.ButOrName e g f
classes_not_both _ _ sort e f g = cc

not_both : (x y : Start) (one : Seen) → apart x y ≡ true → fits_start x one ≡ true → fits_start y one ≡ true → ⊥
not_both x y one e f g = by_cases (either (places_apart x.0 y.0) (classes_apart x.1 y.1) e)
  where
    by_cases : (places_apart x.0 y.0 ≡ true) ⊎ (classes_apart x.1 y.1 ≡ true) → ⊥
    by_cases (inl h) = places_not_both x.0 y.0 one.begins h (and_left _ _ f) (and_left _ _ g)
    by_cases (inr h) = classes_not_both x.1 y.1 one.sort h (and_right (stands x.0 one.begins) _ f) (and_right (stands y.0 one.begins) _ g)

pub to_false : (b : Bool) → (b ≡ true → ⊥) → b ≡ false
to_false true h = absurd (h refl)
to_false false h = refl

-- ---- lists of starts

abbrev pub same_place : Place → Place → Bool
same_place place.First place.First = true
same_place place.Next place.Next = true
same_place place.Anywhere place.Anywhere = true
same_place _ _ = false

abbrev pub same_class : Class → Class → Bool
same_class (class.Is a) (class.Is b) = same_sort a b
same_class class.Listed class.Listed = true
same_class class.Formed class.Formed = true
same_class class.ButBar class.ButBar = true
same_class class.ButDot class.ButDot = true
same_class class.ButParenthesis class.ButParenthesis = true
same_class class.ButOr class.ButOr = true
same_class class.ButOrDefine class.ButOrDefine = true
same_class class.ButOrName class.ButOrName = true
same_class _ _ = false

place_is : (x y : Place) → same_place x y ≡ true → x ≡ y
place_is place.First place.First e = refl
place_is place.Next place.Next e = refl
place_is place.Anywhere place.Anywhere e = refl
place_is _ _ e = cc

class_is : (x y : Class) → same_class x y ≡ true → x ≡ y
class_is (class.Is a) (class.Is b) e = ap class.Is (is_sort a b e)
class_is class.Listed class.Listed e = refl
class_is class.Formed class.Formed e = refl
class_is class.ButBar class.ButBar e = refl
class_is class.ButDot class.ButDot e = refl
class_is class.ButParenthesis class.ButParenthesis e = refl
class_is class.ButOr class.ButOr e = refl
class_is class.ButOrDefine class.ButOrDefine e = refl
class_is class.ButOrName class.ButOrName e = refl
class_is _ _ e = cc

abbrev pub is_in : Start → List Start → Bool
is_in x [] = false
is_in x (y ∷ ys) = (same_place x.0 y.0 && same_class x.1 y.1) || is_in x ys

abbrev pub subset : List Start → List Start → Bool
subset xs ys = all_of (λ x. is_in x ys) xs

abbrev pub In : Start → List Start → Type 0
In x [] = ⊥
In x (y ∷ ys) = (x ≡ y) ⊎ In x ys

abbrev pub Subset : List Start → List Start → Type 0
Subset xs ys = (x : Start) → In x xs → In x ys

in_from : (x : Start) (ys : List Start) → is_in x ys ≡ true → In x ys
in_from x [] e = cc
in_from x (y ∷ ys) e = by_cases (λ e. in_from x ys e) (either (same_place x.0 y.0 && same_class x.1 y.1) (is_in x ys) e)
  where
    by_cases : (is_in x ys ≡ true → In x ys) → (same_place x.0 y.0 && same_class x.1 y.1 ≡ true) ⊎ (is_in x ys ≡ true) → (x ≡ y) ⊎ In x ys
    by_cases below (inl h) =
        let places : x.0 ≡ y.0 = place_is x.0 y.0 (and_left _ _ h) in
        let classes : x.1 ≡ y.1 = class_is x.1 y.1 (and_right (same_place x.0 y.0) _ h) in
        inl (ap (λ (q : Place). let start : Start = (q, x.1) in start) places ∙ ap (λ (c : Class). let start : Start = (y.0, c) in start) classes)
    by_cases below (inr h) = inr (below h)

subset_from : (xs ys : List Start) → subset xs ys ≡ true → Subset xs ys
subset_from [] ys e = λ x h. absurd h
subset_from (z ∷ xs) ys e = λ x h. by_cases x (subset_from xs ys (and_right (is_in z ys) _ e)) h
  where
    by_cases : (x : Start) → Subset xs ys → (x ≡ z) ⊎ In x xs → In x ys
    by_cases x below (inl h) = subst (λ (w : Start). In w ys) (sym h) (in_from z ys (and_left _ _ e))
    by_cases x below (inr h) = below x h

in_append : (x : Start) (xs ys : List Start) → In x (xs ++ ys) → In x xs ⊎ In x ys
in_append x [] ys h = inr h
in_append x (z ∷ xs) ys (inl h) = inl (inl h)
in_append x (z ∷ xs) ys (inr h) = by_cases (in_append x xs ys h)
  where
    by_cases : In x xs ⊎ In x ys → ((x ≡ z) ⊎ In x xs) ⊎ In x ys
    by_cases (inl k) = inl (inr k)
    by_cases (inr k) = inr k

in_left : (x : Start) (xs ys : List Start) → In x xs → In x (xs ++ ys)
in_left x [] ys h = absurd h
in_left x (z ∷ xs) ys (inl h) = inl h
in_left x (z ∷ xs) ys (inr h) = inr (in_left x xs ys h)

in_right : (x : Start) (xs ys : List Start) → In x ys → In x (xs ++ ys)
in_right x [] ys h = h
in_right x (z ∷ xs) ys h = inr (in_right x xs ys h)

subset_append : (xs ys zs : List Start) → Subset ys zs → Subset (xs ++ ys) (xs ++ zs)
subset_append xs ys zs sub x h = by_cases (in_append x xs ys h)
  where
    by_cases : In x xs ⊎ In x ys → In x (xs ++ zs)
    by_cases (inl k) = in_left x xs zs k
    by_cases (inr k) = in_right x xs zs (sub x k)

-- ---- what the symbols that are to come begin with

abbrev pub symbol_firsts : Symbol → List Start → List Start
symbol_firsts (One place class role) after = (place, class) ∷ []
symbol_firsts (Choice phrase) after = starts (alternatives phrase) ++ cond (is_once (times_of phrase)) [] after

abbrev pub firsts : List Awaited → List Start
firsts [] = []
firsts (next ∷ rest) = symbol_firsts next.symbol (firsts rest)

symbol_firsts_more : (symbol : Symbol) (xs ys : List Start) → Subset xs ys → Subset (symbol_firsts symbol xs) (symbol_firsts symbol ys)
symbol_firsts_more (One place class role) xs ys sub = λ x h. h
symbol_firsts_more (Choice phrase) xs ys sub = by_times (is_once (times_of phrase))
  where
    by_times : (b : Bool) → Subset (starts (alternatives phrase) ++ cond b [] xs) (starts (alternatives phrase) ++ cond b [] ys)
    by_times true = λ x h. h
    by_times false = subset_append (starts (alternatives phrase)) xs ys sub

-- a start of what is to come fits the token that comes first
abbrev pub Begun : List Start → Seen → Type 0
Begun xs one = (x : Start) × In x xs × (fits_start x one ≡ true)

begun_more : (xs ys : List Start) (one : Seen) → Subset xs ys → Begun xs one → Begun ys one
begun_more xs ys one sub h = (h.0, sub h.0 h.1, h.2)

one_starts : {one : Alternative} {others : List Alternative} → IsOneOf one others → In (one.0, one.1) (starts others)
one_starts (first rest) = inl refl
one_starts (later other rest h) = inr (one_starts h)

abbrev pub BegunBy : List Awaited → List Seen → Type 0
BegunBy awaited [] = Unit {0}
BegunBy awaited (one ∷ more) = Begun (firsts awaited) one

pub once_not : (often : Times) → often ≢ times.Once → is_once often ≡ false
once_not times.Once e = absurd (e refl)
once_not times.AtMostOnce e = refl
once_not times.Any e = refl

begun_later : (within : Part) (phrase : Phrase) (rest : List Awaited) (more : List Seen) → times_of phrase ≢ times.Once → BegunBy rest more →
    BegunBy (record { within = within; symbol = Choice phrase } ∷ rest) more
begun_later within phrase rest [] many h = tt
begun_later within phrase rest (one ∷ more) many h = begun_more (firsts rest) _ one (λ x k. by_times x (is_once (times_of phrase)) (once_not (times_of phrase) many) k) h
  where
    by_times : (x : Start) (b : Bool) → b ≡ false → In x (firsts rest) → In x (starts (alternatives phrase) ++ cond b [] (firsts rest))
    by_times x true e k = cc
    by_times x false e k = in_right x (starts (alternatives phrase)) (firsts rest) k

-- the first token of what the grammar derives is among the starts
pub begins : {left awaited : List Awaited} {more : List Seen} {marks : List Mark} → Reaches left awaited more marks → BegunBy awaited more
begins here = tt
begins (token within place class role rest one more marks fit d) = ((place, class), inl refl, fit)
begins (alternative within phrase rest place class role what one more marks is fit d) =
    ((place, class), in_left (place, class) (starts (alternatives phrase)) (cond (is_once (times_of phrase)) [] (firsts rest)) (one_starts is), fit)
begins (left_out within phrase rest more marks many d) = begun_later within phrase rest more many (begins d)

-- ---- what may follow a phrase

abbrev pub follow : Phrase → List Start
follow p.Parts = (place.First, (class.Is s.Theorem)) ∷ (place.First, (class.Is s.Lemma)) ∷ []
follow p.FirstTheorem = []
follow p.LaterParts = []
follow p.AndKind = (place.First, (class.Is s.Terminals)) ∷ (place.First, (class.Is s.Syntax)) ∷ (place.First, (class.Is s.Judgment)) ∷ (place.First, (class.Is s.Theorem)) ∷ (place.First, (class.Is s.Lemma)) ∷ (place.First, (class.Is s.And)) ∷ []
follow p.TheoremBody = (place.First, (class.Is s.Terminals)) ∷ (place.First, (class.Is s.Syntax)) ∷ (place.First, (class.Is s.Judgment)) ∷ (place.First, (class.Is s.Theorem)) ∷ (place.First, (class.Is s.Lemma)) ∷ (place.First, (class.Is s.And)) ∷ []
follow p.LemmaBody = (place.First, (class.Is s.Terminals)) ∷ (place.First, (class.Is s.Syntax)) ∷ (place.First, (class.Is s.Judgment)) ∷ (place.First, (class.Is s.Theorem)) ∷ (place.First, (class.Is s.Lemma)) ∷ (place.First, (class.Is s.And)) ∷ []
follow p.MoreListed = (place.First, (class.Is s.Terminals)) ∷ (place.First, (class.Is s.Syntax)) ∷ (place.First, (class.Is s.Judgment)) ∷ (place.First, (class.Is s.Theorem)) ∷ (place.First, (class.Is s.Lemma)) ∷ (place.First, (class.Is s.And)) ∷ []
follow p.FirstDefine = (place.First, (class.Is s.Terminals)) ∷ (place.First, (class.Is s.Syntax)) ∷ (place.First, (class.Is s.Judgment)) ∷ (place.First, (class.Is s.Theorem)) ∷ (place.First, (class.Is s.Lemma)) ∷ (place.First, (class.Is s.And)) ∷ []
follow p.Productions = (place.First, (class.Is s.Terminals)) ∷ (place.First, (class.Is s.Syntax)) ∷ (place.First, (class.Is s.Judgment)) ∷ (place.First, (class.Is s.Theorem)) ∷ (place.First, (class.Is s.Lemma)) ∷ (place.First, (class.Is s.And)) ∷ []
follow p.AfterLineName = (place.First, (class.Is s.Terminals)) ∷ (place.First, (class.Is s.Syntax)) ∷ (place.First, (class.Is s.Judgment)) ∷ (place.First, (class.Is s.Theorem)) ∷ (place.First, (class.Is s.Lemma)) ∷ (place.First, (class.Is s.And)) ∷ []
follow p.AfterLineToken = (place.First, (class.Is s.Terminals)) ∷ (place.First, (class.Is s.Syntax)) ∷ (place.First, (class.Is s.Judgment)) ∷ (place.First, (class.Is s.Theorem)) ∷ (place.First, (class.Is s.Lemma)) ∷ (place.First, (class.Is s.And)) ∷ []
follow p.MoreOnLine = (place.Anywhere, (class.Is s.Assumes)) ∷ (place.First, class.ButBar) ∷ (place.First, (class.Is s.Bar)) ∷ (place.First, (class.Is s.Terminals)) ∷ (place.First, (class.Is s.Syntax)) ∷ (place.First, (class.Is s.Judgment)) ∷ (place.First, (class.Is s.Theorem)) ∷ (place.First, (class.Is s.Lemma)) ∷ (place.First, (class.Is s.And)) ∷ (place.Next, (class.Is s.Assumes)) ∷ (place.Next, (class.Is s.Is)) ∷ (place.First, (class.Is s.Name)) ∷ (place.First, (class.Is s.Is)) ∷ []
follow p.MoreOfForm = (place.Anywhere, (class.Is s.Forall)) ∷ (place.Anywhere, (class.Is s.Exists)) ∷ (place.Anywhere, (class.Is s.By)) ∷ []
follow p.JudgmentAssumes = (place.First, class.ButBar) ∷ (place.First, (class.Is s.Bar)) ∷ (place.First, (class.Is s.Terminals)) ∷ (place.First, (class.Is s.Syntax)) ∷ (place.First, (class.Is s.Judgment)) ∷ (place.First, (class.Is s.Theorem)) ∷ (place.First, (class.Is s.Lemma)) ∷ (place.First, (class.Is s.And)) ∷ []
follow p.Rules = (place.First, (class.Is s.Terminals)) ∷ (place.First, (class.Is s.Syntax)) ∷ (place.First, (class.Is s.Judgment)) ∷ (place.First, (class.Is s.Theorem)) ∷ (place.First, (class.Is s.Lemma)) ∷ (place.First, (class.Is s.And)) ∷ []
follow p.RuleLines = (place.First, class.ButBar) ∷ (place.First, (class.Is s.Bar)) ∷ (place.First, (class.Is s.Terminals)) ∷ (place.First, (class.Is s.Syntax)) ∷ (place.First, (class.Is s.Judgment)) ∷ (place.First, (class.Is s.Theorem)) ∷ (place.First, (class.Is s.Lemma)) ∷ (place.First, (class.Is s.And)) ∷ []
follow p.TheoremAssumes = (place.Anywhere, (class.Is s.Forall)) ∷ (place.Anywhere, (class.Is s.Exists)) ∷ []
follow p.Inputs = (place.Anywhere, (class.Is s.Exists)) ∷ []
follow p.InputForm = (place.Anywhere, (class.Is s.Forall)) ∷ (place.Anywhere, (class.Is s.Exists)) ∷ []
follow p.Output = (place.First, (class.Is s.Use)) ∷ (place.First, (class.Is s.Name)) ∷ (place.First, (class.Is s.Proof)) ∷ (place.First, (class.Is s.Inversion)) ∷ (place.First, (class.Is s.End)) ∷ []
follow p.OutputAfterDot = (place.First, (class.Is s.Use)) ∷ (place.First, (class.Is s.Name)) ∷ (place.First, (class.Is s.Proof)) ∷ (place.First, (class.Is s.Inversion)) ∷ (place.First, (class.Is s.End)) ∷ []
follow p.OutputTokens = (place.Anywhere, (class.Is s.Dot)) ∷ []
follow p.OutputGoesOn = (place.First, (class.Is s.Use)) ∷ (place.First, (class.Is s.Name)) ∷ (place.First, (class.Is s.Proof)) ∷ (place.First, (class.Is s.Inversion)) ∷ (place.First, (class.Is s.End)) ∷ []
follow p.Proof = (place.First, (class.Is s.End)) ∷ []
follow p.MoreTargets = (place.First, (class.Is s.Name)) ∷ (place.First, (class.Is s.Proof)) ∷ (place.First, (class.Is s.Inversion)) ∷ (place.First, (class.Is s.End)) ∷ []
follow p.Steps = (place.First, (class.Is s.End)) ∷ []
follow p.Just = (place.First, (class.Is s.Name)) ∷ (place.First, (class.Is s.Proof)) ∷ (place.First, (class.Is s.Inversion)) ∷ (place.First, (class.Is s.End)) ∷ []
follow p.FirstJust = (place.First, (class.Is s.Name)) ∷ (place.First, (class.Is s.Proof)) ∷ (place.First, (class.Is s.Inversion)) ∷ (place.First, (class.Is s.End)) ∷ []
follow p.InductionOrHypothesis = (place.First, (class.Is s.Name)) ∷ (place.First, (class.Is s.Proof)) ∷ (place.First, (class.Is s.Inversion)) ∷ (place.First, (class.Is s.End)) ∷ []
follow p.Args = (place.First, (class.Is s.Name)) ∷ (place.First, (class.Is s.Proof)) ∷ (place.First, (class.Is s.Inversion)) ∷ (place.First, (class.Is s.End)) ∷ []
follow p.MoreArgs = (place.First, (class.Is s.Name)) ∷ (place.First, (class.Is s.Proof)) ∷ (place.First, (class.Is s.Inversion)) ∷ (place.First, (class.Is s.End)) ∷ []
follow p.Arg = (place.First, (class.Is s.Name)) ∷ (place.First, (class.Is s.Bar)) ∷ (place.Next, (class.Is s.Colon)) ∷ (place.First, (class.Is s.Proof)) ∷ (place.First, (class.Is s.Inversion)) ∷ (place.First, (class.Is s.End)) ∷ (place.Next, (class.Is s.Comma)) ∷ []
follow p.Enclosed = (place.Next, (class.Is s.Close)) ∷ []
follow p.MoreEnclosed = (place.Next, (class.Is s.Close)) ∷ []
follow p.CaseList = (place.First, (class.Is s.End)) ∷ []
follow p.CaseHead = (place.First, (class.Is s.Name)) ∷ (place.First, (class.Is s.Proof)) ∷ (place.First, (class.Is s.Inversion)) ∷ (place.First, (class.Is s.End)) ∷ []
follow p.CaseAssumes = (place.Next, (class.Is s.Is)) ∷ []
follow p.HeadLines = (place.First, (class.Is s.Is)) ∷ []
follow p.Inverted = (place.First, (class.Is s.End)) ∷ []

-- ---- the grammar, looked through

-- what may follow an alternative of the phrase
abbrev pub tail_of : Times → Phrase → List Start
tail_of times.Any phrase = starts (alternatives phrase) ++ follow phrase
tail_of times.Once phrase = follow phrase
tail_of times.AtMostOnce phrase = follow phrase

abbrev pub symbol_of : Item → Symbol
symbol_of (Here symbol) = symbol
symbol_of (item.In part symbol) = symbol

abbrev pub item_firsts : List Item → List Start → List Start
item_firsts [] after = after
item_firsts (x ∷ rest) after = symbol_firsts (symbol_of x) (item_firsts rest after)

abbrev pub check_symbol : Symbol → List Start → Bool
check_symbol (One place class role) after = true
check_symbol (Choice phrase) after = subset after (follow phrase)

-- what comes behind each phrase may follow it
abbrev pub check_items : List Item → List Start → Bool
check_items [] after = true
check_items (x ∷ rest) after = check_symbol (symbol_of x) (item_firsts rest after) && check_items rest after

abbrev pub check_follow : Phrase → Bool
check_follow phrase = all_of (λ (one : Alternative). check_items (items one.3) (tail_of (times_of phrase) phrase)) (alternatives phrase)

-- no two alternatives begin alike
abbrev pub differ : List Alternative → Bool
differ [] = true
differ (one ∷ others) = all_of (λ (other : Start). apart (one.0, one.1) other) (starts others) && differ others

-- and no alternative begins as what may follow, where the phrase may be left out
abbrev pub check_apart : Phrase → Bool
check_apart phrase = is_once (times_of phrase) || all_of (λ (one : Start). all_of (λ other. apart one other) (follow phrase)) (starts (alternatives phrase))

pub follow_holds : (phrase : Phrase) → check_follow phrase ≡ true
follow_holds p.Parts = refl
follow_holds p.FirstTheorem = refl
follow_holds p.LaterParts = refl
follow_holds p.AndKind = refl
follow_holds p.TheoremBody = refl
follow_holds p.LemmaBody = refl
follow_holds p.MoreListed = refl
follow_holds p.FirstDefine = refl
follow_holds p.Productions = refl
follow_holds p.AfterLineName = refl
follow_holds p.AfterLineToken = refl
follow_holds p.MoreOnLine = refl
follow_holds p.MoreOfForm = refl
follow_holds p.JudgmentAssumes = refl
follow_holds p.Rules = refl
follow_holds p.RuleLines = refl
follow_holds p.TheoremAssumes = refl
follow_holds p.Inputs = refl
follow_holds p.InputForm = refl
follow_holds p.Output = refl
follow_holds p.OutputAfterDot = refl
follow_holds p.OutputTokens = refl
follow_holds p.OutputGoesOn = refl
follow_holds p.Proof = refl
follow_holds p.MoreTargets = refl
follow_holds p.Steps = refl
follow_holds p.Just = refl
follow_holds p.FirstJust = refl
follow_holds p.InductionOrHypothesis = refl
follow_holds p.Args = refl
follow_holds p.MoreArgs = refl
follow_holds p.Arg = refl
follow_holds p.Enclosed = refl
follow_holds p.MoreEnclosed = refl
follow_holds p.CaseList = refl
follow_holds p.CaseHead = refl
follow_holds p.CaseAssumes = refl
follow_holds p.HeadLines = refl
follow_holds p.Inverted = refl

pub differ_holds : (phrase : Phrase) → differ (alternatives phrase) ≡ true
differ_holds p.Parts = refl
differ_holds p.FirstTheorem = refl
differ_holds p.LaterParts = refl
differ_holds p.AndKind = refl
differ_holds p.TheoremBody = refl
differ_holds p.LemmaBody = refl
differ_holds p.MoreListed = refl
differ_holds p.FirstDefine = refl
differ_holds p.Productions = refl
differ_holds p.AfterLineName = refl
differ_holds p.AfterLineToken = refl
differ_holds p.MoreOnLine = refl
differ_holds p.MoreOfForm = refl
differ_holds p.JudgmentAssumes = refl
differ_holds p.Rules = refl
differ_holds p.RuleLines = refl
differ_holds p.TheoremAssumes = refl
differ_holds p.Inputs = refl
differ_holds p.InputForm = refl
differ_holds p.Output = refl
differ_holds p.OutputAfterDot = refl
differ_holds p.OutputTokens = refl
differ_holds p.OutputGoesOn = refl
differ_holds p.Proof = refl
differ_holds p.MoreTargets = refl
differ_holds p.Steps = refl
differ_holds p.Just = refl
differ_holds p.FirstJust = refl
differ_holds p.InductionOrHypothesis = refl
differ_holds p.Args = refl
differ_holds p.MoreArgs = refl
differ_holds p.Arg = refl
differ_holds p.Enclosed = refl
differ_holds p.MoreEnclosed = refl
differ_holds p.CaseList = refl
differ_holds p.CaseHead = refl
differ_holds p.CaseAssumes = refl
differ_holds p.HeadLines = refl
differ_holds p.Inverted = refl

pub apart_holds : (phrase : Phrase) → check_apart phrase ≡ true
apart_holds p.Parts = refl
apart_holds p.FirstTheorem = refl
apart_holds p.LaterParts = refl
apart_holds p.AndKind = refl
apart_holds p.TheoremBody = refl
apart_holds p.LemmaBody = refl
apart_holds p.MoreListed = refl
apart_holds p.FirstDefine = refl
apart_holds p.Productions = refl
apart_holds p.AfterLineName = refl
apart_holds p.AfterLineToken = refl
apart_holds p.MoreOnLine = refl
apart_holds p.MoreOfForm = refl
apart_holds p.JudgmentAssumes = refl
apart_holds p.Rules = refl
apart_holds p.RuleLines = refl
apart_holds p.TheoremAssumes = refl
apart_holds p.Inputs = refl
apart_holds p.InputForm = refl
apart_holds p.Output = refl
apart_holds p.OutputAfterDot = refl
apart_holds p.OutputTokens = refl
apart_holds p.OutputGoesOn = refl
apart_holds p.Proof = refl
apart_holds p.MoreTargets = refl
apart_holds p.Steps = refl
apart_holds p.Just = refl
apart_holds p.FirstJust = refl
apart_holds p.InductionOrHypothesis = refl
apart_holds p.Args = refl
apart_holds p.MoreArgs = refl
apart_holds p.Arg = refl
apart_holds p.Enclosed = refl
apart_holds p.MoreEnclosed = refl
apart_holds p.CaseList = refl
apart_holds p.CaseHead = refl
apart_holds p.CaseAssumes = refl
apart_holds p.HeadLines = refl
apart_holds p.Inverted = refl

-- ---- stacks in order: what stands behind a phrase may follow it

abbrev pub OrderedSymbol : Symbol → List Start → Type 0
OrderedSymbol (One place class role) after = Unit {0}
OrderedSymbol (Choice phrase) after = Subset after (follow phrase)

abbrev pub Ordered : List Awaited → Type 0
Ordered [] = Unit {0}
Ordered (next ∷ rest) = OrderedSymbol next.symbol (firsts rest) × Ordered rest

pub await_symbol : (within : Part) (x : Item) → (await within x).symbol ≡ symbol_of x
await_symbol within (Here symbol) = refl
await_symbol within (item.In part symbol) = refl

item_firsts_more : (xs : List Item) (within : Part) (rest : List Awaited) (after : List Start) → Subset (firsts rest) after →
    Subset (firsts (map (await within) xs ++ rest)) (item_firsts xs after)
item_firsts_more [] within rest after sub = sub
item_firsts_more (x ∷ xs) within rest after sub =
    subst (λ (symbol : Symbol). Subset (symbol_firsts symbol (firsts (map (await within) xs ++ rest))) (symbol_firsts (symbol_of x) (item_firsts xs after))) (sym (await_symbol within x))
    (symbol_firsts_more (symbol_of x) _ _ (item_firsts_more xs within rest after sub))

subset_trans : (xs ys zs : List Start) → Subset xs ys → Subset ys zs → Subset xs zs
subset_trans xs ys zs f g = λ x h. g x (f x h)

ordered_symbol : (symbol : Symbol) (xs after : List Start) → Subset xs after → check_symbol symbol after ≡ true → OrderedSymbol symbol xs
ordered_symbol (One place class role) xs after sub e = tt
ordered_symbol (Choice phrase) xs after sub e = subset_trans xs after (follow phrase) sub (subset_from after (follow phrase) e)

ordered_items : (xs : List Item) (within : Part) (rest : List Awaited) (after : List Start) → check_items xs after ≡ true → Subset (firsts rest) after → Ordered rest →
    Ordered (map (await within) xs ++ rest)
ordered_items [] within rest after e sub order = order
ordered_items (x ∷ xs) within rest after e sub order = (
  subst (λ (symbol : Symbol). OrderedSymbol symbol (firsts (map (await within) xs ++ rest))) (sym (await_symbol within x))
      (ordered_symbol (symbol_of x) (firsts (map (await within) xs ++ rest)) (item_firsts xs after) (item_firsts_more xs within rest after sub) (and_left _ _ e)),
  ordered_items xs within rest after (and_right (check_symbol (symbol_of x) (item_firsts xs after)) _ e) sub order,
)

one_passes : (test : Alternative → Bool) {one : Alternative} {others : List Alternative} → IsOneOf one others → all_of test others ≡ true → test one ≡ true
one_passes test (first rest) e = and_left _ _ e
one_passes test (later other rest h) e = one_passes test h (and_right (test other) _ e)

-- what an alternative opens keeps the order
ordered_again : (often : Times) (within : Part) (phrase : Phrase) (rest : List Awaited) → often ≡ times_of phrase → Ordered (record { within = within; symbol = Choice phrase } ∷ rest) →
    Subset (firsts (again often (record { within = within; symbol = Choice phrase }) ++ rest)) (tail_of often phrase) × Ordered (again often (record { within = within; symbol = Choice phrase }) ++ rest)
ordered_again times.Any within phrase rest e order = (
  subst (λ (often : Times). Subset (starts (alternatives phrase) ++ cond (is_once often) [] (firsts rest)) (starts (alternatives phrase) ++ follow phrase)) e
      (subset_append (starts (alternatives phrase)) (firsts rest) (follow phrase) order.0),
  order,
)
ordered_again times.Once within phrase rest e order = order
ordered_again times.AtMostOnce within phrase rest e order = order

ordered_opened : (within : Part) (phrase : Phrase) (rest : List Awaited) (one : Alternative) → IsOneOf one (alternatives phrase) →
    Ordered (record { within = within; symbol = Choice phrase } ∷ rest) → Ordered (opened within phrase one.3 ++ rest)
ordered_opened within phrase rest one is order =
    let behind = ordered_again (times_of phrase) within phrase rest refl order in
    let checked : check_items (items one.3) (tail_of (times_of phrase) phrase) ≡ true = one_passes (λ (one : Alternative). check_items (items one.3) (tail_of (times_of phrase) phrase)) is (follow_holds phrase) in
    subst (λ (stack : List Awaited). Ordered stack) (sym (append_assoc (map (await within) (items one.3)) (again (times_of phrase) (record { within = within; symbol = Choice phrase })) rest))
    (ordered_items (items one.3) within (again (times_of phrase) (record { within = within; symbol = Choice phrase }) ++ rest) (tail_of (times_of phrase) phrase) checked behind.0 behind.1)

-- ---- one token tells

start_passes : (test : Start → Bool) (x : Start) (xs : List Start) → all_of test xs ≡ true → In x xs → test x ≡ true
start_passes test x [] e h = absurd h
start_passes test x (y ∷ ys) e (inl h) = ap test h ∙ and_left _ _ e
start_passes test x (y ∷ ys) e (inr h) = start_passes test x ys (and_right (test y) _ e) h

-- the alternative that fits is chosen
chosen_one : {one : Alternative} {others : List Alternative} (seen : Seen) → IsOneOf one others → differ others ≡ true → fits one.0 one.1 seen ≡ true →
    chosen others seen ≡ Some (one.2, one.3)
chosen_one {one = one} seen (first rest) e fit = ap (λ b. cond b (Some (one.2, one.3)) (chosen rest seen)) fit
chosen_one {one = one} seen (later other rest h) e fit =
    let away : apart (other.0, other.1) (one.0, one.1) ≡ true = start_passes (λ (x : Start). apart (other.0, other.1) x) (one.0, one.1) (starts rest) (and_left _ _ e) (one_starts h) in
    let no : fits other.0 other.1 seen ≡ false = to_false _ (λ f. not_both (other.0, other.1) (one.0, one.1) seen away f fit) in
    ap (λ b. cond b (Some (other.2, other.3)) (chosen rest seen)) no ∙ chosen_one seen h (and_right (all_of (λ (x : Start). apart (other.0, other.1) x) (starts rest)) _ e) fit

-- where the token begins what may follow, no alternative is chosen
chosen_none : (others : List Alternative) (x : Start) (xs : List Start) (seen : Seen) → In x xs → fits_start x seen ≡ true →
    all_of (λ (one : Start). all_of (λ other. apart one other) xs) (starts others) ≡ true → chosen others seen ≡ None
chosen_none [] x xs seen h fit e = refl
chosen_none (one ∷ others) x xs seen h fit e =
    let away : apart (one.0, one.1) x ≡ true = start_passes (λ other. apart (one.0, one.1) other) x xs (and_left _ _ e) h in
    let no : fits one.0 one.1 seen ≡ false = to_false _ (λ f. not_both (one.0, one.1) x seen away f fit) in
    ap (λ b. cond b (Some (one.2, one.3)) (chosen others seen)) no ∙ chosen_none others x xs seen h fit (and_right (all_of (λ other. apart (one.0, one.1) other) xs) _ e)

-- what follows from the first token of a derivation
pub record FirstStep (left awaited : List Awaited) (one : Seen) (more : List Seen) (marks : List Mark) : Type 0 where
  pub role : Role
  pub next : List Awaited
  pub others : List Mark
  pub taken : take awaited one ≡ Some (role, next)
  pub marked : marks ≡ record { role = role; level = level next } ∷ others
  pub derives : Reaches left next more others
  pub ordered : Ordered next

abbrev pub Told : List Awaited → List Awaited → List Seen → List Mark → Type 0
Told left awaited [] marks = (missing awaited ≡ missing left) × (marks ≡ [])
Told left awaited (one ∷ more) marks = FirstStep left awaited one more marks

or_false : (a b : Bool) → a || b ≡ true → a ≡ false → b ≡ true
or_false true b e f = cc
or_false false b e f = e

left_out_told : (left : List Awaited) (within : Part) (phrase : Phrase) (rest : List Awaited) (more : List Seen) (marks : List Mark) → times_of phrase ≢ times.Once →
    Ordered (record { within = within; symbol = Choice phrase } ∷ rest) → BegunBy rest more → Told left rest more marks → Told left (record { within = within; symbol = Choice phrase } ∷ rest) more marks
left_out_told left within phrase rest [] marks many order begun told = (ap (λ b. cond (not b) (missing rest) (Some within)) (once_not (times_of phrase) many) ∙ told.0, told.1)
left_out_told left within phrase rest (one ∷ more) marks many order begun told =
    let many_is : is_once (times_of phrase) ≡ false = once_not (times_of phrase) many in
    let away = or_false (is_once (times_of phrase)) _ (apart_holds phrase) many_is in
    let none : chosen (alternatives phrase) one ≡ None = chosen_none (alternatives phrase) begun.0 (follow phrase) one (order.0 begun.0 begun.1) begun.2 away in
    record {
      role = told.role;
      next = told.next;
      others = told.others;
      taken = ap (λ found. take_choice found within phrase rest (take rest one)) none ∙ ap (λ b. cond b None (take rest one)) many_is ∙ told.taken;
      marked = told.marked;
      derives = told.derives;
      ordered = told.ordered;
    }

-- the first token tells which way a derivation goes
pub told : {left awaited : List Awaited} {more : List Seen} {marks : List Mark} → Reaches left awaited more marks → Ordered awaited → Told left awaited more marks
told here order = (refl, refl)
told (token within place class role rest one more marks fit d) order = record {
  role = role;
  next = rest;
  others = marks;
  taken = ap (λ b. cond b (Some (role, rest)) None) fit;
  marked = refl;
  derives = d;
  ordered = order.1;
}
told (alternative within phrase rest place class role what one more marks is fit d) order = record {
  role = role;
  next = opened within phrase what ++ rest;
  others = marks;
  taken = ap (λ found. take_choice found within phrase rest (take rest one)) (chosen_one one is (differ_holds phrase) fit);
  marked = refl;
  derives = d;
  ordered = ordered_opened within phrase rest (place, class, role, what) is order;
}
told {left = left} (left_out within phrase rest more marks many d) order = left_out_told left within phrase rest more marks many order (begins d) (told d order.1)

pub whole_ordered : Ordered whole
whole_ordered = (subset_from (firsts (record { within = Terminals; symbol = Choice p.FirstTheorem } ∷ [])) (follow p.Parts) refl, ((λ x h. absurd h), tt))
