-- Whatever is to come can come.
use Rattle.std.proofs.Common.{◌≡◌, Bool, true, false, cond, List, [], ◌∷◌, ◌++◌, map, refl, sym, ◌∙◌, ap, subst, append_assoc}
use denote.Enum.Bare.{true_same}
use Rattle.outline_reader.specs.contracts.sort.Sort.{the_type}
use Rattle.outline_reader.specs.declared.fault.Part.{Part}
use Rattle.outline_reader.specs.declared.sort.Sort.{Sort}
use Rattle.outline_reader.specs.declared.sort.Sort.TheVariants as s
use Rattle.outline_reader.specs.declared.machine.Seen.{Seen}
use Rattle.outline_reader.specs.declared.machine.Awaited.{Awaited}
use Rattle.outline_reader.specs.declared.symbols.Place.{Place}
use Rattle.outline_reader.specs.declared.symbols.Place.TheVariants as place
use Rattle.outline_reader.specs.declared.symbols.Class.{Class}
use Rattle.outline_reader.specs.declared.symbols.Class.TheVariants as class
use Rattle.outline_reader.specs.declared.symbols.Role.{Role}
use Rattle.outline_reader.specs.declared.symbols.Role.TheVariants as role
use Rattle.outline_reader.specs.declared.symbols.Phrase.{Phrase}
use Rattle.outline_reader.specs.declared.symbols.Phrase.TheVariants as p
use Rattle.outline_reader.specs.declared.symbols.Times.{Times}
use Rattle.outline_reader.specs.declared.symbols.Times.TheVariants as times
use Rattle.outline_reader.specs.declared.symbols.Rest.TheVariants as rest
use Rattle.outline_reader.specs.declared.symbols.Symbol.{Symbol}
use Rattle.outline_reader.specs.declared.symbols.Symbol.TheVariants.{One, Choice}
use Rattle.outline_reader.specs.declared.symbols.Item.{Item}
use Rattle.outline_reader.specs.Grammar.{Alternative, times_of, alternatives, items}
use Rattle.outline_reader.specs.Derives.{has, stands, fits, await, again, opened, Mark, IsOneOf, first, later, Derives, here, token, alternative, left_out}
use Rattle.outline_reader.specs.Machine.{is_once}
use Rattle.outline_reader.proofs.TakeLemmas.{marked, not_once}
use Rattle.outline_reader.proofs.OrderLemmas.{all_of, symbol_of, await_symbol}
use Rattle.outline_reader.proofs.Truth.{and_left, and_right, and_both}

-- some tokens are written for the symbols
abbrev pub Completes : List Awaited → Type 0
Completes awaited = (more : List Seen) × (marks : List Mark) × Derives awaited more marks

-- ---- a token that fits

abbrev pub sample_sort : Class → Sort
sample_sort (class.Is sort) = sort
sample_sort _ = s.Other

abbrev pub sample_begins : Place → Bool
sample_begins place.First = true
sample_begins _ = false

abbrev pub sample : Place → Class → Seen
sample place class = record { sort = sample_sort class; begins = sample_begins place }

sample_stands : (place : Place) → stands place (sample_begins place) ≡ true
sample_stands place.First = refl
sample_stands place.Next = refl
sample_stands place.Anywhere = refl

sample_has : (class : Class) → has class (sample_sort class) ≡ true
sample_has (class.Is sort) = true_same the_type sort sort refl
sample_has class.Listed = refl
sample_has class.Formed = refl
sample_has class.ButBar = refl
sample_has class.ButDot = refl
sample_has class.ButParenthesis = refl
sample_has class.ButOr = refl
sample_has class.ButOrDefine = refl
sample_has class.ButOrName = refl

sample_fits : (place : Place) (class : Class) → fits place class (sample place class) ≡ true
sample_fits place class = and_both _ _ (sample_stands place) (sample_has class)

-- ---- symbols

token_completes : (within : Part) (place : Place) (class : Class) (role : Role) (rest : List Awaited) → Completes rest → Completes (record { within = within; symbol = One place class role } ∷ rest)
token_completes within place class role rest h =
    (sample place class ∷ h.0, marked role rest ∷ h.1, token within place class role rest (sample place class) h.0 h.1 (sample_fits place class) h.2)

left_out_completes : (within : Part) (phrase : Phrase) (rest : List Awaited) → is_once (times_of phrase) ≡ false → Completes rest → Completes (record { within = within; symbol = Choice phrase } ∷ rest)
left_out_completes within phrase rest e h = (h.0, h.1, left_out within phrase rest h.0 h.1 (not_once (times_of phrase) e) h.2)

alternative_completes : (within : Part) (phrase : Phrase) (rest : List Awaited) (one : Alternative) → IsOneOf one (alternatives phrase) → Completes (opened within phrase one.3 ++ rest) →
    Completes (record { within = within; symbol = Choice phrase } ∷ rest)
alternative_completes within phrase rest one is h = (
  sample one.0 one.1 ∷ h.0,
  marked one.2 (opened within phrase one.3 ++ rest) ∷ h.1,
  alternative within phrase rest one.0 one.1 one.2 one.3 (sample one.0 one.1) h.0 h.1 is (sample_fits one.0 one.1) h.2,
)

-- the symbols all are tokens or phrases of this kind
abbrev pub easy_symbol : (Phrase → Bool) → Symbol → Bool
easy_symbol ok (One place class role) = true
easy_symbol ok (Choice phrase) = ok phrase

abbrev pub easy : (Phrase → Bool) → List Item → Bool
easy ok xs = all_of (λ x. easy_symbol ok (symbol_of x)) xs

-- a kind of phrases that can come wherever what is behind them can
abbrev pub Easy : (Phrase → Bool) → Type 0
Easy ok = (within : Part) (phrase : Phrase) (rest : List Awaited) → ok phrase ≡ true → Completes rest → Completes (record { within = within; symbol = Choice phrase } ∷ rest)

symbol_completes : (ok : Phrase → Bool) → Easy ok → (within : Part) (symbol : Symbol) (rest : List Awaited) → easy_symbol ok symbol ≡ true → Completes rest → Completes (record { within = within; symbol = symbol } ∷ rest)
symbol_completes ok can within (One place class role) rest e h = token_completes within place class role rest h
symbol_completes ok can within (Choice phrase) rest e h = can within phrase rest e h

items_complete : (ok : Phrase → Bool) → Easy ok → (within : Part) (xs : List Item) (rest : List Awaited) → easy ok xs ≡ true → Completes rest → Completes (map (await within) xs ++ rest)
items_complete ok can within [] rest e h = h
items_complete ok can within (x ∷ xs) rest e h =
    symbol_completes ok can (await within x).within (await within x).symbol (map (await within) xs ++ rest)
    (ap (easy_symbol ok) (await_symbol within x) ∙ and_left _ _ e)
    (items_complete ok can within xs rest (and_right (easy_symbol ok (symbol_of x)) _ e) h)

-- the alternative by which a phrase is completed
abbrev pub short : Phrase → Alternative
short p.AndKind = (place.Anywhere, (class.Is s.Theorem), role.KindWord, rest.Theorem)
short p.TheoremBody = (place.Anywhere, (class.Is s.Name), role.Name, rest.TheoremBody)
short p.LemmaBody = (place.Anywhere, (class.Is s.Name), role.Name, rest.LemmaBody)
short p.FirstDefine = (place.Next, (class.Is s.Define), role.Sign, rest.Productions)
short p.RuleLines = (place.First, (class.Is s.Bar), role.Bar, rest.BarLine)
short p.Output = (place.Anywhere, class.ButDot, role.Output, rest.OutputTokens)
short p.OutputAfterDot = (place.Next, class.ButDot, role.More, rest.OutputTokens)
short p.Just = (place.Next, (class.Is s.Unproved), role.Unproved, rest.Nothing)
short p.FirstJust = (place.Next, (class.Is s.Unproved), role.Unproved, rest.Nothing)
short p.InductionOrHypothesis = (place.Next, (class.Is s.Hypothesis), role.HypothesisCall, rest.Args)
short p.Arg = (place.Next, (class.Is s.Name), role.ArgName, rest.Nothing)
short p.Enclosed = (place.Next, class.ButParenthesis, role.ArgForm, rest.MoreEnclosed)
short p.CaseHead = (place.Next, class.Formed, role.Form, rest.TermHead)
short p.HeadLines = (place.First, (class.Is s.Bar), role.Sign, rest.HeadBar)
short _ = (place.First, class.Formed, role.Sign, rest.Nothing)

short_is : (phrase : Phrase) → is_once (times_of phrase) ≡ true → IsOneOf (short phrase) (alternatives phrase)
short_is p.Parts e = cc
short_is p.FirstTheorem e = cc
short_is p.LaterParts e = cc
short_is p.AndKind e = first _
short_is p.TheoremBody e = first _
short_is p.LemmaBody e = first _
short_is p.MoreListed e = cc
short_is p.FirstDefine e = first _
short_is p.Productions e = cc
short_is p.AfterLineName e = cc
short_is p.AfterLineToken e = cc
short_is p.MoreOnLine e = cc
short_is p.MoreOfForm e = cc
short_is p.JudgmentAssumes e = cc
short_is p.Rules e = cc
short_is p.RuleLines e = later _ _ (first _)
short_is p.TheoremAssumes e = cc
short_is p.Inputs e = cc
short_is p.InputForm e = cc
short_is p.Output e = first _
short_is p.OutputAfterDot e = first _
short_is p.OutputTokens e = cc
short_is p.OutputGoesOn e = cc
short_is p.Proof e = cc
short_is p.MoreTargets e = cc
short_is p.Steps e = cc
short_is p.Just e = later _ _ (later _ _ (later _ _ (later _ _ (later _ _ (later _ _ (later _ _ (later _ _ (later _ _ (first _)))))))))
short_is p.FirstJust e = later _ _ (later _ _ (later _ _ (later _ _ (later _ _ (later _ _ (later _ _ (later _ _ (later _ _ (first _)))))))))
short_is p.InductionOrHypothesis e = first _
short_is p.Args e = cc
short_is p.MoreArgs e = cc
short_is p.Arg e = first _
short_is p.Enclosed e = first _
short_is p.MoreEnclosed e = cc
short_is p.CaseList e = cc
short_is p.CaseHead e = later _ _ (first _)
short_is p.CaseAssumes e = cc
short_is p.HeadLines e = later _ _ (first _)
short_is p.Inverted e = cc

no_again : (often : Times) (next : Awaited) → is_once often ≡ true → again often next ≡ []
no_again times.Once next e = refl
no_again times.AtMostOnce next e = refl
no_again times.Any next e = cc

-- one kind more: those that can be left out, or whose short alternative has phrases of the kind before
abbrev pub easier : (Phrase → Bool) → Phrase → Bool
easier ok phrase = cond (is_once (times_of phrase)) (easy ok (items (short phrase).3)) true

easier_easy : (ok : Phrase → Bool) → Easy ok → Easy (easier ok)
easier_easy ok can within phrase rest e h = by_times (is_once (times_of phrase)) refl e
  where
    by_times : (b : Bool) → is_once (times_of phrase) ≡ b → cond b (easy ok (items (short phrase).3)) true ≡ true → Completes (record { within = within; symbol = Choice phrase } ∷ rest)
    by_times true is e =
        let self : Awaited = record { within = within; symbol = Choice phrase } in
        alternative_completes within phrase rest (short phrase) (short_is phrase is)
        (subst (λ (behind : List Awaited). Completes ((map (await within) (items (short phrase).3) ++ behind) ++ rest)) (sym (no_again (times_of phrase) self is))
        (subst (λ (stack : List Awaited). Completes stack) (sym (append_assoc (map (await within) (items (short phrase).3)) [] rest))
        (items_complete ok can within (items (short phrase).3) rest e h)))
    by_times false is e = left_out_completes within phrase rest is h

abbrev pub none_easy : Phrase → Bool
none_easy phrase = false

none_can : Easy none_easy
none_can within phrase rest e h = cc

all_easy : (phrase : Phrase) → easier (easier (easier (easier none_easy))) phrase ≡ true
all_easy p.Parts = refl
all_easy p.FirstTheorem = refl
all_easy p.LaterParts = refl
all_easy p.AndKind = refl
all_easy p.TheoremBody = refl
all_easy p.LemmaBody = refl
all_easy p.MoreListed = refl
all_easy p.FirstDefine = refl
all_easy p.Productions = refl
all_easy p.AfterLineName = refl
all_easy p.AfterLineToken = refl
all_easy p.MoreOnLine = refl
all_easy p.MoreOfForm = refl
all_easy p.JudgmentAssumes = refl
all_easy p.Rules = refl
all_easy p.RuleLines = refl
all_easy p.TheoremAssumes = refl
all_easy p.Inputs = refl
all_easy p.InputForm = refl
all_easy p.Output = refl
all_easy p.OutputAfterDot = refl
all_easy p.OutputTokens = refl
all_easy p.OutputGoesOn = refl
all_easy p.Proof = refl
all_easy p.MoreTargets = refl
all_easy p.Steps = refl
all_easy p.Just = refl
all_easy p.FirstJust = refl
all_easy p.InductionOrHypothesis = refl
all_easy p.Args = refl
all_easy p.MoreArgs = refl
all_easy p.Arg = refl
all_easy p.Enclosed = refl
all_easy p.MoreEnclosed = refl
all_easy p.CaseList = refl
all_easy p.CaseHead = refl
all_easy p.CaseAssumes = refl
all_easy p.HeadLines = refl
all_easy p.Inverted = refl

all_can : Easy (easier (easier (easier (easier none_easy))))
all_can = easier_easy _ (easier_easy _ (easier_easy _ (easier_easy none_easy none_can)))

-- whatever is to come can come
pub completes : (awaited : List Awaited) → Completes awaited
completes [] = ([], [], here)
completes (next ∷ rest) = by_symbol next.within next.symbol (completes rest)
  where
    by_symbol : (within : Part) (symbol : Symbol) → Completes rest → Completes (record { within = within; symbol = symbol } ∷ rest)
    by_symbol within (One place class role) h = token_completes within place class role rest h
    by_symbol within (Choice phrase) h = all_can within phrase rest (all_easy phrase) h
