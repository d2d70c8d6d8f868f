-- The role of a token and its sort: what stands for a name is a name, and what stands in a form is no reserved word.
use Rattle.std.proofs.Common.{◌≡◌, inl, inr, ℕ, Bool, true, false, not, ◌||◌, ◌&&◌, List, [], ◌∷◌, ◌++◌, map, Option, Some, None, refl, sym, ◌∙◌, ap, subst}
use Rattle.proof_lexer.specs.declared.token.Token.{Token}
use Rattle.outline_reader.specs.declared.machine.Awaited.{Awaited}
use Rattle.outline_reader.specs.declared.machine.Seen.{Seen}
use Rattle.outline_reader.specs.declared.sort.Sort.{Sort}
use Rattle.outline_reader.specs.declared.sort.Sort.TheVariants as s
use Rattle.outline_reader.specs.declared.symbols.Class.{Class}
use Rattle.outline_reader.specs.declared.symbols.Class.TheVariants as class
use Rattle.outline_reader.specs.declared.symbols.Role.{Role}
use Rattle.outline_reader.specs.declared.symbols.Role.TheVariants as role
use Rattle.outline_reader.specs.declared.symbols.Phrase.{Phrase}
use Rattle.outline_reader.specs.declared.symbols.Phrase.TheVariants as p
use Rattle.outline_reader.specs.declared.symbols.Symbol.{Symbol}
use Rattle.outline_reader.specs.declared.symbols.Symbol.TheVariants.{One, Choice}
use Rattle.outline_reader.specs.Sorts.{sort_of}
use Rattle.outline_reader.specs.Grammar.{Alternative, alternatives}
use Rattle.outline_reader.specs.Derives as d
use Rattle.outline_reader.specs.Derives.{Derives, Mark, IsOneOf, is_formed, is_listed, same_sort, has, fits, stands, seen_after, opened, whole}
use Rattle.outline_reader.specs.Portions.{names_category}
use Rattle.outline_reader.specs.Outline.{IsOutlined}
use Rattle.outline_reader.proofs.Truth.{and_left, and_right, either, true_not_false}
use Rattle.outline_reader.proofs.OrderLemmas.{is_sort}
use Rattle.outline_reader.proofs.WritingLemmas.{then_come, symbols, symbols_opened, marked_roles, writes}
use Rattle.outline_reader.proofs.FilledLemmas.{every, every_one, every_append, calm, tail_calm, tail_of_calm, calm_first, tail_append, tails_begun}

-- ---- what a role asks of its token

unfoldable pub takes_name : Role → Bool
takes_name role.CategoryName = true
takes_name role.StepName = true
takes_name role.Name = true
takes_name role.SecondName = true
takes_name role.Assumed = true
takes_name role.InputName = true
takes_name role.Target = true
takes_name role.HeadName = true
takes_name role.HeadConclusion = true
takes_name role.NameAlone = true
takes_name role.ArgName = true
takes_name _ = false

unfoldable pub takes_formed : Role → Bool
takes_formed role.RulePremise = true
takes_formed role.Premise = true
takes_formed role.Form = true
takes_formed role.More = true
takes_formed role.Output = true
takes_formed role.AssumedForm = true
takes_formed role.ArgForm = true
takes_formed role.Item = true
takes_formed role.Or = true
takes_formed role.NewCategory = true
takes_formed _ = false

pub record Suits (one : Role) (sort : Sort) : Type 0 where
  pub name : takes_name one ≡ true → sort ≡ s.Name
  pub formed : takes_formed one ≡ true → is_formed sort ≡ true

-- each role suits its sort, and before the `::=` of a later category stands a name
unfoldable pub Suited : List Role → List Sort → Type 0
Suited [] [] = Unit {0}
Suited [] (sort ∷ sorts) = ⊥
Suited (one ∷ roles) [] = ⊥
Suited (one ∷ roles) (sort ∷ sorts) = Suits one sort × (names_category roles ≡ true → sort ≡ s.Name) × Suited roles sorts

-- ---- what a class has

names : Class → Bool
names (class.Is sort) = same_sort sort s.Name
names _ = false

forms : Class → Bool
forms (class.Is sort) = is_formed sort
forms _ = true

suits_class : Class → Role → Bool
suits_class one other = (not (takes_name other) || names one) && (not (takes_formed other) || forms one)

name_of : (one : Class) (sort : Sort) → names one ≡ true → has one sort ≡ true → sort ≡ s.Name
unfolding names
name_of (class.Is wanted) sort is h = is_sort sort wanted h ∙ is_sort wanted s.Name is
name_of _ sort is h = absurd (let no : false ≡ true = is in cc)

listed_formed : (sort : Sort) → is_listed sort ≡ true → is_formed sort ≡ true
listed_formed s.Name h = refl
listed_formed s.Colon h = refl
listed_formed s.Define h = refl
listed_formed s.Or h = refl
listed_formed s.Other h = refl
listed_formed _ h = absurd (let no : false ≡ true = h in cc)

formed_of : (one : Class) (sort : Sort) → forms one ≡ true → has one sort ≡ true → is_formed sort ≡ true
unfolding forms
formed_of (class.Is wanted) sort is h = ap is_formed (is_sort sort wanted h) ∙ is
formed_of class.Listed sort is h = listed_formed sort h
formed_of class.Formed sort is h = h
formed_of class.ButBar sort is h = and_left (is_formed sort) _ h
formed_of class.ButDot sort is h = and_left (is_formed sort) _ h
formed_of class.ButParenthesis sort is h = and_left (is_formed sort) _ (and_left _ _ h)
formed_of class.ButOr sort is h = and_left (is_formed sort) _ h
formed_of class.ButOrDefine sort is h = and_left (is_formed sort) _ (and_left _ _ h)
formed_of class.ButOrName sort is h = and_left (is_formed sort) _ (and_left _ _ h)

if_asked : (asked given : Bool) → (not asked || given) ≡ true → asked ≡ true → given ≡ true
if_asked true given h is = h
if_asked false given h is = absurd (let no : false ≡ true = is in cc)

suits : (one : Class) (other : Role) (sort : Sort) → suits_class one other ≡ true → has one sort ≡ true → Suits other sort
unfolding suits_class
suits one other sort ok h = record {
  name = λ asked. name_of one sort (if_asked (takes_name other) (names one) (and_left (not (takes_name other) || names one) _ ok) asked) h;
  formed = λ asked. formed_of one sort (if_asked (takes_formed other) (forms one) (and_right (not (takes_name other) || names one) _ ok) asked) h;
}

-- ---- what is seen of the table alone

suits_symbol : Symbol → Bool
suits_symbol (One place one other) = suits_class one other
suits_symbol (Choice phrase) = true

begins_ok : Phrase → Bool
begins_ok phrase = every (λ a. suits_class a.1 a.2) (alternatives phrase)

follows_ok : Phrase → Bool
follows_ok phrase = every (λ a. every suits_symbol (then_come phrase a.3)) (alternatives phrase)

names_ok : Phrase → Bool
names_ok phrase = every (λ a. names a.1 || every calm (then_come phrase a.3)) (alternatives phrase)

begins_table : (phrase : Phrase) → begins_ok phrase ≡ true
unfolding begins_ok suits_class takes_name takes_formed names forms every
begins_table p.Parts = refl
begins_table _ = refl

follows_table : (phrase : Phrase) → follows_ok phrase ≡ true
unfolding follows_ok suits_symbol suits_class takes_name takes_formed names forms every
follows_table p.Parts = refl
follows_table _ = refl

names_table : (phrase : Phrase) → names_ok phrase ≡ true
unfolding names_ok names calm every
names_table p.Parts = refl
names_table _ = refl

begins_begun : (phrase : Phrase) (chosen : Alternative) → IsOneOf chosen (alternatives phrase) → suits_class chosen.1 chosen.2 ≡ true
unfolding begins_ok
begins_begun phrase chosen is_one = every_one (λ a. suits_class a.1 a.2) is_one (begins_table phrase)

follows_begun : (phrase : Phrase) (chosen : Alternative) → IsOneOf chosen (alternatives phrase) → every suits_symbol (then_come phrase chosen.3) ≡ true
unfolding follows_ok
follows_begun phrase chosen is_one = every_one (λ a. every suits_symbol (then_come phrase a.3)) is_one (follows_table phrase)

names_begun : (phrase : Phrase) (chosen : Alternative) → IsOneOf chosen (alternatives phrase) → (names chosen.1 || every calm (then_come phrase chosen.3)) ≡ true
unfolding names_ok
names_begun phrase chosen is_one = every_one (λ a. names a.1 || every calm (then_come phrase a.3)) is_one (names_table phrase)

-- ---- what is derived

sorts_seen : List Seen → List Sort
sorts_seen tokens = map (λ one. one.sort) tokens

in_opened : (test : Symbol → Bool) (rest : List Symbol) (next : List Symbol) (symbols : List Symbol) → symbols ≡ next ++ rest → every test next ≡ true → every test rest ≡ true → every test symbols ≡ true
in_opened test rest next symbols same first second = ap (every test) same ∙ every_append test next rest first second

suited : {awaited : List Awaited} {tokens : List Seen} {marks : List Mark} → Derives awaited tokens marks → every suits_symbol (symbols awaited) ≡ true → tail_calm (symbols awaited) ≡ true →
    Suited (marked_roles marks) (sorts_seen tokens)
unfolding every suits_symbol tail_calm Suited sorts_seen
suited d.here ok calms = tt
suited (d.token within place one other rest token more marks fit derived) ok calms = (
  suits one other token.sort (and_left (suits_class one other) (every suits_symbol (symbols rest)) ok) (and_right (stands place token.begins) (has one token.sort) fit),
  (λ named. true_not_false (names_category (marked_roles marks)) named (calm_first (writes derived) calms)),
  suited derived (and_right (suits_class one other) (every suits_symbol (symbols rest)) ok) (tail_of_calm (symbols rest) calms),
)
suited (d.alternative within phrase rest place one other what token more marks is_one fit derived) ok calms =
    let chosen : Alternative = (place, one, other, what) in
    let same = symbols_opened within phrase what rest in
    let fits_class : has one token.sort ≡ true = and_right (stands place token.begins) (has one token.sort) fit in (
      suits one other token.sort (begins_begun phrase chosen is_one) fits_class,
      (λ named. elim (either (names one) (every calm (then_come phrase what)) (names_begun phrase chosen is_one)) [
        | inl is_name ↦ name_of one token.sort is_name fits_class
        | inr all_calm ↦
            true_not_false (names_category (marked_roles marks)) named
            (calm_first (writes derived) (in_opened calm (symbols rest) (then_come phrase what) _ same all_calm calms))
      ]),
      suited derived (in_opened suits_symbol (symbols rest) (then_come phrase what) _ same (follows_begun phrase chosen is_one) ok)
          (ap tail_calm same ∙ tail_append (then_come phrase what) (symbols rest) (tails_begun phrase chosen is_one) calms),
    )
suited (d.left_out within phrase rest more marks optional derived) ok calms = suited derived ok (tail_of_calm (symbols rest) calms)

whole_suits : every suits_symbol (symbols whole) ≡ true
unfolding every suits_symbol
whole_suits = refl

whole_calm : tail_calm (symbols whole) ≡ true
unfolding tail_calm calm every
whole_calm = refl

sorts_of : (before : Option ℕ) (tokens : List Token) → sorts_seen (seen_after before tokens) ≡ map sort_of tokens
unfolding sorts_seen
sorts_of before [] = refl
sorts_of before (token ∷ tokens) = ap (λ (sorts : List Sort). sort_of token ∷ sorts) (sorts_of (Some token.line) tokens)

pub outlined_suited : (tokens : List Token) (roles : List Role) → IsOutlined tokens roles → Suited roles (map sort_of tokens)
outlined_suited tokens roles is =
    subst (λ (rs : List Role). Suited rs (map sort_of tokens)) (sym is.2)
    (subst (λ (sorts : List Sort). Suited (marked_roles is.0) sorts) (sorts_of None tokens) (suited is.1 whole_suits whole_calm))
