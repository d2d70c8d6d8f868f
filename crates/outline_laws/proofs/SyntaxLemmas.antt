-- Behind the word `syntax` comes the name of a category, on another line.
use Rattle.std.proofs.Common.{◌≡◌, ◌≢◌, ℕ, Bool, true, false, not, cond, ◌||◌, ◌&&◌, if◌then◌else◌, List, [], ◌∷◌, ◌++◌, map, take, Option, Some, None, refl, sym, ◌∙◌, ap, subst, nat_eq, eq-eqb}
use Rattle.proof_lexer.specs.View.{token_view}
use Rattle.proof_lexer.specs.declared.token.Token.{Token}
use Rattle.outline_reader.specs.declared.machine.Awaited.{Awaited}
use Rattle.outline_reader.specs.declared.machine.Seen.{Seen}
use Rattle.outline_reader.specs.declared.symbols.Place.TheVariants as place
use Rattle.outline_reader.specs.declared.symbols.Role.{Role}
use Rattle.outline_reader.specs.declared.symbols.Role.TheVariants as role
use Rattle.outline_reader.specs.declared.symbols.Phrase.{Phrase}
use Rattle.outline_reader.specs.declared.symbols.Phrase.TheVariants as p
use Rattle.outline_reader.specs.declared.symbols.Symbol.{Symbol}
use Rattle.outline_reader.specs.declared.symbols.Symbol.TheVariants.{One, Choice}
use Rattle.outline_reader.specs.Grammar.{Alternative, alternatives}
use Rattle.outline_reader.specs.Derives as d
use Rattle.outline_reader.specs.Derives.{Derives, Mark, IsOneOf, has, begins_line, seen_after, seen, whole}
use Rattle.outline_reader.specs.Outline.{IsOutlined}
use Rattle.outline_reader.specs.Portions.{begins, names_category, portion_size, portion, portions, category_line, case_head}
use Rattle.outline_reader.specs.Plain.{PlainPortion, plain_portion}
use Rattle.outline_reader.proofs.Truth.{and_left, and_right, where_true}
use Rattle.outline_reader.proofs.WritingLemmas.{then_come, symbols, symbols_opened, marked_roles}
use Rattle.outline_reader.proofs.FilledLemmas.{every, every_one, every_append}
use Rattle.outline_reader.proofs.FollowLemmas.{no_true}
use Rattle.outline_laws.proofs.KindWords.{misfit}
use Rattle.outline_laws.specs.Syntax.{BeginsWithCategory, CategoriesFollow, SyntaxHasCategories}

unfoldable is_syntax : Role → Bool
is_syntax role.SyntaxWord = true
is_syntax _ = false

-- the name of a category comes first, and begins its line
unfoldable names_first : List Role → List Seen → Bool
names_first (role.CategoryName ∷ roles) (one ∷ tokens) = one.begins
names_first _ tokens = false

unfoldable Named : List Role → List Seen → Type 0
Named [] tokens = Unit {0}
Named (one ∷ roles) [] = Unit {0}
Named (one ∷ roles) (token ∷ tokens) = (is_syntax one ≡ true → names_first roles tokens ≡ true) × Named roles tokens

-- ---- what is seen of the table alone

-- the name of a category is to come
unfoldable gives_name : List Symbol → Bool
gives_name (One place.First class role.CategoryName ∷ rest) = true
gives_name _ = false

unfoldable no_syntax : Symbol → Bool
no_syntax (One place class one) = not (is_syntax one)
no_syntax (Choice phrase) = true

unfoldable name_alternative : Phrase → Alternative → Bool
name_alternative phrase a = (if is_syntax a.2 then gives_name (then_come phrase a.3) else true) && every no_syntax (then_come phrase a.3)

names_table : (phrase : Phrase) → every (name_alternative phrase) (alternatives phrase) ≡ true
unfolding name_alternative gives_name no_syntax is_syntax every
names_table p.Parts = refl
names_table _ = refl

-- ---- what is derived

gives_append : (front rest : List Symbol) → gives_name front ≡ true → gives_name (front ++ rest) ≡ true
unfolding gives_name
gives_append [] rest h = no_true h
gives_append (One place.First class role.CategoryName ∷ front) rest h = refl
gives_append (One place.First class _ ∷ front) rest h = no_true h
gives_append (One place.Next class one ∷ front) rest h = no_true h
gives_append (One place.Anywhere class one ∷ front) rest h = no_true h
gives_append (Choice phrase ∷ front) rest h = no_true h

name_derived : {awaited : List Awaited} {tokens : List Seen} {marks : List Mark} → Derives awaited tokens marks → gives_name (symbols awaited) ≡ true → names_first (marked_roles marks) tokens ≡ true
unfolding gives_name names_first
name_derived d.here h = no_true h
name_derived (d.token within place.First class role.CategoryName rest one more marks fit derived) h = and_left one.begins (has class one.sort) fit
name_derived (d.token within place.First class _ rest one more marks fit derived) h = no_true h
name_derived (d.token within place.Next class other rest one more marks fit derived) h = no_true h
name_derived (d.token within place.Anywhere class other rest one more marks fit derived) h = no_true h
name_derived (d.alternative within phrase rest place class other what one more marks is_one fit derived) h = no_true h
name_derived (d.left_out within phrase rest more marks optional derived) h = no_true h

named : {awaited : List Awaited} {tokens : List Seen} {marks : List Mark} → Derives awaited tokens marks → every no_syntax (symbols awaited) ≡ true → Named (marked_roles marks) tokens
unfolding Named every no_syntax name_alternative
named d.here free = tt
named (d.token within place class one rest token more marks fit derived) free =
    ((λ is. misfit (is_syntax one) (and_left (not (is_syntax one)) (every no_syntax (symbols rest)) free) is), named derived (and_right (not (is_syntax one)) (every no_syntax (symbols rest)) free))
named (d.alternative within phrase rest place class one what token more marks is_one fit derived) free =
    let chosen : Alternative = (place, class, one, what) in
    let here = every_one (name_alternative phrase) is_one (names_table phrase) in
    let gives = and_left (if is_syntax one then gives_name (then_come phrase what) else true) (every no_syntax (then_come phrase what)) here in
    let later = and_right (if is_syntax one then gives_name (then_come phrase what) else true) (every no_syntax (then_come phrase what)) here in
    let same = symbols_opened within phrase what rest in (
      (λ is. name_derived derived (ap gives_name same ∙ gives_append (then_come phrase what) (symbols rest) (where_true (is_syntax one) (gives_name (then_come phrase what)) gives is))),
      named derived (ap (every no_syntax) same ∙ every_append no_syntax (then_come phrase what) (symbols rest) later free),
    )
named (d.left_out within phrase rest more marks optional derived) free = named derived free

whole_free : every no_syntax (symbols whole) ≡ true
unfolding every no_syntax
whole_free = refl

-- ---- portions

lines_differ : (word name : ℕ) → begins_line (Some word) name ≡ true → word ≢ name
lines_differ word name begins same = misfit (nat_eq name word) begins (eq-eqb name word (sym same))

-- a portion that begins with the name of a category
category_first : (word name : Token) (roles : List Role) (tokens : List Token) (rest : List PlainPortion) → word.line ≢ name.line →
    BeginsWithCategory (token_view word) (plain_portion (category_line name roles tokens) ∷ rest)
category_first word name [] tokens rest differs = differs
category_first word name (one ∷ []) tokens rest differs = differs
category_first word name (one ∷ define ∷ roles) tokens rest differs = differs

begun_so : (word : Token) (roles : List Role) (tokens : List Token) → names_first roles (seen_after (Some word.line) tokens) ≡ true → BeginsWithCategory (token_view word) (map plain_portion (portions roles tokens))
unfolding names_first
begun_so word [] tokens h = no_true h
begun_so word (role.CategoryName ∷ roles) [] h = no_true h
begun_so word (role.CategoryName ∷ roles) (name ∷ tokens) h =
    category_first word name (take (portion_size (role.CategoryName ∷ roles)) (role.CategoryName ∷ roles)) (take (portion_size (role.CategoryName ∷ roles)) (name ∷ tokens))
    (map plain_portion (portions roles tokens)) (lines_differ word.line name.line h)
begun_so word (_ ∷ roles) tokens h = no_true h

case_other : (first : Token) (roles : List Role) (tokens : List Token) (rest : List PlainPortion) → CategoriesFollow rest → CategoriesFollow (plain_portion (case_head first roles tokens) ∷ rest)
case_other first [] tokens rest h = h
case_other first (word ∷ []) tokens rest h = h
case_other first (word ∷ role.RuleCase ∷ roles) tokens rest h = h
case_other first (word ∷ other ∷ roles) tokens rest h = h

category_other : (first : Token) (roles : List Role) (tokens : List Token) (rest : List PlainPortion) → CategoriesFollow rest → CategoriesFollow (plain_portion (category_line first roles tokens) ∷ rest)
category_other first [] tokens rest h = h
category_other first (one ∷ []) tokens rest h = h
category_other first (one ∷ define ∷ roles) tokens rest h = h

one_portion : (begin : Role) (first : Token) (roles : List Role) (tokens : List Token) (rest : List PlainPortion) → (is_syntax begin ≡ true → BeginsWithCategory (token_view first) rest) → CategoriesFollow rest →
    CategoriesFollow (plain_portion (portion begin first roles tokens) ∷ rest)
unfolding is_syntax
one_portion role.TerminalsWord first roles tokens rest syntax h = h
one_portion role.SyntaxWord first roles tokens rest syntax h = (syntax refl, h)
one_portion role.JudgmentWord first roles tokens rest syntax h = h
one_portion role.RulePremise first roles tokens rest syntax h = h
one_portion role.RuleBar first roles tokens rest syntax h = h
one_portion role.AndWord first roles tokens rest syntax h = h
one_portion role.TheoremWord first roles tokens rest syntax h = h
one_portion role.StepName first roles tokens rest syntax h = h
one_portion role.ProofWord first roles tokens rest syntax h = h
one_portion role.InversionWord first roles tokens rest syntax h = h
one_portion role.CaseWord first roles tokens rest syntax h = case_other first roles tokens rest h
one_portion role.EndWord first roles tokens rest syntax h = h
one_portion _ first roles tokens rest syntax h = category_other first roles tokens rest h

follow_in : (before : Option ℕ) (roles : List Role) (tokens : List Token) → Named roles (seen_after before tokens) → CategoriesFollow (map plain_portion (portions roles tokens))
unfolding Named
follow_in before [] tokens h = tt
follow_in before (one ∷ roles) [] h = tt
follow_in before (one ∷ roles) (token ∷ tokens) h = which (begins one || names_category roles) (follow_in (Some token.line) roles tokens h.1)
  where
    which : (b : Bool) → CategoriesFollow (map plain_portion (portions roles tokens)) →
        CategoriesFollow (map plain_portion (cond b (portion one token (take (portion_size (one ∷ roles)) (one ∷ roles)) (take (portion_size (one ∷ roles)) (token ∷ tokens)) ∷ portions roles tokens) (portions roles tokens)))
    which true below =
        one_portion one token (take (portion_size (one ∷ roles)) (one ∷ roles)) (take (portion_size (one ∷ roles)) (token ∷ tokens)) (map plain_portion (portions roles tokens))
        (λ is. begun_so token roles tokens (h.0 is)) below
    which false below = below

outlined_follow : (tokens : List Token) (roles : List Role) → IsOutlined tokens roles → CategoriesFollow (map plain_portion (portions roles tokens))
outlined_follow tokens roles is = follow_in None roles tokens (subst (λ (rs : List Role). Named rs (seen tokens)) (sym is.2) (named is.1 whole_free))

pub syntax_has : SyntaxHasCategories
syntax_has source found has =
    subst CategoriesFollow (sym (has.plain ∙ ap (map plain_portion) has.outline.2)) (outlined_follow has.tokens has.outline.0 has.outline.1)
