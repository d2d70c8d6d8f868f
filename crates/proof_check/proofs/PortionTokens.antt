-- The tokens of the portions of a source are tokens of the source.
use native.Mathlib.Omega.{arith}
use Rattle.std.proofs.Common.{◌≡◌, ◌⊎◌, ℕ, Bool, true, false, ◌||◌, List, [], ◌∷◌, ◌++◌, map, take, drop, Some, inl, inr, refl, sym, ap, subst, ◌∙◌, option_map}
use Rattle.std.specs.Prelude.{if◌then◌else◌}
use Rattle.binding_terms.specs.Numbered.{AnyByRecursion}
use Rattle.sy_base.specs.Tokens.{PlainToken}
use Rattle.proof_lexer.specs.View.{token_view}
use Rattle.proof_lexer.specs.declared.token.Token.{Token}
use Rattle.outline_reader.specs.declared.symbols.Role.{Role}
use Rattle.outline_reader.specs.declared.symbols.Role.TheVariants as role
use Rattle.outline_reader.specs.Fields.{same_role, named, production_length, later_productions, productions}
use Rattle.outline_reader.specs.Plain.{PlainPortion, terminals, category, judgment_of, theorem_of, plain_form, plain_portion, HasPortions}
use Rattle.outline_reader.specs.Portions.{begins, names_category, portion_size, portion, portions, case_head, second_or, category_line}
use Rattle.outline_reader.specs.Views.{Piece}
use Rattle.user_grammar.specs.File.{WrittenCategory, category_in, categories}
use Rattle.proof_check.proofs.TokenLemmas.{IsTokenOf, StandsAmong}
use Rattle.binding_terms.proofs.Lists.{any_drop, any_split, any_take}

-- ---- members of lists

abbrev pub In : List PlainToken → PlainToken → Type 0
In tokens token = AnyByRecursion (λ one. one ≡ token) tokens

-- a token with this view
abbrev pub Among : List Token → PlainToken → Type 0
Among tokens token = AnyByRecursion (λ one. token_view one ≡ token) tokens

pub in_split : (front rest : List PlainToken) (token : PlainToken) → In (front ++ token ∷ rest) token
in_split [] rest token = inl refl
in_split (t ∷ front) rest token = inr (in_split front rest token)

among_form : (form : List Token) (token : PlainToken) → In (plain_form form) token → Among form token
among_form [] token is = absurd is
among_form (t ∷ form) token (inl here) = inl here
among_form (t ∷ form) token (inr is) = inr (among_form form token is)

among_split : (tokens : List Token) (token : PlainToken) → Among tokens token → StandsAmong (map token_view tokens) token
among_split [] token is = absurd is
among_split (t ∷ tokens) token (inl here) = record { front = []; rest = map token_view tokens; split = ap (λ one. one ∷ map token_view tokens) here }
among_split (t ∷ tokens) token (inr is) =
    let there = among_split tokens token is in
    record { front = token_view t ∷ there.front; rest = there.rest; split = ap (λ ts. token_view t ∷ ts) there.split }

-- ---- the tokens of a portion that its grammar can speak of

abbrev pub InForms : List (List PlainToken) → PlainToken → Type 0
InForms forms token = AnyByRecursion (λ form. In form token) forms

-- the token is the `::=` of a category, or stands in one of its productions
abbrev pub StandsBehind : PlainToken → List (List PlainToken) → PlainToken → Type 0
StandsBehind mark forms token = (mark ≡ token) ⊎ InForms forms token

abbrev pub BehindName : WrittenCategory → PlainToken → Type 0
BehindName written token = StandsBehind written.mark written.forms token

abbrev pub InPortion : PlainToken → PlainPortion → Type 0
InPortion token (terminals first items) = In items token
InPortion token (category name mark forms) = (name ≡ token) ⊎ StandsBehind mark forms token
InPortion token (judgment_of first name form assumes) = assumes ≡ Some token
InPortion token (theorem_of first joined kind name assumes inputs outputs targets) = assumes ≡ Some token
InPortion token _ = ⊥

named_chosen : (wanted : Role) (roles : List Role) (t : Token) (tokens : List Token) (token : PlainToken) →
    (option_map token_view (named wanted roles tokens) ≡ Some token → Among tokens token) → (b : Bool) →
    option_map token_view (if b then Some t else named wanted roles tokens) ≡ Some token → Among (t ∷ tokens) token
named_chosen wanted roles t tokens token below true e = inl (let same : token_view t ≡ token = cc in same)
named_chosen wanted roles t tokens token below false e = inr (below e)

named_among : (wanted : Role) (roles : List Role) (tokens : List Token) (token : PlainToken) → option_map token_view (named wanted roles tokens) ≡ Some token → Among tokens token
named_among wanted [] tokens token e = absurd cc
named_among wanted (other ∷ roles) [] token e = absurd cc
named_among wanted (other ∷ roles) (t ∷ tokens) token e = named_chosen wanted roles t tokens token (λ d. named_among wanted roles tokens token d) (same_role other wanted) e

later_chosen : (roles : List Role) (t : Token) (tokens : List Token) (token : PlainToken) → (InForms (map plain_form (later_productions roles tokens)) token → Among tokens token) → (b : Bool) →
    InForms (map plain_form (if b then take (production_length roles) tokens ∷ later_productions roles tokens else later_productions roles tokens)) token → Among (t ∷ tokens) token
later_chosen roles t tokens token below true (inl here) = inr (any_take (λ one. token_view one ≡ token) (production_length roles) tokens (among_form _ token here))
later_chosen roles t tokens token below true (inr there) = inr (below there)
later_chosen roles t tokens token below false is = inr (below is)

later_among : (roles : List Role) (tokens : List Token) (token : PlainToken) → InForms (map plain_form (later_productions roles tokens)) token → Among tokens token
later_among [] tokens token is = absurd is
later_among (other ∷ roles) [] token is = absurd is
later_among (other ∷ roles) (t ∷ tokens) token is = later_chosen roles t tokens token (λ there. later_among roles tokens token there) (same_role other role.Or) is

productions_among : (roles : List Role) (tokens : List Token) (token : PlainToken) → InForms (map plain_form (productions roles tokens)) token → Among tokens token
productions_among roles tokens token (inl here) = any_take (λ one. token_view one ≡ token) (production_length roles) tokens (among_form _ token here)
productions_among roles tokens token (inr there) = later_among roles tokens token there

abbrev pub OfPortion : Token → List Token → PlainToken → Type 0
OfPortion first tokens token = (token_view first ≡ token) ⊎ Among tokens token

no_case_token : (first : Token) (roles : List Role) (tokens : List Token) (token : PlainToken) → InPortion token (plain_portion (case_head first roles tokens)) → ⊥
no_case_token first [] tokens token is = is
no_case_token first (word ∷ []) tokens token is = is
no_case_token first (word ∷ role.RuleCase ∷ roles) tokens token is = is
no_case_token first (word ∷ other ∷ roles) tokens token is = is

second_among : (first : Token) (tokens : List Token) (token : PlainToken) → token_view (second_or first tokens) ≡ token → OfPortion first tokens token
second_among first [] token same = inl same
second_among first (one ∷ []) token same = inl same
second_among first (one ∷ second ∷ tokens) token same = inr (inr (inl same))

category_among : (first : Token) (roles : List Role) (tokens : List Token) (token : PlainToken) → InPortion token (plain_portion (category_line first roles tokens)) → OfPortion first tokens token
category_among first [] tokens token (inl same) = inl same
category_among first [] tokens token (inr (inl same)) = inl same
category_among first [] tokens token (inr (inr (inl none))) = absurd none
category_among first [] tokens token (inr (inr (inr none))) = absurd none
category_among first (one ∷ []) tokens token (inl same) = inl same
category_among first (one ∷ []) tokens token (inr (inl same)) = inl same
category_among first (one ∷ []) tokens token (inr (inr (inl none))) = absurd none
category_among first (one ∷ []) tokens token (inr (inr (inr none))) = absurd none
category_among first (one ∷ define ∷ roles) tokens token (inl same) = inl same
category_among first (one ∷ define ∷ roles) tokens token (inr (inl same)) = second_among first tokens token same
category_among first (one ∷ define ∷ roles) tokens token (inr (inr there)) =
    inr (any_drop (λ t. token_view t ≡ token) 2 tokens (productions_among roles (drop 2 tokens) token there))

pub portion_among : (begun : Role) (first : Token) (roles : List Role) (tokens : List Token) (token : PlainToken) → InPortion token (plain_portion (portion begun first roles tokens)) → OfPortion first tokens token
portion_among role.TerminalsWord first roles tokens token is = inr (any_drop (λ t. token_view t ≡ token) 1 tokens (among_form (drop 1 tokens) token is))
portion_among role.SyntaxWord first roles tokens token is = absurd is
portion_among role.JudgmentWord first roles tokens token is = inr (named_among role.Assumed roles tokens token is)
portion_among role.RulePremise first roles tokens token is = absurd is
portion_among role.RuleBar first roles tokens token is = absurd is
portion_among role.AndWord first roles tokens token is = inr (named_among role.Assumed roles tokens token is)
portion_among role.TheoremWord first roles tokens token is = inr (named_among role.Assumed roles tokens token is)
portion_among role.StepName first roles tokens token is = absurd is
portion_among role.ProofWord first roles tokens token is = absurd is
portion_among role.InversionWord first roles tokens token is = absurd is
portion_among role.CaseWord first roles tokens token is = absurd (no_case_token first roles tokens token is)
portion_among role.EndWord first roles tokens token is = absurd is
portion_among _ first roles tokens token is = category_among first roles tokens token is

abbrev pub piece_of : Role → List Role → Token → List Token → Piece
piece_of first roles t tokens = portion first t (take (portion_size (first ∷ roles)) (first ∷ roles)) (take (portion_size (first ∷ roles)) (t ∷ tokens))

abbrev pub InPieces : List Piece → PlainToken → Type 0
InPieces pieces token = AnyByRecursion (InPortion token) (map plain_portion pieces)

of_piece : (first : Role) (roles : List Role) (t : Token) (tokens : List Token) (token : PlainToken) → OfPortion t (take (portion_size (first ∷ roles)) (t ∷ tokens)) token → Among (t ∷ tokens) token
of_piece first roles t tokens token (inl same) = inl same
of_piece first roles t tokens token (inr there) = any_take (λ one. token_view one ≡ token) (portion_size (first ∷ roles)) (t ∷ tokens) there

pieces_chosen : (first : Role) (roles : List Role) (t : Token) (tokens : List Token) (token : PlainToken) → (InPieces (portions roles tokens) token → Among tokens token) → (b : Bool) →
    InPieces (if b then piece_of first roles t tokens ∷ portions roles tokens else portions roles tokens) token → Among (t ∷ tokens) token
pieces_chosen first roles t tokens token below true (inl here) =
    of_piece first roles t tokens token (portion_among first t (take (portion_size (first ∷ roles)) (first ∷ roles)) (take (portion_size (first ∷ roles)) (t ∷ tokens)) token here)
pieces_chosen first roles t tokens token below true (inr there) = inr (below there)
pieces_chosen first roles t tokens token below false is = inr (below is)

-- the tokens of portions are those of the tokens
pub portions_among : (roles : List Role) (tokens : List Token) (token : PlainToken) → InPieces (portions roles tokens) token → Among tokens token
portions_among [] tokens token is = absurd is
portions_among (first ∷ roles) [] token is = absurd is
portions_among (first ∷ roles) (t ∷ tokens) token is =
    pieces_chosen first roles t tokens token (λ there. portions_among roles tokens token there) (begins first || names_category roles) is

-- a token of a portion of the source is one of the source
pub of_source : (source : List ℕ) (ps : List PlainPortion) (token : PlainToken) → HasPortions source ps → AnyByRecursion (InPortion token) ps → IsTokenOf source token
of_source source ps token has is =
    let here = subst (λ (qs : List PlainPortion). AnyByRecursion (InPortion token) qs) (has.plain ∙ ap (map plain_portion) has.outline.2) is in
    record { tokens = map token_view has.tokens; are = has.are_tokens; stands = among_split has.tokens token (portions_among has.outline.0 has.tokens token here) }

pub in_this : (p : PlainPortion) (written : WrittenCategory) (token : PlainToken) → AnyByRecursion (λ w. w ≡ written) (category_in p) →
    (written.name ≡ token) ⊎ BehindName written token → InPortion token p
in_this (category name mark forms) written token (inl same) stands = subst (λ (w : WrittenCategory). (w.name ≡ token) ⊎ BehindName w token) (sym same) stands
in_this (category name mark forms) written token (inr none) stands = absurd none
in_this p written token is stands = absurd is

category_there : (p : PlainPortion) (ps : List PlainPortion) (written : WrittenCategory) (token : PlainToken) → (written.name ≡ token) ⊎ BehindName written token →
    (AnyByRecursion (λ w. w ≡ written) (categories ps) → AnyByRecursion (InPortion token) ps) →
    AnyByRecursion (λ (w : WrittenCategory). w ≡ written) (category_in p) ⊎ AnyByRecursion (λ (w : WrittenCategory). w ≡ written) (categories ps) → AnyByRecursion (InPortion token) (p ∷ ps)
category_there p ps written token stands below (inl here) = inl (in_this p written token here stands)
category_there p ps written token stands below (inr there) = inr (below there)

pub category_portion : (ps : List PlainPortion) (written : WrittenCategory) (token : PlainToken) → AnyByRecursion (λ w. w ≡ written) (categories ps) →
    (written.name ≡ token) ⊎ BehindName written token → AnyByRecursion (InPortion token) ps
category_portion [] written token is stands = absurd is
category_portion (p ∷ ps) written token is stands =
    category_there p ps written token stands (λ there. category_portion ps written token there stands) (any_split (λ (w : WrittenCategory). w ≡ written) (category_in p) (categories ps) is)
