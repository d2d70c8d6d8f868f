-- A category ends where the next one begins.
use Rattle.std.proofs.Common.{◌≡◌, ◌≢◌, ◌⊎◌, inl, inr, ℕ, zero, suc, ◌+◌, Bool, true, false, not, cond, ◌||◌, ◌&&◌, List, [], ◌∷◌, take, Option, Some, refl, sym, ◌∙◌, ap, subst, add-one, nat_eq, eq-eqb}
use Rattle.std.proofs.lemmas.Bool.{eqb-true}
use Rattle.std.specs.List.{AllByRecursion}
use Rattle.sy_base.specs.Tokens.{PlainToken}
use Rattle.proof_lexer.specs.View.{token_view}
use Rattle.proof_lexer.specs.declared.token.Token.{Token}
use Rattle.outline_reader.specs.declared.machine.Seen.{Seen}
use Rattle.outline_reader.specs.declared.sort.Sort.TheVariants as s
use Rattle.outline_reader.specs.declared.symbols.Role.{Role}
use Rattle.outline_reader.specs.Sorts.{sort_of}
use Rattle.outline_reader.specs.Derives.{same_sort, begins_line, seen_after}
use Rattle.outline_reader.specs.Filled.{within_portion}
use Rattle.outline_reader.specs.declared.symbols.Role.TheVariants as role
use Rattle.outline_reader.specs.Fields.{same_role}
use Rattle.outline_reader.specs.Views.{Piece, terminals, syntax, category, judgment, rule, theorem, step, inversion, case_rule, case_term, end_line}
use Rattle.outline_reader.specs.Plain.{plain_form, plain_portion}
use Rattle.outline_reader.specs.Portions.{begins, names_category, portion_length, case_head, portion}
use Rattle.outline_reader.specs.Words.{IsName}
use Rattle.outline_reader.specs.Stretches.{IsDefinition, DefinesNothing, EndsBeforeNext}
use Rattle.outline_reader.proofs.Truth.{and_both, and_right, true_not_false}
use Rattle.outline_reader.proofs.OrderLemmas.{to_false}
use Rattle.outline_reader.proofs.FoundLemmas.{or_first, or_second, begun_later}
use Rattle.outline_reader.proofs.FilledLemmas.{within_more}
use Rattle.outline_reader.proofs.FollowLemmas.{is_listed, list_next, define_next, follows, Follow, no_true}
use Rattle.outline_reader.proofs.WithinLemmas.{list_within, following_within, none_begins, all_listed}
use Rattle.outline_reader.proofs.BreakLemmas.{starts_name, defines, Breaks}
use Rattle.outline_reader.proofs.WordLemmas.{name_sort, define_sort}

-- no name with `::=` behind it comes next
abbrev NoneHere : PlainToken → PlainToken → List PlainToken → Type 0
NoneHere before name more = (sign : PlainToken) (rest : List PlainToken) → more ≡ sign ∷ rest → IsName name → before.line ≢ name.line → IsDefinition sign → sign.line ≡ name.line → ⊥

one_more : (before name : PlainToken) (more : List PlainToken) → NoneHere before name more → DefinesNothing (name ∷ more) → DefinesNothing (before ∷ name ∷ more)
one_more before name [] none rest = tt
one_more before name (sign ∷ more) none rest = (none sign more refl, rest)

listed_in : (P : Role → Type 0) (one : Role) (roles : List Role) → begins one ≡ false → names_category roles ≡ false → AllByRecursion P (within_portion (one ∷ roles)) → P one × AllByRecursion P (within_portion roles)
listed_in P one roles no_start no_name all = subst (AllByRecursion P) (within_more one roles no_start no_name) all

name_starts : (one : Role) (before name : Token) → is_listed one ≡ true → IsName (token_view name) → before.line ≢ name.line → starts_name one (record { sort = sort_of name; begins = begins_line (Some before.line) name.line }) ≡ true
unfolding starts_name
name_starts one before name listed is differs =
    and_both (is_listed one) (same_sort (sort_of name) s.Name && begins_line (Some before.line) name.line) listed
    (and_both (same_sort (sort_of name) s.Name) (begins_line (Some before.line) name.line) (ap (λ sort. same_sort sort s.Name) (name_sort name is))
    (ap not (to_false (nat_eq name.line before.line) (λ same. differs (sym (eqb-true name.line before.line same))))))

sign_defines : (name sign : Token) (more : List Seen) → IsDefinition (token_view sign) → sign.line ≡ name.line → defines (record { sort = sort_of sign; begins = begins_line (Some name.line) sign.line } ∷ more) ≡ true
unfolding defines
sign_defines name sign more is same =
    and_both (same_sort (sort_of sign) s.Define) (not (begins_line (Some name.line) sign.line)) (ap (λ sort. same_sort sort s.Define) (define_sort sign is))
    (ap (λ b. not (not b)) (eq-eqb sign.line name.line same))

none_here : (one : Role) (roles : List Role) (before name : Token) (tokens : List Token) → is_listed one ≡ true → names_category roles ≡ false → Breaks (one ∷ roles) (seen_after (Some before.line) (name ∷ tokens)) →
    NoneHere (token_view before) (token_view name) (plain_form (take (portion_length roles) tokens))
unfolding Breaks
none_here one roles before name tokens listed no_name breaks sign rest is is_name differs is_sign same = which (portion_length roles) tokens is breaks.0
  where
    which : (n : ℕ) (tokens : List Token) → plain_form (take n tokens) ≡ sign ∷ rest →
        (starts_name one (record { sort = sort_of name; begins = begins_line (Some before.line) name.line }) ≡ true → defines (seen_after (Some name.line) tokens) ≡ true → names_category roles ≡ true) → ⊥
    which zero tokens is breaks = (let never : [] ≡ sign ∷ rest = is in cc)
    which (suc n) [] is breaks = (let never : [] ≡ sign ∷ rest = is in cc)
    which (suc n) (token ∷ tokens) is breaks =
        let here : token_view token ≡ sign = (let whole : token_view token ∷ plain_form (take n tokens) ≡ sign ∷ rest = is in cc) in
        true_not_false (names_category roles)
        (breaks (name_starts one before name listed is_name differs)
        (sign_defines name token (seen_after (Some token.line) tokens) (subst IsDefinition (sym here) is_sign) (ap (λ (t : PlainToken). t.line) here ∙ same))) no_name

-- behind a token of a category, within its portion
pub ends_before_next : (before : Token) (roles : List Role) (tokens : List Token) → AllByRecursion (λ one. is_listed one ≡ true) (within_portion roles) → Breaks roles (seen_after (Some before.line) tokens) →
    DefinesNothing (plain_form (before ∷ take (portion_length roles) tokens))
unfolding Breaks
ends_before_next before [] tokens listed breaks = tt
ends_before_next before (one ∷ roles) [] listed breaks = nothing (portion_length (one ∷ roles))
  where
    nothing : (n : ℕ) → DefinesNothing (plain_form (before ∷ take n []))
    nothing zero = tt
    nothing (suc n) = tt
ends_before_next before (one ∷ roles) (name ∷ tokens) listed breaks = which (begins one || names_category roles) refl (λ all. ends_before_next name roles tokens all breaks.1)
  where
    which : (b : Bool) → (begins one || names_category roles) ≡ b → (AllByRecursion (λ one. is_listed one ≡ true) (within_portion roles) → DefinesNothing (plain_form (name ∷ take (portion_length roles) tokens))) →
        DefinesNothing (plain_form (before ∷ take (cond b 0 (portion_length roles + 1)) (name ∷ tokens)))
    which true is below = tt
    which false is below =
        let no_start = or_first (begins one) (names_category roles) is in
        let no_name = or_second (begins one) (names_category roles) is in
        let all = listed_in (λ one. is_listed one ≡ true) one roles no_start no_name listed in
        subst (λ n. DefinesNothing (plain_form (before ∷ take n (name ∷ tokens)))) (sym (add-one (portion_length roles)))
        (one_more (token_view before) (token_view name) (plain_form (take (portion_length roles) tokens)) (none_here one roles before name tokens all.0 no_name breaks)
        (below all.1))

-- ---- which portion is a category

-- the portion is a category
unfoldable pub IsCategory : Piece → Type 0
IsCategory (category name mark productions) = Unit {0}
IsCategory _ = ⊥

case_no_category : {A : Type 0} (first : Token) (roles : List Role) (tokens : List Token) → IsCategory (case_head first roles tokens) → A
unfolding IsCategory
case_no_category first [] tokens is = absurd is
case_no_category first (word ∷ []) tokens is = absurd is
case_no_category first (word ∷ role.RuleCase ∷ roles) tokens is = absurd is
case_no_category first (word ∷ other ∷ roles) tokens is = absurd is

pub category_begun : (begin : Role) (first : Token) (roles : List Role) (tokens : List Token) → IsCategory (portion begin first roles tokens) → (begin ≡ role.CategoryName) ⊎ (begins begin ≡ false)
unfolding IsCategory
category_begun role.TerminalsWord first roles tokens is = absurd is
category_begun role.SyntaxWord first roles tokens is = absurd is
category_begun role.CategoryName first roles tokens is = inl refl
category_begun role.JudgmentWord first roles tokens is = absurd is
category_begun role.RulePremise first roles tokens is = absurd is
category_begun role.RuleBar first roles tokens is = absurd is
category_begun role.AndWord first roles tokens is = absurd is
category_begun role.TheoremWord first roles tokens is = absurd is
category_begun role.StepName first roles tokens is = absurd is
category_begun role.ProofWord first roles tokens is = absurd is
category_begun role.InversionWord first roles tokens is = absurd is
category_begun role.CaseWord first roles tokens is = case_no_category first roles tokens is
category_begun role.EndWord first roles tokens is = absurd is
category_begun _ first roles tokens is = inr refl

ends_if : (piece : Piece) (tokens : List PlainToken) → (IsCategory piece → DefinesNothing tokens) → EndsBeforeNext (plain_portion piece) tokens
unfolding IsCategory
ends_if (terminals first items) tokens ends = tt
ends_if (syntax first) tokens ends = tt
ends_if (category one_name mark productions) tokens ends = ends tt
ends_if (judgment first one_name form assumes) tokens ends = tt
ends_if (rule premises one_name conclusion) tokens ends = tt
ends_if (theorem first joined kind one_name assumes inputs outputs targets) tokens ends = tt
ends_if (step first one_names forms why) tokens ends = tt
ends_if (inversion first subject premises one_name conclusion) tokens ends = tt
ends_if (case_rule first premises one_name conclusion) tokens ends = tt
ends_if (case_term first form assumes) tokens ends = tt
ends_if (end_line first part) tokens ends = tt

-- behind the `::=` of a category stand tokens of its list
list_behind : (first define : Role) (roles : List Role) → (first ≡ role.CategoryName) ⊎ (names_category (define ∷ roles) ≡ true) → Follow (first ∷ define ∷ roles) → list_next roles ≡ true
unfolding Follow follows define_next
list_behind first define roles (inl is) follow = and_right (same_role define role.Sign) (list_next roles) (ap (λ r. follows r (define ∷ roles)) (sym is) ∙ follow.0)
list_behind first role.NewCategory roles (inr new) follow = follow.2.0
list_behind first _ roles (inr new) follow = no_true new

behind_name : (first : Role) (roles : List Role) (before : Option ℕ) (one : Token) (tokens : List Token) → (first ≡ role.CategoryName) ⊎ (names_category roles ≡ true) → Follow (first ∷ roles) →
    Breaks (first ∷ roles) (seen_after before (one ∷ tokens)) → DefinesNothing (plain_form (take (portion_length roles) tokens))
unfolding Follow Breaks
behind_name first [] before one tokens how follow breaks = tt
behind_name first (define ∷ roles) before one [] how follow breaks = nothing (portion_length (define ∷ roles))
  where
    nothing : (n : ℕ) → DefinesNothing (plain_form (take n []))
    nothing zero = tt
    nothing (suc n) = tt
behind_name first (define ∷ roles) before one (mark ∷ tokens) how follow breaks = which (begins define || names_category roles)
  where
    which : (b : Bool) → DefinesNothing (plain_form (take (cond b 0 (portion_length roles + 1)) (mark ∷ tokens)))
    which true = tt
    which false =
        subst (λ n. DefinesNothing (plain_form (take n (mark ∷ tokens)))) (sym (add-one (portion_length roles)))
        (ends_before_next mark roles tokens
        (all_listed (within_portion roles) (list_within roles (list_behind first define roles how follow)) (following_within roles follow.2.2) (none_begins roles)) breaks.1.1)

pub category_ends : (first : Role) (roles : List Role) (before : Option ℕ) (one : Token) (tokens : List Token) (all : List Role) (own : List Token) → (begins first || names_category roles) ≡ true → Follow (first ∷ roles) →
    Breaks (first ∷ roles) (seen_after before (one ∷ tokens)) → EndsBeforeNext (plain_portion (portion first one all own)) (plain_form (take (portion_length roles) tokens))
category_ends first roles before one tokens all own starts follow breaks =
    ends_if (portion first one all own) (plain_form (take (portion_length roles) tokens))
    (λ is. behind_name first roles before one tokens (how (category_begun first one all own is)) follow breaks)
  where
    how : (first ≡ role.CategoryName) ⊎ (begins first ≡ false) → (first ≡ role.CategoryName) ⊎ (names_category roles ≡ true)
    how (inl is) = inl is
    how (inr none) = inr (begun_later (begins first) (names_category roles) starts none)
