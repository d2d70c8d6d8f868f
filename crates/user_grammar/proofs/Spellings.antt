-- Names that have no common spelling, and the one name that a word spells.
use Rattle.std.proofs.Common.{◌≡◌, ◌≢◌, ℕ, zero, suc, List, [], ◌∷◌, ◌++◌, Option, None, Some, refl, ap, ◌∙◌, sym, subst, inl, inr, ◌⊎◌, slice_get, ◌↔◌, true, false, IsTrue}
use Rattle.std.specs.Option.{MatchOption}
use Rattle.std.specs.List.{AllByRecursion}
use Rattle.binding_terms.specs.declared.grammar.Cat.{Cat}
use Rattle.rule_schemes.specs.Reading.{IsEnding, IsSpelling, IsVariableWord, IsCategoryWord}
use Rattle.user_grammar.specs.Names.{names_if, category_names, variable_names, names, IsNoSpelling, AreApart, AllApart, AllDiffer}
use Rattle.rule_schemes.proofs.SpellingLemmas.{IsSpelling_itself}
use Rattle.binding_terms.proofs.Lists.{all_front, all_right}

pub apart_left : (xs ys : List (List ℕ)) → AllApart (xs ++ ys) → AllApart xs
apart_left [] ys apart = tt
apart_left (x ∷ xs) ys apart = (all_front (AreApart x) xs ys apart.0, apart_left xs ys apart.1)

pub apart_right : (xs ys : List (List ℕ)) → AllApart (xs ++ ys) → AllApart ys
apart_right [] ys apart = apart
apart_right (x ∷ xs) ys apart = apart_right xs ys apart.1

pub apart_across : (xs ys : List (List ℕ)) → AllApart (xs ++ ys) → AllByRecursion (λ (x : List ℕ). AllByRecursion (AreApart x) ys) xs
apart_across [] ys apart = tt
apart_across (x ∷ xs) ys apart = (all_right (AreApart x) xs ys apart.0, apart_across xs ys apart.1)

-- what holds of all categories' names holds of the one that a word spells
pub found_category : (P : List ℕ → Type 0) (cats : List Cat) (c : ℕ) (word : List ℕ)
    → AllByRecursion P (category_names cats) → IsCategoryWord cats c word → (name : List ℕ) × P name × IsSpelling name word
found_category P [] c word all at = absurd at
found_category P (cat ∷ cats) zero word all at = (cat.name, all.0, at)
found_category P (cat ∷ cats) (suc c) word all at = found_category P cats c word all.1 at

-- the word is a spelling of a category's variable
abbrev pub Spells : List Cat → ℕ → List ℕ → Type 0
Spells cats c word = IsVariableWord (record { cats = cats; prods = [] }) c word

first_variable : (P : List ℕ → Type 0) (var : Option (List ℕ)) (others : List (List ℕ)) (word : List ℕ)
    → AllByRecursion P (names_if var ++ others) → MatchOption var ⊥ (λ name. IsSpelling name word) → (name : List ℕ) × P name × IsSpelling name word
first_variable P None others word all at = absurd at
first_variable P (Some name) others word all at = (name, all.0, at)

pub found_variable : (P : List ℕ → Type 0) (cats : List Cat) (c : ℕ) (word : List ℕ)
    → AllByRecursion P (variable_names cats) → Spells cats c word → (name : List ℕ) × P name × IsSpelling name word
found_variable P [] c word all at = absurd at
found_variable P (cat ∷ cats) zero word all at = first_variable P cat.var (variable_names cats) word all at
found_variable P (cat ∷ cats) (suc c) word all at = found_variable P cats c word (all_right P (names_if cat.var) (variable_names cats) all) at

-- a word spells one category at most
pub one_category : (cats : List Cat) (c d : ℕ) (word : List ℕ) → AllApart (category_names cats) → IsCategoryWord cats c word → IsCategoryWord cats d word → c ≡ d
one_category [] c d word apart one other = absurd one
one_category (cat ∷ cats) zero zero word apart one other = refl
one_category (cat ∷ cats) zero (suc d) word apart one other =
    let found = found_category (AreApart cat.name) cats d word apart.0 other in absurd (found.1.nothing_common word one found.2)
one_category (cat ∷ cats) (suc c) zero word apart one other =
    let found = found_category (AreApart cat.name) cats c word apart.0 one in absurd (found.1.nothing_common word other found.2)
one_category (cat ∷ cats) (suc c) (suc d) word apart one other = ap suc (one_category cats c d word apart.1 one other)

not_first : (var : Option (List ℕ)) (cats : List Cat) (d : ℕ) (word : List ℕ) → AllApart (names_if var ++ variable_names cats)
    → MatchOption var ⊥ (λ name. IsSpelling name word) → Spells cats d word → ⊥
not_first None cats d word apart one other = one
not_first (Some name) cats d word apart one other =
    let found = found_variable (AreApart name) cats d word apart.0 other in found.1.nothing_common word one found.2

-- a word spells the variable of one category at most
pub one_variable : (cats : List Cat) (c d : ℕ) (word : List ℕ) → AllApart (variable_names cats) → Spells cats c word → Spells cats d word → c ≡ d
one_variable [] c d word apart one other = absurd one
one_variable (cat ∷ cats) zero zero word apart one other = refl
one_variable (cat ∷ cats) zero (suc d) word apart one other = absurd (not_first cat.var cats d word apart one other)
one_variable (cat ∷ cats) (suc c) zero word apart one other = absurd (not_first cat.var cats c word apart other one)
one_variable (cat ∷ cats) (suc c) (suc d) word apart one other =
    ap suc (one_variable cats c d word (apart_right (names_if cat.var) (variable_names cats) apart) one other)

-- no word spells a category and a variable
pub not_both : (cats : List Cat) (c d : ℕ) (word : List ℕ) → AllApart (names cats) → IsCategoryWord cats c word → Spells cats d word → ⊥
not_both cats c d word apart one other =
    let across = apart_across (category_names cats) (variable_names cats) apart in
    let category = found_category (λ (name : List ℕ). AllByRecursion (AreApart name) (variable_names cats)) cats c word across one in
    let variable = found_variable (AreApart category.0) cats d word category.1 other in
    variable.1.nothing_common word category.2 variable.2

-- a word that is no spelling spells no category and no variable
pub no_category : (cats : List Cat) (c : ℕ) (word : List ℕ) → IsNoSpelling (names cats) word → IsCategoryWord cats c word → ⊥
no_category cats c word none at =
    let found = found_category (λ (name : List ℕ). IsSpelling name word → ⊥) cats c word (all_front (λ (name : List ℕ). IsSpelling name word → ⊥) (category_names cats) (variable_names cats) none) at in
    found.1 found.2

pub no_variable : (cats : List Cat) (c : ℕ) (word : List ℕ) → IsNoSpelling (names cats) word → Spells cats c word → ⊥
no_variable cats c word none at =
    let found = found_variable (λ (name : List ℕ). IsSpelling name word → ⊥) cats c word (all_right (λ (name : List ℕ). IsSpelling name word → ⊥) (category_names cats) (variable_names cats) none) at in
    found.1 found.2

-- a text stands at one place
differs_from : (text : List ℕ) (texts : List (List ℕ)) (n : ℕ) → AllByRecursion (λ other. text ≢ other) texts → slice_get texts n ≡ Some text → ⊥
differs_from text [] n differ at = cc
differs_from text (other ∷ texts) zero differ at = differ.0 (let same : text ≡ other = cc in same)
differs_from text (other ∷ texts) (suc n) differ at = differs_from text texts n differ.1 at

pub one_place : (texts : List (List ℕ)) (n m : ℕ) (text : List ℕ) → AllDiffer texts → slice_get texts n ≡ Some text → slice_get texts m ≡ Some text → n ≡ m
one_place [] n m text differ one other = absurd (cc)
one_place (x ∷ texts) zero zero text differ one other = refl
one_place (x ∷ texts) zero (suc m) text differ one other =
    let same : Some text ≡ Some x = sym one in let is : text ≡ x = cc in absurd (differs_from x texts m differ.0 (other ∙ ap Some is))
one_place (x ∷ texts) (suc n) zero text differ one other =
    let same : Some text ≡ Some x = sym other in let is : text ≡ x = cc in absurd (differs_from x texts n differ.0 (one ∙ ap Some is))
one_place (x ∷ texts) (suc n) (suc m) text differ one other = ap suc (one_place texts n m text differ.1 one other)

-- ---- when two names have a common spelling

-- one of two names with a common spelling is a spelling of the other
pub common_spelling : (one other first second : List ℕ) → one ++ first ≡ other ++ second → AllByRecursion IsEnding first → AllByRecursion IsEnding second
    → IsSpelling one other ⊎ IsSpelling other one
common_spelling [] other first second same one_ends other_ends =
    inl (other, refl, all_front IsEnding other second (subst (AllByRecursion IsEnding) same one_ends))
common_spelling (c ∷ one) [] first second same one_ends other_ends =
    inr (c ∷ one, refl, all_front IsEnding (c ∷ one) first (subst (AllByRecursion IsEnding) (sym same) other_ends))
common_spelling (c ∷ one) (d ∷ other) first second same one_ends other_ends =
    let head : c ≡ d = cc in
    let left : one ++ first ≡ other ++ second = cc in
    further c d one other head (common_spelling one other first second left one_ends other_ends)
  where
    further : (c d : ℕ) (one other : List ℕ) → c ≡ d → IsSpelling one other ⊎ IsSpelling other one → IsSpelling (c ∷ one) (d ∷ other) ⊎ IsSpelling (d ∷ other) (c ∷ one)
    further c d one other head (inl h) = inl (h.0, (ap (λ x. x ∷ other) (sym head) ∙ ap (λ xs. c ∷ xs) h.1), h.2)
    further c d one other head (inr h) = inr (h.0, (ap (λ x. x ∷ one) head ∙ ap (λ xs. d ∷ xs) h.1), h.2)

-- two names are apart where neither is a spelling of the other
pub apart_names : (one other : List ℕ) → (IsSpelling one other → ⊥) → (IsSpelling other one → ⊥) → AreApart one other
apart_names one other not_one not_other = record {
  nothing_common = λ word spells also. neither (common_spelling one other spells.0 also.0 (sym spells.1 ∙ also.1) spells.2 also.2);
}
  where
    neither : IsSpelling one other ⊎ IsSpelling other one → ⊥
    neither (inl h) = not_one h
    neither (inr h) = not_other h

pub spelling_is_not_apart : (one other : List ℕ) → AreApart one other → IsSpelling one other → ⊥
spelling_is_not_apart one other apart spells = apart.nothing_common other spells (IsSpelling_itself other)

pub other_is_not_apart : (one other : List ℕ) → AreApart one other → IsSpelling other one → ⊥
other_is_not_apart one other apart spells = apart.nothing_common one (IsSpelling_itself one) spells

pub spells_one : (cats : List Cat) (c : ℕ) (word : List ℕ) → IsCategoryWord cats c word → IsTrue false ↔ IsNoSpelling (category_names cats) word
spells_one cats c word at = (
  λ t. (let never : false ≡ true = t in cc),
  λ none. (let found = found_category (λ (name : List ℕ). IsSpelling name word → ⊥) cats c word none at in absurd (found.1 found.2)),
)
