-- Words that are declared a second time.
use Rattle.std.proofs.Common.{◌≡◌, ◌↔◌, Bool, false, IsTrue, ◌⊎◌, ◌<◌, ◌≤◌, ◌+◌, ◌-◌, ◌++◌, ℕ, List, [], ◌∷◌, map, length, get_or, take, drop, refl, ap, ◌∙◌, sym, subst, inl, inr, Option, None, Some, arith}
use Rattle.std.proofs.lemmas.List.{append-nil, append_assoc, take_more, take_all, map-append}
use Rattle.std.specs.List.{Contains}
use Rattle.binding_terms.specs.Numbered.{AnyByRecursion}
use Rattle.sy_base.specs.Tokens.{PlainToken}
use Rattle.sy_base.specs.declared.fault.Code.{Code}
use Rattle.sy_base.specs.declared.fault.Code.TheVariants.{Duplicate}
use Rattle.outline_reader.specs.Plain.{PlainPortion, category, plain_portion}
use Rattle.outline_reader.specs.Views.{portion_view}
use Rattle.outline_reader.specs.declared.parts.Portion.{Portion}
use Rattle.user_grammar.specs.Made.{plains}
use Rattle.rule_schemes.specs.Reading.{IsSpelling}
use Rattle.user_grammar.specs.File.{WrittenCategory, categories}
use Rattle.user_grammar.specs.Fault.{Sort, a_terminal, a_category, a_variable, Declared, declared_as, IsSpelledAs, AreVariables, no_variables, a_word, a_production, DeclaresHere, DeclareAll, IsDuplicate, common_spelling, second_variable}
use Rattle.sy_base.specs.FirstFault.{OfSome, Either, at_token, IsEarlierOf}
use Rattle.user_grammar.specs.Finding.{IsLeast, AtToken, IsFoundAt, HaveCommon, IsCommon, IsOneToken, IsSecond, declaration_view, lent_words, LentFault}
use Rattle.user_grammar.specs.declared.fault_declared.Declaration.{Declaration}
use Rattle.user_grammar.proofs.Spellings.{common_spelling as spells_other}
use Rattle.sy_base.proofs.FirstLemmas.{found_point_more, found_point_same, found_same, none_found}
use Rattle.user_grammar.proofs.Tests.{refused}
use Rattle.rule_schemes.proofs.SpellingLemmas.{IsSpelling_itself}
use Rattle.binding_terms.proofs.Lists.{any_back, any_contained, any_front, any_split, contained_any, nothing_before, split_last}

-- ---- variables

pub variables_append : (portions : List PlainPortion) {forms others : List (List PlainToken)} {tokens more : List PlainToken}
    → AreVariables portions forms tokens → AreVariables portions others more → AreVariables portions (forms ++ others) (tokens ++ more)
variables_append portions no_variables b = b
variables_append portions (a_word is a) b = a_word is (variables_append portions a b)
variables_append portions (a_production none a) b = a_production none (variables_append portions a b)

pub one_variables : (portions : List PlainPortion) {forms : List (List PlainToken)} {a b : List PlainToken} → AreVariables portions forms a → AreVariables portions forms b → a ≡ b
one_variables portions no_variables no_variables = refl
one_variables portions (a_word {token = token} is a) (a_word also b) = ap (λ ts. token ∷ ts) (one_variables portions a b)
one_variables portions (a_word is a) (a_production none b) = absurd (none is)
one_variables portions (a_production none a) (a_word is b) = absurd (none is)
one_variables portions (a_production none a) (a_production also b) = one_variables portions a b

-- ---- declarations

here_once : (portions : List PlainPortion) (p : PlainPortion) (a b : List Declared) → DeclaresHere portions p a → DeclaresHere portions p b → a ≡ b
here_once portions (category name mark forms) a b x y =
    x.2 ∙ ap (λ ts. declared_as a_category name ∷ map (declared_as a_variable) ts) (one_variables portions x.1 y.1) ∙ sym y.2
here_once portions p a b x y = x ∙ sym y

pub declared_once : (portions ps : List PlainPortion) (a b : List Declared) → DeclareAll portions ps a → DeclareAll portions ps b → a ≡ b
declared_once portions [] a b x y = x ∙ sym y
declared_once portions (p ∷ ps) a b x y =
    x.2 ∙ ap (λ h. h ++ x.1) (here_once portions p x.0 y.0 x.3 y.3) ∙ ap (λ o. y.0 ++ o) (declared_once portions ps x.1 y.1 x.4 y.4) ∙ sym y.2

pub declare_push : (portions ps : List PlainPortion) (p : PlainPortion) (ds own : List Declared) → DeclareAll portions ps ds → DeclaresHere portions p own
    → DeclareAll portions (ps ++ p ∷ []) (ds ++ own)
declare_push portions [] p ds own all here = (own, [], ap (λ xs. xs ++ own) all ∙ sym (append-nil own), here, refl)
declare_push portions (q ∷ ps) p ds own all here =
    (all.0, all.1 ++ own, ap (λ xs. xs ++ own) all.2 ∙ append_assoc all.0 all.1 own, all.3, declare_push portions ps p all.1 own all.4 here)

-- ---- common spellings

common_cases : (ds : List Declared) (x : Declared) (t : PlainToken) → IsCommon (ds ++ x ∷ []) t
    → IsCommon ds t ⊎ ((t ≡ x.token) × AnyByRecursion (λ earlier. HaveCommon earlier x) ds)
common_cases ds x t is = elim (split_last ds x is.before (declared_as is.sort t) is.after is.split) [
  | inl l ↦ inr (
    sym (ap (λ (d : Declared). d.token) l.1),
    subst (λ (d : Declared). AnyByRecursion (λ earlier. HaveCommon earlier d) ds) (sym l.1)
        (subst (λ ys. AnyByRecursion (λ earlier. HaveCommon earlier (declared_as is.sort t)) ys) (sym l.0) is.common),
  )
  | inr r ↦ inl (record { before = is.before; sort = is.sort; after = r.0; split = r.1; common = is.common })
]

common_kept : (ds : List Declared) (x : Declared) (t : PlainToken) → IsCommon ds t → IsCommon (ds ++ x ∷ []) t
common_kept ds x t is = record {
  before = is.before;
  sort = is.sort;
  after = is.after ++ x ∷ [];
  split = ap (λ ys. ys ++ x ∷ []) is.split ∙ append_assoc is.before (declared_as is.sort t ∷ is.after) (x ∷ []);
  common = is.common;
}

common_new : (ds : List Declared) (x : Declared) → AnyByRecursion (λ earlier. HaveCommon earlier x) ds → IsCommon (ds ++ x ∷ []) x.token
common_new ds x common = record { before = ds; sort = x.sort; after = []; split = refl; common = common }

pub one_more : (xs : List Declaration) (i : ℕ) (d : Declaration) → i < length xs → map declaration_view (take i xs) ++ declaration_view (get_or xs i d) ∷ [] ≡ map declaration_view (take (i + 1) xs)
one_more xs i d lt = sym (map-append declaration_view (take i xs) (get_or xs i d ∷ [])) ∙ ap (map declaration_view) (sym (take_more xs i d lt))

-- one declaration more, with a common spelling
pub common_more : (ds : List Declared) (x : Declared) (f : LentFault) (a r : Option LentFault) → AnyByRecursion (λ earlier. HaveCommon earlier x) ds → IsFoundAt Duplicate x.token f
    → IsEarlierOf a (Some f) r → IsLeast (AtToken Duplicate (IsCommon ds)) a → IsLeast (AtToken Duplicate (IsCommon (ds ++ x ∷ []))) r
common_more ds x f a r common found is all =
    found_point_more at_token lent_words Duplicate (λ one. one.text) (IsCommon ds) (IsCommon (ds ++ x ∷ [])) x.token f a r (common_kept ds x)
    (λ s y. elim (common_cases ds x s y) [ inl l ↦ inl l | inr m ↦ inr m.0 ]) (common_new ds x common) found is all

-- one without
pub common_same : (ds : List Declared) (x : Declared) (a : Option LentFault) → (AnyByRecursion (λ earlier. HaveCommon earlier x) ds → ⊥)
    → IsLeast (AtToken Duplicate (IsCommon ds)) a → IsLeast (AtToken Duplicate (IsCommon (ds ++ x ∷ []))) a
common_same ds x a none all =
    found_point_same at_token lent_words Duplicate (λ one. one.text) (IsCommon ds) (IsCommon (ds ++ x ∷ [])) a (common_kept ds x)
    (λ s y. elim (common_cases ds x s y) [ inl l ↦ l | inr m ↦ absurd (none m.1) ]) all

no_common : (t : PlainToken) → IsCommon [] t → ⊥
no_common t is = nothing_before is.before (declared_as is.sort t) is.after is.split

pub least_no_common : IsLeast (AtToken Duplicate (IsCommon [])) None
least_no_common = none_found at_token lent_words (AtToken Duplicate (IsCommon [])) (λ c t d x. no_common t x.2)

-- two declared words have a common spelling where one spells the other
spelled_itself : (d : Declared) → IsSpelledAs d d.token.text
spelled_itself d = by_sort d.sort d.token
  where
    by_sort : (s : Sort) (t : PlainToken) → IsSpelledAs (declared_as s t) t.text
    by_sort a_terminal t = refl
    by_sort a_category t = IsSpelling_itself t.text
    by_sort a_variable t = IsSpelling_itself t.text

both_names : (one other word : List ℕ) → IsSpelling one word → IsSpelling other word → IsSpelling one other ⊎ IsSpelling other one
both_names one other word a b = spells_other one other a.0 b.0 (sym a.1 ∙ b.1) a.2 b.2

one_spells_other : (s r : Sort) (t u : PlainToken) (word : List ℕ) → IsSpelledAs (declared_as s t) word → IsSpelledAs (declared_as r u) word
    → IsSpelledAs (declared_as s t) u.text ⊎ IsSpelledAs (declared_as r u) t.text
one_spells_other a_terminal r t u word a b = inr (subst (IsSpelledAs (declared_as r u)) a b)
one_spells_other s a_terminal t u word a b = inl (subst (IsSpelledAs (declared_as s t)) b a)
one_spells_other a_category a_category t u word a b = both_names t.text u.text word a b
one_spells_other a_category a_variable t u word a b = both_names t.text u.text word a b
one_spells_other a_variable a_category t u word a b = both_names t.text u.text word a b
one_spells_other a_variable a_variable t u word a b = both_names t.text u.text word a b

pub common_by_second : (one other : Declared) (p q : Bool) → (IsTrue p ↔ IsSpelledAs one other.token.text) → (IsTrue q ↔ IsSpelledAs other one.token.text) → p ≡ false
    → IsTrue q ↔ HaveCommon one other
common_by_second one other p q is also none = (
  (λ t. record { word = one.token.text; one_spelled = spelled_itself one; other_spelled = also.0 t }),
  (λ h. elim (one_spells_other one.sort other.sort one.token other.token h.word h.one_spelled h.other_spelled) [ inl l ↦ absurd (refused p is none l) | inr r ↦ also.1 r ]),
)

-- ---- some tokens

one_token_cases : (ts : List PlainToken) (t s : PlainToken) → IsOneToken (ts ++ t ∷ []) s → IsOneToken ts s ⊎ (s ≡ t)
one_token_cases ts t s is = elim (any_split (λ one. one ≡ s) ts (t ∷ []) is.is) [
  | inl l ↦ inl (record { is = l })
  | inr r ↦ elim r [ inl same ↦ inr (sym same) | inr never ↦ absurd never ]
]

pub token_more : {X : Type 0} (view : X → PlainToken) (c : Code) (xs : List X) (i : ℕ) (d : X) (f : LentFault) (a r : Option LentFault) → i < length xs
    → IsFoundAt c (view (get_or xs i d)) f → IsEarlierOf a (Some f) r
    → IsLeast (AtToken c (IsOneToken (map view (take i xs)))) a → IsLeast (AtToken c (IsOneToken (map view (take (i + 1) xs)))) r
token_more view c xs i d f a r lt found is all =
    let ts = map view (take i xs) in let t = view (get_or xs i d) in
    let more : ts ++ t ∷ [] ≡ map view (take (i + 1) xs) = sym (map-append view (take i xs) (get_or xs i d ∷ [])) ∙ ap (map view) (sym (take_more xs i d lt)) in
    subst (λ ys. IsLeast (AtToken c (IsOneToken ys)) r) more
    (found_point_more at_token lent_words c (λ one. one.text) (IsOneToken ts) (IsOneToken (ts ++ t ∷ [])) t f a r
    (λ s y. record { is = any_front (λ one. one ≡ s) ts (t ∷ []) y.is }) (one_token_cases ts t) (record { is = any_back (λ one. one ≡ t) ts (t ∷ []) (inl refl) }) found is all)

-- ---- second variables

pub second_by_others : (c : Code) (portions : List PlainPortion) (forms : List (List PlainToken)) (v : PlainToken) (others : List PlainToken) (r : Option LentFault)
    → AreVariables portions forms (v ∷ others) → IsLeast (AtToken c (IsOneToken others)) r → IsLeast (AtToken c (IsSecond portions forms)) r
second_by_others c portions forms v others r are = found_point_same at_token lent_words c (λ one. one.text) (IsOneToken others) (IsSecond portions forms) r
    (λ s y. record { first = v; others = others; variables = are; second = y })
    (λ s y. subst (λ ts. IsOneToken ts s) (let whole : y.first ∷ y.others ≡ v ∷ others = one_variables portions y.variables are in let tail : y.others ≡ others = cc in tail) y.second)

pub no_second : (c : Code) (portions : List PlainPortion) (forms : List (List PlainToken)) → AreVariables portions forms [] → IsLeast (AtToken c (IsSecond portions forms)) None
no_second c portions forms are = none_found at_token lent_words (AtToken c (IsSecond portions forms)) (λ o t d x. some_first x.2.first x.2.others (one_variables portions x.2.variables are))
  where
    some_first : (v : PlainToken) (others : List PlainToken) → v ∷ others ≡ [] → ⊥
    some_first v others e = cc

-- ---- duplicates

token_split : (ts : List PlainToken) (t : PlainToken) → AnyByRecursion (λ one. one ≡ t) ts → (before : List PlainToken) × (after : List PlainToken) × (ts ≡ before ++ t ∷ after)
token_split [] t any = absurd any
token_split (s ∷ ts) t (inl same) = ([], ts, ap (λ z. z ∷ ts) same)
token_split (s ∷ ts) t (inr any) = let more = token_split ts t any in (s ∷ more.0, more.1, ap (λ zs. s ∷ zs) more.2)

split_token : (before : List PlainToken) (t : PlainToken) (after : List PlainToken) → AnyByRecursion (λ one. one ≡ t) (before ++ t ∷ after)
split_token before t after = any_back (λ one. one ≡ t) before (t ∷ after) (inl refl)

duplicate_by_common : (portions : List PlainPortion) (all : List Declared) (t : PlainToken) → DeclareAll portions portions all → IsCommon all t → IsDuplicate portions t
duplicate_by_common portions all t are is =
    let earlier = contained_any (λ earlier. HaveCommon earlier (declared_as is.sort t)) is.before is.common in
    common_spelling all is.before is.after is.sort earlier.0 earlier.2.word are is.split earlier.1 earlier.2.one_spelled earlier.2.other_spelled

duplicate_by_second : (portions : List PlainPortion) (written : WrittenCategory) (t : PlainToken) → Contains (categories portions) written → IsSecond portions written.forms t → IsDuplicate portions t
duplicate_by_second portions written t is second =
    let split = token_split second.others t second.second.is in
    second_variable written second.first split.0 split.1 is (subst (λ ts. AreVariables portions written.forms (second.first ∷ ts)) split.2 second.variables)

-- the family of second variables
abbrev pub Seconds : List PlainPortion → WrittenCategory → Code → PlainToken → List ℕ → Type 0
Seconds portions written = AtToken Duplicate (IsSecond portions written.forms)

duplicate_cases : (portions : List PlainPortion) (all : List Declared) (c : Code) (t : PlainToken) (d : List ℕ) → DeclareAll portions portions all → c ≡ Duplicate → d ≡ t.text → IsDuplicate portions t
    → AtToken Duplicate (IsCommon all) c t d ⊎ OfSome (Seconds portions) (categories portions) c t d
duplicate_cases portions all c t d are code detail (common_spelling whole before after sort earlier word also split is one other) =
    inl (
      code,
      detail,
      record {
        before = before;
        sort = sort;
        after = after;
        split = declared_once portions portions all whole are also ∙ split;
        common = any_contained (λ e. HaveCommon e (declared_as sort t)) before earlier is (record { word = word; one_spelled = one; other_spelled = other });
      },
    )
duplicate_cases portions all c t d are code detail (second_variable written first before after is variables) =
    inr (record {
      some = any_contained (λ w. Seconds portions w c t d) (categories portions) written is
          (code, detail, record { first = first; others = before ++ t ∷ after; variables = variables; second = record { is = split_token before t after } });
    })

pub duplicate_by_two : (portions : List PlainPortion) (all : List Declared) (r : Option LentFault) → DeclareAll portions portions all
    → IsLeast (Either (AtToken Duplicate (IsCommon all)) (OfSome (Seconds portions) (categories portions))) r → IsLeast (AtToken Duplicate (IsDuplicate portions)) r
duplicate_by_two portions all r are = found_same at_token lent_words (Either (AtToken Duplicate (IsCommon all)) (OfSome (Seconds portions) (categories portions))) (AtToken Duplicate (IsDuplicate portions)) r
    (λ c t d x. elim x [
      | inl y ↦ (y.0, y.1, duplicate_by_common portions all t are y.2)
      | inr y ↦ (let some = contained_any (λ w. Seconds portions w c t d) (categories portions) y.some in (some.2.0, some.2.1, duplicate_by_second portions some.0 t some.1 some.2.2))
    ])
    (λ c t d x. duplicate_cases portions all c t d are x.0 x.1 x.2)

-- one portion more
pub declare_more : (portions : List PlainPortion) (xs : List Portion) (i : ℕ) (x : Portion) (old own new : List Declared) → i < length xs → x ≡ get_or xs i x
    → DeclareAll portions (plains (take i xs)) old → DeclaresHere portions (plain_portion (portion_view x)) own → new ≡ old ++ own → DeclareAll portions (plains (take (i + 1) xs)) new
declare_more portions xs i x old own new lt at all here same =
    let view = λ (p : Portion). plain_portion (portion_view p) in
    let more : plains (take i xs) ++ view x ∷ [] ≡ plains (take (i + 1) xs) =
    ap (λ (p : Portion). plains (take i xs) ++ view p ∷ []) at ∙ sym (map-append view (take i xs) (get_or xs i x ∷ [])) ∙ ap (map view) (sym (take_more xs i x lt)) in
    subst (λ ps. DeclareAll portions ps new) more (subst (DeclareAll portions (plains (take i xs) ++ view x ∷ [])) (sym same) (declare_push portions (plains (take i xs)) (view x) old own all here))

-- a category's variables but the first
pub second_of_all : {X : Type 0} (view : X → PlainToken) (c : Code) (portions : List PlainPortion) (forms : List (List PlainToken)) (xs : List X) (r : Option LentFault) → 1 ≤ length xs
    → AreVariables portions forms (map view xs) → IsLeast (AtToken c (IsOneToken (map view (take (length xs - 1) (drop 1 xs))))) r → IsLeast (AtToken c (IsSecond portions forms)) r
second_of_all view c portions forms [] r le are others = absurd (omega (arith, le))
second_of_all view c portions forms (x ∷ xs) r le are others =
    second_by_others c portions forms (view x) (map view xs) r are
    (subst (λ ys. IsLeast (AtToken c (IsOneToken (map view ys))) r) (take_all (length (x ∷ xs) - 1) xs (omega arith)) others)

pub second_of_none : {X : Type 0} (view : X → PlainToken) (c : Code) (portions : List PlainPortion) (forms : List (List PlainToken)) (xs : List X) → length xs < 1
    → AreVariables portions forms (map view xs) → IsLeast (AtToken c (IsSecond portions forms)) None
second_of_none view c portions forms [] lt are = no_second c portions forms are
second_of_none view c portions forms (x ∷ xs) lt are = absurd (omega (arith, lt))
