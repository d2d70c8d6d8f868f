-- What variables in scope and tokens are tested for.
use Rattle.std.proofs.Common.{◌≡◌, ◌≢◌, ◌↔◌, Bool, false, true≢false, IsTrue, Option, MatchOption, ℕ, ◌+◌, ◌-◌, ◌<◌, ◌≤◌, List, [], ◌∷◌, ◌++◌, map, length, take, drop, reverse, get_or, refl, ap, ◌∙◌, sym, subst, arith, Some, slice_get, slice_range}
use Rattle.std.proofs.lemmas.List.{map-append, reverse-append, take_more, take_all, take_at, drop_at, length-append, reverse-reverse, get_or-map}
use Rattle.binding_terms.specs.declared.grammar.Cat.{Cat}
use Rattle.binding_terms.specs.Signature.{Signature}
use Rattle.binding_terms.proofs.Lists.{same_last, same_length}
use Rattle.rule_schemes.specs.Reading.{Token, word, Variable, bound}
use Rattle.form_cells.specs.View.{meaning, variable, in_scope}
use Rattle.form_cells.specs.Words.{words_of}
use Rattle.form_cells.specs.declared.variables.Meaning as meanings
use Rattle.form_cells.specs.declared.variables.Meaning.TheVariants.{Bound, Entry}
use Rattle.form_cells.specs.declared.variables.Var.{Var}
use Rattle.form_cells.proofs.Ranges.{range_cons, range_none}
use Rattle.form_cells.proofs.VariableLemmas.{no_variable}
use Rattle.cell_reader.specs.Contexts.{IsCategoryName}
use Rattle.cell_reader.specs.Outside.{IsInnermost}

scope_more : (all : List Var) (v : Var) → in_scope (all ++ v ∷ []) ≡ variable v ∷ in_scope all
scope_more all v = ap reverse (map-append variable all (v ∷ [])) ∙ reverse-append (map variable all) (variable v ∷ [])

is_local : (m : meanings.Meaning) → meaning m ≡ bound → m ≡ Bound
is_local Bound e = refl
is_local (Entry k) e = absurd (cc)

-- all variables but the last, and the last
last_apart : (vars : List Var) → 0 < length vars → vars ≡ take (length vars - 1) vars ++ get_or vars (length vars - 1) no_variable ∷ []
last_apart vars some =
    let lt : length vars - 1 < length vars = omega (arith, some) in
    let all : length vars ≤ length vars - 1 + 1 = omega arith in
    sym (take_all (length vars - 1 + 1) vars all) ∙ take_more vars (length vars - 1) no_variable lt

pub innermost_is : (vars : List Var) (v : Var) → 0 < length vars → v ≡ get_or vars (length vars - 1) no_variable → v.means ≡ Bound → IsInnermost v.cat.0 vars
innermost_is vars v some is local =
    (take (length vars - 1) vars, v, last_apart vars some ∙ ap (λ x. take (length vars - 1) vars ++ x ∷ []) (sym is), refl, local)

-- a scope whose innermost variable is a local of the category
pub scope_innermost : (vars : List Var) (name : List ℕ) (b : ℕ) (before : List Variable) → in_scope vars ≡ record { word = name; cat = b; means = bound } ∷ before → IsInnermost b vars
scope_innermost [] name b before e = absurd (cc)
scope_innermost (x ∷ xs) name b before e =
    let vars = x ∷ xs in
    let some : 0 < length vars = omega arith in
    let v = get_or vars (length vars - 1) no_variable in
    let front = take (length vars - 1) vars in
    let parted : vars ≡ front ++ v ∷ [] = last_apart vars some in
    let two : variable v ∷ in_scope front ≡ record { word = name; cat = b; means = bound } ∷ before = sym (scope_more front v) ∙ sym (ap in_scope parted) ∙ e in
    let head : ◌≡◌ {A = Variable} (variable v) (record { word = name; cat = b; means = bound }) = cc in
    (front, v, parted, ap (λ (u : Variable). u.cat) head, is_local v.means (ap (λ (u : Variable). u.means) head))

-- the innermost variable, with those around it
pub innermost_split : (vars : List Var) (b : ℕ) → IsInnermost b vars
    → (name : List ℕ) × (in_scope vars ≡ record { word = name; cat = b; means = bound } ∷ in_scope (take (length vars - 1) vars))
    × (words_of (take (length vars - (length vars - 1)) (drop (length vars - 1) vars)) ≡ name ∷ [])
innermost_split vars b (before, v, is, cat, local) =
    let long = ap length is in
    let count : length before ≡ length vars - 1 = omega (arith, long, length-append before (v ∷ [])) in
    let one : length vars - (length vars - 1) ≡ 1 = omega (arith, long, length-append before (v ∷ [])) in
    let front : take (length vars - 1) vars ≡ before = ap (take (length vars - 1)) is ∙ take_at before (v ∷ []) (length vars - 1) count in
    let rest : drop (length vars - 1) vars ≡ v ∷ [] = ap (drop (length vars - 1)) is ∙ drop_at before (v ∷ []) (length vars - 1) count in
    let last : ◌≡◌ {A = Variable} (variable v) (record { word = v.word.now; cat = b; means = bound }) =
    ap (λ n. record { word = v.word.now; cat = n; means = meaning v.means }) cat ∙ ap (λ m. record { word = v.word.now; cat = b; means = meaning m }) local in (
      v.word.now,
      ap in_scope is ∙ scope_more before v ∙ ap (λ x. x ∷ in_scope before) last ∙ ap (λ vs. record { word = v.word.now; cat = b; means = bound } ∷ in_scope vs) (sym front),
      ap (λ n. words_of (take n (drop (length vars - 1) vars))) one ∙ ap (λ vs. words_of (take 1 vs)) rest,
    )

pub some_vars : (vars : List Var) (b : ℕ) → IsInnermost b vars → 0 < length vars
some_vars vars b (before, v, is, cat, local) = let long = ap length is in omega (arith, long, length-append before (v ∷ []))

-- the category of the innermost variable
pub same_innermost : (vars : List Var) (name : List ℕ) (b d : ℕ) (before : List Variable) → in_scope vars ≡ record { word = name; cat = b; means = bound } ∷ before → IsInnermost d vars → b ≡ d
same_innermost vars name b d before e (front, v, is, cat, local) =
    let two : variable v ∷ in_scope front ≡ record { word = name; cat = b; means = bound } ∷ before = sym (scope_more front v) ∙ sym (ap in_scope is) ∙ e in
    let head : ◌≡◌ {A = Variable} (variable v) (record { word = name; cat = b; means = bound }) = cc in
    sym (ap (λ (u : Variable). u.cat) head) ∙ cat

pub no_innermost : (vars : List Var) (v : Var) (k : ℕ) (cat : ℕ) → 0 < length vars → v ≡ get_or vars (length vars - 1) no_variable → (v.means ≡ Bound → ⊥) → IsInnermost cat vars → ⊥
no_innermost vars v k cat some is other (front, u, parted, at, local) =
    let two : take (length vars - 1) vars ++ get_or vars (length vars - 1) no_variable ∷ [] ≡ front ++ u ∷ [] = sym (last_apart vars some) ∙ parted in
    let last = same_last (take (length vars - 1) vars) front (get_or vars (length vars - 1) no_variable) u two in
    other (ap (λ (x : Var). x.means) (is ∙ last.1) ∙ local)

pub none_innermost : (vars : List Var) (cat : ℕ) → length vars ≡ 0 → IsInnermost cat vars → ⊥
none_innermost vars cat none i = let some = some_vars vars cat i in omega (arith, none, some)

pub other_length : (sig : Signature) (c : ℕ) (us : List Token) → length us ≢ 1 → IsTrue false ↔ IsCategoryName sig c us
other_length sig c us h = (λ e. absurd (true≢false (sym e)), λ k. absurd (h (ap length k.1)))

-- the exact name of a category, by the one token that there is
pub one_name : (sig : Signature) (c : ℕ) (ts : List Token) (from to : ℕ) (t : Token) (found : Cat) (r : Bool) → from ≤ to → to ≤ length ts → to - from ≡ 1 → slice_get ts from ≡ Some t
    → slice_get sig.cats c ≡ Some found → (IsTrue r ↔ (t ≡ word found.name)) → IsTrue r ↔ IsCategoryName sig c (slice_range ts from to)
one_name sig c ts from to t found r start within one here cat is = (there, back)
  where
    alone : slice_range ts from to ≡ t ∷ []
    alone =
        let lt : from < to = omega (arith, one) in
        let end : from + 1 ≡ to = omega (arith, one, start) in
        range_cons ts from to t lt within here ∙ ap (λ us. t ∷ us) (ap (λ m. slice_range ts m to) end ∙ range_none ts to within)

    there : IsTrue r → IsCategoryName sig c (slice_range ts from to)
    there e = (found.name, alone ∙ ap (λ u. u ∷ []) (is.0 e), subst (λ (o : Option Cat). MatchOption o ⊥ (λ k. k.name ≡ found.name)) (sym cat) refl)

    back : IsCategoryName sig c (slice_range ts from to) → IsTrue r
    back h =
        let two : t ∷ [] ≡ word h.0 ∷ [] = sym alone ∙ h.1 in
        let same : t ≡ word h.0 = cc in
        is.1 (same ∙ sym (ap word (subst (λ (o : Option Cat). MatchOption o ⊥ (λ k. k.name ≡ h.0)) cat h.2)))

-- scopes in which one variable differs
pub scopes_apart : (one other : List Var) (i : ℕ) → i < length one → i < length other → (variable (get_or one i no_variable) ≡ variable (get_or other i no_variable) → ⊥)
    → in_scope one ≡ in_scope other → ⊥
scopes_apart one other i h k not e =
    let same : map variable one ≡ map variable other = sym (reverse-reverse (map variable one)) ∙ ap reverse e ∙ reverse-reverse (map variable other) in
    let d = variable no_variable in
    not (sym (get_or-map variable one i no_variable d h) ∙ ap (λ vs. get_or vs i d) same ∙ get_or-map variable other i no_variable d k)

pub scopes_longer : (one other : List Var) → (length one ≡ length other → ⊥) → in_scope one ≡ in_scope other → ⊥
scopes_longer one other not e =
    let same : map variable one ≡ map variable other = sym (reverse-reverse (map variable one)) ∙ ap reverse e ∙ reverse-reverse (map variable other) in
    not (same_length variable one other same)
