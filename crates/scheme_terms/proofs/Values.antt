-- The variables of a context value: an entry's variable has the index that its place gives.
use Rattle.std.proofs.Common.{◌≡◌, ◌≢◌, ℕ, zero, suc, ◌+◌, ◌-◌, true, IsTrue, List, [], ◌∷◌, ◌++◌, length, reverse, Option, Some, None, MatchOption, slice_get, unwrap_or, option_map, inl, inr, refl, ap, ◌∙◌, sym, subst, arith}
use Rattle.std.specs.Prelude.{MatchBool}
use Rattle.std.specs.List.{AllByRecursion, list_all}
use Rattle.std.proofs.lemmas.List.{length-reverse}
use Rattle.binding_terms.specs.Signature.{Signature, slots, binders, Fits, ProdFits, IsContext, IsContextForm, Extends, is_word, IsPlain}
use Rattle.scheme_terms.specs.Forms.{GroundEntry, ContextValue}
use Rattle.scheme_terms.specs.Context.{variables, IsEntry, scope_after, AreEntries, IsValue}
use Rattle.scheme_terms.specs.SchemeScope.{IsRoot}
use Rattle.scheme_terms.specs.declared.scheme.Root.{Root}
use Rattle.scheme_terms.specs.declared.scheme.Root.TheVariants.{Closed, Empty, Whole}
use Rattle.binding_terms.specs.declared.grammar.Item.{Item}
use Rattle.binding_terms.specs.declared.grammar.Item.TheVariants.{Word, Slot, Binder}
use Rattle.binding_terms.specs.declared.grammar.Prod.{Prod}
use Rattle.binding_terms.specs.declared.grammar.Cat.{Cat}
use Rattle.binding_terms.proofs.Lists.{all_at, append_beyond, match_some}

-- each entry adds one variable
abbrev pub AddOne : Signature → List GroundEntry → Type 0
AddOne sig es = AllByRecursion (λ e. length (variables sig e.prod) ≡ 1) es

-- what stands before entries is beyond their variables
before_entries : (sig : Signature) (es : List GroundEntry) → AddOne sig es → (scope : List ℕ) (j : ℕ) →
    slice_get (scope_after sig scope es) (length es + j) ≡ slice_get scope j
before_entries sig [] h scope j = ap (slice_get scope) (let e : 0 + j ≡ j = omega arith in e)
before_entries sig (e ∷ es) h scope j =
    let index : suc (length es) + j ≡ length es + (1 + j) = omega arith in
    let long : length (variables sig e.prod) ≡ 1 = h.0 in
    ap (slice_get (scope_after sig (variables sig e.prod ++ scope) es)) index ∙ before_entries sig es h.1 (variables sig e.prod ++ scope) (1 + j)
    ∙ append_beyond (variables sig e.prod) scope (1 + j) (omega arith)
    ∙ ap (slice_get scope) (let k : 1 + j - length (variables sig e.prod) ≡ j = omega arith in k)

pub entry_variable : (sig : Signature) (es : List GroundEntry) → AddOne sig es → (scope : List ℕ) (at c : ℕ) (e : GroundEntry) →
    slice_get es at ≡ Some e → variables sig e.prod ≡ c ∷ [] → slice_get (scope_after sig scope es) (length es - suc at) ≡ Some c
entry_variable sig [] h scope at c e is one = absurd (let no : ⊥ = cc in no)
entry_variable sig (x ∷ es) h scope zero c e is one =
    let same : x ≡ e = cc in
    let index : suc (length es) - 1 ≡ length es + 0 = omega arith in
    ap (slice_get (scope_after sig (variables sig x.prod ++ scope) es)) index
    ∙ before_entries sig es h.1 (variables sig x.prod ++ scope) 0
    ∙ ap (λ vs. slice_get (vs ++ scope) 0) (ap (λ (y : GroundEntry). variables sig y.prod) same ∙ one)
entry_variable sig (x ∷ es) h scope (suc at) c e is one =
    let index : suc (length es) - suc (suc at) ≡ length es - suc at = omega arith in
    ap (slice_get (scope_after sig (variables sig x.prod ++ scope) es)) index
    ∙ entry_variable sig es h.1 (variables sig x.prod ++ scope) at c e is one

-- a context form that binds adds one variable
words_bind_nothing : (items : List Item) → IsTrue (list_all is_word items) → binders items ≡ []
words_bind_nothing [] h = refl
words_bind_nothing (Word text quoted ∷ items) h = words_bind_nothing items h
words_bind_nothing (Slot cat binds ∷ items) h = absurd (let no : ⊥ = cc in no)
words_bind_nothing (Binder cat ∷ items) h = absurd (let no : ⊥ = cc in no)

extends_one : (c : ℕ) (items : List Item) → Extends c items → length (binders items) ≡ 1
extends_one c [] h = absurd h
extends_one c (Word text quoted ∷ items) h = absurd h
extends_one c (Slot cat [] ∷ items) h = h.1
extends_one c (Slot cat (b ∷ bs) ∷ items) h = absurd h
extends_one c (Binder cat ∷ items) h = absurd h

form_adds_one : (sig : Signature) (p : Prod) → IsContextForm sig p → binders p.items ≢ [] → length (binders p.items) ≡ 1
form_adds_one sig p (inl h) some = absurd (some (words_bind_nothing p.items h))
form_adds_one sig p (inr h) some = extends_one p.cat.0 p.items h.0

context_form : (sig : Signature) (p : Prod) (o : Option Cat) → MatchOption o ⊥ (λ cat. cat.context ≡ true)
    → MatchOption o ⊥ (λ cat. MatchBool cat.context (IsContextForm sig p) (AllByRecursion (λ s. IsPlain sig s.cat) (slots p.items))) → IsContextForm sig p
context_form sig p None h k = absurd h
context_form sig p (Some cat) h k = subst (λ b. MatchBool b (IsContextForm sig p) (AllByRecursion (λ s. IsPlain sig s.cat) (slots p.items))) h k

pub entry_adds_one : (sig : Signature) → Fits sig → (c : ℕ) → IsContext sig c → (scope : List ℕ) (e : GroundEntry) → IsEntry sig c scope e → length (variables sig e.prod) ≡ 1
entry_adds_one sig fits c context scope e h =
    let found = match_some (slice_get sig.prods e.prod) _ h in
    let prod : Prod = found.0 in
    let of_context : IsContext sig prod.cat.0 = subst (IsContext sig) (sym found.2.0) context in
    let form : IsContextForm sig prod = context_form sig prod (slice_get sig.cats prod.cat.0) of_context (all_at (ProdFits sig) sig.prods e.prod prod fits.prods found.1).form in
    let stored : variables sig e.prod ≡ reverse (binders prod.items) = ap (λ o. unwrap_or (option_map (λ (p : Prod). reverse (binders p.items)) o) []) found.1 in
    ap length stored ∙ length-reverse (binders prod.items) ∙ form_adds_one sig prod form found.2.1

pub entries_add_one : (sig : Signature) → Fits sig → (c : ℕ) → IsContext sig c → (scope : List ℕ) (es : List GroundEntry) → AreEntries sig c scope es → AddOne sig es
entries_add_one sig fits c context scope [] h = tt
entries_add_one sig fits c context scope (e ∷ es) h =
    (entry_adds_one sig fits c context scope e h.0, entries_add_one sig fits c context (variables sig e.prod ++ scope) es h.1)

-- each entry of a value of a root adds one variable
pub value_adds_one : (sig : Signature) (root : Root) (v : ContextValue) → Fits sig → IsRoot sig root → IsValue sig root v → AddOne sig v.entries
value_adds_one sig Closed v fits is h = subst (AddOne sig) (sym h.1) tt
value_adds_one sig (Empty c) v fits is h = subst (AddOne sig) (sym h.1) tt
value_adds_one sig (Whole c) v fits is h = entries_add_one sig fits c.0 is [] v.entries h.1
