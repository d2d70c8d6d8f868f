-- The words of known variables, and the variables that they are.
use Rattle.std.proofs.Common.{◌≡◌, ℕ, suc, ◌+◌, ◌<◌, List, [], ◌∷◌, ◌++◌, length, map, reverse, take, drop, get_or, refl, ap, ◌∙◌, sym, arith, slice_index}
use Rattle.std.proofs.lemmas.List.{drop_more, take_more, map-append, reverse-append}
use Rattle.binding_terms.specs.Signature.{Signature, binders}
use Rattle.binding_terms.specs.declared.grammar.Item.{Item}
use Rattle.binding_terms.specs.declared.grammar.Item.TheVariants.{Word, Slot, Binder}
use Rattle.scheme_terms.specs.Context.{variables}
use Rattle.scheme_terms.specs.View.{known_variable}
use Rattle.scheme_terms.specs.declared.scheme.KnownDecl.{KnownDecl}
use Rattle.rule_schemes.specs.Reading.{entry_of, known_words}
use Rattle.form_cells.specs.View.{meaning, variable, in_scope}
use Rattle.form_cells.specs.declared.variables.Var.{Var}

-- the last of the binders so far
index_front : (ys xs : List ℕ) (c : ℕ) → c ≡ slice_index xs 0 → slice_index (ys ++ c ∷ []) 0 ≡ slice_index (ys ++ xs) 0
index_front [] xs c e = e
index_front (y ∷ ys) xs c e = refl

binders_both : (xs ys : List Item) → binders (xs ++ ys) ≡ binders xs ++ binders ys
binders_both [] ys = refl
binders_both (Word text quoted ∷ xs) ys = binders_both xs ys
binders_both (Slot c binds ∷ xs) ys = binders_both xs ys
binders_both (Binder c ∷ xs) ys = ap (λ bs. c.0 ∷ bs) (binders_both xs ys)

pub last_more : (items : List Item) (i : ℕ) (item : Item) (c n : ℕ) → i < length items → item ≡ get_or items i item → c ≡ slice_index (reverse (binders (take i items))) 0
    → n ≡ slice_index (reverse (binders (item ∷ [])) ++ c ∷ []) 0 → n ≡ slice_index (reverse (binders (take (i + 1) items))) 0
last_more items i item c n lt is e f =
    let more : take (i + 1) items ≡ take i items ++ item ∷ [] = take_more items i item lt ∙ ap (λ x. take i items ++ x ∷ []) (sym is) in
    let turned : reverse (binders (take (i + 1) items)) ≡ reverse (binders (item ∷ [])) ++ reverse (binders (take i items)) =
    ap (λ xs. reverse (binders xs)) more ∙ ap reverse (binders_both (take i items) (item ∷ [])) ∙ reverse-append (binders (take i items)) (binders (item ∷ [])) in
    f ∙ index_front (reverse (binders (item ∷ []))) (reverse (binders (take i items))) c e ∙ ap (λ xs. slice_index xs 0) (sym turned)

pub scope_both : (xs ys : List Var) → in_scope (xs ++ ys) ≡ in_scope ys ++ in_scope xs
scope_both xs ys = ap reverse (map-append variable xs ys) ∙ reverse-append (map variable xs) (map variable ys)

-- one known variable more, from the last on
pub known_more : (sig : Signature) (knowns : List KnownDecl) (i : ℕ) (d : KnownDecl) (all : List Var) (v : Var) → i < length knowns → d ≡ get_or knowns i d
    → in_scope all ≡ known_words sig (i + 1) (map known_variable (drop (i + 1) knowns)) → v.word.now ≡ d.name → v.cat.0 ≡ slice_index (variables sig d.entry.prod.0) 0
    → meaning v.means ≡ entry_of i → in_scope (all ++ v ∷ []) ≡ known_words sig i (map known_variable (drop i knowns))
known_more sig knowns i d all v lt is e word cat means =
    let turned : in_scope (all ++ v ∷ []) ≡ variable v ∷ in_scope all = ap reverse (map-append variable all (v ∷ [])) ∙ reverse-append (map variable all) (variable v ∷ []) in
    let here : variable v ≡ record { word = d.name; cat = slice_index (variables sig d.entry.prod.0) 0; means = entry_of i } = (λ j. record { word = word j; cat = cat j; means = means j }) in
    let more : drop i knowns ≡ d ∷ drop (i + 1) knowns = drop_more knowns i d lt ∙ ap (λ x. x ∷ drop (i + 1) knowns) (sym is) in
    let next : i + 1 ≡ suc i = omega arith in
    turned ∙ ap (λ u. u ∷ in_scope all) here
    ∙ ap (λ us. record { word = d.name; cat = slice_index (variables sig d.entry.prod.0) 0; means = entry_of i } ∷ us) (e ∙ ap (λ m. known_words sig m (map known_variable (drop (i + 1) knowns))) next)
    ∙ ap (λ ks. known_words sig i (map known_variable ks)) (sym more)
