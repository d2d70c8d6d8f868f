-- The words of known variables, and the variables that they are.
use Rattle.std.proofs.Common.{◌≡◌, ℕ, suc, ◌+◌, ◌<◌, List, [], ◌∷◌, ◌++◌, length, map, reverse, take, drop, get_or, inl, inr, refl, ap, ◌∙◌, sym, arith, slice_index}
use Rattle.std.proofs.lemmas.List.{drop_more, take_more, map-append, reverse-append, append_assoc}
use Rattle.binding_terms.specs.Signature.{Signature, binders}
use Rattle.binding_terms.specs.declared.grammar.CatId.{CatId}
use Rattle.binding_terms.specs.declared.grammar.Item.{Item}
use Rattle.binding_terms.specs.declared.grammar.Item.TheVariants.{Word, Slot, Binder}
use Rattle.binding_terms.specs.declared.text.Text.{Text}
use Rattle.scheme_terms.specs.Context.{variables}
use Rattle.scheme_terms.specs.Forms.{KnownVariable}
use Rattle.scheme_terms.specs.View.{known_variable}
use Rattle.scheme_terms.specs.declared.scheme.KnownDecl.{KnownDecl}
use Rattle.rule_schemes.specs.Reading.{Variable, entry_of, known_words}
use Rattle.term_reader.specs.Chart.{IsAmong, MayBeVariable, AreAllowed}
use Rattle.term_reader.specs.View.{meaning, variable, in_scope, scope_words}
use Rattle.term_reader.specs.declared.variables.Var.{Var}
use Rattle.term_reader.proofs.ChartLemmas.{scope_allowed}
use Rattle.notation_parser.specs.Knowns.{known_texts}
use Rattle.binding_terms.proofs.Lists.{all_also}

among_left : (xs ys : List (Text × CatId)) (c : ℕ) (w : List ℕ) → IsAmong xs c w → IsAmong (xs ++ ys) c w
among_left [] ys c w h = absurd h
among_left (x ∷ xs) ys c w (inl h) = inl h
among_left (x ∷ xs) ys c w (inr h) = inr (among_left xs ys c w h)

among_right : (xs ys : List (Text × CatId)) (c : ℕ) (w : List ℕ) → IsAmong ys c w → IsAmong (xs ++ ys) c w
among_right [] ys c w h = h
among_right (x ∷ xs) ys c w h = inr (among_right xs ys c w h)

-- the words of a scope are allowed among more
pub scope_words_allowed : (sig : Signature) (words more : List (Text × CatId)) → AreAllowed sig (words ++ more) (scope_words words)
scope_words_allowed sig words more =
    all_also (λ (v : Variable). MayBeVariable sig words v.cat v.word) (λ (v : Variable). MayBeVariable sig (words ++ more) v.cat v.word) (scope_words words)
    (λ v h. wider v h) (scope_allowed sig words)
  where
    wider : (v : Variable) → MayBeVariable sig words v.cat v.word → MayBeVariable sig (words ++ more) v.cat v.word
    wider v (inl h) = inl (among_left words more v.cat v.word h)
    wider v (inr h) = inr h

-- and so are those of known variables
pub known_words_allowed : (sig : Signature) (words : List (Text × CatId)) (ks : List KnownVariable) → AreAllowed sig (words ++ known_texts sig ks) (known_words sig 0 ks)
known_words_allowed sig words ks = each ks 0 (λ c w h. among_right words (known_texts sig ks) c w h)
  where
    each : (some : List KnownVariable) (n : ℕ) → ((c : ℕ) (w : List ℕ) → IsAmong (known_texts sig some) c w → IsAmong (words ++ known_texts sig ks) c w)
        → AreAllowed sig (words ++ known_texts sig ks) (known_words sig n some)
    each [] n among = tt
    each (k ∷ some) n among = (inl (among (slice_index (variables sig k.entry.prod) 0) k.name (inl (refl, refl))), each some (suc n) (λ c w h. among c w (inr h)))

-- the last of the binders so far
index_front : (ys xs : List ℕ) (c : ℕ) → c ≡ slice_index xs 0 → slice_index (ys ++ c ∷ []) 0 ≡ slice_index (ys ++ xs) 0
index_front [] xs c e = e
index_front (y ∷ ys) xs c e = refl

binders_both : (xs ys : List Item) → binders (xs ++ ys) ≡ binders xs ++ binders ys
binders_both [] ys = refl
binders_both (Word text quoted ∷ xs) ys = binders_both xs ys
binders_both (Slot c binds ∷ xs) ys = binders_both xs ys
binders_both (Binder c ∷ xs) ys = ap (λ bs. c.0 ∷ bs) (binders_both xs ys)

pub last_more : (items : List Item) (i : ℕ) (item : Item) (c n : ℕ) → i < length items → item ≡ get_or items i item → c ≡ slice_index (reverse (binders (take i items))) 0
    → n ≡ slice_index (reverse (binders (item ∷ [])) ++ c ∷ []) 0 → n ≡ slice_index (reverse (binders (take (i + 1) items))) 0
last_more items i item c n lt is e f =
    let more : take (i + 1) items ≡ take i items ++ item ∷ [] = take_more items i item lt ∙ ap (λ x. take i items ++ x ∷ []) (sym is) in
    let turned : reverse (binders (take (i + 1) items)) ≡ reverse (binders (item ∷ [])) ++ reverse (binders (take i items)) =
    ap (λ xs. reverse (binders xs)) more ∙ ap reverse (binders_both (take i items) (item ∷ [])) ∙ reverse-append (binders (take i items)) (binders (item ∷ [])) in
    f ∙ index_front (reverse (binders (item ∷ []))) (reverse (binders (take i items))) c e ∙ ap (λ xs. slice_index xs 0) (sym turned)

pub scope_both : (xs ys : List Var) → in_scope (xs ++ ys) ≡ in_scope ys ++ in_scope xs
scope_both xs ys = ap reverse (map-append variable xs ys) ∙ reverse-append (map variable xs) (map variable ys)

-- one known variable more, from the last on
pub known_more : (sig : Signature) (knowns : List KnownDecl) (i : ℕ) (d : KnownDecl) (all : List Var) (v : Var) → i < length knowns → d ≡ get_or knowns i d
    → in_scope all ≡ known_words sig (i + 1) (map known_variable (drop (i + 1) knowns)) → v.word.now ≡ d.name → v.cat.0 ≡ slice_index (variables sig d.entry.prod.0) 0
    → meaning v.means ≡ entry_of i → in_scope (all ++ v ∷ []) ≡ known_words sig i (map known_variable (drop i knowns))
known_more sig knowns i d all v lt is e word cat means =
    let turned : in_scope (all ++ v ∷ []) ≡ variable v ∷ in_scope all = ap reverse (map-append variable all (v ∷ [])) ∙ reverse-append (map variable all) (variable v ∷ []) in
    let here : variable v ≡ record { word = d.name; cat = slice_index (variables sig d.entry.prod.0) 0; means = entry_of i } = (λ j. record { word = word j; cat = cat j; means = means j }) in
    let more : drop i knowns ≡ d ∷ drop (i + 1) knowns = drop_more knowns i d lt ∙ ap (λ x. x ∷ drop (i + 1) knowns) (sym is) in
    let next : i + 1 ≡ suc i = omega arith in
    turned ∙ ap (λ u. u ∷ in_scope all) here
    ∙ ap (λ us. record { word = d.name; cat = slice_index (variables sig d.entry.prod.0) 0; means = entry_of i } ∷ us) (e ∙ ap (λ m. known_words sig m (map known_variable (drop (i + 1) knowns))) next)
    ∙ ap (λ ks. known_words sig i (map known_variable ks)) (sym more)

texts_both : (sig : Signature) (xs ys : List KnownVariable) → known_texts sig (xs ++ ys) ≡ known_texts sig xs ++ known_texts sig ys
texts_both sig [] ys = refl
texts_both sig (x ∷ xs) ys = ap (λ ts. (x.name, record { 0 = slice_index (variables sig x.entry.prod) 0 }) ∷ ts) (texts_both sig xs ys)

-- the word of one known variable more
pub text_more : (sig : Signature) (words : List (Text × CatId)) (knowns : List KnownDecl) (i : ℕ) (d : KnownDecl) (all : List (Text × CatId)) (text : List ℕ) (cat : CatId)
    → i < length knowns → d ≡ get_or knowns i d → all ≡ words ++ known_texts sig (map known_variable (take i knowns)) → text ≡ d.name → cat.0 ≡ slice_index (variables sig d.entry.prod.0) 0
    → all ++ (text, cat) ∷ [] ≡ words ++ known_texts sig (map known_variable (take (i + 1) knowns))
text_more sig words knowns i d all text cat lt is e name c =
    let more : take (i + 1) knowns ≡ take i knowns ++ d ∷ [] = take_more knowns i d lt ∙ ap (λ x. take i knowns ++ x ∷ []) (sym is) in
    let front = known_texts sig (map known_variable (take i knowns)) in
    let here : (text, cat) ≡ (d.name, record { 0 = slice_index (variables sig d.entry.prod.0) 0 }) = (λ j. (name j, record { 0 = c j })) in
    let texts : known_texts sig (map known_variable (take (i + 1) knowns)) ≡ front ++ (d.name, record { 0 = slice_index (variables sig d.entry.prod.0) 0 }) ∷ [] =
    ap (λ ks. known_texts sig (map known_variable ks)) more ∙ ap (known_texts sig) (map-append known_variable (take i knowns) (d ∷ []))
    ∙ texts_both sig (map known_variable (take i knowns)) (known_variable d ∷ []) in
    ap (λ xs. xs ++ (text, cat) ∷ []) e ∙ append_assoc words front ((text, cat) ∷ []) ∙ ap (λ x. words ++ (front ++ x ∷ [])) here ∙ ap (λ xs. words ++ xs) (sym texts)
