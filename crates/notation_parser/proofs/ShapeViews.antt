-- Shapes as they are kept, and the variables in scope after them.
use Rattle.std.proofs.Common.{◌≡◌, ℕ, ◌+◌, ◌<◌, List, [], ◌∷◌, ◌++◌, length, map, take, drop, reverse, refl, ap, ◌∙◌, sym, subst, get_or, arith, slice_index}
use Rattle.std.proofs.lemmas.List.{map-append, map_more, append_assoc, reverse-append, append-nil, take_more}
use Rattle.binding_terms.specs.Signature.{Signature, binders}
use Rattle.binding_terms.specs.declared.grammar.CatId.{CatId}
use Rattle.binding_terms.specs.declared.grammar.Item.{Item}
use Rattle.binding_terms.specs.declared.grammar.Item.TheVariants.{Word, Slot, Binder}
use Rattle.rule_schemes.specs.Reading.{ReadingScope}
use Rattle.term_reader.specs.Splitting.{split}
use Rattle.term_reader.specs.View.{variable, in_scope}
use Rattle.term_reader.specs.declared.sheet.Sheet.{Sheet}
use Rattle.term_reader.specs.declared.splitting.Split.{Split}
use Rattle.term_reader.specs.declared.variables.Var.{Var}
use Rattle.notation_parser.specs.Shapes.{ContextShape, EntryShape, entered, shape_variables, IsUsable, entry_shape, grown, context_shape}
use Rattle.notation_parser.specs.ContextCases.{entry_of_split, with_entries, crossed, last_binder}
use Rattle.notation_parser.specs.declared.shaping.Entered.{Entered}
use Rattle.notation_parser.specs.declared.shaping.Shape.{Shape}
use Rattle.notation_parser.proofs.ShapeLists.{crossed_more}
use Rattle.binding_terms.proofs.Lists.{mapped_around}

grown_last : (s : ContextShape) (es : List EntryShape) (e : EntryShape) → grown s (es ++ e ∷ []) ≡ entered (grown s es) e
grown_last s [] e = refl
grown_last s (x ∷ es) e = grown_last (entered s x) es e

grown_append : (s : ContextShape) (xs ys : List EntryShape) → grown s (xs ++ ys) ≡ grown (grown s xs) ys
grown_append s [] ys = refl
grown_append s (x ∷ xs) ys = grown_append (entered s x) xs ys

-- one entry more at the end
pub entry_last : (s : ContextShape) (es all : List Entered) (e f : Entered) → map entry_shape all ≡ map entry_shape es → entry_shape e ≡ entry_shape f
    → grown s (map entry_shape (all ++ e ∷ [])) ≡ entered (grown s (map entry_shape es)) (entry_shape f)
entry_last s es all e f h k =
    ap (grown s) (map-append entry_shape all (e ∷ []) ∙ ap (λ ys. ys ++ entry_shape e ∷ []) h ∙ ap (λ y. map entry_shape es ++ y ∷ []) k)
    ∙ grown_last s (map entry_shape es) (entry_shape f)

-- the entries up to one more
pub grown_more : (s : ContextShape) (es : List Entered) (j : ℕ) (here : Entered) → j < length es → here ≡ get_or es j here
    → grown s (map entry_shape (take (j + 1) es)) ≡ entered (grown s (map entry_shape (take j es))) (entry_shape here)
grown_more s es j here lt is =
    ap (grown s) (map_more entry_shape es j here lt ∙ ap (λ x. map entry_shape (take j es) ++ entry_shape x ∷ []) (sym is))
    ∙ grown_last s (map entry_shape (take j es)) (entry_shape here)

pub in_scope_more : (vs : List Var) (v : Var) → in_scope (vs ++ v ∷ []) ≡ variable v ∷ in_scope vs
in_scope_more vs v = ap reverse (map-append variable vs (v ∷ [])) ∙ reverse-append (map variable vs) (variable v ∷ [])

pub in_scope_append : (us vs : List Var) → in_scope (us ++ vs) ≡ in_scope vs ++ in_scope us
in_scope_append us vs = ap reverse (map-append variable us vs) ∙ reverse-append (map variable us) (map variable vs)

-- the variables after one entry more
pub variables_more : (sig : Signature) (scope : ReadingScope) (c : ℕ) (s : ContextShape) (es : List Entered) (j : ℕ) (here : Entered) (vs : List Var)
    → j < length es → here ≡ get_or es j here → in_scope vs ≡ shape_variables sig scope c (grown s (map entry_shape (take j es)))
    → in_scope (vs ++ here.variable ∷ []) ≡ shape_variables sig scope c (grown s (map entry_shape (take (j + 1) es)))
variables_more sig scope c s es j here vs lt is h =
    in_scope_more vs here.variable ∙ ap (λ us. variable here.variable ∷ us) h ∙ ap (shape_variables sig scope c) (sym (grown_more s es j here lt is))

-- what is usable up to an entry, and what that entry has
pub usable_start : (sheet : Sheet) (s : ContextShape) (es : List EntryShape) → IsUsable sheet (grown s es) → IsUsable sheet s
usable_start sheet s [] u = u
usable_start sheet s (e ∷ es) u = (usable_start sheet (entered s e) es u).0

pub usable_at : (sheet : Sheet) (s : ContextShape) (es : List Entered) (j : ℕ) (here : Entered) → j < length es → here ≡ get_or es j here
    → IsUsable sheet (grown s (map entry_shape es)) → IsUsable sheet (entered (grown s (map entry_shape (take j es))) (entry_shape here))
usable_at sheet s es j here lt is u =
    usable_start sheet (entered (grown s (map entry_shape (take j es))) (entry_shape here)) (map entry_shape (drop (j + 1) es))
    (subst (IsUsable sheet) (whole ∙ grown_append s (map entry_shape (take j es)) (entry_shape here ∷ map entry_shape (drop (j + 1) es))) u)
  where
    whole : grown s (map entry_shape es) ≡ grown s (map entry_shape (take j es) ++ (entry_shape here ∷ map entry_shape (drop (j + 1) es)))
    whole = ap (grown s) (mapped_around entry_shape es j here lt ∙ ap (λ x. map entry_shape (take j es) ++ (entry_shape x ∷ map entry_shape (drop (j + 1) es))) (sym is))

with_last : (e : EntryShape) (all : List ContextShape) (s : ContextShape) → with_entries e (all ++ s ∷ []) ≡ with_entries e all ++ entered s e ∷ []
with_last e [] s = refl
with_last e (t ∷ all) s = ap (λ ys. entered t e ∷ ys) (with_last e all s)

-- one shape more with the entry after it
pub with_more : (e : EntryShape) (inner : List Shape) (j : ℕ) (here : Shape) (old : List ContextShape) (all : List Shape) (x : Shape) → j < length inner → here ≡ get_or inner j here
    → map context_shape all ≡ old ++ with_entries e (map context_shape (take j inner)) → context_shape x ≡ entered (context_shape here) e
    → map context_shape (all ++ x ∷ []) ≡ old ++ with_entries e (map context_shape (take (j + 1) inner))
with_more e inner j here old all x lt is h k =
    map-append context_shape all (x ∷ []) ∙ ap (λ ys. ys ++ context_shape x ∷ []) h
    ∙ append_assoc old (with_entries e front) (context_shape x ∷ []) ∙ ap (λ ys. old ++ ys) more
  where
    front : List ContextShape
    front = map context_shape (take j inner)

    more : with_entries e front ++ context_shape x ∷ [] ≡ with_entries e (map context_shape (take (j + 1) inner))
    more =
        ap (λ y. with_entries e front ++ y ∷ []) k ∙ sym (with_last e front (context_shape here))
        ∙ ap (with_entries e) (sym (map_more context_shape inner j here lt ∙ ap (λ y. front ++ context_shape y ∷ []) (sym is)))

-- one split more
pub cross_more : (p before : ℕ) (inner : List ContextShape) (behind : List Split) (j : ℕ) (here : Split) → j < length behind → here ≡ get_or behind j here
    → crossed p before inner (map split (take j behind)) ++ with_entries (entry_of_split p before (split here)) inner ≡ crossed p before inner (map split (take (j + 1) behind))
cross_more p before inner behind j here lt is =
    sym (crossed_more p before inner (map split (take j behind)) (split here))
    ∙ ap (crossed p before inner) (sym (map_more split behind j here lt ∙ ap (λ d. map split (take j behind) ++ split d ∷ []) (sym is)))

-- the binders up to one item more
binders_last : (items : List Item) (x : Item) → binders (items ++ x ∷ []) ≡ binders items ++ binders (x ∷ [])
binders_last [] x = refl
binders_last (Word text quoted ∷ items) x = binders_last items x
binders_last (Slot c binds ∷ items) x = binders_last items x
binders_last (Binder c ∷ items) x = ap (λ cs. c.0 ∷ cs) (binders_last items x)

pub binders_more : (items : List Item) (j : ℕ) (here : Item) → j < length items → here ≡ get_or items j here
    → binders (take (j + 1) items) ≡ binders (take j items) ++ binders (here ∷ [])
binders_more items j here lt is =
    ap binders (take_more items j here lt ∙ ap (λ x. take j items ++ x ∷ []) (sym is)) ∙ binders_last (take j items) here

pub binder_last : (items : List Item) (j : ℕ) (here : Item) (c : CatId) → j < length items → here ≡ get_or items j here → here ≡ Binder c
    → c.0 ≡ last_binder (take (j + 1) items)
binder_last items j here c lt is kind =
    sym (ap (λ cs. slice_index (reverse cs) 0) (binders_more items j here lt is ∙ ap (λ x. binders (take j items) ++ binders (x ∷ [])) kind)
    ∙ ap (λ cs. slice_index cs 0) (reverse-append (binders (take j items)) (c.0 ∷ [])))

pub binder_kept : (items : List Item) (j : ℕ) (here : Item) → j < length items → here ≡ get_or items j here → ((c : CatId) → here ≡ Binder c → ⊥)
    → last_binder (take j items) ≡ last_binder (take (j + 1) items)
binder_kept items j here lt is other =
    ap (λ cs. slice_index (reverse cs) 0)
    (sym (binders_more items j here lt is ∙ ap (λ cs. binders (take j items) ++ cs) (none here other) ∙ append-nil (binders (take j items))))
  where
    none : (x : Item) → ((c : CatId) → x ≡ Binder c → ⊥) → binders (x ∷ []) ≡ []
    none (Word text quoted) h = refl
    none (Slot c binds) h = refl
    none (Binder c) h = absurd (h c refl)
