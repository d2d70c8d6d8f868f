-- What the shapes of contexts give: readings in earlier shapes stand first, and contexts are not empty and have variables that the
-- chart allows.
use Rattle.std.proofs.Common.{◌≡◌, ◌≢◌, ◌⊎◌, ◌==◌, Bool, true, false, ℕ, List, [], ◌∷◌, ◌++◌, inl, inr, refl, ◌∙◌, sym, subst, arith, Option, Some, None, slice_get, if◌then◌else◌}
use Rattle.std.specs.Prelude.{MatchOption}
use Rattle.std.specs.List.{Contains}
use Rattle.std.proofs.lemmas.List.Elements.{Contains-append_right}
use Rattle.binding_terms.specs.Signature.{Signature, Fits, ProdFits, binders}
use Rattle.binding_terms.specs.declared.grammar.CatId.{CatId}
use Rattle.binding_terms.specs.declared.grammar.Item.{Item}
use Rattle.binding_terms.specs.declared.grammar.Item.TheVariants.{Slot}
use Rattle.binding_terms.specs.declared.grammar.Prod.{Prod}
use Rattle.scheme_terms.specs.SchemeTree.{Parts}
use Rattle.scheme_terms.specs.Forms.{SchemeContext, KnownVariable}
use Rattle.scheme_terms.specs.declared.scheme.MetaDecl.{MetaDecl}
use Rattle.scheme_terms.specs.declared.scheme.Root.{Root}
use Rattle.scheme_terms.specs.declared.scheme.Root.TheVariants.{Closed, Empty, Whole}
use Rattle.rule_schemes.specs.Reading.{Token, Variable, ReadingScope, known_words, with_root, variables_of, ReadsItems, all_read, terminal, binder, slot, ReadsContext, root, empty_form, entry, known_entry, head_entry, IsEntryForm}
use Rattle.term_reader.specs.Chart.{MayBeVariable}
use Rattle.term_reader.specs.Splitting.{AreKnown}
use Rattle.term_reader.specs.declared.sheet.Sheet.{Sheet}
use Rattle.term_reader.proofs.Pieces.{known_own}
use Rattle.notation_parser.specs.Shapes.{ContextShape, AreShapesInOrder, IsShapeBefore, IsScopeKnown}
use Rattle.binding_terms.proofs.Lists.{all_append, all_at, all_contained, cons_cases}

pub shapes_apart : (sig : Signature) (scope : ReadingScope) (metas : List MetaDecl) (ts : List Token) (c : CatId) (xs ys : List ContextShape) (s t : ContextShape)
    → AreShapesInOrder sig scope metas ts c (xs ++ ys) → Contains xs s → Contains ys t → IsShapeBefore sig scope metas ts c s t
shapes_apart sig scope metas ts c [] ys s t order a b = absurd (omega (arith, a.1))
shapes_apart sig scope metas ts c (z ∷ xs) ys s t order a b = go (λ d. shapes_apart sig scope metas ts c xs ys s t order.1 d b) (cons_cases z xs s a)
  where
    go : (Contains xs s → IsShapeBefore sig scope metas ts c s t) → (z ≡ s) ⊎ Contains xs s → IsShapeBefore sig scope metas ts c s t
    go later (inl e) =
        subst (λ u. IsShapeBefore sig scope metas ts c u t) e (all_contained (IsShapeBefore sig scope metas ts c z) (xs ++ ys) t order.0 (Contains-append_right xs ys t b))
    go later (inr d) = later d

-- a word of a binder is a token
word_some : {sig : Signature} {metas : List MetaDecl} {vars own : List Variable} {words : List (List ℕ)} {items : List Item} {tokens : List Token} {xs : Parts}
    → ReadsItems sig metas vars own words items tokens xs → words ≢ [] → tokens ≢ []
word_some all_read w e = w refl
word_some (terminal {t = t} {tokens = tokens} this r) w e = let never : t ∷ tokens ≡ [] = e in cc
word_some (binder h r) w e = cc
word_some (slot {first = first} {rest = rest} split some t r) w e = some (front first rest (sym split ∙ e))
  where
    front : (first rest : List Token) → first ++ rest ≡ [] → first ≡ []
    front [] rest e = refl
    front (x ∷ first) rest e = cc

-- terminals are tokens
items_some : {sig : Signature} {metas : List MetaDecl} {vars own : List Variable} {words : List (List ℕ)} {items : List Item} {tokens : List Token} {xs : Parts}
    → ReadsItems sig metas vars own words items tokens xs → items ≢ [] → tokens ≢ []
items_some all_read i e = i refl
items_some (terminal {t = t} {tokens = tokens} this r) i e = let never : t ∷ tokens ≡ [] = e in cc
items_some (binder h r) i e = cc
items_some (slot {first = first} {rest = rest} split some t r) i e = some (front first rest (sym split ∙ e))
  where
    front : (first rest : List Token) → first ++ rest ≡ [] → first ≡ []
    front [] rest e = refl
    front (x ∷ first) rest e = cc

behind_some : (first rest tokens : List Token) → tokens ≡ first ++ rest → rest ≢ [] → tokens ≢ []
behind_some [] rest tokens e some n = some (sym e ∙ n)
behind_some (x ∷ first) rest tokens e some n = let never : x ∷ (first ++ rest) ≡ [] = sym e ∙ n in cc

-- a context has tokens
pub context_some : {sig : Signature} {scope : ReadingScope} {metas : List MetaDecl} {c : ℕ} {tokens : List Token} {ctx : SchemeContext} {vars : List Variable} {ks : List KnownVariable}
    → Fits sig → ReadsContext sig scope metas c tokens ctx vars ks → tokens ≢ []
context_some fits (root e i) n = cc
context_some {sig} fits (empty_form p {prod = prod} here c i h r) n = items_some r (all_at (ProdFits sig) sig.prods p prod fits.prods here).some_item n
context_some fits (entry p {tokens = tokens} {first = first} {rest = rest} f split ctx r) n = behind_some first rest tokens split (word_some r (λ e. cc)) n
context_some fits (known_entry p b k {tokens = tokens} {rest = rest} f e h c d r g w same) n = let never = sym e ∙ n in cc
context_some fits (head_entry {tokens = tokens} {rest = rest} f e h c d r k) n = let never = sym e ∙ n in cc

module _ (sheet : Sheet) (scope : ReadingScope) (known : IsScopeKnown sheet scope) where
  root_known : (root : Root) (c : ℕ) → AreKnown sheet (with_root root c scope.vars (known_words sheet.sig.now 0 scope.names.knowns))
  root_known Closed c = known.1
  root_known (Empty r) c = known.1
  root_known (Whole r) c = which (r.0 == c)
    where
      which : (b : Bool) → AreKnown sheet (if b then scope.vars ++ known_words sheet.sig.now 0 scope.names.knowns else known_words sheet.sig.now 0 scope.names.knowns)
      which true = all_append (λ (v : Variable). MayBeVariable sheet.sig.now sheet.words.now v.cat v.word) scope.vars (known_words sheet.sig.now 0 scope.names.knowns) known.0 known.1
      which false = known.1

  -- the one variable that an entry writes
  entry_known : {vars own : List Variable} {w : List ℕ} {items : List Item} {tokens : List Token} {xs : Parts} (b : ℕ) → binders items ≡ b ∷ []
      → ReadsItems sheet.sig.now sheet.metas.now vars own (w ∷ []) items tokens xs → MayBeVariable sheet.sig.now sheet.words.now b w
  entry_known {w = w} b e r = let k = known_own sheet r in let h : AreKnown sheet (variables_of (w ∷ []) (b ∷ [])) = subst (λ bs. AreKnown sheet (variables_of (w ∷ []) bs)) e k in h.0

  entry_binder : (sig : Signature) (c p b : ℕ) (items : List Item) → IsEntryForm sig c p b items → binders items ≡ b ∷ []
  entry_binder sig c p b items h = go (slice_get sig.prods p) h
    where
      go : (o : Option Prod) → MatchOption o ⊥
          (λ prod. (prod.cat.0 ≡ c) × ((id : CatId) × (binds : List ℕ) × (prod.items ≡ Slot id binds ∷ items) × (id.0 ≡ c)) × (binders items ≡ b ∷ []))
          → binders items ≡ b ∷ []
      go None k = absurd k
      go (Some prod) k = k.2

  -- the chart allows the variables after a context
  pub context_known : {c : ℕ} {tokens : List Token} {ctx : SchemeContext} {vars : List Variable} {ks : List KnownVariable}
      → ReadsContext sheet.sig.now scope sheet.metas.now c tokens ctx vars ks → AreKnown sheet vars
  context_known {c} (root e i) = root_known scope.names.root c
  context_known (empty_form p here k i h r) = known.1
  context_known {c} (entry p {b = b} {items = items} f split ctx r) = (entry_known b (entry_binder sheet.sig.now c p b items f) r, context_known ctx)
  context_known (known_entry p b n f e h i d r g w same) = known.1
  context_known {c} (head_entry {p = p} {b = b} {items = items} f e h i d r k) = (entry_known b (entry_binder sheet.sig.now c p b items d) r, known.1)
