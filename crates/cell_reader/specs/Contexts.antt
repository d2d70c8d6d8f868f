-- How tokens read as a context that leaves given variables in scope: by the name of its category, by an empty form, or with an entry
-- behind a shorter context, each at its place in the reading order. Held against `ReadsContext` of rule_schemes/specs/Reading.antt.
use Rattle.std.specs.Prelude.{◌≡◌, ◌⊎◌, ◌<◌, ◌+◌, ℕ, IsTrue, List, [], ◌∷◌, ◌++◌, map, length, Some, slice_get}
use Rattle.binding_terms.specs.Signature.{Signature, binders, is_empty_form}
use Rattle.binding_terms.specs.declared.grammar.CatId.{CatId}
use Rattle.binding_terms.specs.declared.grammar.Item.{Item}
use Rattle.binding_terms.specs.declared.grammar.Item.TheVariants.{Slot}
use Rattle.binding_terms.specs.declared.grammar.Prod.{Prod}
use Rattle.scheme_terms.specs.SchemeTree.{SchemeTree, meta, known, local, con, no_parts, part}
use Rattle.scheme_terms.specs.Forms.{SchemeContext, KnownVariable}
use Rattle.scheme_terms.specs.declared.scheme.MetaDecl.{MetaDecl}
use Rattle.rule_schemes.specs.Reading.{Token, word, Variable, bound, ReadingScope, known_words, with_root, IsNameOf, ReadsItems, ReadsContext, root, empty_form, entry, known_entry, head_entry}
use Rattle.rule_schemes.specs.Said.{Way, way, no_ways, way_of_context}
use Rattle.ordered_readings.specs.NodeView.{values_of}
use Rattle.ordered_readings.specs.AnswerView.{slot_place, with_first}
use Rattle.ordered_readings.specs.Cells.{ReadsItemsAt}

-- what a reading of a context is kept as: its category's name, an empty form, an entry behind the shorter context, or the entry of a
-- known variable
abbrev pub tree_of : {sig : Signature} {scope : ReadingScope} {metas : List MetaDecl} {c : ℕ} {ts : List Token} {ctx : SchemeContext} {vs : List Variable} {ks : List KnownVariable} →
    ReadsContext sig scope metas c ts ctx vs ks → SchemeTree
tree_of (root e c) = known 0
tree_of (empty_form p e c d h r) = local 0
tree_of (entry p {xs = xs} e split x r) = con p (part 0 (tree_of x) xs)
tree_of (known_entry p b n {xs = xs} f e h c d r k w same) = meta p (values_of xs)
tree_of (head_entry {p = p} {xs = xs} f e h c d r k) = meta p (values_of xs)

-- the items of an entry over a context of the category, with the context's own slot first, and one binder of the other category
abbrev pub IsEntryOver : (context binder : ℕ) → List Item → Type 0
IsEntryOver c b all = (id : CatId) × (binds : List ℕ) × (items : List Item) × (all ≡ Slot id binds ∷ items) × (id.0 ≡ c) × (binders items ≡ b ∷ [])

-- the category's exact name
abbrev pub IsCategoryName : Signature → (cat : ℕ) → List Token → Type 0
IsCategoryName sig c ts = (name : List ℕ) × (ts ≡ word name ∷ []) × IsNameOf sig c name

module _ (sig : Signature) (scope : ReadingScope) (metas : List MetaDecl) where
  -- a reading as a context that leaves these variables and writes known variables with these names
  abbrev pub ReadsContextAs : (cat : ℕ) → List Variable → (names : List (List ℕ)) → List Token → Way → SchemeTree → Type 0
  ReadsContextAs c vs ns ts w s =
      (ctx : SchemeContext) × (ks : List KnownVariable) × (r : ReadsContext sig scope metas c ts ctx vs ks)
      × (map (λ k. k.name) ks ≡ ns) × (w ≡ way_of_context r) × (s ≡ tree_of r)

  -- the name of the category, with the variables that come with it
  abbrev pub IsRoot : (cat : ℕ) → List Variable → (names : List (List ℕ)) → List Token → Way → SchemeTree → Type 0
  IsRoot c vs ns ts w s =
      (w ≡ way 0 [] no_ways) × (s ≡ known 0) × (vs ≡ with_root scope.names.root c scope.vars (known_words sig 0 scope.names.knowns)) × (ns ≡ [])
      × IsCategoryName sig c ts

  -- the empty form with these items
  abbrev pub IsEmptyOf : (number : ℕ) → List Item → List Variable → (names : List (List ℕ)) → List Token → Way → SchemeTree → Type 0
  IsEmptyOf p items vs ns ts w s =
      (w ≡ way (1 + p) [] no_ways) × (s ≡ local 0) × (vs ≡ known_words sig 0 scope.names.knowns) × (ns ≡ [])
      × ReadsItems sig metas [] [] [] items ts no_parts

  -- a shorter context, and behind it the items of an entry, whose variable is the innermost
  pub record IsEntryOf (number cat : ℕ) (all : List Item) (vs : List Variable) (names : List (List ℕ)) (ts : List Token) (w : Way) (s : SchemeTree) : Type 0 where
    pub binder : ℕ
    pub id : CatId
    pub binds : List ℕ
    pub items : List Item
    pub form : all ≡ Slot id binds ∷ items
    pub over : id.0 ≡ cat
    pub one : binders items ≡ binder ∷ []
    pub name : List ℕ
    pub before : List Variable
    pub last : vs ≡ record { word = name; cat = binder; means = bound } ∷ before
    pub first : List Token
    pub rest : List Token
    pub split : ts ≡ first ++ rest
    pub first_way : Way
    pub shorter : SchemeTree
    pub rest_way : Way
    pub parts : SchemeTree
    pub context : ReadsContextAs cat before names first first_way shorter
    pub entry : ReadsItemsAt sig metas before [] (name ∷ []) items (1 + number) number rest rest_way parts
    pub way_is : w ≡ slot_place (length first) first_way rest_way
    pub tree_is : s ≡ with_first 0 shorter parts

  -- by the production with that number, which is of the category
  abbrev pub IsContextBy : (number cat : ℕ) → List Variable → (names : List (List ℕ)) → List Token → Way → SchemeTree → Type 0
  IsContextBy p c vs ns ts w s =
      (prod : Prod) × (slice_get sig.prods p ≡ Some prod) × (prod.cat.0 ≡ c)
      × ((IsTrue (is_empty_form prod) × IsEmptyOf p prod.items vs ns ts w s) ⊎ IsEntryOf p c prod.items vs ns ts w s)

  -- by the name, or by one of the productions below that
  abbrev pub IsContextBelow : (below cat : ℕ) → List Variable → (names : List (List ℕ)) → List Token → Way → SchemeTree → Type 0
  IsContextBelow n c vs ns ts w s = IsRoot c vs ns ts w s ⊎ ((p : ℕ) × (p < n) × IsContextBy p c vs ns ts w s)
