-- How a context reads: by the name of its category, by an empty form, with one entry more, or with a known variable's entry, each at its
-- place in the reading order.
-- Held against `ReadsContext` of rule_schemes/specs/Reading.antt.
use Rattle.std.specs.Prelude.{◌≡◌, ◌≢◌, ◌⊎◌, ◌<◌, ◌≤◌, ◌+◌, ◌-◌, ℕ, IsTrue, List, [], ◌∷◌, ◌++◌, drop, length, Some, MatchOption, slice_get, slice_index, slice_range, reverse}
use Rattle.std.specs.List.{AllByRecursion}
use Rattle.binding_terms.specs.Signature.{Signature, binders, is_empty_form}
use Rattle.binding_terms.specs.declared.grammar.CatId.{CatId}
use Rattle.binding_terms.specs.declared.grammar.Item.{Item}
use Rattle.binding_terms.specs.declared.grammar.Item.TheVariants.{Slot}
use Rattle.binding_terms.specs.declared.grammar.Prod.{Prod}
use Rattle.scheme_terms.specs.SchemeTree.{Parts, no_parts}
use Rattle.scheme_terms.specs.Forms.{SchemeContext, KnownVariable}
use Rattle.scheme_terms.specs.declared.scheme.MetaDecl.{MetaDecl}
use Rattle.scheme_terms.specs.declared.scheme.Root.TheVariants.{Whole, Empty}
use Rattle.rule_schemes.specs.Reading.{Token, word, Variable, bound, entry_of, ReadingScope, fresh_head, known_words, with_root, IsNameOf, IsOtherSpelling, IsKnownNumber, bare, ReadsItems}
use Rattle.rule_schemes.specs.Said.{Way, way, Ways, no_ways, then_way}
use Rattle.term_reader.specs.Ordered.{ReadsItemsAt}
use Rattle.term_reader.specs.Splitting.{Divided, bound_variable, tokens_of}
use Rattle.term_reader.specs.declared.sheet.Sheet.{Sheet}
use Rattle.notation_parser.specs.Shapes.{ReadsContextAt, EntryShape, ContextShape, new_entry, scope_entry, entered, AreShapesOf, IsUsable}

-- the tokens are the exact name of the category
abbrev pub IsCategoryName : Signature → (cat : ℕ) → List Token → Type 0
IsCategoryName sig c ts = (name : List ℕ) × (ts ≡ word name ∷ []) × IsNameOf sig c name

-- the name of the category, with the variables that come with it
abbrev pub IsNamed : Signature → ReadingScope → CatId → List Token → Way → SchemeContext → List Variable → List KnownVariable → Type 0
IsNamed sig scope c ts w ctx vars ks =
    (w ≡ way 0 [] no_ways) × (ctx ≡ record { root = Whole c; entries = [] })
    × (vars ≡ with_root scope.names.root c.0 scope.vars (known_words sig 0 scope.names.knowns)) × (ks ≡ []) × IsCategoryName sig c.0 ts

-- the empty form with that number and these items
abbrev pub IsEmptyOf : Signature → ReadingScope → List MetaDecl → CatId → List Token → (number : ℕ) → List Item → Way → SchemeContext → List Variable → List KnownVariable → Type 0
IsEmptyOf sig scope metas c ts p items w ctx vars ks =
    (w ≡ way (1 + p) [] no_ways) × (ctx ≡ record { root = Empty c; entries = [] }) × (vars ≡ known_words sig 0 scope.names.knowns) × (ks ≡ [])
    × ReadsItems sig metas [] [] [] items ts no_parts

-- the items begin with a slot of the category
abbrev pub BeginsWith : (cat : ℕ) → List Item → Type 0
BeginsWith c [] = ⊥
BeginsWith c (Slot id binds ∷ items) = id.0 ≡ c
BeginsWith c (item ∷ items) = ⊥

-- the items of an entry over a context of the category, with the context's own slot first
abbrev pub IsEntryOver : (cat : ℕ) → List Item → Type 0
IsEntryOver c items = BeginsWith c items × (length (binders (drop 1 items)) ≡ 1)

-- a reading of the first tokens as a context, and of those from a place on as the items of an entry of that production
pub record IsEnteredAt (sig : Signature) (scope : ReadingScope) (metas : List MetaDecl) (c : CatId) (ts : List Token) (from to number : ℕ) (items : List Item) (place : ℕ)
    (w : Way) (ctx : SchemeContext) (vars : List Variable) (ks : List KnownVariable) : Type 0 where
  pub inner_way : Way
  pub lengths : List ℕ
  pub ways : Ways
  pub inner : SchemeContext
  pub inner_vars : List Variable
  pub name : List ℕ
  pub cat : ℕ
  pub parts : Parts
  pub way_is : w ≡ way (1 + number) ((place - from) ∷ lengths) (then_way inner_way ways)
  pub context_is : ctx ≡ record { root = inner.root; entries = inner.entries ++ record { prod = number; args = bare parts } ∷ [] }
  pub vars_are : vars ≡ bound_variable name cat ∷ inner_vars
  pub binder_is : binders items ≡ cat ∷ []
  pub context : ReadsContextAt sig scope metas c.0 (slice_range ts from place) inner_way inner inner_vars ks
  pub entry : ReadsItemsAt sig metas inner_vars [] (name ∷ []) items (slice_range ts place to) lengths ways parts

-- an entry that begins below that place
abbrev pub IsEnteredBelow : (below : ℕ) → Signature → ReadingScope → List MetaDecl → CatId → List Token → (from to number : ℕ) → List Item → Way → SchemeContext → List Variable → List KnownVariable → Type 0
IsEnteredBelow n sig scope metas c ts from to p items w ctx vars ks =
    (place : ℕ) × (from ≤ place) × (place < n) × IsEnteredAt sig scope metas c ts from to p items place w ctx vars ks

-- by the production with that number: an empty form of the category, or an entry
abbrev pub IsContextBy : Signature → ReadingScope → List MetaDecl → CatId → List Token → (from to number : ℕ) → Way → SchemeContext → List Variable → List KnownVariable → Type 0
IsContextBy sig scope metas c ts from to p w ctx vars ks =
    (prod : Prod) × (slice_get sig.prods p ≡ Some prod) × (prod.cat.0 ≡ c.0)
    × ((IsTrue (is_empty_form prod) × IsEmptyOf sig scope metas c (slice_range ts from to) p prod.items w ctx vars ks)
    ⊎ (IsEntryOver c.0 prod.items × IsEnteredBelow to sig scope metas c ts from to p (drop 1 prod.items) w ctx vars ks))

-- by the name of the category, or by one of the productions below that
abbrev pub IsContextBelow : (below : ℕ) → Signature → ReadingScope → List MetaDecl → CatId → List Token → (from to : ℕ) → Way → SchemeContext → List Variable → List KnownVariable → Type 0
IsContextBelow n sig scope metas c ts from to w ctx vars ks =
    IsNamed sig scope c (slice_range ts from to) w ctx vars ks
    ⊎ ((p : ℕ) × (p < n) × IsContextBy sig scope metas c ts from to p w ctx vars ks)

-- a reading of the tokens behind the first one as the items of a new known variable's entry of that production
pub record IsNewEntryOf (sig : Signature) (scope : ReadingScope) (metas : List MetaDecl) (c : CatId) (ts : List Token) (from to number : ℕ) (items : List Item)
    (w : Way) (ctx : SchemeContext) (vars : List Variable) (ks : List KnownVariable) : Type 0 where
  pub lengths : List ℕ
  pub ways : Ways
  pub name : List ℕ
  pub cat : ℕ
  pub known : ℕ
  pub parts : Parts
  pub way_is : w ≡ way (1 + (length sig.prods + number)) lengths ways
  pub context_is : ctx ≡ record { root = Whole c; entries = [] }
  pub knowns_are : ks ≡ record { name = name; entry = record { prod = number; args = bare parts } } ∷ []
  pub vars_are : vars ≡ record { word = name; cat = cat; means = entry_of known } ∷ known_words sig 0 scope.names.knowns
  pub binder_is : binders items ≡ cat ∷ []
  pub number_is : IsKnownNumber scope.names.knowns name known
  pub entry : ReadsItemsAt sig metas (known_words sig 0 scope.names.knowns) [] (name ∷ []) items (slice_range ts (from + 1) to) lengths ways parts

-- a reading of the tokens behind the first one as the items of the entry, of that production, of a known variable of the scope
pub record IsScopeEntryOf (sig : Signature) (scope : ReadingScope) (metas : List MetaDecl) (c : CatId) (ts : List Token) (from to number : ℕ) (items : List Item)
    (w : Way) (ctx : SchemeContext) (vars : List Variable) (ks : List KnownVariable) : Type 0 where
  pub lengths : List ℕ
  pub ways : Ways
  pub cat : ℕ
  pub place : ℕ
  pub variable : KnownVariable
  pub parts : Parts
  pub way_is : w ≡ way (1 + (length sig.prods + number)) lengths ways
  pub context_is : ctx ≡ record { root = Whole c; entries = [] }
  pub knowns_are : ks ≡ variable ∷ []
  pub vars_are : vars ≡ known_words sig 0 scope.names.knowns
  pub binder_is : binders items ≡ cat ∷ []
  pub here : slice_get scope.names.knowns place ≡ Some variable
  pub entry_is : variable.entry ≡ record { prod = number; args = bare parts }
  pub entry : ReadsItemsAt sig metas (known_words sig 0 scope.names.knowns) [] (variable.name ∷ []) items (slice_range ts (from + 1) to) lengths ways parts

-- the entry of a known variable: in the head of a case of a new one, and elsewhere of one of the scope
abbrev pub IsKnownEntryOf : Signature → ReadingScope → List MetaDecl → CatId → List Token → (from to number : ℕ) → List Item → Way → SchemeContext → List Variable → List KnownVariable → Type 0
IsKnownEntryOf sig scope metas c ts from to p items w ctx vars ks =
    ((scope.fresh ≡ fresh_head) × IsNewEntryOf sig scope metas c ts from to p items w ctx vars ks)
    ⊎ ((scope.fresh ≢ fresh_head) × IsScopeEntryOf sig scope metas c ts from to p items w ctx vars ks)

abbrev pub IsKnownBy : Signature → ReadingScope → List MetaDecl → CatId → List Token → (from to number : ℕ) → Way → SchemeContext → List Variable → List KnownVariable → Type 0
IsKnownBy sig scope metas c ts from to p w ctx vars ks =
    (prod : Prod) × (slice_get sig.prods p ≡ Some prod) × (prod.cat.0 ≡ c.0) × IsEntryOver c.0 prod.items
    × IsKnownEntryOf sig scope metas c ts from to p (drop 1 prod.items) w ctx vars ks

-- the first token is a spelling of the category with a digit or prime
abbrev pub BeginsNewly : Signature → (cat : ℕ) → List Token → (from to : ℕ) → Type 0
BeginsNewly sig c ts from to = (from < to) × (spelled : List ℕ) × (slice_get ts from ≡ Some (word spelled)) × IsOtherSpelling sig c spelled

-- a known variable's entry of one of the productions below that, behind a spelling of the category
abbrev pub IsKnownBelow : (below : ℕ) → Signature → ReadingScope → List MetaDecl → CatId → List Token → (from to : ℕ) → Way → SchemeContext → List Variable → List KnownVariable → Type 0
IsKnownBelow n sig scope metas c ts from to w ctx vars ks =
    (p : ℕ) × (p < n) × BeginsNewly sig c.0 ts from to × IsKnownBy sig scope metas c ts from to p w ctx vars ks

-- the shapes of all readings that have a property, each one that can be read on
abbrev pub AreListed : Sheet → ReadingScope → CatId → (Way → SchemeContext → List Variable → List KnownVariable → Type 0) → List ContextShape → Type 0
AreListed sheet scope c Is all =
    AreShapesOf sheet.sig.now scope sheet.metas.now (tokens_of sheet) c Is all × AllByRecursion (IsUsable sheet) all

-- the first variable of a split
abbrev pub first_variable : List Variable → Variable
first_variable [] = record { word = []; cat = 0; means = bound }
first_variable (v ∷ vs) = v

-- the entry of a split
abbrev pub entry_of_split : (prod before : ℕ) → Divided → EntryShape
entry_of_split p before d = record { prod = p; before = before; variable = first_variable d.0; slots = d.1 }

-- the entry of a split as that of the known variable with this number
abbrev pub new_entry_of : (prod : ℕ) → Divided → (known : ℕ) → EntryShape
new_entry_of p d n = record {
  prod = p;
  before = 1;
  variable = record { word = (first_variable d.0).word; cat = (first_variable d.0).cat; means = entry_of n };
  slots = d.1;
}

abbrev pub IsNewShape : List KnownVariable → (prod : ℕ) → Divided → ContextShape → Type 0
IsNewShape ks p d s = (n : ℕ) × IsKnownNumber ks (first_variable d.0).word n × (s ≡ new_entry (new_entry_of p d n))

-- a shape of each split
abbrev pub AreNewShapes : List KnownVariable → (prod : ℕ) → List Divided → List ContextShape → Type 0
AreNewShapes ks p [] [] = Unit {0}
AreNewShapes ks p (d ∷ ds) (s ∷ all) = IsNewShape ks p d s × AreNewShapes ks p ds all
AreNewShapes ks p _ _ = ⊥

-- the known variable with that number has an entry of that production
abbrev pub IsEntryBy : List KnownVariable → (number prod : ℕ) → Type 0
IsEntryBy ks n p = MatchOption (slice_get ks n) ⊥ (λ k. k.entry.prod ≡ p)

-- the shape of a split, where its variable's word is the name of a known variable whose entry is of the production
abbrev pub IsScopeShape : List KnownVariable → (prod : ℕ) → Divided → List ContextShape → Type 0
IsScopeShape ks p d all =
    (n : ℕ) × IsKnownNumber ks (first_variable d.0).word n
    × ((IsEntryBy ks n p × (all ≡ scope_entry p n d.1 ∷ [])) ⊎ ((IsEntryBy ks n p → ⊥) × (all ≡ [])))

-- those of all splits, split by split
abbrev pub AreScopeShapes : List KnownVariable → (prod : ℕ) → List Divided → List ContextShape → Type 0
AreScopeShapes ks p [] all = all ≡ []
AreScopeShapes ks p (d ∷ ds) all =
    (some : List ContextShape) × (rest : List ContextShape) × (all ≡ some ++ rest) × IsScopeShape ks p d some × AreScopeShapes ks p ds rest

-- each shape with the entry of each split, split by split
abbrev pub with_entries : EntryShape → List ContextShape → List ContextShape
with_entries e [] = []
with_entries e (s ∷ all) = entered s e ∷ with_entries e all

abbrev pub crossed : (prod before : ℕ) → List ContextShape → List Divided → List ContextShape
crossed p before inner [] = []
crossed p before inner (d ∷ ds) = with_entries (entry_of_split p before d) inner ++ crossed p before inner ds

-- the category of the last binder
abbrev pub last_binder : List Item → ℕ
last_binder items = slice_index (reverse (binders items)) 0
