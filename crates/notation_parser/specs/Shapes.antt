-- The readings of contexts by their shapes. The shape of a reading says how the context begins, which production each entry is of and
-- how the tokens are split among the entries and their slots; it leaves open what the slots read as. The variables in scope depend
-- on the shape alone. Held against `ReadsContext` of rule_schemes/specs/Reading.antt and `way_of_context` of rule_schemes/specs/Said.antt.
use Rattle.std.specs.Prelude.{◌≡◌, ◌≢◌, ℕ, ◌+◌, List, [], ◌∷◌, ◌++◌, length, map, Some, slice_get, slice_range}
use Rattle.std.specs.List.{Contains, AllByRecursion}
use Rattle.binding_terms.specs.Signature.{Signature}
use Rattle.binding_terms.specs.declared.grammar.CatId.{CatId}
use Rattle.scheme_terms.specs.SchemeTree.{SchemeTree, Parts}
use Rattle.scheme_terms.specs.Forms.{SchemeContext, KnownVariable}
use Rattle.scheme_terms.specs.View.{scheme_context, known_variable}
use Rattle.scheme_terms.specs.declared.scheme.MetaDecl.{MetaDecl}
use Rattle.scheme_terms.specs.declared.scheme.Root.TheVariants.{Whole, Empty}
use Rattle.rule_schemes.specs.Reading.{Token, Variable, ReadingScope, known_words, with_root, bare, ReadsContext}
use Rattle.rule_schemes.specs.Said.{Way, way, Ways, no_ways, then_way, IsBefore, way_of_context}
use Rattle.term_reader.specs.Splitting.{SlotRange, slot_range, lengths, AreKnown, AreWithin, ReadsPieces}
use Rattle.term_reader.specs.View.{variable}
use Rattle.term_reader.specs.declared.sheet.Sheet.{Sheet}
use Rattle.notation_parser.specs.declared.shaping.Start.{Start}
use Rattle.notation_parser.specs.declared.shaping.Start.TheVariants as starts
use Rattle.notation_parser.specs.declared.shaping.Entered.{Entered}
use Rattle.notation_parser.specs.declared.shaping.KnownEntry.{KnownEntry}
use Rattle.notation_parser.specs.declared.shaping.Shape.{Shape}
use Rattle.notation_parser.specs.declared.contexts.Context.{Context}

-- a reading of a context that stands at this place
abbrev pub ReadsContextAt : Signature → ReadingScope → List MetaDecl → (cat : ℕ) → List Token → Way → SchemeContext → List Variable → List KnownVariable → Type 0
ReadsContextAt sig scope metas c tokens w ctx vars ks = (r : ReadsContext sig scope metas c tokens ctx vars ks) × (way_of_context r ≡ w)

-- an entry: its production, how many tokens the context before it has, its variable, and its slots
pub record EntryShape : Type 0 where
  pub prod : ℕ
  pub before : ℕ
  pub variable : Variable
  pub slots : List SlotRange

-- The shape of a context: the name of its category, an empty form's production, the entry of a new known variable, or that of a known
-- variable of the scope, with its production, its number and its slots; and entries after one another.
pub data ContextShape : Type 0 where
  named : ContextShape
  empty : (prod : ℕ) → ContextShape
  new_entry : EntryShape → ContextShape
  scope_entry : (prod number : ℕ) → List SlotRange → ContextShape
  entered : ContextShape → EntryShape → ContextShape

-- the variables that are in scope after a context of that shape
abbrev pub shape_variables : Signature → ReadingScope → (cat : ℕ) → ContextShape → List Variable
shape_variables sig scope c named = with_root scope.names.root c scope.vars (known_words sig 0 scope.names.knowns)
shape_variables sig scope c (empty p) = known_words sig 0 scope.names.knowns
shape_variables sig scope c (new_entry e) = e.variable ∷ known_words sig 0 scope.names.knowns
shape_variables sig scope c (scope_entry p n ps) = known_words sig 0 scope.names.knowns
shape_variables sig scope c (entered s e) = e.variable ∷ shape_variables sig scope c s

-- a context, and the known variable that it writes
abbrev pub WrittenContext : Type 0
WrittenContext = SchemeContext × List KnownVariable

-- a context with one entry more
abbrev pub with_entry : ℕ → WrittenContext → List SchemeTree → WrittenContext
with_entry p x ss = (record { root = x.0.root; entries = x.0.entries ++ record { prod = p; args = ss } ∷ [] }, x.1)

-- the whole context, and a known variable that is written with its entry
abbrev pub new_context : CatId → EntryShape → List SchemeTree → WrittenContext
new_context c e ss =
    (record { root = Whole c; entries = [] }, record { name = e.variable.word; entry = record { prod = e.prod; args = ss } } ∷ [])

-- the whole context, and a known variable
abbrev pub whole_with : CatId → KnownVariable → WrittenContext
whole_with c k = (record { root = Whole c; entries = [] }, k ∷ [])

-- A reading of a context of exactly this shape, at the place: each entry's slots read under the variables of the shorter context, and
-- those of a known variable of the scope as its own entry.
abbrev pub ReadsInShape : Signature → ReadingScope → List MetaDecl → List Token → CatId → ContextShape → Way → WrittenContext → Type 0
ReadsInShape sig scope metas ts c named w x = (w ≡ way 0 [] no_ways) × (x ≡ (record { root = Whole c; entries = [] }, []))
ReadsInShape sig scope metas ts c (empty p) w x = (w ≡ way (1 + p) [] no_ways) × (x ≡ (record { root = Empty c; entries = [] }, []))
ReadsInShape sig scope metas ts c (new_entry e) w x =
    (ws : Ways) × (xs : Parts) × (w ≡ way (1 + (length sig.prods + e.prod)) (lengths e.slots) ws) × (x ≡ new_context c e (bare xs))
    × ReadsPieces sig metas ts (known_words sig 0 scope.names.knowns) [] e.slots ws xs
ReadsInShape sig scope metas ts c (scope_entry p n ps) w x =
    (ws : Ways) × (xs : Parts) × (k : KnownVariable)
    × (w ≡ way (1 + (length sig.prods + p)) (lengths ps) ws) × (x ≡ whole_with c k)
    × (slice_get scope.names.knowns n ≡ Some k) × (k.entry ≡ record { prod = p; args = bare xs })
    × ReadsPieces sig metas ts (known_words sig 0 scope.names.knowns) [] ps ws xs
ReadsInShape sig scope metas ts c (entered s e) w x =
    (v : Way) × (ws : Ways) × (y : WrittenContext) × (xs : Parts)
    × (w ≡ way (1 + e.prod) (e.before ∷ lengths e.slots) (then_way v ws)) × (x ≡ with_entry e.prod y (bare xs))
    × ReadsInShape sig scope metas ts c s v y
    × ReadsPieces sig metas ts (shape_variables sig scope c.0 s) [] e.slots ws xs

-- all readings in the first shape stand before all in the second
abbrev pub IsShapeBefore : Signature → ReadingScope → List MetaDecl → List Token → CatId → (first second : ContextShape) → Type 0
IsShapeBefore sig scope metas ts c s t =
    (v w : Way) (x y : WrittenContext) → ReadsInShape sig scope metas ts c s v x → ReadsInShape sig scope metas ts c t w y → IsBefore v w

-- each shape before all that follow it
abbrev pub AreShapesInOrder : Signature → ReadingScope → List MetaDecl → List Token → CatId → List ContextShape → Type 0
AreShapesInOrder sig scope metas ts c [] = Unit {0}
AreShapesInOrder sig scope metas ts c (s ∷ all) =
    AllByRecursion (IsShapeBefore sig scope metas ts c s) all × AreShapesInOrder sig scope metas ts c all

-- The shapes in which all readings stand that have a property, with their places, their contexts, the variables in scope after them
-- and the known variable that they write; some of the shapes may have no reading.
pub record AreShapesOf (sig : Signature) (scope : ReadingScope) (metas : List MetaDecl) (ts : List Token) (cat : CatId)
    (Is : Way → SchemeContext → List Variable → List KnownVariable → Type 0) (shapes : List ContextShape) : Type 0 where
  pub sound : AllByRecursion
      (λ s. (w : Way) (x : WrittenContext) → ReadsInShape sig scope metas ts cat s w x → Is w x.0 (shape_variables sig scope cat.0 s) x.1) shapes
  pub complete : (w : Way) (ctx : SchemeContext) (vars : List Variable) (ks : List KnownVariable) → Is w ctx vars ks →
      (s : ContextShape) × Contains shapes s × (vars ≡ shape_variables sig scope cat.0 s) × ReadsInShape sig scope metas ts cat s w (ctx, ks)
  pub in_order : AreShapesInOrder sig scope metas ts cat shapes

-- the shapes of the contexts that the tokens from one place up to another read as
abbrev pub AreShapes : Signature → ReadingScope → List MetaDecl → List Token → CatId → (from to : ℕ) → List ContextShape → Type 0
AreShapes sig scope metas ts c from to =
    AreShapesOf sig scope metas ts c (ReadsContextAt sig scope metas c.0 (slice_range ts from to))

-- each entry has a variable that the chart allows, and slots that lie in the tokens
abbrev pub IsUsable : Sheet → ContextShape → Type 0
IsUsable sheet named = Unit {0}
IsUsable sheet (empty p) = Unit {0}
IsUsable sheet (new_entry e) = AreKnown sheet (e.variable ∷ []) × AreWithin (length sheet.tokens.now) e.slots
IsUsable sheet (scope_entry p n ps) = AreWithin (length sheet.tokens.now) ps
IsUsable sheet (entered s e) = IsUsable sheet s × AreKnown sheet (e.variable ∷ []) × AreWithin (length sheet.tokens.now) e.slots

-- the variables of the scope that the chart allows
abbrev pub IsScopeKnown : Sheet → ReadingScope → Type 0
IsScopeKnown sheet scope = AreKnown sheet scope.vars × AreKnown sheet (known_words sheet.sig.now 0 scope.names.knowns)

-- no two known variables have one name
abbrev pub KnownsApart : List KnownVariable → Type 0
KnownsApart [] = Unit {0}
KnownsApart (k ∷ ks) = AllByRecursion (λ l. k.name ≢ l.name) ks × KnownsApart ks

-- what contracts see of shapes and of contexts
abbrev pub entry_shape : Entered → EntryShape
entry_shape e = record { prod = e.prod.0; before = e.before; variable = variable e.variable; slots = map slot_range e.slots }

abbrev pub scope_entry_shape : KnownEntry → ContextShape
scope_entry_shape e = scope_entry e.prod.0 e.number (map slot_range e.slots)

abbrev pub begun : Start → ContextShape
begun starts.Name = named
begun (starts.Empty p) = empty p.0
begun (starts.New e) = new_entry (entry_shape e)
begun (starts.Known e) = scope_entry_shape e

-- a shape with entries after it
abbrev pub grown : ContextShape → List EntryShape → ContextShape
grown s [] = s
grown s (e ∷ es) = grown (entered s e) es

abbrev pub context_shape : Shape → ContextShape
context_shape s = grown (begun s.start) (map entry_shape s.entries)

abbrev pub written_context : Context → WrittenContext
written_context c = (scheme_context c.ctx, map known_variable c.knowns)
