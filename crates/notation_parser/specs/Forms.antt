-- How judgments read by their forms. A judgment without a context is kept as the product of its number and its parts; in one with a
-- context the slot of its category takes the context, whose variables are in scope in the others.
use Rattle.std.specs.Prelude.{◌≡◌, ◌≢◌, ◌++◌, ℕ, zero, suc, List, [], ◌∷◌, map, take, drop, Some, slice_get, slice_range}
use Rattle.std.specs.List.{Contains}
use Rattle.binding_terms.specs.Signature.{Signature, binders}
use Rattle.binding_terms.specs.declared.grammar.CatId.{CatId}
use Rattle.binding_terms.specs.declared.grammar.Item.{Item}
use Rattle.scheme_terms.specs.SchemeTree.{SchemeTree, meta, known, local, con, Parts}
use Rattle.scheme_terms.specs.Forms.{KnownVariable}
use Rattle.scheme_terms.specs.View.{scheme}
use Rattle.scheme_terms.specs.declared.scheme.MetaDecl.{MetaDecl}
use Rattle.scheme_terms.specs.declared.scheme.Root.TheVariants.{Closed}
use Rattle.rule_schemes.specs.Reading.{Token, Variable, ReadingScope, known_words, bare, ReadsForm, ReadsJudgment}
use Rattle.rule_schemes.specs.Rules.{JudgmentScheme}
use Rattle.rule_schemes.specs.Said.{a_term, a_judgment, a_context, Way, way, Ways, no_ways, then_way, AreBefore, form_lengths, ways_of_form, way_of_judgment}
use Rattle.rule_schemes.specs.declared.rule.Judgment.{Judgment}
use Rattle.term_reader.specs.Cases.{IsMade}
use Rattle.term_reader.specs.Firsts.{IsLeast}
use Rattle.term_reader.specs.Ordered.{ReadsTermAt}
use Rattle.term_reader.specs.Splitting.{SlotRange, lengths, ReadsPieces}
use Rattle.term_reader.specs.FirstPlace.{ReadPiecesAs}
use Rattle.notation_parser.specs.Ordered.{WrittenForm}
use Rattle.notation_parser.specs.Shapes.{ReadsContextAt, ContextShape, WrittenContext, shape_variables, ReadsInShape, written_context}
use Rattle.notation_parser.specs.declared.around.Around.{Around}

-- the items of a judgment, which write no variable
abbrev pub IsFormOf : Signature → List MetaDecl → List Variable → (number : ℕ) → List Item → List Token → Way → SchemeTree → Type 0
IsFormOf sig metas vars k items ts w s = (binders items ≡ []) × IsMade sig metas vars k k items ts w s

abbrev pub closed_judgment : ℕ → List SchemeTree → JudgmentScheme
closed_judgment k ss = record { judgment = k; context = record { root = Closed; entries = [] }; args = ss }

-- the judgment that is kept as a product
abbrev pub judgment_of : SchemeTree → JudgmentScheme
judgment_of (con k xs) = closed_judgment k (bare xs)
judgment_of (meta m vs) = closed_judgment 0 []
judgment_of (known k) = closed_judgment 0 []
judgment_of (local i) = closed_judgment 0 []

-- what such a judgment writes, and no known variable
abbrev pub closed_form : SchemeTree → WrittenForm
closed_form s = (a_judgment (judgment_of s), [])

-- what a judgment writes over a context, with the known variable of that context
abbrev pub judged : ℕ → WrittenContext → List SchemeTree → WrittenForm
judged k x ss = (a_judgment (record { judgment = k; context = x.0; args = ss }), x.1)

-- what a term writes
abbrev pub written_term : SchemeTree → WrittenForm
written_term s = (a_term s, [])

-- a reading of the tokens as a term
abbrev pub IsTermRead : Signature → ReadingScope → List MetaDecl → (cat : ℕ) → List Token → Way → WrittenForm → Type 0
IsTermRead sig scope metas c ts w x =
    (s : SchemeTree) × (x ≡ written_term s) × ReadsTermAt sig metas (scope.vars ++ known_words sig 0 scope.names.knowns) c ts w s

-- what a context writes
abbrev pub as_context : WrittenContext → WrittenForm
as_context x = (a_context x.0, x.1)

-- a reading of the tokens as a context
abbrev pub IsContextRead : Signature → ReadingScope → List MetaDecl → CatId → List Token → Way → WrittenForm → Type 0
IsContextRead sig scope metas c ts w x =
    (y : WrittenContext) × (vars : List Variable) × (x ≡ as_context y) × ReadsContextAt sig scope metas c.0 ts w y.0 vars y.1

-- a pair
abbrev pub beside : {A B : Type 0} → A → B → A × B
beside a b = (a, b)

-- what stands around a context: the terms in front of it, the context, and the terms behind it
abbrev pub AroundContext : Type 0
AroundContext = List SchemeTree × (WrittenContext × List SchemeTree)

-- what a judgment with all these terms writes
abbrev pub judged_around : ℕ → AroundContext → WrittenForm
judged_around k a = judged k a.1.0 (a.0 ++ a.1.1)

-- the places of some slots, and of others behind them
abbrev pub then_ways : Ways → Ways → Ways
then_ways no_ways vs = vs
then_ways (then_way w ws) vs = then_way w (then_ways ws vs)

-- the slot with this number is the first one of the category
abbrev pub IsContextPlace : (cat place : ℕ) → List SlotRange → Type 0
IsContextPlace c n [] = ⊥
IsContextPlace c zero (p ∷ ps) = p.cat.0 ≡ c
IsContextPlace c (suc n) (p ∷ ps) = (p.cat.0 ≢ c) × IsContextPlace c n ps

-- The slots of a form read around a context of this shape, whose slot has this number: those in front of it at the places of the
-- front, and all of them under the variables after the context.
abbrev pub IsAroundInShape : Signature → ReadingScope → List MetaDecl → List Token → CatId → (number place : ℕ) → List SlotRange → ContextShape → (front : Ways) → Way → AroundContext → Type 0
IsAroundInShape sig scope metas ts c k n ps s us w a =
    (v : Way) × (ws : Ways) × (xs : Parts) × (zs : Parts)
    × (w ≡ way k (lengths ps) (then_ways us (then_way v ws))) × (a.0 ≡ bare xs) × (a.1.1 ≡ bare zs)
    × ReadsInShape sig scope metas ts c s v a.1.0
    × ReadsPieces sig metas ts (shape_variables sig scope c.0 s) [] (take n ps) us xs
    × ReadsPieces sig metas ts (shape_variables sig scope c.0 s) [] (drop (suc n) ps) ws zs

-- such a reading as the judgment of this number
abbrev pub IsReadInShape : Signature → ReadingScope → List MetaDecl → List Token → CatId → (number place : ℕ) → List SlotRange → ContextShape → (front : Ways) → Way → WrittenForm → Type 0
IsReadInShape sig scope metas ts c k n ps s us w x =
    (a : AroundContext) × (x ≡ judged_around k a) × IsAroundInShape sig scope metas ts c k n ps s us w a

-- with a context of one of these shapes
abbrev pub IsReadInShapes : Signature → ReadingScope → List MetaDecl → List Token → CatId → (number place : ℕ) → List SlotRange → List ContextShape → (front : Ways) → Way → WrittenForm → Type 0
IsReadInShapes sig scope metas ts c k n ps all us w x =
    (s : ContextShape) × Contains all s × IsReadInShape sig scope metas ts c k n ps s us w x

-- the slots of a form read as a judgment of this number, with the context in the slot p that has this number
abbrev pub IsReadAround : Signature → ReadingScope → List MetaDecl → List Token → CatId → (number place : ℕ) → List SlotRange → SlotRange → Way → WrittenForm → Type 0
IsReadAround sig scope metas ts c k n ps p w x =
    (a : AroundContext) × (us : Ways) × (v : Way) × (ws : Ways) × (xs : Parts) × (zs : Parts) × (vars : List Variable)
    × (x ≡ judged_around k a) × (w ≡ way k (lengths ps) (then_ways us (then_way v ws))) × (a.0 ≡ bare xs) × (a.1.1 ≡ bare zs)
    × ReadsContextAt sig scope metas c.0 (slice_range ts p.from p.to) v a.1.0.0 vars a.1.0.1
    × ReadsPieces sig metas ts vars [] (take n ps) us xs
    × ReadsPieces sig metas ts vars [] (drop (suc n) ps) ws zs

-- the first slot of the category read as a context
abbrev pub IsReadInSlots : Signature → ReadingScope → List MetaDecl → List Token → CatId → (number : ℕ) → List SlotRange → Way → WrittenForm → Type 0
IsReadInSlots sig scope metas ts c k ps w x =
    (n : ℕ) × (p : SlotRange) × IsContextPlace c.0 n ps × (slice_get ps n ≡ Some p) × IsReadAround sig scope metas ts c k n ps p w x

-- the slots in front of a context read as its terms
abbrev pub HasFront : Signature → List MetaDecl → List Token → List Variable → List SlotRange → AroundContext → Type 0
HasFront sig metas ts vars ps a = (us : Ways) × (xs : Parts) × (bare xs ≡ a.0) × ReadsPieces sig metas ts vars [] ps us xs

-- the judgment of this number, with the first places at which the slots in front read
abbrev pub IsPlacedAs : Signature → List MetaDecl → List Token → List Variable → (number : ℕ) → List SlotRange → AroundContext → WrittenForm × Ways → Type 0
IsPlacedAs sig metas ts vars k ps a b =
    (b.0 ≡ judged_around k a) × ((xs : Parts) × IsLeast AreBefore (ReadPiecesAs sig metas ts vars [] ps a.0) b.1 xs)

-- the items of a judgment of this number read over a context of the category
abbrev pub IsOpenForm : Signature → ReadingScope → List MetaDecl → CatId → (number : ℕ) → List Item → List Token → Way → WrittenForm → Type 0
IsOpenForm sig scope metas c k items ts w x =
    (v : Way) × (front : List Token) × (y : WrittenContext) × (vars : List Variable) × (ss : List SchemeTree) × (x ≡ judged k y ss)
    × ReadsContextAt sig scope metas c.0 front v y.0 vars y.1
    × ((r : ReadsForm sig metas vars (Some c) front items ts ss) × (w ≡ way k (form_lengths r) (ways_of_form v r)))

-- a reading as the judgment with this number
abbrev pub IsReadAs : Signature → List Judgment → ReadingScope → List MetaDecl → (number : ℕ) → List Token → Way → WrittenForm → Type 0
IsReadAs sig js scope metas k ts w x =
    (j : JudgmentScheme) × (ks : List KnownVariable) × (x ≡ (a_judgment j, ks)) × (j.judgment ≡ k)
    × ((r : ReadsJudgment sig js scope metas ts j ks) × (way_of_judgment r ≡ w))

abbrev pub IsReadAsAny : Signature → List Judgment → ReadingScope → List MetaDecl → List Token → Way → WrittenForm → Type 0
IsReadAsAny sig js scope metas ts w x = (k : ℕ) × IsReadAs sig js scope metas k ts w x

-- what contracts see of a context with the terms around it
abbrev pub terms_around : Around → AroundContext
terms_around a = (map scheme a.front, (written_context a.context, map scheme a.behind))
