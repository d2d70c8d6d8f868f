-- How the items of a form, and the arguments of a metavariable, are split over tokens, and how the slots of a split read.
use Rattle.std.specs.Prelude.{◌≡◌, ◌<◌, ◌≤◌, ◌-◌, ◌+◌, ◌⊎◌, ℕ, List, [], ◌∷◌, ◌++◌, length, map, max, Some, slice_get, slice_range}
use Rattle.std.specs.List.{Contains, AllByRecursion}
use Rattle.binding_terms.specs.Signature.{Signature}
use Rattle.binding_terms.specs.declared.grammar.CatId.{CatId}
use Rattle.binding_terms.specs.declared.grammar.Item.{Item}
use Rattle.binding_terms.specs.declared.grammar.Item.TheVariants.{Word, Slot, Binder}
use Rattle.scheme_terms.specs.SchemeTree.{SchemeTree, Parts, no_parts, part, meta, con, values}
use Rattle.scheme_terms.specs.declared.scheme.MetaDecl.{MetaDecl}
use Rattle.rule_schemes.specs.Reading.{Token, word, punctuation, Variable, bound, IsVariableWord, slot_variables, IsTerminal, ReadsTerm, bare}
use Rattle.rule_schemes.specs.Said.{Way, way, Ways, no_ways, then_way, ComesBefore}
use Rattle.term_reader.specs.Chart.{AreAllowed, IsChart}
use Rattle.term_reader.specs.Ordered.{ReadsTermAt}
use Rattle.term_reader.specs.Names.{NamesApart}
use Rattle.term_reader.specs.View.{token, variable}
use Rattle.term_reader.specs.declared.sheet.Sheet.{Sheet}
use Rattle.term_reader.specs.declared.splitting.Piece.{Piece}
use Rattle.term_reader.specs.declared.splitting.Split.{Split}
use Rattle.term_reader.specs.declared.reading.Head.{Head}
use Rattle.term_reader.specs.declared.reading.Head.TheVariants.{Product, Meta}

-- a slot with its tokens, from one place up to another
pub record SlotRange : Type 0 where
  pub cat : CatId
  pub binds : List ℕ
  pub from : ℕ
  pub to : ℕ

-- the variables that the binders write, and the slots
abbrev pub Divided : Type 0
Divided = List Variable × List SlotRange

abbrev pub slot_range : Piece → SlotRange
slot_range p = record { cat = p.cat; binds = p.binds.now; from = p.from; to = p.to }

abbrev pub split : Split → Divided
split s = (map variable s.own, map slot_range s.slots)

-- a split before another
abbrev pub after : (first rest : Divided) → Divided
after first rest = (first.0 ++ rest.0, first.1 ++ rest.1)

abbrev pub bound_variable : List ℕ → ℕ → Variable
bound_variable w c = record { word = w; cat = c; means = bound }

-- a slot that ends at a place from the lower one on and below the higher one, and what follows it there
abbrev pub IsHead : CatId → (binds : List ℕ) → (from low high : ℕ) → (ℕ → List Variable → List SlotRange → Type 0) → List Variable → List SlotRange → Type 0
IsHead c binds n low high Rest vs [] = ⊥
IsHead c binds n low high Rest vs (p ∷ ps) =
    (p ≡ record { cat = c; binds = binds; from = n; to = p.to }) × (low ≤ p.to) × (p.to < high) × Rest p.to vs ps

-- the variables of the binders and the tokens of the slots, where the items take the tokens from a place on up to another
abbrev pub IsSplit : Signature → List Token → (to : ℕ) → List Item → (from : ℕ) → List Variable → List SlotRange → Type 0
IsSplit sig ts to [] n vs ps = (n ≡ to) × (vs ≡ []) × (ps ≡ [])
IsSplit sig ts to (Word text quoted ∷ items) n vs ps =
    (n < to) × (t : Token) × (slice_get ts n ≡ Some t) × IsTerminal text t × IsSplit sig ts to items (n + 1) vs ps
IsSplit sig ts to (Binder c ∷ items) n [] ps = ⊥
IsSplit sig ts to (Binder c ∷ items) n (v ∷ vs) ps =
    (n < to) × (v ≡ bound_variable v.word c.0) × (slice_get ts n ≡ Some (word v.word)) × IsVariableWord sig c.0 v.word
    × IsSplit sig ts to items (n + 1) vs ps
IsSplit sig ts to (Slot c binds ∷ items) n vs ps = IsHead c binds n (n + 1) (to + 1) (IsSplit sig ts to items) vs ps

-- what follows an argument: the next one after a comma, or after a bracket that closes and one that opens; in the end the last bracket
abbrev pub GoesOn : List Token → (to : ℕ) → (params : List CatId) → (end : ℕ) → List Variable → List SlotRange → Type 0
GoesOn ts to [] k vs ps = (slice_get ts k ≡ Some (punctuation 93)) × (k + 1 ≡ to) × (vs ≡ []) × (ps ≡ [])
GoesOn ts to (c ∷ params) k vs ps =
    ((slice_get ts k ≡ Some (punctuation 44)) × IsHead c [] (k + 1) (k + 1) to (GoesOn ts to params) vs ps)
    ⊎ ((slice_get ts k ≡ Some (punctuation 93)) × (k + 1 < to) × (slice_get ts (k + 1) ≡ Some (punctuation 91))
    × IsHead c [] (k + 1 + 1) (k + 1 + 1) to (GoesOn ts to params) vs ps)

-- arguments of these categories from a place on
abbrev pub AreArguments : List Token → (to : ℕ) → (params : List CatId) → (from : ℕ) → List Variable → List SlotRange → Type 0
AreArguments ts to [] n vs ps = ⊥
AreArguments ts to (c ∷ params) n vs ps = IsHead c [] n n to (GoesOn ts to params) vs ps

-- the arguments in their brackets; no brackets where there are no parameters
abbrev pub IsBracketed : List Token → (to : ℕ) → (params : List CatId) → (from : ℕ) → List Variable → List SlotRange → Type 0
IsBracketed ts to [] n vs ps = (n ≡ to) × (vs ≡ []) × (ps ≡ [])
IsBracketed ts to (c ∷ params) n vs ps =
    (n < to) × (slice_get ts n ≡ Some (punctuation 91)) × AreArguments ts to (c ∷ params) (n + 1) vs ps

-- how many tokens each slot has
abbrev pub lengths : List SlotRange → List ℕ
lengths [] = []
lengths (p ∷ ps) = (p.to - p.from) ∷ lengths ps

-- the shorter first slot first
abbrev pub AreInOrder : List Divided → Type 0
AreInOrder [] = Unit {0}
AreInOrder (s ∷ all) = AllByRecursion (λ t. ComesBefore (lengths s.1) (lengths t.1)) all × AreInOrder all

-- splits alone, each one whose slots all stand, in the reading order
pub record AreSplits (Stand : SlotRange → Type 0) (Is : List Variable → List SlotRange → Type 0) (all : List Divided) : Type 0 where
  pub each : AllByRecursion (λ s. Is s.0 s.1) all
  pub kept : (vs : List Variable) (ps : List SlotRange) → Is vs ps → AllByRecursion Stand ps → Contains all (vs, ps)
  pub in_order : AreInOrder all

-- the tokens of a form
abbrev pub tokens_of : Sheet → List Token
tokens_of sheet = map token sheet.tokens.now

-- what forms are read over: names that tell metavariables apart, and a chart of the tokens
pub record IsSheet (sheet : Sheet) : Type 0 where
  pub names : NamesApart sheet.metas.now
  pub chart : IsChart sheet.sig.now sheet.metas.now sheet.words.now (tokens_of sheet) sheet.chart.now

-- variables that the chart allows
abbrev pub AreKnown : Sheet → List Variable → Type 0
AreKnown sheet vars = AreAllowed sheet.sig.now sheet.words.now vars

-- the slot reads with some variables in scope, or is of the category that the chart is not asked for
abbrev pub Stands : Sheet → SlotRange → Type 0
Stands sheet p =
    (sheet.contexts ≡ Some p.cat)
    ⊎ ((vars : List Variable) × (s : SchemeTree) × AreKnown sheet vars
    × ReadsTerm sheet.sig.now sheet.metas.now vars p.cat.0 (slice_range (tokens_of sheet) p.from p.to) s)

-- each slot lies in the tokens
abbrev pub AreWithin : ℕ → List SlotRange → Type 0
AreWithin n ps = AllByRecursion (λ p. (p.from ≤ p.to) × (p.to ≤ n)) ps

-- each split lies in the tokens, and has variables that the chart allows
abbrev pub AreUsable : Sheet → List Divided → Type 0
AreUsable sheet all = AllByRecursion (λ s. AreKnown sheet s.0 × AreWithin (length sheet.tokens.now) s.1) all

-- the number of tokens of the longest slot, and one more than the number of any slot of splits
abbrev pub longest : List SlotRange → ℕ
longest [] = 0
longest (p ∷ ps) = max (p.to - p.from) (longest ps)

abbrev pub reach : List Divided → ℕ
reach [] = 0
reach (s ∷ all) = max (longest s.1 + 1) (reach all)

-- each slot of a split reads at its place in the reading order, under the variables that it lists among the split's own
abbrev pub ReadsPieces : Signature → List MetaDecl → List Token → (vars own : List Variable) → List SlotRange → Ways → Parts → Type 0
ReadsPieces sig metas ts vars own [] ws xs = (ws ≡ no_ways) × (xs ≡ no_parts)
ReadsPieces sig metas ts vars own (p ∷ ps) no_ways xs = ⊥
ReadsPieces sig metas ts vars own (p ∷ ps) (then_way w ws) no_parts = ⊥
ReadsPieces sig metas ts vars own (p ∷ ps) (then_way w ws) (part n s xs) =
    (n ≡ length p.binds) × ReadsTermAt sig metas (slot_variables own p.binds ++ vars) p.cat.0 (slice_range ts p.from p.to) w s
    × ReadsPieces sig metas ts vars own ps ws xs

-- what is made of the parts: a production, or a metavariable with its arguments
abbrev pub built : Head → Parts → SchemeTree
built (Product p) xs = con p.0 xs
built (Meta m) xs = meta m.0 (values (bare xs))

-- what is made of each, at the place that is made of its own
abbrev pub IsMapped : {K L A B : Type 0} → (K → L) → (A → B) → (K → A → Type 0) → L → B → Type 0
IsMapped {K} {L} {A} {B} g f P l y = (k : K) × (x : A) × (l ≡ g k) × (y ≡ f x) × P k x

-- by this alternative, read in one of the splits
abbrev pub IsMadeIn : Sheet → List Variable → (alternative : ℕ) → Head → List Divided → Way → SchemeTree → Type 0
IsMadeIn sheet vars alternative head all w s =
    (d : Divided) × Contains all d
    × IsMapped (way alternative (lengths d.1)) (built head) (ReadsPieces sheet.sig.now sheet.metas.now (tokens_of sheet) vars d.0 d.1) w s
