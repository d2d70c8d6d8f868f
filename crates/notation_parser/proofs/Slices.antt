-- The slots of a split as a list of pieces: those in front of one of them, that one, and those behind it.
use Rattle.std.proofs.Common.{◌≡◌, ◌≢◌, ◌-◌, ◌+◌, ◌<◌, ◌≤◌, ℕ, suc, List, [], ◌∷◌, length, map, take, drop, get_or, ap, ◌∙◌, subst, sym, add-one, slice_get, Some, zero}
use Rattle.std.specs.List.{AllByRecursion}
use Rattle.std.specs.Option.{option_map}
use Rattle.std.proofs.lemmas.List.{map_more, take_rest, take-map, drop-map}
use Rattle.std.proofs.lemmas.Option.{slice_get-get_or, slice_get-map}
use Rattle.binding_terms.specs.Signature.{Signature}
use Rattle.binding_terms.specs.declared.grammar.CatId.{CatId}
use Rattle.scheme_terms.specs.SchemeTree.{Parts}
use Rattle.scheme_terms.specs.declared.scheme.MetaDecl.{MetaDecl}
use Rattle.rule_schemes.specs.Reading.{Token, Variable, ReadingScope, bare}
use Rattle.rule_schemes.specs.Said.{Ways, IsBefore, AreBefore}
use Rattle.term_reader.specs.Firsts.{AreFirst, paired}
use Rattle.term_reader.specs.Splitting.{SlotRange, slot_range, AreWithin, ReadsPieces}
use Rattle.term_reader.specs.declared.splitting.Piece.{Piece}
use Rattle.term_reader.proofs.Finding.{AreFirst-same}
use Rattle.term_reader.proofs.Usable.{no_piece}
use Rattle.notation_parser.specs.Forms.{beside, AroundContext, IsContextPlace, IsAroundInShape, IsReadInShape, IsReadInShapes, IsReadInSlots, HasFront, IsPlacedAs}
use Rattle.notation_parser.specs.Fronts.{AreFirstAt, AreTold}
use Rattle.notation_parser.specs.Ordered.{WrittenForm}
use Rattle.notation_parser.specs.Shapes.{ContextShape, WrittenContext, ReadsInShape, AreShapes, shape_variables}
use Rattle.notation_parser.proofs.AroundShapes.{shape_read, have_fronts, shape_placed, shapes_read}
use Rattle.notation_parser.proofs.ContextPlaces.{place_found}
use Rattle.notation_parser.proofs.FrontLemmas.{first_alone}
use Rattle.binding_terms.proofs.Lists.{all_append, all_mapped_more, all_pick}

pub taken_within : (n : ℕ) (ps : List SlotRange) (place : ℕ) → AreWithin n ps → AreWithin n (take place ps)
taken_within n ps zero h = tt
taken_within n [] (suc place) h = tt
taken_within n (p ∷ ps) (suc place) h = (h.0, taken_within n ps place h.1)

dropped_within : (n : ℕ) (ps : List SlotRange) (place : ℕ) → AreWithin n ps → AreWithin n (drop place ps)
dropped_within n ps zero h = h
dropped_within n [] (suc place) h = tt
dropped_within n (p ∷ ps) (suc place) h = dropped_within n ps place h.1

-- the pieces in front of a place, and those behind it
pub pieces_front : (slots : List Piece) (place : ℕ) → map slot_range (take place slots) ≡ take place (map slot_range slots)
pieces_front slots place = sym (take-map slot_range place slots)

pub pieces_behind : (slots : List Piece) (place : ℕ) → map slot_range (take (length slots - (place + 1)) (drop (place + 1) slots)) ≡ drop (suc place) (map slot_range slots)
pieces_behind slots place =
    ap (map slot_range) (take_rest slots (place + 1)) ∙ sym (drop-map slot_range (place + 1) slots) ∙ ap (λ m. drop m (map slot_range slots)) (add-one place)

pub front_within : (n : ℕ) (slots : List Piece) (place : ℕ) → AreWithin n (map slot_range slots) → AreWithin n (map slot_range (take place slots))
front_within n slots place h = subst (AreWithin n) (sym (pieces_front slots place)) (taken_within n (map slot_range slots) place h)

pub behind_within : (n : ℕ) (slots : List Piece) (place : ℕ) → AreWithin n (map slot_range slots)
    → AreWithin n (map slot_range (take (length slots - (place + 1)) (drop (place + 1) slots)))
behind_within n slots place h = subst (AreWithin n) (sym (pieces_behind slots place)) (dropped_within n (map slot_range slots) (suc place) h)

pub piece_within : (n : ℕ) (slots : List Piece) (place : ℕ) → place < length slots → AreWithin n (map slot_range slots)
    → ((get_or slots place no_piece).from ≤ (get_or slots place no_piece).to) × ((get_or slots place no_piece).to ≤ n)
piece_within n slots place lt h = all_pick slot_range (λ (p : SlotRange). (p.from ≤ p.to) × (p.to ≤ n)) slots place no_piece lt h

pub piece_at : (slots : List Piece) (place : ℕ) → place < length slots → slice_get (map slot_range slots) place ≡ Some (slot_range (get_or slots place no_piece))
piece_at slots place lt = slice_get-map slot_range slots place ∙ ap (option_map slot_range) (slice_get-get_or slots place no_piece lt)

-- how far no slot of the category stands, and the first of them
pub none_more : (c : ℕ) (slots : List Piece) (k : ℕ) → k < length slots → AllByRecursion (λ (p : SlotRange). p.cat.0 ≢ c) (map slot_range (take k slots))
    → (get_or slots k no_piece).cat.0 ≢ c → AllByRecursion (λ (p : SlotRange). p.cat.0 ≢ c) (map slot_range (take (k + 1) slots))
none_more c slots k lt none differs = all_mapped_more slot_range (λ (p : SlotRange). p.cat.0 ≢ c) slots k no_piece lt none differs

pub place_here : (c : ℕ) (slots : List Piece) (k : ℕ) → k < length slots → AllByRecursion (λ (p : SlotRange). p.cat.0 ≢ c) (map slot_range (take k slots))
    → (get_or slots k no_piece).cat.0 ≡ c → IsContextPlace c k (map slot_range slots)
place_here c slots k lt none same =
    place_found c k (map slot_range slots) (slot_range (get_or slots k no_piece)) (subst (AllByRecursion (λ (p : SlotRange). p.cat.0 ≢ c)) (pieces_front slots k) none)
    (piece_at slots k lt) same

module _ (sig : Signature) (scope : ReadingScope) (metas : List MetaDecl) (ts : List Token) (c : CatId) (k place : ℕ) (slots : List Piece) (s : ContextShape) where
  abbrev vars : List Variable
  vars = shape_variables sig scope c.0 s

  -- the readings around a context of that shape, whose slot is the piece at the place
  abbrev pub AreAround : List AroundContext → Type 0
  AreAround = AreFirst IsBefore (λ w a. (us : Ways) × IsAroundInShape sig scope metas ts c k place (map slot_range slots) s us w a)

  pub pieces_around : (xs : List Parts) (ys : List WrittenContext) (zs : List Parts) (found : List AroundContext)
      → AreFirst AreBefore (ReadsPieces sig metas ts vars [] (map slot_range (take place slots))) xs → AreFirst IsBefore (ReadsInShape sig scope metas ts c s) ys
      → AreFirst AreBefore (ReadsPieces sig metas ts vars [] (map slot_range (take (length slots - (place + 1)) (drop (place + 1) slots)))) zs
      → found ≡ paired beside (map bare xs) (paired beside ys (map bare zs)) → AreAround found
  pieces_around xs ys zs found f g h e =
      subst AreAround (sym e)
      (shape_read sig scope metas ts c k place (map slot_range slots) s xs ys zs
      (subst (λ ps. AreFirst AreBefore (ReadsPieces sig metas ts vars [] ps) xs) (pieces_front slots place) f) g
      (subst (λ ps. AreFirst AreBefore (ReadsPieces sig metas ts vars [] ps) zs) (pieces_behind slots place) h))

  pub fronts_around : (found : List AroundContext) → AreAround found → AllByRecursion (HasFront sig metas ts vars (map slot_range (take place slots))) found
  fronts_around found f =
      subst (λ ps. AllByRecursion (HasFront sig metas ts vars ps) found) (sym (pieces_front slots place))
      (have_fronts sig scope metas ts c k place (map slot_range slots) s found f)

  pub placed_around : (found : List AroundContext) (new : List (WrittenForm × Ways)) → AreAround found
      → AreTold (IsPlacedAs sig metas ts vars k (map slot_range (take place slots))) found new
      → AreFirstAt IsBefore (IsReadInShape sig scope metas ts c k place (map slot_range slots) s) new
  placed_around found new f told =
      shape_placed sig scope metas ts c k place (map slot_range slots) s found new f
      (subst (λ ps. AreTold (IsPlacedAs sig metas ts vars k ps) found new) (pieces_front slots place) told)

-- the readings in all shapes of the piece at the place are those of the slots
pub pieces_read : (sig : Signature) (scope : ReadingScope) (metas : List MetaDecl) (ts : List Token) (c : CatId) (k place : ℕ) (slots : List Piece) (all : List ContextShape) (found : List (WrittenForm × Ways))
    → place < length slots → IsContextPlace c.0 place (map slot_range slots) → AreShapes sig scope metas ts c (get_or slots place no_piece).from (get_or slots place no_piece).to all
    → AreFirstAt IsBefore (IsReadInShapes sig scope metas ts c k place (map slot_range slots) all) found
    → AreFirst IsBefore (IsReadInSlots sig scope metas ts c k (map slot_range slots)) (map (λ a. a.0) found)
pieces_read sig scope metas ts c k place slots all found lt here shapes f =
    AreFirst-same IsBefore (λ w x. (us : Ways) × IsReadInShapes sig scope metas ts c k place (map slot_range slots) all us w x) (IsReadInSlots sig scope metas ts c k (map slot_range slots)) (map (λ a. a.0) found)
    (shapes_read sig scope metas ts c k place (map slot_range slots) (slot_range (get_or slots place no_piece)) all shapes here (piece_at slots place lt))
    (first_alone IsBefore (IsReadInShapes sig scope metas ts c k place (map slot_range slots) all) found f)
