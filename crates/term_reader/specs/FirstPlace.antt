-- Where something is read first: nowhere, or at the least of all places at which it is read.
use Rattle.std.specs.Prelude.{◌≡◌, ℕ, List, Option, MatchOption}
use Rattle.binding_terms.specs.Signature.{Signature}
use Rattle.scheme_terms.specs.SchemeTree.{SchemeTree, Parts}
use Rattle.scheme_terms.specs.declared.scheme.MetaDecl.{MetaDecl}
use Rattle.rule_schemes.specs.Reading.{Token, Variable, bare}
use Rattle.rule_schemes.specs.Said.{Way, Ways}
use Rattle.term_reader.specs.Firsts.{IsLeast}
use Rattle.term_reader.specs.Ordered.{ReadsTermAt}
use Rattle.term_reader.specs.Splitting.{SlotRange, ReadsPieces}

-- it has the property at no place, or first at the one that is found
abbrev pub IsFirstPlace : {K A L : Type 0} → (K → K → Type 0) → (K → A → Type 0) → (L → K) → Option L → Type 0
IsFirstPlace {K} {A} Before P place_of found =
    MatchOption found ((k : K) (x : A) → P k x → ⊥) (λ l. (x : A) × IsLeast Before P (place_of l) x)

-- the tokens read at this place as that scheme
abbrev pub ReadsAs : Signature → List MetaDecl → List Variable → (cat : ℕ) → List Token → (wanted : SchemeTree) → Way → SchemeTree → Type 0
ReadsAs sig metas vars c ts wanted w s = ReadsTermAt sig metas vars c ts w s × (s ≡ wanted)

-- the slots read at these places as parts with those schemes
abbrev pub ReadPiecesAs : Signature → List MetaDecl → List Token → (vars own : List Variable) → List SlotRange → (wanted : List SchemeTree) → Ways → Parts → Type 0
ReadPiecesAs sig metas ts vars own ps wanted ws xs = ReadsPieces sig metas ts vars own ps ws xs × (bare xs ≡ wanted)
