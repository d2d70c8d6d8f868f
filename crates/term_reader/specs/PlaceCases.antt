-- The cases in which a term is found: without parentheses around it, and in the splits of a form. Held against `ReadsTerm` of
-- rule_schemes/specs/Reading.antt.
use Rattle.std.specs.Prelude.{◌≡◌, ◌⊎◌, ℕ, List, [], ◌∷◌, length}
use Rattle.std.specs.List.{Contains}
use Rattle.binding_terms.specs.Signature.{Signature}
use Rattle.binding_terms.specs.declared.grammar.Item.{Item}
use Rattle.binding_terms.specs.declared.grammar.Item.TheVariants.{Word, Slot, Binder}
use Rattle.scheme_terms.specs.SchemeTree.{SchemeTree, Parts, no_parts, part}
use Rattle.scheme_terms.specs.declared.scheme.MetaDecl.{MetaDecl}
use Rattle.rule_schemes.specs.Reading.{Token, Variable}
use Rattle.rule_schemes.specs.Said.{Way, way, Ways}
use Rattle.term_reader.specs.Cases.{IsName, IsVariable, IsProduct}
use Rattle.term_reader.specs.Splitting.{Divided, tokens_of, lengths}
use Rattle.term_reader.specs.declared.sheet.Sheet.{Sheet}
use Rattle.term_reader.specs.FirstPlace.{ReadPiecesAs}

-- a metavariable, a variable, or by a production
abbrev pub IsAlone : Signature → List MetaDecl → List Variable → (cat : ℕ) → List Token → Way → SchemeTree → Type 0
IsAlone sig metas vars c ts w s =
    IsName sig metas vars c ts w s ⊎ (IsVariable vars c ts w s ⊎ ((p : ℕ) × IsProduct sig metas vars p c ts w s))

-- by this alternative, the slots of one split read as those schemes
abbrev pub IsInSplit : Sheet → List Variable → (alternative : ℕ) → Divided → (wanted : List SchemeTree) → Way → Parts → Type 0
IsInSplit sheet vars alternative d wanted w xs =
    (ws : Ways) × (w ≡ way alternative (lengths d.1) ws)
    × ReadPiecesAs sheet.sig.now sheet.metas.now (tokens_of sheet) vars d.0 d.1 wanted ws xs

-- the slots of one of these splits
abbrev pub IsInSplits : Sheet → List Variable → (alternative : ℕ) → List Divided → (wanted : List SchemeTree) → Way → Parts → Type 0
IsInSplits sheet vars alternative all wanted w xs = (d : Divided) × Contains all d × IsInSplit sheet vars alternative d wanted w xs

-- the slots of the items bind as many variables as the parts, one by one
abbrev pub BindAsMany : List Item → Parts → Type 0
BindAsMany [] no_parts = Unit {0}
BindAsMany [] (part n s xs) = ⊥
BindAsMany (Word text quoted ∷ items) xs = BindAsMany items xs
BindAsMany (Binder c ∷ items) xs = BindAsMany items xs
BindAsMany (Slot c binds ∷ items) no_parts = ⊥
BindAsMany (Slot c binds ∷ items) (part n s xs) = (n ≡ length binds) × BindAsMany items xs
