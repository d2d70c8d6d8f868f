-- Readings at their places in the reading order.
use Rattle.std.specs.Prelude.{◌≡◌, ℕ, List}
use Rattle.binding_terms.specs.Signature.{Signature}
use Rattle.binding_terms.specs.declared.grammar.Item.{Item}
use Rattle.scheme_terms.specs.SchemeTree.{SchemeTree, Values, Parts}
use Rattle.scheme_terms.specs.declared.scheme.MetaDecl.{MetaDecl}
use Rattle.rule_schemes.specs.Reading.{Token, Variable, ReadsTerm, ReadsBrackets, ReadsItems}
use Rattle.rule_schemes.specs.Said.{Way, Ways, way_of_term, bracket_lengths, ways_of_brackets, item_lengths, ways_of_items}

-- a reading of a term that stands at this place
abbrev pub ReadsTermAt : Signature → List MetaDecl → List Variable → (cat : ℕ) → List Token → Way → SchemeTree → Type 0
ReadsTermAt sig metas vars c ts w s = (r : ReadsTerm sig metas vars c ts s) × (way_of_term r ≡ w)

-- a reading of brackets, with the lengths and the readings of the arguments
abbrev pub ReadsBracketsAt : Signature → List MetaDecl → List Variable → (params : List ℕ) → List Token → List ℕ → Ways → Values → Type 0
ReadsBracketsAt sig metas vars params ts ls ws vs =
    (r : ReadsBrackets sig metas vars params ts vs) × (bracket_lengths r ≡ ls) × (ways_of_brackets r ≡ ws)

-- a reading of items, with the lengths and the readings of their slots
abbrev pub ReadsItemsAt : Signature → List MetaDecl → (vars own : List Variable) → (words : List (List ℕ)) → List Item → List Token → List ℕ → Ways → Parts → Type 0
ReadsItemsAt sig metas vars own words items ts ls ws xs =
    (r : ReadsItems sig metas vars own words items ts xs) × (item_lengths r ≡ ls) × (ways_of_items r ≡ ws)
