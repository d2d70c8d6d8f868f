-- Readings at their places in the reading order, part by part. Held against `way_of_term` of rule_schemes/specs/Said.antt.
use Rattle.std.specs.Prelude.{◌≡◌, ◌<◌, ℕ, ◌+◌, List, ◌∷◌}
use Rattle.binding_terms.specs.Signature.{Signature}
use Rattle.binding_terms.specs.declared.grammar.Item.{Item}
use Rattle.scheme_terms.specs.SchemeTree.{SchemeTree, meta, con, Values, Parts}
use Rattle.scheme_terms.specs.declared.scheme.MetaDecl.{MetaDecl}
use Rattle.rule_schemes.specs.Reading.{Token, Variable, ReadsTerm, ReadsBrackets, ReadsArguments, ReadsItems}
use Rattle.rule_schemes.specs.Said.{Way, way, way_of_term, bracket_lengths, ways_of_brackets, argument_lengths, ways_of_arguments, item_lengths, ways_of_items}

module _ (sig : Signature) (metas : List MetaDecl) where
  -- a reading of a term that stands at this place
  abbrev pub ReadsTermAt : List Variable → (cat : ℕ) → List Token → Way → SchemeTree → Type 0
  ReadsTermAt vars c ts w s = (r : ReadsTerm sig metas vars c ts s) × (way_of_term r ≡ w)

  -- a reading of items, as those of the production with this number that are left, under that alternative
  abbrev pub ReadsItemsAt : (vars own : List Variable) → (words : List (List ℕ)) → List Item → (alternative prod : ℕ) → List Token → Way → SchemeTree → Type 0
  ReadsItemsAt vars own words items a p ts w s =
      (xs : Parts) × (r : ReadsItems sig metas vars own words items ts xs) × (w ≡ way a (item_lengths r) (ways_of_items r)) × (s ≡ con p xs)

  -- a reading of brackets, and of the arguments from one on, as those of the metavariable with this number
  abbrev pub ReadsBracketsAt : List Variable → (params : List ℕ) → (number : ℕ) → List Token → Way → SchemeTree → Type 0
  ReadsBracketsAt vars params m ts w s =
      (vs : Values) × (r : ReadsBrackets sig metas vars params ts vs) × (w ≡ way 1 (bracket_lengths r) (ways_of_brackets r)) × (s ≡ meta m vs)

  abbrev pub ReadsArgumentsAt : List Variable → (params : List ℕ) → (number : ℕ) → List Token → Way → SchemeTree → Type 0
  ReadsArgumentsAt vars params m ts w s =
      (vs : Values) × (r : ReadsArguments sig metas vars params ts vs) × (w ≡ way 1 (argument_lengths r) (ways_of_arguments r)) × (s ≡ meta m vs)

-- the first slot takes so many tokens, or fewer
abbrev pub TakesFirst : ℕ → Way → Type 0
TakesFirst n (way a (m ∷ ls) ws) = m ≡ n
TakesFirst n _ = ⊥

abbrev pub TakesFewer : ℕ → Way → Type 0
TakesFewer n (way a (m ∷ ls) ws) = m < n
TakesFewer n _ = ⊥
