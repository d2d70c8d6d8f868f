-- What is asked of a signature over which theories are made so far, category by category and item by item. It is to go.
use Rattle.std.specs.Prelude.{◌≡◌, false, [], None}
use Rattle.std.specs.List.{AllByRecursion}
use Rattle.binding_terms.specs.declared.grammar.Cat.{Cat}
use Rattle.binding_terms.specs.declared.grammar.Item.{Item}
use Rattle.binding_terms.specs.declared.grammar.Item.TheVariants.{Word, Slot, Binder}
use Rattle.binding_terms.specs.declared.grammar.Prod.{Prod}

-- the category has no variable and is none of contexts
abbrev pub IsBareCategory : Cat → Type 0
IsBareCategory cat = (cat.context ≡ false) × (cat.var ≡ None)

-- the item is no slot that binds
abbrev pub IsBareItem : Item → Type 0
IsBareItem (Word text quoted) = Unit {0}
IsBareItem (Slot cat binds) = binds ≡ []
IsBareItem (Binder cat) = Unit {0}

abbrev pub IsBareProduction : Prod → Type 0
IsBareProduction prod = AllByRecursion IsBareItem prod.items
