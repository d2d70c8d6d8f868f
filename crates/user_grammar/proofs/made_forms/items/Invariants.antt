use Rattle.std.proofs.Common.{◌≡◌, ◌≤◌, ◌++◌, ℕ, List, length}
use Rattle.binding_terms.specs.declared.grammar.Item.{Item}
use Rattle.outline_reader.specs.Plain.{plain_form}
use Rattle.user_grammar.specs.Indexed.{names_in}
use Rattle.user_grammar.specs.Names.{AllDiffer}
use Rattle.user_grammar.specs.Production.{AreItems}
use Rattle.user_grammar.proofs.made_forms.items.Given as goal

-- what is left stands for the items that are left
abbrev pub invariant-loop-left : goal.invariant-loop-left
invariant-loop-left l = record {
  within : length l.left ≤ length l.form;
  stands : AllDiffer (names_in l.own) → (listed : List (List ℕ)) (items : List Item) (words : List (List ℕ))
      → AreItems l.cats listed (names_in l.own) (plain_form l.form) items words
      → (left : List Item) × (left_words : List (List ℕ)) × AreItems l.cats listed (names_in l.own) (plain_form l.left) left left_words
      × (l.all ++ left ≡ items);
}

abbrev pub decreases-loop-left : goal.decreases-loop-left
decreases-loop-left l = length l.left
