use Rattle.std.proofs.Common.{◌≡◌, ◌≤◌, ◌++◌, ℕ, List, map, length}
use Rattle.binding_terms.specs.declared.grammar.Item.{Item}
use Rattle.outline_reader.specs.Plain.{plain_form}
use Rattle.user_grammar.specs.Production.{AreItems}
use Rattle.user_grammar.proofs.made_forms.binder_words.Given as goal

-- what is left stands for the items and words that are left
abbrev pub invariant-loop-left : goal.invariant-loop-left
invariant-loop-left l = record {
  within : length l.left ≤ length l.form;
  stands : (listed own : List (List ℕ)) (items : List Item) (words : List (List ℕ)) → AreItems l.cats listed own (plain_form l.form) items words
      → (left_items : List Item) × (left : List (List ℕ)) × AreItems l.cats listed own (plain_form l.left) left_items left
      × (map (λ word. word.now) l.all.items ++ left ≡ words);
}

abbrev pub decreases-loop-left : goal.decreases-loop-left
decreases-loop-left l = length l.left
