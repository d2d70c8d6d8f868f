use Rattle.std.proofs.Common.{◌≡◌, ◌++◌, drop}
use Rattle.std.specs.Option.{option_copied}
use Rattle.rule_schemes.specs.View.{theory}
use Rattle.derivation_check.specs.Parts.{subtrees_of}
use Rattle.derivation_text.specs.Text.{all_lines, numbers}
use Rattle.derivation_text.specs.View.{root_value}
use Rattle.derivation_text.proofs.derivation.push_trees.Given as goal

abbrev pub invariant-loop-tree : goal.invariant-loop-tree
invariant-loop-tree l = record {
  text : l.text ++ all_lines (theory l.sys) (root_value (option_copied l.root)) l.last (subtrees_of (drop l.tree-index l.trees))
      ≡ l.initial.text ++ all_lines (theory l.sys) (root_value (option_copied l.root)) 0 (subtrees_of l.trees);
  numbers : l.numbers.items ++ numbers l.last (subtrees_of (drop l.tree-index l.trees)) ≡ numbers 0 (subtrees_of l.trees);
}
