use Rattle.std.proofs.Common.{◌≡◌, ◌+◌, ◌++◌, drop}
use Rattle.std.specs.Option.{option_copied}
use Rattle.rule_schemes.specs.Derivation.{size, sizes}
use Rattle.rule_schemes.specs.View.{theory}
use Rattle.derivation_check.specs.Parts.{subtrees_of, premises_of}
use Rattle.derivation_text.specs.Text.{all_lines, numbers}
use Rattle.derivation_text.specs.View.{root_value}
use Rattle.derivation_text.proofs.derivation.+push_tree.Given as goal

abbrev pub invariant-loop-i : goal.invariant-loop-i
invariant-loop-i l = record {
  text : l.text ++ all_lines (theory l.sys) (root_value (option_copied l.root)) l.last (subtrees_of (drop l.i (premises_of l.tree)))
      ≡ l.initial.text ++ all_lines (theory l.sys) (root_value (option_copied l.root)) l.before (subtrees_of (premises_of l.tree));
  numbers : l.premises.items ++ numbers l.last (subtrees_of (drop l.i (premises_of l.tree))) ≡ numbers l.before (subtrees_of (premises_of l.tree));
  last : l.last + sizes (subtrees_of (drop l.i (premises_of l.tree))) ≡ l.before + sizes (subtrees_of (premises_of l.tree));
}

abbrev pub decreases-push_tree : goal.decreases-push_tree
decreases-push_tree a = size a.tree.now
