use Rattle.std.proofs.Common.{◌∙◌}
use Rattle.std.specs.Option.{option_copied}
use Rattle.rule_schemes.specs.View.{theory}
use Rattle.derivation_text.specs.View.{root_value}
use Rattle.derivation_text.proofs.Derivations.{lines_step, numbers_step}
use Rattle.derivation_text.proofs.derivation.push_trees.Goals as goal
use Rattle.binding_terms.proofs.Lists.{drop_from}

pub loop-tree-preserved : goal.loop-tree-preserved
loop-tree-preserved c =
    let first = drop_from c.args.trees.now c.loop-tree.tree-index c.tree-item.result c.loop-tree-test.true c.tree-item.is in
    let number = c.in_ok-last.ensures.number in
    record {
      text =
          lines_step (theory c.args.sys.now) (root_value (option_copied c.args.root)) c.loop-tree.text c.push_tree.new.text c.loop-tree.last
          c.in_ok-last.last c.tree-item.result _ _ first c.in_ok-last.ensures.text number
          ∙ c.loop-tree.invariant.text;
      numbers =
          numbers_step c.loop-tree.numbers.items c.push.new.self.items c.loop-tree.last c.in_ok-last.last c.tree-item.result _ _ first
          c.in_ok-push.ensures.items number
          ∙ c.loop-tree.invariant.numbers;
    }
