use Rattle.std.proofs.Common.{◌++◌, drop, ap, ◌∙◌, arith}
use Rattle.std.proofs.lemmas.List.{drop_all}
use Rattle.std.specs.Option.{option_copied}
use Rattle.rule_schemes.specs.View.{theory}
use Rattle.derivation_check.specs.Parts.{premises_of, subtrees_of}
use Rattle.derivation_text.specs.Text.{numbers}
use Rattle.derivation_text.specs.View.{root_value}
use Rattle.derivation_text.proofs.Derivations.{trees_from, premise_smaller, lines_step, numbers_step, sizes_step, number_done, lines_done}
use Rattle.derivation_text.proofs.derivation.+push_tree.Goals as goal

pub push_tree-requires : goal.push_tree-requires
push_tree-requires t c = (omega (arith, premise_smaller c.args.tree.now c.loop-i.i c.premise.result.now c.premise.ensures), tt)

pub loop-i-preserved : goal.loop-i-preserved
loop-i-preserved t c =
    let first = trees_from (premises_of c.args.tree.now) c.loop-i.i c.premise.result.now c.premise.ensures in
    let number = c.in_ok-last.ensures.number in
    record {
      text =
          lines_step (theory c.args.sys.now) (root_value (option_copied c.args.root)) c.loop-i.text c.push_tree.new.text c.loop-i.last c.in_ok-last.last
          c.premise.result.now _ _ first c.in_ok-last.ensures.text number
          ∙ c.loop-i.invariant.text;
      numbers =
          numbers_step c.loop-i.premises.items c.push.new.self.items c.loop-i.last c.in_ok-last.last c.premise.result.now _ _ first
          c.in_ok-push.ensures.items number
          ∙ c.loop-i.invariant.numbers;
      last = sizes_step c.loop-i.last c.in_ok-last.last _ c.premise.result.now _ _ first number c.loop-i.invariant.last;
    }

pub returns-clause-number : goal.returns-clause-number
returns-clause-number t c =
    number_done c.args.tree.now c.args.before c.loop-i.last c.in_ok-number.number _
    (drop_all c.loop-i.i (premises_of c.args.tree.now) (omega arith)) c.loop-i.invariant.last c.in_ok-number.ensures

pub returns-clause-text : goal.returns-clause-text
returns-clause-text t c =
    let tree = c.args.tree.now in
    let left = drop c.loop-i.i (premises_of tree) in
    let none = drop_all c.loop-i.i (premises_of tree) (omega arith) in
    lines_done (theory c.args.sys.now) (root_value (option_copied c.args.root)) tree c.args.text.now c.loop-i.text c.push_line.new.text
    c.as_slice.result.now c.args.before c.loop-i.last c.in_ok-number.number left none c.loop-i.invariant.text
    (ap (λ ns. ns ++ numbers c.loop-i.last (subtrees_of left)) c.as_slice.ensures.value ∙ c.loop-i.invariant.numbers)
    (number_done tree c.args.before c.loop-i.last c.in_ok-number.number left none c.loop-i.invariant.last c.in_ok-number.ensures)
    c.in_ok-push_line.ensures
