use Rattle.outline_reader.specs.Views.{portion_view}
use Rattle.outline_reader.specs.Plain.{plain_portion}
use Rattle.rule_schemes.specs.View.{theory}
use Rattle.judgments.proofs.SystemLemmas.{next_block, next_rules, no_rules}
use Rattle.judgments.proofs.system.add_rules.Goals as goal

pub returns-then-not-branch : goal.returns-then-not-branch
returns-then-not-branch c =
    let lt = rw c.as_slice-portion-items.ensures.value at c.loop-portion-test.true in
    no_rules (λ portion. plain_portion (portion_view portion)) c.args.outline.now.parts.items c.loop-portion.portion-index c.portion-item.result lt
    (theory c.args.sys.now) (theory c.loop-portion.sys) c.loop-portion.block c.loop-portion.invariant.block c.loop-portion.invariant.rules
    (rw (c.if-not-branch.true, c.portion-item.is, c.as_slice-portion-items.ensures.value) at c.in_ok-add_portion.ensures)

pub loop-portion-preserved : goal.loop-portion-preserved
loop-portion-preserved c =
    let lt = rw c.as_slice-portion-items.ensures.value at c.loop-portion-test.true in
    record {
      block = next_block (λ portion. plain_portion (portion_view portion)) c.args.outline.now.parts.items c.loop-portion.portion-index c.portion-item.result lt
          c.loop-portion.block c.in_ok-block.block c.loop-portion.invariant.block (rw (c.portion-item.is, c.as_slice-portion-items.ensures.value) at c.in_ok-block.ensures);
      rules = next_rules (λ portion. plain_portion (portion_view portion)) c.args.outline.now.parts.items c.loop-portion.portion-index c.portion-item.result lt
          (theory c.args.sys.now) (theory c.loop-portion.sys) (theory c.add_portion.new.sys) c.loop-portion.block c.loop-portion.invariant.block c.loop-portion.invariant.rules
          (rw (c.if-not-branch.false, c.portion-item.is, c.as_slice-portion-items.ensures.value) at c.in_ok-add_portion.ensures);
    }
