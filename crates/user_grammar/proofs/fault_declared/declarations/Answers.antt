use Rattle.user_grammar.specs.Finding.{portions_of}
use Rattle.user_grammar.proofs.FaultDeclared.{declare_more}
use Rattle.user_grammar.proofs.fault_declared.declarations.Goals as goal

pub loop-portion-preserved : goal.loop-portion-preserved
loop-portion-preserved c =
    declare_more (portions_of c.args.lists.now) c.args.lists.now.portions.now c.loop-portion.portion-index c.portion-item.result _ _ _ c.loop-portion-test.true c.portion-item.is
    c.loop-portion.invariant c.in_ok-declare.ensures.2 c.in_ok-declare.ensures.1
