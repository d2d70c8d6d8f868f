use Rattle.std.proofs.Common.{map}
use Rattle.sy_base.specs.declared.fault.Code.TheVariants.{Duplicate}
use Rattle.user_grammar.specs.Finding.{AtToken, IsCommon, IsLeast, declaration_view}
use Rattle.user_grammar.proofs.FaultDeclared.{least_no_common}
use Rattle.user_grammar.proofs.FaultSeen.{seen_more}
use Rattle.user_grammar.proofs.fault_declared.first_common.Goals as goal
use Rattle.binding_terms.proofs.Lists.{whole_taken}

pub loop-number-init : goal.loop-number-init
loop-number-init c = (least_no_common, c.nothing_seen-seen.ensures)

pub loop-number-preserved : goal.loop-number-preserved
loop-number-preserved c =
    seen_more c.args.all.now c.loop-number.number _ c.loop-number.found c.common_found-found.result c.loop-number.seen c.see.new.seen c.loop-number-test.true
    c.common_found-found.ensures c.in_ok-see.ensures c.loop-number.invariant

pub returns : goal.returns
returns c = whole_taken (λ ds. IsLeast (AtToken Duplicate (IsCommon (map declaration_view ds))) c.loop-number.found) c.args.all.now c.loop-number.number c.loop-number-test.false c.loop-number.invariant.0
