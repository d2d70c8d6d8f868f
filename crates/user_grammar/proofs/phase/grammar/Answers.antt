use Rattle.std.proofs.Common.{subst, Option}
use Rattle.std.specs.Option.{MatchOption}
use Rattle.sy_base.specs.declared.fault.Fault.{Fault}
use Rattle.user_grammar.specs.Fault.{HasNoFault, IsFirstFault}
use Rattle.user_grammar.specs.Made.{plains}
use Rattle.user_grammar.proofs.phase.grammar.Goals as goal

pub made_signature-requires : goal.made_signature-requires
made_signature-requires c =
    let portions = plains c.as_slice.result.now in
    subst (λ ps. HasNoFault (plains ps)) c.as_slice.ensures.value
    (subst (λ (o : Option Fault). MatchOption o (HasNoFault portions) (λ fault. IsFirstFault portions fault.line fault.code fault.detail)) c.in-None.is c.in_ok-fault.ensures)
