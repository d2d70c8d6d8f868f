use Rattle.std.proofs.Common.{◌↔◌, IsTrue, subst}
use Rattle.user_grammar.specs.Fault.{IsSpelledAs}
use Rattle.user_grammar.specs.Finding.{declaration_view}
use Rattle.user_grammar.proofs.FaultDeclared.{common_by_second}
use Rattle.user_grammar.proofs.fault_declared.have_common.Goals as goal

pub returns : goal.returns
returns c =
    let one = declaration_view c.args.one.now in let other = declaration_view c.args.other.now in
    common_by_second one other c.is_spelled_as.result c.is_spelled_as-2.result
    (subst (λ w. IsTrue c.is_spelled_as.result ↔ IsSpelledAs one w) c.as_bytes.ensures.value c.is_spelled_as.ensures)
    (subst (λ w. IsTrue c.is_spelled_as-2.result ↔ IsSpelledAs other w) c.as_bytes-2.ensures.value c.is_spelled_as-2.ensures)
    c.if-is_spelled_as.false
