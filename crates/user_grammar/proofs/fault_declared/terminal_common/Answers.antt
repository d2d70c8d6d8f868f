use Rattle.std.proofs.Common.{◌↔◌, IsTrue, ap, map, subst}
use Rattle.binding_terms.specs.Numbered.{AnyByRecursion}
use Rattle.user_grammar.specs.Finding.{HaveCommon, declaration_view, sort_view}
use Rattle.user_grammar.proofs.FaultSeen.{seen_listed, seen_spelled}
use Rattle.user_grammar.proofs.fault_declared.terminal_common.Goals as goal

pub returns-then-has_name : goal.returns-then-has_name
returns-then-has_name c =
    let d = declaration_view c.args.declaration.now in
    seen_listed d.sort d.token c.args.seen.now c.has_name.result c.as_bytes.result.now (ap sort_view c.requires) c.as_bytes.ensures.value c.has_name.ensures c.if-has_name.true

pub returns : goal.returns
returns c =
    let d = declaration_view c.args.declaration.now in
    seen_spelled d.sort d.token c.args.seen.now c.has_name.result c.some_common.result c.as_bytes.result.now (ap sort_view c.requires) c.as_bytes.ensures.value c.has_name.ensures
    c.if-has_name.false
    (subst (λ ds. IsTrue c.some_common.result ↔ AnyByRecursion (λ e. HaveCommon e (declaration_view c.args.declaration.now)) (map declaration_view ds)) c.as_slice.ensures.value c.some_common.ensures)
