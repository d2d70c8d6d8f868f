use Rattle.std.proofs.Common.{map}
use Rattle.user_grammar.specs.Finding.{declaration_view}
use Rattle.user_grammar.proofs.Tests.{refused}
use Rattle.user_grammar.proofs.FaultDeclared.{common_more, common_same}
use Rattle.user_grammar.proofs.fault_declared.common_found.Goals as goal

pub returns-then-has_common : goal.returns-then-has_common
returns-then-has_common c =
    common_more (map declaration_view c.args.before.now) (declaration_view c.args.declaration.now) c.at_token.result c.args.found c.earlier.result
    (c.has_common.ensures.0 c.if-has_common.true) c.at_token.ensures c.earlier.ensures

pub returns : goal.returns
returns c =
    common_same (map declaration_view c.args.before.now) (declaration_view c.args.declaration.now) c.args.found (refused c.has_common.result c.has_common.ensures c.if-has_common.false)
