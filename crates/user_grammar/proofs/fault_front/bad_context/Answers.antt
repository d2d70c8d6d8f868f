use Rattle.std.proofs.Common.{◌↔◌, IsTrue, subst}
use Rattle.user_grammar.specs.Names.{IsAmong}
use Rattle.user_grammar.specs.Finding.{portions_of, written_view}
use Rattle.user_grammar.specs.Indexed.{names_in}
use Rattle.user_grammar.proofs.FaultNames.{by_same}
use Rattle.user_grammar.proofs.Tests.{refused}
use Rattle.user_grammar.proofs.FaultFronts.{not_assumed, rule_kept, rule_broken}
use Rattle.user_grammar.proofs.fault_front.bad_context.Goals as goal

pub returns-then-not-has_name : goal.returns-then-not-has_name
returns-then-not-has_name c =
    not_assumed (portions_of c.args.names.now.lists) (written_view c.args.written.now) c.has_name.result
    (by_same c.has_name.result (subst (λ word. IsTrue c.has_name.result ↔ IsAmong (names_in c.args.contexts.now) word) c.as_bytes.ensures.value c.has_name.ensures)
    (c.requires.contexts (written_view c.args.written.now).name.text))
    c.if-not-has_name.true

pub returns-then-keeps : goal.returns-then-keeps
returns-then-keeps c = rule_kept (portions_of c.args.names.now.lists) (written_view c.args.written.now) (c.in_ok-keeps.ensures.0 c.if-keeps.true)

pub returns : goal.returns
returns c =
    rule_broken (portions_of c.args.names.now.lists) (written_view c.args.written.now) c.named_at.result c.named_at.ensures
    ((c.requires.contexts (written_view c.args.written.now).name.text).0
    (subst (IsAmong (names_in c.args.contexts.now)) c.as_bytes.ensures.value (c.has_name.ensures.0 c.if-not-has_name.false)))
    (refused c.in_ok-keeps.keeps c.in_ok-keeps.ensures c.if-keeps.false)
