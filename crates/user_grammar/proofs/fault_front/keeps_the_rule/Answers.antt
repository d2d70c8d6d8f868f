use Rattle.user_grammar.specs.Finding.{portions_of, written_view}
use Rattle.user_grammar.proofs.FaultFronts.{a_variable_breaks, empty_forms_break, another_form_breaks, rule_is}
use Rattle.user_grammar.proofs.fault_front.keeps_the_rule.Goals as goal

pub returns-then-not-none_declares : goal.returns-then-not-none_declares
returns-then-not-none_declares c =
    a_variable_breaks (portions_of c.args.names.now.lists) (written_view c.args.written.now) c.none_declares.result c.none_declares.ensures c.if-not-none_declares.true

pub returns-then-not-one_empty : goal.returns-then-not-one_empty
returns-then-not-one_empty c =
    empty_forms_break (portions_of c.args.names.now.lists) (written_view c.args.written.now) c.one_empty.result c.one_empty.ensures c.if-not-one_empty.true

pub returns-then-not-entries : goal.returns-then-not-entries
returns-then-not-entries c =
    another_form_breaks (portions_of c.args.names.now.lists) (written_view c.args.written.now) c.in_ok-entries.entries c.in_ok-entries.ensures c.if-not-entries.true

pub returns : goal.returns
returns c =
    rule_is (portions_of c.args.names.now.lists) (written_view c.args.written.now) c.in_ok-only.only
    (c.none_declares.ensures.0 c.if-not-none_declares.false) (c.one_empty.ensures.0 c.if-not-one_empty.false) (c.in_ok-entries.ensures.0 c.if-not-entries.false) c.in_ok-only.ensures
