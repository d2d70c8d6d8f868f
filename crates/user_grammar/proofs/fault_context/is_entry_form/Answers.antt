use Rattle.user_grammar.specs.Finding.{portions_of, written_view}
use Rattle.user_grammar.proofs.FaultContexts.{entry_no_word, entry_no_binder, entry_by}
use Rattle.user_grammar.proofs.fault_context.is_entry_form.Goals as goal

pub returns-then-not-is_word_of : goal.returns-then-not-is_word_of
returns-then-not-is_word_of c =
    let P = portions_of c.args.names.now.lists in
    entry_no_word P (written_view c.args.written.now) c.args.form.now _ c.is_word_of.result c.in-len1-up.len_at_least (c.is_word_of.ensures P) c.if-not-is_word_of.true

pub returns-then-not-one_binder : goal.returns-then-not-one_binder
returns-then-not-one_binder c =
    entry_no_binder (portions_of c.args.names.now.lists) (written_view c.args.written.now) c.args.form.now c.one_binder.result c.in-len1-up.len_at_least c.one_binder.ensures c.if-not-one_binder.true

pub returns : goal.returns
returns c =
    let P = portions_of c.args.names.now.lists in
    entry_by P (written_view c.args.written.now) c.args.form.now _ c.in_ok-none.none c.in-len1-up.len_at_least ((c.is_word_of.ensures P).0 c.if-not-is_word_of.false)
    (c.one_binder.ensures.0 c.if-not-one_binder.false) c.in_ok-none.ensures
