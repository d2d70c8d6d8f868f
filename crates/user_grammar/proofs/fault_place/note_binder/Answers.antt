use Rattle.std.proofs.Common.{subst}
use Rattle.proof_lexer.specs.View.{token_view}
use Rattle.user_grammar.specs.Finding.{portions_of}
use Rattle.user_grammar.specs.FindingPlaces.{walk_view}
use Rattle.user_grammar.specs.Indexed.{IsAdded, names_in}
use Rattle.user_grammar.proofs.Tests.{refused}
use Rattle.user_grammar.proofs.FaultTokens.{no_binder_more, one_binder_more}
use Rattle.user_grammar.proofs.NameIndexes.{added_among}
use Rattle.user_grammar.proofs.fault_place.note_binder.Goals as goal

pub returns-then-not-is_outside : goal.returns-then-not-is_outside
returns-then-not-is_outside c = λ front at are.
    no_binder_more (portions_of c.args.names.now.lists) front (walk_view c.args.walk.now) (token_view c.args.token.now) _ at
    (λ out word. refused c.is_outside.result c.is_outside.ensures c.if-not-is_outside.true out) are

pub returns-then-not-is_binder_word : goal.returns-then-not-is_binder_word
returns-then-not-is_binder_word c = λ front at are.
    no_binder_more (portions_of c.args.names.now.lists) front (walk_view c.args.walk.now) (token_view c.args.token.now) _ at
    (λ out word. refused c.is_binder_word.result c.is_binder_word.ensures c.if-not-is_binder_word.true word) are

pub returns : goal.returns
returns c = λ front at are.
    let old = names_in c.args.all.now in
    let new = names_in c.add_name.new.index in
    let added = subst (λ name. IsAdded old name new) c.as_bytes.ensures.value c.in_ok-add_name.ensures in
    one_binder_more (portions_of c.args.names.now.lists) front (walk_view c.args.walk.now) (token_view c.args.token.now) old new at
    (c.is_outside.ensures.0 c.if-not-is_outside.false) (c.is_binder_word.ensures.0 c.if-not-is_binder_word.false)
    (λ word. added_among old (token_view c.args.token.now).text new added word) are
