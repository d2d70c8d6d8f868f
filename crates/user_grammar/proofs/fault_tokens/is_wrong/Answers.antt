use Rattle.std.proofs.Common.{◌↔◌, IsTrue, false, map, reverse, sym, subst}
use Rattle.proof_lexer.specs.View.{token_view}
use Rattle.outline_reader.specs.Plain.{plain_form}
use Rattle.user_grammar.specs.Fault.{before_word}
use Rattle.user_grammar.specs.Finding.{portions_of}
use Rattle.user_grammar.specs.FindingPlaces.{IsWrongAt, step_view}
use Rattle.user_grammar.proofs.FaultTokens.{never_wrong, wrong_by_binders}
use Rattle.user_grammar.proofs.fault_tokens.is_wrong.Goals as goal

pub returns-in-Outside : goal.returns-in-Outside
returns-in-Outside c = λ form are.
    let words = reverse (map (λ word. word.now) c.args.walk.now.named.items) in
    subst (λ s. IsTrue false ↔ IsWrongAt (portions_of c.args.names.now.lists) form (plain_form c.args.rest.now) (step_view s words) (token_view c.args.token.now)) (sym c.in-Outside.is)
    (never_wrong (portions_of c.args.names.now.lists) form (plain_form c.args.rest.now) (token_view c.args.token.now))

pub returns-in-BehindSlot : goal.returns-in-BehindSlot
returns-in-BehindSlot c = λ form are.
    let words = reverse (map (λ word. word.now) c.args.walk.now.named.items) in
    subst (λ s. IsTrue c.is_wrong_opening.result ↔ IsWrongAt (portions_of c.args.names.now.lists) form (plain_form c.args.rest.now) (step_view s words) (token_view c.args.token.now)) (sym c.in-BehindSlot.is)
    c.is_wrong_opening.ensures

pub returns-in-BeforeWord : goal.returns-in-BeforeWord
returns-in-BeforeWord c = λ form are.
    subst (λ s. IsTrue c.is_wrong_name.result ↔ IsWrongAt (portions_of c.args.names.now.lists) form (plain_form c.args.rest.now) (step_view s (reverse (map (λ word. word.now) c.args.walk.now.named.items))) (token_view c.args.token.now)) (sym c.in-BeforeWord.is)
    (subst (λ named. IsTrue c.is_wrong_name.result ↔ IsWrongAt (portions_of c.args.names.now.lists) form (plain_form c.args.rest.now) (before_word (reverse (map (λ word. word.now) named))) (token_view c.args.token.now)) c.as_slice.ensures.value
    (wrong_by_binders c.is_wrong_name.result (are.are (token_view c.args.token.now).text) c.is_wrong_name.ensures))

pub returns-in-BehindWord : goal.returns-in-BehindWord
returns-in-BehindWord c = λ form are.
    let words = reverse (map (λ word. word.now) c.args.walk.now.named.items) in
    subst (λ s. IsTrue c.is_wrong_comma.result ↔ IsWrongAt (portions_of c.args.names.now.lists) form (plain_form c.args.rest.now) (step_view s words) (token_view c.args.token.now)) (sym c.in-BehindWord.is)
    c.is_wrong_comma.ensures
