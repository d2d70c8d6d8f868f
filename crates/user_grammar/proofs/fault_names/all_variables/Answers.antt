use Rattle.std.proofs.Common.{map, ap, ◌∙◌, ◌++◌}
use Rattle.std.proofs.lemmas.List.{map-append}
use Rattle.proof_lexer.specs.View.{token_view}
use Rattle.user_grammar.specs.Finding.{portions_of}
use Rattle.user_grammar.proofs.FaultNames.{none_yet, all_variables_more}
use Rattle.user_grammar.proofs.fault_names.all_variables.Goals as goal

pub loop-written-init : goal.loop-written-init
loop-written-init c = none_yet (portions_of c.args.lists.now) (λ name. token_view name.now) c.new-all.result.items c.new-all.ensures.items

pub loop-written-preserved : goal.loop-written-preserved
loop-written-preserved c =
    all_variables_more (portions_of c.args.lists.now) c.args.lists.now.categories.now c.loop-written.written-index _ _ _ _ c.loop-written-test.true
    c.loop-written.invariant c.in_ok-own.ensures
    (ap (map (λ name. token_view name.now)) (c.in_ok-extend_from_slice.ensures.items ∙ ap (λ xs. c.loop-written.all.items ++ xs) c.as_slice.ensures.value) ∙ map-append (λ name. token_view name.now) c.loop-written.all.items c.in_ok-own.own.items)
