use Rattle.proof_lexer.specs.View.{token_view}
use Rattle.outline_reader.specs.Plain.{plain_form}
use Rattle.user_grammar.specs.Finding.{portions_of}
use Rattle.user_grammar.proofs.FaultNames.{none_yet, variables_more_seen}
use Rattle.user_grammar.proofs.fault_names.variables.Goals as goal

pub loop-form-init : goal.loop-form-init
loop-form-init c = none_yet (portions_of c.args.lists.now) (λ name. token_view name.now) c.new-all.result.items c.new-all.ensures.items

pub loop-form-preserved : goal.loop-form-preserved
loop-form-preserved c =
    variables_more_seen (portions_of c.args.lists.now) plain_form (λ form. form.now) c.args.forms.now c.loop-form.form-index _ _ _ _ c.loop-form-test.true c.loop-form.invariant
    c.in_ok-add_variable.ensures.2 c.in_ok-add_variable.ensures.1
