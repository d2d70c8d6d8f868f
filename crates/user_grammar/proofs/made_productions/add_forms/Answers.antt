use Rattle.outline_reader.specs.Plain.{plain_form}
use Rattle.user_grammar.proofs.MadeReadings.{forms_more, forms_over}
use Rattle.user_grammar.specs.Indexed.{names_in}
use Rattle.user_grammar.proofs.made_productions.add_forms.Goals as goal

pub loop-form-preserved : goal.loop-form-preserved
loop-form-preserved c = λ var own are.
    forms_more plain_form (λ form. form.now) c.args.forms.now c.loop-form.form-index _ c.args.cats.now (names_in c.args.listed.now) c.args.number.0 _ _ _
    c.loop-form-test.true (c.loop-form.invariant var own are) c.in_ok-add_form.ensures

pub returns : goal.returns
returns c = λ var own are.
    forms_over plain_form (λ form. form.now) c.args.forms.now c.loop-form.form-index c.args.cats.now (names_in c.args.listed.now) c.args.number.0 _ _
    c.loop-form-test.false (c.loop-form.invariant var own are)
