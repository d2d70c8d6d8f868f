use Rattle.std.proofs.Common.{map}
use Rattle.outline_reader.specs.Plain.{plain_form}
use Rattle.sy_base.specs.FirstFault.{OfSome, at_token}
use Rattle.user_grammar.specs.Finding.{IsLeast, SingleOf, portions_of, lent_words}
use Rattle.sy_base.proofs.FirstLemmas.{found_more_seen}
use Rattle.user_grammar.proofs.fault_form.first_single.Goals as goal
use Rattle.binding_terms.proofs.Lists.{whole_taken}

pub loop-form-preserved : goal.loop-form-preserved
loop-form-preserved c =
    found_more_seen at_token lent_words (SingleOf (portions_of c.args.lists.now) c.args.written.now.name.now.text.now) plain_form (λ form. form.now) c.args.written.now.forms.now c.loop-form.form-index _
    c.loop-form.found c.single.result c.earlier-found.result c.loop-form-test.true c.earlier-found.ensures c.loop-form.invariant c.single.ensures

pub returns : goal.returns
returns c =
    whole_taken (λ fs. IsLeast (OfSome (SingleOf (portions_of c.args.lists.now) c.args.written.now.name.now.text.now) (map plain_form (map (λ form. form.now) fs))) c.loop-form.found)
    c.args.written.now.forms.now c.loop-form.form-index c.loop-form-test.false c.loop-form.invariant
