use Rattle.sy_base.specs.declared.fault.Code.TheVariants.{EmptyProduction}
use Rattle.sy_base.specs.FirstFault.{OfSome, at_token}
use Rattle.user_grammar.specs.Finding.{AtToken, IsEmptyOf, SingleOf, portions_of, written_view, lent_words}
use Rattle.sy_base.proofs.FirstLemmas.{found_of_two}
use Rattle.user_grammar.proofs.fault_form.short.Goals as goal

pub returns : goal.returns
returns c =
    let written = written_view c.args.written.now in
    found_of_two at_token lent_words (AtToken EmptyProduction (IsEmptyOf written)) (OfSome (SingleOf (portions_of c.args.lists.now) written.name.text) written.forms)
    c.empty_production.result c.first_single.result c.earlier.result c.earlier.ensures c.empty_production.ensures c.first_single.ensures
