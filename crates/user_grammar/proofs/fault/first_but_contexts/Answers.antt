use Rattle.sy_base.specs.declared.fault.Code.TheVariants.{Duplicate}
use Rattle.user_grammar.specs.File.{categories}
use Rattle.user_grammar.specs.Fault.{IsDuplicate}
use Rattle.sy_base.specs.FirstFault.{Either, OfSome, at_token}
use Rattle.user_grammar.specs.Finding.{AtToken, ShortOf, UnknownContexts, portions_of, lent_words}
use Rattle.user_grammar.specs.FindingPlaces.{InProductions}
use Rattle.sy_base.proofs.FirstLemmas.{found_of_two}
use Rattle.user_grammar.proofs.fault.first_but_contexts.Goals as goal

pub returns : goal.returns
returns c =
    let P = portions_of c.args.names.now.lists in
    let short = OfSome (ShortOf P) (categories P) in
    let unknown = OfSome (UnknownContexts P) P in
    found_of_two at_token lent_words (AtToken Duplicate (IsDuplicate P)) (Either short (Either (InProductions P) unknown)) c.in_ok-duplicate.duplicate c.earlier-rest.result c.earlier.result c.earlier.ensures
    c.in_ok-duplicate.ensures
    (found_of_two at_token lent_words short (Either (InProductions P) unknown) c.first_short-short.result c.earlier-later.result c.earlier-rest.result c.earlier-rest.ensures c.first_short-short.ensures
    (found_of_two at_token lent_words (InProductions P) unknown c.in_ok-token.token c.first_unknown_context-unknown.result c.earlier-later.result c.earlier-later.ensures c.in_ok-token.ensures c.first_unknown_context-unknown.ensures))
