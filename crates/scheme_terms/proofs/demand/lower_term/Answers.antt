use Rattle.std.proofs.Common.{map, sym}
use Rattle.std.proofs.lemmas.List.{length-map}
use Rattle.scheme_terms.specs.View.{scheme}
use Rattle.scheme_terms.proofs.Parameters.{lowered_term}
use Rattle.scheme_terms.proofs.demand.lower_term.Goals as goal

pub returns : goal.returns
returns c =
    lowered_term (map scheme c.args.args.now) c.args.locals _ _ _ _ (sym (length-map c.args.args.now scheme)) c.in_ok-parameters.ensures
    (rw c.as_slice.ensures.value at c.in_ok-value.ensures)
