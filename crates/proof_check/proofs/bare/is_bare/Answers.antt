use Rattle.proof_check.proofs.BareLemmas.{bare_by_parts}
use Rattle.proof_check.proofs.bare.is_bare.Goals as goal

pub returns : goal.returns
returns c = bare_by_parts c.args.sig.now _ _ _ c.cats.ensures.value c.prods.ensures.value c.have_bare_parts.ensures
