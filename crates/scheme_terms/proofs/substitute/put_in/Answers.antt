use Rattle.std.proofs.Common.{map}
use Rattle.scheme_terms.specs.Substituting.{argument_or_local}
use Rattle.scheme_terms.specs.View.{scheme}
use Rattle.scheme_terms.proofs.SchemeFilling.{under_none}
use Rattle.scheme_terms.proofs.substitute.put_in.Goals as goal

pub returns : goal.returns
returns c = rw (under_none (argument_or_local c.args.locals (map scheme c.args.args.now))) at c.fill.ensures
