use Rattle.std.proofs.Common.{map}
use Rattle.binding_terms.specs.View.{tree}
use Rattle.binding_terms.proofs.Filling.{under_none}
use Rattle.scheme_terms.specs.Instance.{argument_or_root}
use Rattle.scheme_terms.proofs.Lists.{without_arguments}
use Rattle.scheme_terms.proofs.instantiate.put_in.Goals as goal

pub returns-then-args-eq0 : goal.returns-then-args-eq0
returns-then-args-eq0 c = rw (without_arguments c.args.args.now c.args.locals (tree c.args.value.now) c.if-args-eq0.true) at c.raise.ensures

pub returns : goal.returns
returns c = rw (under_none (argument_or_root c.args.locals (map tree c.args.args.now))) at c.fill.ensures
