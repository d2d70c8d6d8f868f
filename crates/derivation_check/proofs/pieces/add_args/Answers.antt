use Rattle.std.proofs.Common.{arith, ◌≤◌, length}
use Rattle.std.specs.Prelude.{min}
use Rattle.binding_terms.specs.View.{tree}
use Rattle.scheme_terms.specs.View.{scheme}
use Rattle.derivation_check.proofs.PieceLists.{no_args_left, whole_made}
use Rattle.derivation_check.proofs.pieces.add_args.Goals as goal

pub returns : goal.returns
returns c =
    let over : min (length c.args.schemes.now) (length c.args.terms.now) ≤ c.loop-i.i = omega (arith, c.min-count.ensures, c.loop-i-test.false) in
    whole_made _ _ _ (no_args_left scheme tree c.args.locals c.loop-i.i c.args.schemes.now c.args.terms.now over) c.loop-i.invariant
