use Rattle.std.proofs.Common.{arith, ◌≤◌, length}
use Rattle.std.specs.Prelude.{min}
use Rattle.scheme_terms.specs.View.{context_value}
use Rattle.rule_schemes.specs.View.{statement_input}
use Rattle.derivation_check.specs.Pieces.{given_form}
use Rattle.derivation_check.proofs.PieceLists.{no_inputs_left, whole_made}
use Rattle.derivation_check.proofs.pieces.all_pieces.Goals as goal

pub returns : goal.returns
returns c =
    let over : min (length c.args.inputs.now) (length c.args.forms.now) ≤ c.loop-i.i = omega (arith, c.min-count.ensures, c.loop-i-test.false) in
    whole_made _ _ _ (no_inputs_left statement_input given_form (context_value c.args.ctx.now) c.loop-i.i c.args.inputs.now c.args.forms.now over) c.loop-i.invariant
