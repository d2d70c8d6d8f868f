use Rattle.std.proofs.Common.{◌≤◌, length, map, arith, ap, subst}
use Rattle.std.proofs.lemmas.List.{length-map}
use Rattle.rule_schemes.specs.View.{theory, statement_input}
use Rattle.binding_terms.specs.Signature.{Signature}
use Rattle.scheme_terms.specs.Context.{IsValue}
use Rattle.scheme_terms.specs.View.{context_value}
use Rattle.derivation_check.specs.Pieces.{given_form}
use Rattle.derivation_check.proofs.FitLemmas.{nothing_so_far, all_so_far}
use Rattle.derivation_check.proofs.giving.fits.Goals as goal

pub loop-i-init : goal.loop-i-init
loop-i-init c k h =
    nothing_so_far (theory c.args.sys.now) c.args.statement.now.scope.metas (context_value c.args.ctx.now) (map statement_input c.args.statement.now.inputs) (map given_form c.args.forms.now.items) k h

pub returns : goal.returns
returns c =
    let inputs : length (map statement_input c.args.statement.now.inputs) ≤ c.loop-i.i =
    omega (arith, length-map c.args.statement.now.inputs statement_input, c.len.ensures, c.max-count.ensures, c.loop-i-test.false) in
    let given : length (map given_form c.args.forms.now.items) ≤ c.loop-i.i =
    omega (arith, length-map c.args.forms.now.items given_form, ap length c.as_slice-given.ensures.value, c.max-count.ensures, c.loop-i-test.false) in (
      subst (λ (sig : Signature). IsValue sig c.args.statement.now.scope.root (context_value c.args.ctx.now)) c.sig.ensures (c.in_ok-is_value.ensures.0 c.if-not-branch.false),
      all_so_far (theory c.args.sys.now) c.args.statement.now.scope.metas (context_value c.args.ctx.now) (map statement_input c.args.statement.now.inputs) (map given_form c.args.forms.now.items) c.loop-i.i inputs given
          c.loop-i.invariant,
    )
