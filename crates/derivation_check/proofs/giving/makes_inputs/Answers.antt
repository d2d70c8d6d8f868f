use Rattle.std.proofs.Common.{◌∙◌, map, sym, true≢false, option_map}
use Rattle.binding_terms.specs.View.{tree}
use Rattle.rule_schemes.specs.View.{theory, statement, statement_input}
use Rattle.scheme_terms.specs.View.{context_value}
use Rattle.derivation_check.specs.Pieces.{given_form}
use Rattle.derivation_check.proofs.InputPieces.{inputs_of}
use Rattle.derivation_check.proofs.FitLemmas.{none_asked, one_matches, must_match, candidate_as}
use Rattle.derivation_check.proofs.giving.makes_inputs.Goals as goal

pub returns-then-not-branch : goal.returns-then-not-branch
returns-then-not-branch c =
    let alike = rw c.as_slice-metas.ensures at c.in_ok-are_inputs_alike.ensures in (
      λ h. absurd (true≢false (sym h)),
      λ made. absurd (true≢false (sym (alike.1 made.alike) ∙ c.if-not-branch.true)),
    )

pub returns-in-None : goal.returns-in-None
returns-in-None c =
    let th = theory c.args.sys.now in
    let st = statement c.args.statement.now in
    let alike = rw c.as_slice-metas.ensures at c.in_ok-are_inputs_alike.ensures in
    let none = rw (c.in-None.is, c.as_slice.ensures.value, c.in_ok-pieces.ensures) at c.in_ok-values.ensures in (
      λ h. absurd (true≢false (sym h)),
      λ made. absurd (none_asked th c.always_so_far.ensures st.scope (context_value c.args.ctx.now) (map statement_input c.args.inputs.now) (map given_form c.args.forms.now)
          (inputs_of th st (map statement_input c.args.inputs.now) c.requires) (alike.0 c.if-not-branch.false) none.0 none.2.0 none.2.1 made),
    )

pub returns : goal.returns
returns c =
    let th = theory c.args.sys.now in
    let st = statement c.args.statement.now in
    let alike = rw c.as_slice-metas.ensures at c.in_ok-are_inputs_alike.ensures in
    let some = rw (c.in-Some.is, c.as_slice.ensures.value, c.in_ok-pieces.ensures, c.as_slice-metas.ensures) at c.in_ok-values.ensures in
    let all = rw (c.as_slice-2.ensures.value, c.in_ok-pieces.ensures) at c.in_ok-all.ensures in
    let v = context_value c.args.ctx.now in
    let is = map statement_input c.args.inputs.now in
    let xs = map given_form c.args.forms.now in
    let forms = inputs_of th st is c.requires in
    let values = map (option_map tree) c.in-Some.values in
    let same = candidate_as th c.always_so_far.ensures st.scope v is xs forms (alike.0 c.if-not-branch.false) values some c.new.result (context_value c.in_ok-copy_context.field-0) c.new.ensures c.in_ok-copy_context.ensures in (
      λ h. one_matches th c.always_so_far.ensures st.scope v is xs forms (alike.0 c.if-not-branch.false) values some _ same (all.0 h),
      λ made. all.1 (must_match th c.always_so_far.ensures st.scope v is xs forms (alike.0 c.if-not-branch.false) values some _ same made),
    )
