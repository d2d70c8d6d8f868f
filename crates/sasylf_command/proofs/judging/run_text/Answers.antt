use Rattle.std.proofs.Common.{◌∙◌}
use Rattle.std.specs.Prelude.{IsTrue}
use Rattle.sasylf_command.proofs.Judged.{fits_at, makes_text}
use Rattle.sasylf_command.proofs.judging.run_text.Goals as goal

pub run-requires-clause-inputs : goal.run-requires-clause-inputs
run-requires-clause-inputs c =
    let given = c.if-not-branch.false in
    let yes : IsTrue c.in_ok-instantiates.field-0 = cc in
    rw c.new.ensures (fits_at _ _ _ yes c.in_ok-instantiates.ensures)

pub returns : goal.returns
returns c st here =
    let told = rw here at c.in_ok-instantiates.ensures in
    let given = c.if-not-branch.false in
    let yes : IsTrue c.in_ok-instantiates.field-0 = cc in
    let fits = told.0 yes in
    let text_is = c.in_ok-from_slice.ensures.items ∙ c.bytes.ensures ∙ rw c.system-2.ensures at c.in_ok-text.ensures in (
      fits,
      makes_text c.args.accepted.now c.args.theorem.0 st _ here _ _ (rw c.new.ensures at c.in_ok-made.ensures.value) text_is,
    )
