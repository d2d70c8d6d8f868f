use Rattle.form_raising.proofs.PlacedForms.{applied_is}
use Rattle.form_raising.proofs.placing.applied_judgment.Goals as goal

pub returns : goal.returns
returns c = applied_is c.args.by.now c.args.form.now c.in_ok-entries.entries c.in_ok-args.args (rw (c.as_slice.ensures, c.new.ensures) at c.in_ok-entries.ensures) (rw (c.as_slice-2.ensures, c.as_slice-3.ensures) at c.in_ok-args.ensures)
