use Rattle.form_raising.proofs.PlacedForms.{form_is}
use Rattle.form_raising.proofs.placing.form_in.Goals as goal

pub returns : goal.returns
returns c = form_is c.args.ctx.now c.args.by.now c.args.form.now c.in_ok-front.front c.in_ok-entries.entries c.root_of.result c.in_ok-args.args c.in_ok-front.ensures (rw c.as_slice.ensures at c.in_ok-entries.ensures) c.root_of.ensures (rw (c.as_slice-2.ensures, c.as_slice-3.ensures) at c.in_ok-args.ensures)
