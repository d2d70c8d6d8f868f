use Rattle.form_readings.proofs.TreeLemmas.{known_kept}
use Rattle.form_readings.proofs.contexts.+contexts.Goals as goal

pub context_of-returns-in_ok-args-in-Meta : goal.context_of-returns-in_ok-args-in-Meta
context_of-returns-in_ok-args-in-Meta t c =
    rw (c.in-Made.is, c.in-Meta.is, known_kept c.args.cat c.args.name.now c.in-Made.field-0 c.in-Meta.p c.in-Made.slots)
    (rw (c.in_ok-args-in-Meta.ensures) at c.known_context.ensures)
