use Rattle.std.proofs.Common.{◌≡◌, map, take}
use Rattle.scheme_terms.specs.View.{scheme_entry}
use Rattle.notation_parser.proofs.contexts.copy_context.Given as goal

abbrev pub invariant-loop-entry : goal.invariant-loop-entry
invariant-loop-entry l = map scheme_entry l.entries ≡ map scheme_entry (take l.entry-index l.context.ctx.entries)
