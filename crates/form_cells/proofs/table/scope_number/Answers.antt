use Rattle.std.proofs.Common.{refl}
use Rattle.form_cells.proofs.TableLemmas.{scopes_grow}
use Rattle.form_cells.proofs.table.scope_number.Goals as goal

pub returns-clause-follows : goal.returns-clause-follows
returns-clause-follows c = scopes_grow c.args.sheet.now c.args.table.now _ c.in_ok-from_slice.field-0 refl refl c.in_ok-push.ensures.ok c.requires
