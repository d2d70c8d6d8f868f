use Rattle.std.proofs.Common.{arith}
use Rattle.form_cells.proofs.ProductLemmas.{on_ok}
use Rattle.form_cells.proofs.reader.rows.Goals as goal

pub scope_number-requires : goal.scope_number-requires
scope_number-requires c = c.requires.table

pub row-requires-clause-table : goal.row-requires-clause-table
row-requires-clause-table c = c.in_ok-number.ensures.follows.cells

pub row-requires-clause-scope : goal.row-requires-clause-scope
row-requires-clause-scope c = c.in_ok-number.ensures.number

pub row-requires-clause-items : goal.row-requires-clause-items
row-requires-clause-items c = (c.requires.items, omega arith)

pub row-requires-clause-not_single : goal.row-requires-clause-not_single
row-requires-clause-not_single c = c.requires.not_single

pub returns-clause-first : goal.returns-clause-first
returns-clause-first c = c.row.ensures.first

pub returns-clause-table : goal.returns-clause-table
returns-clause-table c = on_ok c.row.result _ _ (λ f. f.cells) c.row.ensures.table
