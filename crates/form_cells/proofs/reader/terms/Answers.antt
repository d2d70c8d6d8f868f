use Rattle.form_cells.proofs.ProductLemmas.{on_ok}
use Rattle.form_cells.proofs.reader.terms.Goals as goal

pub scope_number-requires : goal.scope_number-requires
scope_number-requires c = c.requires.table

pub cell-requires-clause-names : goal.cell-requires-clause-names
cell-requires-clause-names c = c.requires.names

pub cell-requires-clause-table : goal.cell-requires-clause-table
cell-requires-clause-table c = c.in_ok-number.ensures.follows.cells

pub cell-requires-clause-scope : goal.cell-requires-clause-scope
cell-requires-clause-scope c = c.in_ok-number.ensures.number

pub cell-requires-clause-range : goal.cell-requires-clause-range
cell-requires-clause-range c = c.requires.range

pub returns-clause-first : goal.returns-clause-first
returns-clause-first c = c.cell.ensures.first

pub returns-clause-table : goal.returns-clause-table
returns-clause-table c = on_ok c.cell.result _ _ (λ f. f.cells) c.cell.ensures.table
