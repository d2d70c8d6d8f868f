use Rattle.std.proofs.Common.{◌++◌, ap, ◌∙◌}
use Rattle.form_cells.specs.View.{in_scope}
use Rattle.cell_reader.proofs.KnownWords.{scope_both}
use Rattle.cell_reader.proofs.knowns.with_knowns.Goals as goal

pub returns : goal.returns
returns c =
    ap in_scope (c.in_ok-append.ensures ∙ ap (λ xs. xs ++ c.in_ok-from_slice.field-0) c.in_ok-all.ensures ∙ ap (λ ys. c.args.knowns.now ++ ys) c.in_ok-from_slice.ensures)
    ∙ scope_both c.args.knowns.now c.args.own.now
