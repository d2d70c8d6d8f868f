use Rattle.std.proofs.Common.{◌≡◌, ◌∷◌, ◌++◌, map, take}
use Rattle.form_cells.proofs.form.add_before.Given as goal

abbrev pub invariant-loop-rest : goal.invariant-loop-rest
invariant-loop-rest l = l.all ≡ l.fn.all ++ map (λ own. l.first ∷ own) (take l.rest-index l.more)
