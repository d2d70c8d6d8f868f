use Rattle.std.proofs.Common.{◌∙◌, ap, sym, map, drop, append-nil, ◌++◌}
use Rattle.scheme_terms.specs.View.{scheme}
use Rattle.pattern_unify.specs.Equations.{equation}
use Rattle.pattern_unify.specs.Move.{entry_equations}
use Rattle.pattern_unify.proofs.Building.{nothing_past}
use Rattle.pattern_unify.proofs.Ended.{no_entries}
use Rattle.pattern_unify.proofs.rows.entry_equations.Goals as goal

pub returns-then-i-rights : goal.returns-then-i-rights
returns-then-i-rights c =
    sym (append-nil (map equation c.loop-i.all))
    ∙ ap (λ ys. map equation c.loop-i.all ++ ys) (sym (ap (λ xs. entry_equations (map scheme (drop c.loop-i.i c.args.lefts.now)) (map scheme xs))
    (nothing_past c.args.rights.now c.loop-i.i c.if-i-rights.true) ∙ no_entries (map scheme (drop c.loop-i.i c.args.lefts.now))))
    ∙ c.loop-i.invariant
