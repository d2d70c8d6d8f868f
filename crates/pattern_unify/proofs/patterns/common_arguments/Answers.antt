use Rattle.std.proofs.Common.{◌∙◌, ap, sym, map, drop, append-nil, ◌++◌}
use Rattle.scheme_terms.specs.SchemeTree.{values}
use Rattle.scheme_terms.specs.View.{scheme}
use Rattle.pattern_unify.proofs.Building.{nothing_past}
use Rattle.pattern_unify.proofs.Ended.{no_common}
use Rattle.pattern_unify.proofs.patterns.common_arguments.Goals as goal

pub returns-then-i-second : goal.returns-then-i-second
returns-then-i-second c =
    sym (append-nil c.loop-i.marks.items)
    ∙ ap (λ ys. c.loop-i.marks.items ++ ys) (sym (no_common (values (map scheme (drop c.loop-i.i c.args.first.now))) (values (map scheme (drop c.loop-i.i c.args.second.now)))
    (ap (λ xs. values (map scheme xs)) (nothing_past c.args.second.now c.loop-i.i c.if-i-second.true))))
    ∙ c.loop-i.invariant
