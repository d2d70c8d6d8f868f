use Rattle.std.proofs.Common.{◌↔◌, drop}
use Rattle.binding_terms.specs.View.{args_tree}
use Rattle.scheme_terms.specs.SchemeTree.{SchemeTree}
use Rattle.scheme_terms.specs.Demands.{PartsDemand}
use Rattle.scheme_terms.specs.Embedding.{embedded_args}
use Rattle.scheme_terms.specs.View.{scheme_parts}
use Rattle.scheme_terms.proofs.demand.+demanded_term.Given as goal

abbrev pub invariant-demanded_in_terms-loop-i : goal.invariant-demanded_in_terms-loop-i
invariant-demanded_in_terms-loop-i l =
    (v : SchemeTree) → PartsDemand l.m.0 l.locals (scheme_parts (drop l.i l.patterns)) (embedded_args (args_tree (drop l.i l.targets))) v
    ↔ PartsDemand l.m.0 l.locals (scheme_parts l.patterns) (embedded_args (args_tree l.targets)) v
