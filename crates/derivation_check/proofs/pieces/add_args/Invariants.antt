use Rattle.std.proofs.Common.{◌≡◌, ◌++◌, map, drop}
use Rattle.binding_terms.specs.View.{tree}
use Rattle.scheme_terms.specs.View.{scheme}
use Rattle.derivation_check.specs.Fitting.{arg_pieces}
use Rattle.derivation_check.specs.Pieces.{piece}
use Rattle.derivation_check.proofs.pieces.add_args.Given as goal

abbrev pub invariant-loop-i : goal.invariant-loop-i
invariant-loop-i l =
    map piece l.pieces.items ++ arg_pieces l.locals (map scheme (drop l.i l.schemes)) (map tree (drop l.i l.terms))
    ≡ map piece l.initial.pieces.items ++ arg_pieces l.locals (map scheme l.schemes) (map tree l.terms)
