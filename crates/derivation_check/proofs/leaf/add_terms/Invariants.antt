use Rattle.std.proofs.Common.{◌≡◌, map, drop}
use Rattle.std.specs.List.{AllZip}
use Rattle.binding_terms.specs.View.{tree}
use Rattle.scheme_terms.specs.View.{scheme}
use Rattle.scheme_match.specs.Matching.{TermsFit}
use Rattle.derivation_check.specs.Pairs.{with_terms}
use Rattle.derivation_check.proofs.leaf.add_terms.Given as goal

abbrev pub invariant-loop-i : goal.invariant-loop-i
invariant-loop-i l =
    (with_terms l.matcher (map scheme (drop l.i l.schemes)) (map tree (drop l.i l.terms)) ≡ with_terms l.initial.matcher (map scheme l.schemes) (map tree l.terms))
    × AllZip (λ s t. TermsFit l.matcher.sig l.matcher.metas l.matcher.root 0 s t) (map scheme (drop l.i l.schemes)) (map tree (drop l.i l.terms))
