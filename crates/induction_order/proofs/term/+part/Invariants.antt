use Rattle.std.proofs.Common.{◌↔◌, drop}
use Rattle.scheme_terms.specs.View.{scheme, scheme_parts}
use Rattle.induction_order.specs.Binders.{count}
use Rattle.induction_order.specs.Renaming.{HasRenamedAmong}
use Rattle.induction_order.proofs.term.+part.Given as goal

abbrev pub invariant-has_renamed_among-loop-part : goal.invariant-has_renamed_among-loop-part
invariant-has_renamed_among-loop-part l =
    HasRenamedAmong (count l.outer) (scheme l.arg) (scheme_parts (drop l.part-index l.parts))
    ↔ HasRenamedAmong (count l.outer) (scheme l.arg) (scheme_parts l.parts)
