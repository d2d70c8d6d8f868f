use Rattle.std.proofs.Common.{IsFalse, map, take}
use Rattle.std.specs.List.{AllByRecursion}
use Rattle.term_reader.specs.View.{token}
use Rattle.derivation_text.specs.Forms.{is_reserved_token}
use Rattle.derivation_text.proofs.node.cut.Given as goal

abbrev pub invariant-loop-i : goal.invariant-loop-i
invariant-loop-i l = AllByRecursion (λ t. IsFalse (is_reserved_token t)) (map token (take l.i l.tokens))
