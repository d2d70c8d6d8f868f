use Rattle.std.proofs.Common.{◌≡◌, ◌≤◌, ◌==◌, take}
use Rattle.std.specs.Prelude.{count_by}
use Rattle.binding_terms.specs.Signature.{slots}
use Rattle.notation_parser.proofs.judgments.is_once.Given as goal

abbrev pub invariant-loop-item : goal.invariant-loop-item
invariant-loop-item l = (l.count ≡ count_by (λ s. s.cat == l.cat.0) (slots (take l.item-index l.items))) × (l.count ≤ l.item-index)
