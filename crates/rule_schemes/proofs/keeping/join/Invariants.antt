use Rattle.std.proofs.Common.{◌≡◌, ◌↔◌, ◌⊎◌, ◌<◌, ℕ, length}
use Rattle.binding_terms.specs.Reach.{IsMarked}
use Rattle.rule_schemes.proofs.keeping.join.Given as goal

abbrev pub invariant-loop-number : goal.invariant-loop-number
invariant-loop-number l = record {
  end : l.number-end ≡ length l.fn.row;
  long : length l.row ≡ length l.fn.row;
  right : (y : ℕ) → IsMarked l.row y ↔ (IsMarked l.fn.row y ⊎ ((y < l.number) × IsMarked l.more y));
}
