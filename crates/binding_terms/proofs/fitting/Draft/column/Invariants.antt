use Rattle.std.proofs.Common.{◌≡◌, ℕ, length, not}
use Rattle.std.specs.List.{count_by}
use Rattle.binding_terms.specs.Draft.{drafted}
use Rattle.binding_terms.specs.Reach.{IsMarked}
use Rattle.binding_terms.specs.Signature.{HasVariable, Reaches}
use Rattle.binding_terms.proofs.fitting.Draft.column.Given as goal

abbrev pub invariant-loop-cat : goal.invariant-loop-cat
invariant-loop-cat l = record {
  long : length l.marks.items ≡ length l.self.cats.now;
  start : HasVariable (drafted l.self) l.to → IsMarked l.marks.items l.to;
  sound : (from : ℕ) → IsMarked l.marks.items from → Reaches (drafted l.self) from l.to;
}

-- the categories without a mark
abbrev pub decreases-loop-cat : goal.decreases-loop-cat
decreases-loop-cat l = count_by not l.marks.items
