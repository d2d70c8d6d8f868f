use Rattle.std.proofs.Common.{◌↔◌, drop, map}
use Rattle.outline_reader.specs.Views.{portion_view}
use Rattle.outline_reader.specs.Plain.{plain_portion}
use Rattle.judgments.specs.Theory.{AreNamedApart}
use Rattle.judgments.specs.Views.{declares}
use Rattle.judgments.proofs.naming.named_apart.Given as goal

abbrev pub invariant-loop-i : goal.invariant-loop-i
invariant-loop-i l =
    AreNamedApart (declares l.what) (map (λ portion. plain_portion (portion_view portion)) (drop l.i l.portions))
    ↔ AreNamedApart (declares l.what) (map (λ portion. plain_portion (portion_view portion)) l.portions)
