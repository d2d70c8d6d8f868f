use Rattle.std.proofs.Common.{◌↔◌, drop, map}
use Rattle.std.specs.List.{AllByRecursion}
use Rattle.outline_reader.specs.Views.{portion_view}
use Rattle.outline_reader.specs.Plain.{PlainPortion, plain_portion}
use Rattle.judgments.specs.Theory.{AreNamedAlike}
use Rattle.judgments.specs.Views.{declares}
use Rattle.judgments.proofs.naming.is_new.Given as goal

abbrev pub invariant-loop-other : goal.invariant-loop-other
invariant-loop-other l =
    AllByRecursion (λ (q : PlainPortion). AreNamedAlike (declares l.what) (plain_portion (portion_view l.one)) q → ⊥)
    (map (λ portion. plain_portion (portion_view portion)) (drop l.other-index l.others))
    ↔ AllByRecursion (λ (q : PlainPortion). AreNamedAlike (declares l.what) (plain_portion (portion_view l.one)) q → ⊥)
    (map (λ portion. plain_portion (portion_view portion)) l.others)
