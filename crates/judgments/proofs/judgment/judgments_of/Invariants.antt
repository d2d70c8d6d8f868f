use Rattle.std.proofs.Common.{take, map}
use Rattle.std.specs.List.{AllZip}
use Rattle.outline_reader.specs.Views.{portion_view}
use Rattle.outline_reader.specs.Plain.{outlined, plain_portion}
use Rattle.judgments.specs.Built.{IsBuiltJudgment}
use Rattle.judgments.specs.Texts.{judgments_in}
use Rattle.judgments.proofs.judgment.judgments_of.Given as goal

abbrev pub invariant-loop-portion : goal.invariant-loop-portion
invariant-loop-portion l =
    AllZip (IsBuiltJudgment l.sig (outlined l.outline))
    (judgments_in (map (λ portion. plain_portion (portion_view portion)) (take l.portion-index l.outline.parts.items))) l.all.items
