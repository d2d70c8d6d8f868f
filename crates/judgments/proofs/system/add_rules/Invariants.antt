use Rattle.std.proofs.Common.{◌≡◌, take, map}
use Rattle.outline_reader.specs.Views.{portion_view}
use Rattle.outline_reader.specs.Plain.{plain_portion}
use Rattle.rule_schemes.specs.View.{theory}
use Rattle.judgments.specs.Built.{HasRulesOf}
use Rattle.judgments.specs.Texts.{rules_in}
use Rattle.judgments.proofs.SystemLemmas.{blocks}
use Rattle.judgments.proofs.system.add_rules.Given as goal

abbrev pub invariant-loop-portion : goal.invariant-loop-portion
invariant-loop-portion l = record {
  block : l.block ≡ blocks 0 (map (λ portion. plain_portion (portion_view portion)) (take l.portion-index l.outline.parts.items));
  rules : HasRulesOf (theory l.initial.sys) (rules_in 0 (map (λ portion. plain_portion (portion_view portion)) (take l.portion-index l.outline.parts.items))) (theory l.sys);
}
