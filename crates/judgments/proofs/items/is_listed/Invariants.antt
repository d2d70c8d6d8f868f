use Rattle.std.proofs.Common.{◌↔◌, drop, map}
use Rattle.outline_reader.specs.Views.{portion_view}
use Rattle.outline_reader.specs.Plain.{plain_portion, outlined}
use Rattle.user_grammar.specs.File.{listed}
use Rattle.user_grammar.specs.Names.{IsAmong}
use Rattle.judgments.proofs.items.is_listed.Given as goal

abbrev pub invariant-loop-portion : goal.invariant-loop-portion
invariant-loop-portion l =
    IsAmong (listed (map (λ portion. plain_portion (portion_view portion)) (drop l.portion-index l.outline.parts.items))) l.text
    ↔ IsAmong (listed (outlined l.outline)) l.text
