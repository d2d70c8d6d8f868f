use Rattle.std.proofs.Common.{map, take}
use Rattle.rule_schemes.specs.Said.{IsBefore}
use Rattle.term_reader.specs.Firsts.{listed, AreFirst}
use Rattle.term_reader.specs.Splitting.{Divided, split, tokens_of}
use Rattle.notation_parser.specs.Forms.{IsReadInSlots}
use Rattle.notation_parser.specs.View.{outcome, reading_scope}
use Rattle.notation_parser.proofs.Several.{InOneOf}
use Rattle.notation_parser.proofs.judgments.open.Given as goal

abbrev pub invariant-loop-split : goal.invariant-loop-split
invariant-loop-split l =
    AreFirst IsBefore
    (InOneOf (λ (d : Divided). IsReadInSlots l.sheet.sig.now (reading_scope l.scope) l.sheet.metas.now (tokens_of l.sheet) l.cat l.number d.1)
    (map split (take l.split-index l.split-items)))
    (listed outcome l.found)
