use Rattle.std.proofs.Common.{take, map}
use Rattle.std.specs.List.{AllZip}
use Rattle.proof_lexer.specs.View.{token_view}
use Rattle.outline_reader.specs.Plain.{outlined}
use Rattle.judgments.specs.Theory.{IsItemOf}
use Rattle.judgments.proofs.items.items_of.Given as goal

abbrev pub invariant-loop-token : goal.invariant-loop-token
invariant-loop-token l =
    AllZip (IsItemOf l.sig (outlined l.outline)) (map token_view (take l.token-index l.form)) l.all
