use Rattle.std.proofs.Common.{map, drop}
use Rattle.std.specs.List.{AllZip}
use Rattle.outline_reader.specs.Views.{arg_view}
use Rattle.outline_reader.specs.Plain.{plain_argument}
use Rattle.proof_check.specs.Cited.{IsCitedAs}
use Rattle.proof_check.specs.Finding.{Begins}
use Rattle.proof_check.proofs.cited.all_cited.Given as goal

abbrev pub invariant-loop-argument : goal.invariant-loop-argument
invariant-loop-argument l =
    Begins (AllZip (IsCitedAs l.named) (map plain_argument (map arg_view l.arguments)))
    (AllZip (IsCitedAs l.named) (map plain_argument (map arg_view (drop l.argument-index l.arguments)))) (map (λ id. id.0) l.on)
