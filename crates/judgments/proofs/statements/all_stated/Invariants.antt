use Rattle.std.proofs.Common.{drop, map}
use Rattle.outline_reader.specs.Views.{portion_view}
use Rattle.outline_reader.specs.Plain.{plain_portion}
use Rattle.rule_schemes.specs.View.{theory, statement as plain_statement}
use Rattle.judgments.specs.Built.{IsBuiltTheorem}
use Rattle.judgments.proofs.FileStatements.{AreStated}
use Rattle.judgments.proofs.statements.all_stated.Given as goal

abbrev pub invariant-loop-i : goal.invariant-loop-i
invariant-loop-i l =
    AreStated (λ portion. plain_portion (portion_view portion)) (IsBuiltTheorem (theory l.sys)) l.portions l.groups (drop l.i l.portions) (map plain_statement l.all.items)
