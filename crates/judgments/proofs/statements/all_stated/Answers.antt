use Rattle.std.proofs.Common.{map}
use Rattle.std.proofs.lemmas.List.{take_rest}
use Rattle.outline_reader.specs.Views.{portion_view}
use Rattle.outline_reader.specs.Plain.{plain_portion}
use Rattle.rule_schemes.specs.View.{theory, statement as plain_statement}
use Rattle.judgments.specs.Built.{IsBuiltTheorem}
use Rattle.judgments.proofs.FileStatements.{next_stated, no_theorems}
use Rattle.judgments.proofs.statements.all_stated.Goals as goal
use Rattle.binding_terms.proofs.Lists.{map_append}

pub returns-in-None : goal.returns-in-None
returns-in-None c =
    rw (← c.as_slice-portions.ensures.value)
    (no_theorems (λ portion. plain_portion (portion_view portion)) (IsBuiltTheorem (theory c.args.sys.now)) c.as_slice-portions.result.now c.loop-i.i c.index-portions-i.result c.loop-i-test.true
    c.loop-i.groups (map plain_statement c.loop-i.all.items) c.loop-i.invariant (rw (c.in-None.is, c.index-portions-i.is, take_rest) at c.in_ok-more.ensures))

pub loop-i-preserved : goal.loop-i-preserved
loop-i-preserved c =
    rw (c.in_ok-join-in-Some.ensures, map_append plain_statement c.loop-i.all.items c.in-Some.more.items)
    (next_stated (λ portion. plain_portion (portion_view portion)) (IsBuiltTheorem (theory c.args.sys.now)) c.as_slice-portions.result.now c.loop-i.i c.index-portions-i.result c.loop-i-test.true
    c.loop-i.groups c.in_ok-groups.groups (map plain_statement c.loop-i.all.items) (map plain_statement c.in-Some.more.items) (rw c.index-portions-i.is at c.in_ok-groups.ensures) c.loop-i.invariant
    (rw (c.in-Some.is, c.index-portions-i.is, take_rest) at c.in_ok-more.ensures))
