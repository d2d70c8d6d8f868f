use Rattle.std.proofs.Common.{map}
use Rattle.outline_reader.specs.Plain.{outlined}
use Rattle.rule_schemes.specs.View.{theory, statement as plain_statement}
use Rattle.judgments.proofs.FileStatements.{if_found, are_statements, no_statements}
use Rattle.judgments.proofs.statements.statements_of.Goals as goal

pub returns : goal.returns
returns c =
    let apart = (rw c.as_slice.ensures.value at c.named_apart.ensures).0 c.if-not-named_apart.false in
    if_found _ _ _ _ (no_statements (theory c.args.sys.now) c.requires (outlined c.args.outline.now))
    (λ sts. are_statements (theory c.args.sys.now) c.requires (outlined c.args.outline.now) apart (map plain_statement sts.items)) c.all_stated.result c.all_stated.ensures
