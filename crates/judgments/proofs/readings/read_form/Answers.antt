use Rattle.rule_schemes.specs.Said.{want_judgment}
use Rattle.notation_parser.specs.View.{reading_scope}
use Rattle.notation_parser.proofs.Readable.{plain_readable}
use Rattle.judgments.proofs.OneReading.{one_answer, no_answer, two_answers}
use Rattle.judgments.proofs.readings.read_form.Goals as goal

pub read-requires : goal.read-requires
read-requires c = plain_readable c.args.sig.now c.args.judgments.now.items (reading_scope c.args.scope.now) want_judgment c.requires

pub returns-in-One : goal.returns-in-One
returns-in-One c =
    one_answer c.args.sig.now c.args.judgments.now.items (reading_scope c.args.scope.now) c.args.form.now c.requires _ _ _ c.as_judgment.result
    (rw c.in-One.is at c.in_ok-written.ensures) c.as_judgment.ensures

pub returns-in-NoReading : goal.returns-in-NoReading
returns-in-NoReading c =
    no_answer c.args.sig.now c.args.judgments.now.items (reading_scope c.args.scope.now) c.args.form.now c.requires (rw c.in-NoReading.is at c.in_ok-written.ensures)

pub returns-in-Ambiguous : goal.returns-in-Ambiguous
returns-in-Ambiguous c =
    two_answers c.args.sig.now c.args.judgments.now.items (reading_scope c.args.scope.now) c.args.form.now c.requires _ _ (rw c.in-Ambiguous.is at c.in_ok-written.ensures)
