use Rattle.rule_schemes.specs.View.{theory}
use Rattle.derivation_text.proofs.FormLemmas.{reads_one, reads_none, reads_two, over, readable}
use Rattle.derivation_text.proofs.reading.scheme_of.Goals as goal

pub read-requires : goal.read-requires
read-requires c = rw (c.no_scope-scope.ensures) (readable (theory c.args.sys.now) c.requires)

pub returns-in-Judgment : goal.returns-in-Judgment
returns-in-Judgment c =
    reads_one (theory c.args.sys.now) c.requires _ _ _ _ _ _ (over (theory c.args.sys.now) _ _ _ _ _ c.sig.ensures c.judgments.ensures c.no_scope-scope.ensures c.in_ok-written.ensures) c.in-One.is c.in-Judgment.is

pub returns-in-NoReading : goal.returns-in-NoReading
returns-in-NoReading c =
    reads_none (theory c.args.sys.now) c.requires _ _ (over (theory c.args.sys.now) _ _ _ _ _ c.sig.ensures c.judgments.ensures c.no_scope-scope.ensures c.in_ok-written.ensures) c.in-NoReading.is

pub returns-in-Ambiguous : goal.returns-in-Ambiguous
returns-in-Ambiguous c =
    reads_two (theory c.args.sys.now) c.requires _ _ _ _ (over (theory c.args.sys.now) _ _ _ _ _ c.sig.ensures c.judgments.ensures c.no_scope-scope.ensures c.in_ok-written.ensures) c.in-Ambiguous.is
