use Rattle.rule_schemes.specs.Said.{IsBefore}
use Rattle.term_reader.specs.Firsts.{listed, AreFirst}
use Rattle.term_reader.specs.Splitting.{tokens_of}
use Rattle.notation_parser.specs.View.{outcome, reading_scope}
use Rattle.notation_parser.proofs.Judging.{IsReadBelow}
use Rattle.notation_parser.proofs.judgments.forms.Given as goal

abbrev pub invariant-loop-k : goal.invariant-loop-k
invariant-loop-k l =
    AreFirst IsBefore (IsReadBelow l.sheet.sig.now l.judgments (reading_scope l.scope) l.sheet.metas.now (tokens_of l.sheet) l.k) (listed outcome l.found)
