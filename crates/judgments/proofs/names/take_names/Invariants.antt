use Rattle.std.proofs.Common.{take, map}
use Rattle.proof_lexer.specs.View.{kind_and_text}
use Rattle.judgments.specs.Collected.{AreCollectedFrom, IsLonger}
use Rattle.judgments.proofs.names.take_names.Given as goal

abbrev pub invariant-loop-token : goal.invariant-loop-token
invariant-loop-token l = record { collected : AreCollectedFrom l.sig.cats l.initial.metas (map kind_and_text (take l.token-index l.form)) l.metas; longer : IsLonger l.initial.metas l.metas }
