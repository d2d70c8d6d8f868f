use Rattle.std.proofs.Common.{take, map}
use Rattle.std.specs.Prelude.{flat_map}
use Rattle.proof_lexer.specs.View.{kind_and_text}
use Rattle.judgments.specs.Collected.{AreCollectedFrom}
use Rattle.judgments.proofs.names.take_given_names.Given as goal

abbrev pub invariant-loop-named : goal.invariant-loop-named
invariant-loop-named l = AreCollectedFrom l.sig.cats l.initial.metas (flat_map (λ named. map kind_and_text named.form.now) (take l.named-index l.forms)) l.metas
