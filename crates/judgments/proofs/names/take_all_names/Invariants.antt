use Rattle.std.proofs.Common.{take, map}
use Rattle.std.specs.Prelude.{flat_map}
use Rattle.proof_lexer.specs.View.{kind_and_text}
use Rattle.judgments.specs.Collected.{AreCollectedFrom, IsLonger}
use Rattle.judgments.proofs.names.take_all_names.Given as goal

abbrev pub invariant-loop-form : goal.invariant-loop-form
invariant-loop-form l = record { collected : AreCollectedFrom l.sig.cats l.initial.metas (flat_map (λ form. map kind_and_text form.now) (take l.form-index l.forms)) l.metas; longer : IsLonger l.initial.metas l.metas }
