use Rattle.std.proofs.Common.{◌≤◌, length, map, arith}
use Rattle.std.proofs.lemmas.List.{take_all}
use Rattle.proof_lexer.specs.View.{kind_and_text}
use Rattle.judgments.proofs.Collecting.{next_form}
use Rattle.judgments.proofs.names.take_given_names.Goals as goal

pub loop-named-preserved : goal.loop-named-preserved
loop-named-preserved c =
    next_form (λ named. map kind_and_text named.form.now) c.args.sig.now.cats c.args.metas.now c.loop-named.metas c.take_names.new.metas c.args.forms.now c.loop-named.named-index _ c.loop-named-test.true
    c.loop-named.invariant c.in_ok-take_names.ensures.collected

pub returns : goal.returns
returns c = let h : length c.args.forms.now ≤ c.loop-named.named-index = omega arith in rw take_all at c.loop-named.invariant
