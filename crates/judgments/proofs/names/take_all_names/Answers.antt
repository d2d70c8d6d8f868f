use Rattle.std.proofs.Common.{◌≤◌, length, map, arith}
use Rattle.std.proofs.lemmas.List.{take_all}
use Rattle.proof_lexer.specs.View.{kind_and_text}
use Rattle.judgments.proofs.Collecting.{next_form, longer_again}
use Rattle.judgments.proofs.names.take_all_names.Goals as goal

pub loop-form-preserved : goal.loop-form-preserved
loop-form-preserved c = record {
  collected = next_form (λ form. map kind_and_text form.now) c.args.sig.now.cats c.args.metas.now c.loop-form.metas c.take_names.new.metas c.args.forms.now c.loop-form.form-index _ c.loop-form-test.true
      c.loop-form.invariant.collected c.in_ok-take_names.ensures.collected;
  longer = longer_again c.args.metas.now c.loop-form.metas c.take_names.new.metas c.loop-form.invariant.longer c.in_ok-take_names.ensures.longer;
}

pub returns-clause-collected : goal.returns-clause-collected
returns-clause-collected c = let h : length c.args.forms.now ≤ c.loop-form.form-index = omega arith in rw take_all at c.loop-form.invariant.collected
