use Rattle.std.proofs.Common.{◌≤◌, length, arith}
use Rattle.std.proofs.lemmas.List.{take_all}
use Rattle.proof_lexer.specs.View.{kind_and_text}
use Rattle.judgments.proofs.Collecting.{next_token, longer_token, longer_again}
use Rattle.judgments.proofs.names.take_names.Goals as goal

pub loop-token-preserved : goal.loop-token-preserved
loop-token-preserved c = record {
  collected = next_token kind_and_text c.args.sig.now.cats c.args.metas.now c.loop-token.metas c.take_token.new.metas c.args.form.now c.loop-token.token-index _ c.loop-token-test.true
      c.loop-token.invariant.collected c.in_ok-take_token.ensures;
  longer = longer_again c.args.metas.now c.loop-token.metas c.take_token.new.metas c.loop-token.invariant.longer
      (longer_token c.args.sig.now.cats c.loop-token.metas c.take_token.new.metas _ c.in_ok-take_token.ensures);
}

pub returns-clause-collected : goal.returns-clause-collected
returns-clause-collected c = let h : length c.args.form.now ≤ c.loop-token.token-index = omega arith in rw take_all at c.loop-token.invariant.collected
