use Rattle.std.proofs.Common.{◌≢◌, ℕ, List, sym, ◌∙◌, true≢false}
use Rattle.proof_check.proofs.NumberLemmas.{name_found, no_name_found}
use Rattle.proof_check.proofs.names.number_of.Goals as goal
use Rattle.binding_terms.proofs.Lists.{all_more}

pub returns-then-same_text : goal.returns-then-same_text
returns-then-same_text c =
    name_found c.args.name.now c.args.names.now c.loop-i.i c.index-names-i.result c.loop-i-test.true c.index-names-i.is
    (sym c.bytes.ensures ∙ c.same_text.ensures.0 c.if-same_text.true) c.loop-i.invariant

pub loop-i-preserved : goal.loop-i-preserved
loop-i-preserved c =
    all_more (λ (other : List ℕ). other ≢ c.args.name.now) c.args.names.now c.loop-i.i c.index-names-i.result c.loop-i-test.true c.index-names-i.is
    (λ e. true≢false (sym (c.same_text.ensures.1 (c.bytes.ensures ∙ e)) ∙ c.if-same_text.false)) c.loop-i.invariant

pub returns : goal.returns
returns c = no_name_found c.args.name.now c.args.names.now c.loop-i.i c.loop-i-test.false c.loop-i.invariant
