use Rattle.std.proofs.Common.{◌≡◌, List, ℕ, refl, sym, ◌∙◌, true≢false}
use Rattle.user_grammar.specs.File.{listed_in}
use Rattle.proof_check.proofs.VariableLemmas.{any_found, any_kept}
use Rattle.proof_check.proofs.variables.is_listed.Goals as goal

pub returns-then-lists : goal.returns-then-lists
returns-then-lists c =
    let found = any_found listed_in (λ (one : List ℕ). one ≡ c.args.word.now) c.args.portions.now c.loop-portion.portion-index c.portion-item.result c.loop-portion-test.true c.portion-item.is
    c.loop-portion.invariant (c.lists.ensures.0 c.if-lists.true) in
    ((λ yes. found), (λ there. refl))

pub loop-portion-preserved : goal.loop-portion-preserved
loop-portion-preserved c =
    any_kept listed_in (λ (one : List ℕ). one ≡ c.args.word.now) c.args.portions.now c.loop-portion.portion-index c.portion-item.result c.loop-portion-test.true c.portion-item.is
    c.loop-portion.invariant (λ here. true≢false (sym (c.lists.ensures.1 here) ∙ c.if-lists.false))
