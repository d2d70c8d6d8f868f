use Rattle.std.proofs.Common.{ap, ◌∙◌, take}
use Rattle.proof_kernel.specs.View.{here}
use Rattle.proof_kernel.proofs.GrowingHeld.{shortened}
use Rattle.proof_kernel.proofs.here.Here.add_all_unrelated.Goals as goal

pub returns-in-Err-clause-err : goal.returns-in-Err-clause-err
returns-in-Err-clause-err c =
    ap here c.shorten.ensures
    ∙ ap (λ n. here (record c.push_all.new.self { held = take n c.push_all.new.self.held })) c.len-count.ensures
    ∙ shortened c.args.self.now c.push_all.new.self c.in-Err.ensures.err
