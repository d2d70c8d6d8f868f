use Rattle.std.proofs.Common.{◌<◌, length, sym, ◌∙◌, true≢false, arith}
use Rattle.cell_reader.proofs.Tests.{scopes_apart}
use Rattle.cell_reader.proofs.testing.same_scope.Goals as goal

pub returns-then-not-same_variable : goal.returns-then-not-same_variable
returns-then-not-same_variable c =
    let one = c.args.one.now in
    let other = c.args.other.now in
    let lt : c.loop-i.i < length one = omega arith in
    let le : c.loop-i.i < length other = omega (arith, c.if-one-other.false) in (
      λ e. absurd (true≢false (sym e)),
      λ e. absurd (scopes_apart one other c.loop-i.i lt le (λ h. true≢false (sym (c.same_variable.ensures.1 h) ∙ c.if-not-same_variable.true)) e),
    )
