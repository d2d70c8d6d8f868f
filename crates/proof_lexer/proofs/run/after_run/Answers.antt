use Rattle.std.proofs.Common.{rules, ◌∙◌, sym, subst, List, ℕ}
use Rattle.std.specs.Str.{chars}
use Rattle.proof_lexer.specs.Front.{goes_on, RunEnds}
use Rattle.proof_lexer.proofs.FrontLemmas.{RunEnds-more}
use Rattle.proof_lexer.proofs.run.after_run.Goals as goal

pub loop-first-preserved : goal.loop-first-preserved
loop-first-preserved c = (
  search rules,
  λ end ends.
      let more = RunEnds-more (goes_on c.args.run) c.in-Some.first (chars c.in-Some.after.now) end (sym c.goes_on.ensures ∙ c.if-not-goes_on.false) ends in
      c.loop-first.invariant.1 end (subst (λ (l : List ℕ). RunEnds (goes_on c.args.run) l end) (sym c.in-Some.ensures.0) more),
)
