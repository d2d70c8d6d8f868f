use Rattle.std.proofs.Common.{sym, ◌∙◌, true≢false}
use Rattle.scheme_terms.specs.Substituting.{IsKnownValue}
use Rattle.scheme_terms.specs.View.{known_variable, substitution}
use Rattle.pattern_unify.proofs.NumbersKept.{numbered_more, numbered_there}
use Rattle.pattern_unify.proofs.kept.keep_numbers.Goals as goal

pub returns-then-not-branch : goal.returns-then-not-branch
returns-then-not-branch c = (
  λ e. absurd (true≢false (sym e)),
  λ all. absurd (true≢false (sym (c.in_ok-keeps_number.ensures.1
      (numbered_there known_variable (λ k decl. IsKnownValue (substitution c.args.by.now) decl k) c.args.decls.now c.loop-place.place c.index-decls-place.result
      c.loop-place-test.true c.index-decls-place.is all)) ∙ c.if-not-branch.true)),
)

pub loop-place-preserved : goal.loop-place-preserved
loop-place-preserved c =
    numbered_more known_variable (λ k decl. IsKnownValue (substitution c.args.by.now) decl k) c.args.decls.now c.loop-place.place c.index-decls-place.result
    c.loop-place-test.true c.index-decls-place.is c.loop-place.invariant (c.in_ok-keeps_number.ensures.0 c.if-not-branch.false)
