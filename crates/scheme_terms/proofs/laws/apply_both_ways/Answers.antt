use Rattle.std.proofs.Common.{ap, ◌∙◌, sym}
use Rattle.scheme_terms.specs.Substituting.{applied}
use Rattle.scheme_terms.specs.Forms.{Substitution}
use Rattle.scheme_terms.specs.View.{scheme, substitution}
use Rattle.scheme_terms.proofs.AppliedSchemes.{applied_twice_law}
use Rattle.scheme_terms.proofs.laws.apply_both_ways.Goals as goal

pub returns-clause-same : goal.returns-clause-same
returns-clause-same c = λ first_suits after_suits.
    c.in_ok-left.ensures.value ∙ ap (applied (substitution c.args.after.now).metas (substitution c.args.after.now).knowns 0) c.in_ok-once.ensures.value
    ∙ applied_twice_law (substitution c.args.first.now) (substitution c.args.after.now) 0 (scheme c.args.s.now) first_suits after_suits
    ∙ ap (λ (by : Substitution). applied by.metas by.knowns 0 (scheme c.args.s.now)) (sym c.in_ok-both.ensures) ∙ sym c.in_ok-right.ensures.value
