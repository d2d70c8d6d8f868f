use Rattle.std.proofs.Common.{ap, ◌∙◌, sym}
use Rattle.scheme_terms.specs.Forms.{Instance}
use Rattle.scheme_terms.specs.Instance.{instance_of}
use Rattle.scheme_terms.specs.View.{scheme, substitution, instance}
use Rattle.scheme_terms.proofs.Followed.{instance_of_applied}
use Rattle.scheme_terms.proofs.laws.instance_both_ways.Goals as goal

pub returns-clause-same : goal.returns-clause-same
returns-clause-same c = λ saturated suits same.
    c.in_ok-left.ensures ∙ ap (instance_of (instance c.args.inst.now) c.args.locals) (c.in_ok-put.ensures.under_locals suits c.args.locals)
    ∙ instance_of_applied c.args.metas.now (substitution c.args.by.now) (instance c.args.inst.now) c.args.locals (scheme c.args.s.now) saturated suits
    ∙ ap (λ (given : Instance). instance_of given c.args.locals (scheme c.args.s.now)) (sym same) ∙ sym c.in_ok-right.ensures
