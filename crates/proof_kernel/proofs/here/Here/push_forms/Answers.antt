use Rattle.std.proofs.Common.{◌+◌, map, take, ap, ◌∙◌, ◌++◌, ◌∷◌, [], sym, arith}
use Rattle.std.proofs.lemmas.List.{map_more}
use Rattle.rule_schemes.specs.View.{judgment_scheme}
use Rattle.proof_kernel.specs.View.{here}
use Rattle.proof_kernel.proofs.GrowingHeld.{on_err, one_form_more, all_unrelated}
use Rattle.proof_kernel.proofs.here.Here.push_forms.Goals as goal

pub returns-in_err-again-clause-err : goal.returns-in_err-again-clause-err
returns-in_err-again-clause-err c =
    on_err c.from_residual.result _ (all_unrelated (here c.args.self.now) (map judgment_scheme (take c.loop-form.form-index c.args.forms.now)), c.loop-form.invariant)

pub returns-in_err-add_unrelated-clause-err : goal.returns-in_err-add_unrelated-clause-err
returns-in_err-add_unrelated-clause-err c =
    on_err c.from_residual-in_err-add_unrelated.result _ (
      all_unrelated (here c.args.self.now) (map judgment_scheme (take c.loop-form.form-index c.args.forms.now)),
      ap here c.in_err-add_unrelated.ensures.err ∙ c.loop-form.invariant,
    )

pub loop-form-preserved : goal.loop-form-preserved
loop-form-preserved c =
    one_form_more (here c.args.self.now) (here c.loop-form.self) (here c.add_unrelated.new.self)
    (map judgment_scheme (take c.loop-form.form-index c.args.forms.now)) (map judgment_scheme (take (c.loop-form.form-index + 1) c.args.forms.now))
    (judgment_scheme c.in_ok-again.again) c.loop-form.invariant c.in_ok-add_unrelated.ensures.ok
    (map_more judgment_scheme c.args.forms.now c.loop-form.form-index c.form-item.result (omega arith)
    ∙ ap (λ j. map judgment_scheme (take c.loop-form.form-index c.args.forms.now) ++ (j ∷ []))
    (ap judgment_scheme (sym c.form-item.is) ∙ sym c.in_ok-again.ensures))
