use Rattle.std.proofs.Common.{◌≡◌, ◌↔◌, ◌+◌, ◌∷◌, [], IsTrue, length, length-append, map, ap, sym, subst, ◌∙◌, arith}
use Rattle.scheme_terms.specs.View.{known_variable}
use Rattle.notation_parser.specs.Renaming.{OccursInWanted}
use Rattle.notation_parser.specs.View.{written}
use Rattle.notation_parser.proofs.occurring.marks_of.Goals as goal
use Rattle.binding_terms.proofs.Lists.{numbered_push}

pub loop-i-preserved : goal.loop-i-preserved
loop-i-preserved c =
    let long : length c.loop-i.marks ≡ c.loop-i.i = c.loop-i.invariant.0 in
    let at : c.in_ok-m.m.0 ≡ c.args.first_new + length c.loop-i.marks = c.in_ok-m.ensures ∙ ap (λ k. c.args.first_new + k) (sym long) in
    rw c.in_ok-push.ensures.ok (
      length-append c.loop-i.marks (c.occurs.result ∷ []) ∙ ap (λ k. k + 1) long,
      omega (arith, c.loop-i-test.true),
      numbered_push (λ m b. IsTrue b ↔ OccursInWanted m (written c.args.form.now) (map known_variable c.args.knowns.now)) c.args.first_new c.loop-i.marks c.occurs.result c.loop-i.invariant.2
          (subst (λ m. IsTrue c.occurs.result ↔ OccursInWanted m (written c.args.form.now) (map known_variable c.args.knowns.now)) at c.occurs.ensures),
    )
