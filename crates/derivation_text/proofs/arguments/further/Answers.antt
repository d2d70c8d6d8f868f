use Rattle.std.proofs.Common.{◌∙◌, [], ◌∷◌, map, ap}
use Rattle.std.proofs.lemmas.List.{map-append}
use Rattle.derivation_text.specs.Contents.{argument}
use Rattle.derivation_text.proofs.EndingLemmas.{gathers_all, gathers_next, gathers_wrong, next_fits}
use Rattle.derivation_text.proofs.arguments.further.Goals as goal

pub returns-in-None : goal.returns-in-None
returns-in-None c =
    gathers_wrong c.args.known.now c.args.tokens.now c.loop-at.at _ _ _ c.in_ok-found.field-0 c.loop-at-test.true c.loop-at.invariant.1 c.in_ok-found.ensures.next
    c.in-None.is

pub loop-at-preserved : goal.loop-at-preserved
loop-at-preserved c = (
  next_fits c.args.tokens.now c.loop-at.at c.in_ok-found.field-0 c.in-Some.found c.loop-at-test.true c.in_ok-found.ensures.within c.in-Some.is,
  gathers_next c.args.known.now c.args.tokens.now c.loop-at.at _ _ (map argument c.loop-at.args) (map argument c.push.new.self) c.in_ok-found.field-0 c.in-Some.found
      c.loop-at-test.true c.loop-at.invariant.1 c.in_ok-found.ensures.next c.in-Some.is
      (ap (map argument) c.in_ok-push-in-Some.ensures.ok ∙ map-append argument c.loop-at.args (c.in-Some.found.argument ∷ [])),
)

pub returns : goal.returns
returns c =
    gathers_all c.args.known.now c.args.tokens.now c.loop-at.at (map argument c.args.args.now) (map argument c.loop-at.args) c.loop-at-test.false c.loop-at.invariant.1
