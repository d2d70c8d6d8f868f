use Rattle.std.proofs.Common.{map, ◌∙◌, sym}
use Rattle.scheme_terms.specs.SchemeTree.{values}
use Rattle.scheme_terms.specs.View.{scheme}
use Rattle.pattern_unify.proofs.Binding.{over_is_lowered}
use Rattle.pattern_unify.proofs.steps.over_parameters.Goals as goal

pub returns : goal.returns
returns c =
    c.in_ok-new.ensures ∙ sym (over_is_lowered (values (map scheme c.args.args.now)) c.args.locals (scheme c.args.s.now) c.requires.distinct c.requires.below)
