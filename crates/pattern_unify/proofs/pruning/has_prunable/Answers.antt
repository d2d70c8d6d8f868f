use Rattle.std.proofs.Common.{map, option_map}
use Rattle.scheme_terms.specs.SchemeTree.{values}
use Rattle.scheme_terms.specs.View.{scheme}
use Rattle.binding_terms.proofs.Lists.{is_some_mapped}
use Rattle.pattern_unify.specs.Pruned.{pruned}
use Rattle.pattern_unify.proofs.RunFunction.{told_prunable}
use Rattle.pattern_unify.proofs.pruning.has_prunable.Goals as goal

pub returns : goal.returns
returns c =
    let told = told_prunable c.args.of.0 (values (map scheme c.args.args.now)) 0 (scheme c.args.s.now) (option_map pruned c.in_ok-found.found) c.in_ok-found.ensures in
    rw (c.is_some.ensures, ← is_some_mapped pruned c.in_ok-found.found) told
