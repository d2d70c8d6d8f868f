use Rattle.std.proofs.Common.{◌<◌, map, ap, subst}
use Rattle.binding_terms.specs.View.{tree}
use Rattle.binding_terms.proofs.Lists.{drop_from}
use Rattle.scheme_terms.specs.View.{scheme}
use Rattle.derivation_check.proofs.LeafLemmas.{added_terms}
use Rattle.derivation_check.proofs.leaf.add_terms.Goals as goal

pub loop-i-preserved : goal.loop-i-preserved
loop-i-preserved c =
    let within = c.loop-i-test.true in
    let schemes = ap (map scheme) (drop_from c.args.schemes.now c.loop-i.i c.index-schemes-i.result within c.index-schemes-i.is) in
    let terms = ap (map tree) (drop_from c.args.terms.now c.loop-i.i c.index-terms-i.result (subst (λ n. c.loop-i.i < n) c.requires.as_many within) c.index-terms-i.is) in
    added_terms c.loop-i.matcher c.add_term.new.self _ _ _ _ _ _ _ c.in_ok-add_term.ensures.ok schemes terms c.loop-i.invariant
