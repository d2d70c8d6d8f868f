use Rattle.std.proofs.Common.{◌∙◌, map, ap}
use Rattle.binding_terms.specs.View.{tree}
use Rattle.scheme_terms.specs.View.{scheme, context_value}
use Rattle.scheme_match.specs.Matching.{Matching}
use Rattle.rule_schemes.specs.View.{theory}
use Rattle.derivation_check.proofs.LeafLemmas.{fit_in_matching}
use Rattle.derivation_check.proofs.leaf.instance_of_entry.Goals as goal

pub add_terms-requires-clause-fit : goal.add_terms-requires-clause-fit
add_terms-requires-clause-fit c =
    fit_in_matching (theory c.args.sys.now) c.args.rule.now.metas (context_value c.args.ctx.now) (map scheme c.args.declared.now) (map tree c.args.args.now) c.in_ok-matcher.matcher
    (ap (λ (m : Matching). m.sig) c.in_ok-matcher.ensures ∙ c.sig.ensures) (ap (λ (m : Matching). m.metas) c.in_ok-matcher.ensures ∙ c.as_slice.ensures)
    (ap (λ (m : Matching). m.root) c.in_ok-matcher.ensures) c.requires.fit
