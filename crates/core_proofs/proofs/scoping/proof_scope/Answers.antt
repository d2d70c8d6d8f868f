use Rattle.std.proofs.Common.{map, take, ap, ◌∙◌, refl}
use Rattle.scheme_terms.specs.View.{names, known_variable}
use Rattle.rule_schemes.specs.View.{statement}
use Rattle.core_proofs.proofs.Keeping.{counted_scope}
use Rattle.core_proofs.proofs.scoping.proof_scope.Goals as goal

pub returns : goal.returns
returns c =
    counted_scope (statement c.args.of.now) c.requires.last c.in_ok-count.count
    (names (record { root = c.args.of.now.scope.root; metas = c.in_ok-metas.metas; knowns = c.new.result })) c.in_ok-count.ensures refl
    (c.in_ok-metas.ensures ∙ ap (take c.in_ok-count.count) c.as_slice.ensures) (ap (map known_variable) c.new.ensures)
