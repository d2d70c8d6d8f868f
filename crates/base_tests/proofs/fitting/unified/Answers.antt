use Rattle.std.proofs.Common.{[], ◌∷◌, ◌++◌, map, ap, ◌∙◌}
use Rattle.scheme_terms.specs.View.{names, known_variable}
use Rattle.base_tests.proofs.FittingLemmas.{asked_to_unify}
use Rattle.base_tests.proofs.fitting.unified.Goals as goal

pub unify-requires : goal.unify-requires
unify-requires c =
    asked_to_unify c.args.sig.now (names c.in_ok-scope.scope) c.requires.sig.0 c.requires.sig.1 c.in_ok-scope.ensures.0 c.in_ok-scope.ensures.1
    c.push-2.new.self.items c.push.new.self.items c.wanted.result c.wanted-2.result c.args.first c.args.second c.requires.first c.requires.second
    (ap (map known_variable) c.in_ok-scope.ensures.2)
    (c.in_ok-push.ensures.items ∙ ap (λ xs. xs ++ c.wanted.result ∷ []) c.new-eqs.ensures.items)
    c.in_ok-push-2.ensures.items c.wanted.ensures c.wanted-2.ensures
