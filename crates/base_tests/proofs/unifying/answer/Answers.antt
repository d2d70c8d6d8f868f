use Rattle.std.proofs.Common.{map}
use Rattle.scheme_terms.specs.View.{names}
use Rattle.pattern_unify.specs.Equations.{equation}
use Rattle.base_tests.proofs.PairLemmas.{are_to_unify}
use Rattle.base_tests.proofs.unifying.answer.Goals as goal

pub unify-requires : goal.unify-requires
unify-requires c =
    are_to_unify c.args.sig.now (names c.in_ok-scope.scope) c.requires.sig c.in_ok-scope.ensures (map equation c.args.eqs.now.items) c.requires.eqs
