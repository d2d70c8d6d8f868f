use Rattle.std.proofs.Common.{◌∙◌, ap, sym, map, option_map, slice_get}
use Rattle.scheme_terms.specs.View.{scheme, names, known_variable}
use Rattle.pattern_unify.specs.Equations.{equation}
use Rattle.pattern_unify.proofs.Ended.{none_right}
use Rattle.pattern_unify.proofs.rows.entries_with.Goals as goal

pub returns-in-None : goal.returns-in-None
returns-in-None c =
    ap (map equation) c.new.ensures
    ∙ sym (none_right (names c.args.scope.now) c.args.high (map scheme c.args.lefts.now) (ap (λ ks. slice_get (map known_variable ks) c.args.high) (sym c.as_slice.ensures) ∙ sym c.production_of.ensures ∙ ap (option_map (λ d. known_variable d.now)) c.in-None.is))
