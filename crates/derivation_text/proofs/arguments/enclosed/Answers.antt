use Rattle.std.proofs.Common.{map, take}
use Rattle.term_reader.specs.View.{token}
use Rattle.derivation_text.proofs.NodeLemmas.{not_when}
use Rattle.derivation_text.proofs.EndingLemmas.{no_front_form}
use Rattle.derivation_text.proofs.arguments.enclosed.Goals as goal
use Rattle.binding_terms.proofs.Lists.{map_empty}

pub returns-then-form-eq0-clause-front : goal.returns-then-form-eq0-clause-front
returns-then-form-eq0-clause-front c known =
    no_front_form known (map token c.args.tokens.now) _ _ (c.in-Some.ensures).1 (λ f. f.some (map_empty token (take c.in-Some.place c.args.tokens.now) c.if-form-eq0.true))

pub returns-then-not-none_reserved-clause-front : goal.returns-then-not-none_reserved-clause-front
returns-then-not-none_reserved-clause-front c known =
    no_front_form known (map token c.args.tokens.now) _ _ (c.in-Some.ensures).1 (λ f. not_when c.none_reserved.ensures c.if-not-none_reserved.true f.none_reserved)
