use Rattle.std.proofs.Common.{◌∷◌, map, drop, sym, subst}
use Rattle.std.specs.Prelude.{IfOk, MatchOption}
use Rattle.rule_schemes.specs.Reading.{Token}
use Rattle.term_reader.specs.View.{token}
use Rattle.derivation_text.specs.Contents.{argument}
use Rattle.derivation_text.specs.Ending.{HasNoFront, IsFront}
use Rattle.derivation_text.proofs.arguments.front_from.Goals as goal

pub returns-then-is_punctuation-clause-front : goal.returns-then-is_punctuation-clause-front
returns-then-is_punctuation-clause-front c =
    let ts = map token c.args.rest.now in
    subst (λ (t : Token). IfOk c.enclosed.result (λ found. MatchOption found (HasNoFront c.args.known.now (t ∷ ts)) (λ p. IsFront c.args.known.now (t ∷ ts) (argument p.argument) (map token (drop p.more c.args.rest.now)))))
    (sym (c.is_punctuation.ensures.0 c.if-is_punctuation.true)) (c.enclosed.ensures.front c.args.known.now)
