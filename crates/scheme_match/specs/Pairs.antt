-- The plain pairs that a matcher's pairs are.
use Rattle.binding_terms.specs.View.{tree}
use Rattle.scheme_terms.specs.View.{scheme}
use Rattle.rule_schemes.specs.View.{judgment_scheme, judgment_value}
use Rattle.scheme_match.specs.Matching.{Matched, judgments, terms}
use Rattle.scheme_match.specs.declared.pair.Pair.{Pair}
use Rattle.scheme_match.specs.declared.pair.Pair.TheVariants.{Judgments, Terms}

abbrev pub matched : Pair → Matched
matched (Judgments pattern target) = judgments (judgment_scheme pattern.now) (judgment_value target.now)
matched (Terms locals pattern target) = terms locals (scheme pattern.now) (tree target.now)
