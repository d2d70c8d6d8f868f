use Rattle.std.proofs.Common.{◌↔◌, List, ◌<◌, length, map, drop}
use Rattle.std.specs.List.{AllByRecursion}
use Rattle.rule_schemes.specs.Rules.{Theory, Rule, JudgmentScheme, MayStand}
use Rattle.rule_schemes.specs.View.{judgment_scheme, rule as plain_rule}
use Rattle.rule_schemes.proofs.standing.needs_no_context.Given as goal

abbrev PlacedIn : Theory → Rule → List JudgmentScheme → Type 0
PlacedIn th r ps = AllByRecursion (λ p. MayStand th r.conclusion.context.root p.context.root p.judgment) ps

abbrev pub invariant-loop-premise : goal.invariant-loop-premise
invariant-loop-premise l = record {
  all : PlacedIn (record { sig = l.sig; judgments = l.judgments; rules = map plain_rule l.rules }) (plain_rule l.rule) (map judgment_scheme (drop l.premise-index l.rule.premises))
      ↔ PlacedIn (record { sig = l.sig; judgments = l.judgments; rules = map plain_rule l.rules }) (plain_rule l.rule) (map judgment_scheme l.rule.premises);
  range : AllByRecursion (λ p. p.judgment < length l.judgments) (map judgment_scheme (drop l.premise-index l.rule.premises));
}
