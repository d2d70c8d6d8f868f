use Rattle.std.proofs.Common.{ℕ, length, map, drop}
use Rattle.std.specs.List.{AllByRecursion}
use Rattle.rule_schemes.specs.Rules.{NeedsNoContext}
use Rattle.rule_schemes.specs.Touching.{HasJudgments}
use Rattle.rule_schemes.specs.Open.{IsFirstOpen}
use Rattle.rule_schemes.specs.View.{rule as plain_rule}
use Rattle.rule_schemes.proofs.standing.first_open.Given as goal

abbrev pub invariant-loop-i : goal.invariant-loop-i
invariant-loop-i l = record {
  first : (k : ℕ) → IsFirstOpen (record { sig = l.sig; judgments = l.judgments; rules = map plain_rule l.rules }) l.i (map plain_rule (drop l.i l.rules)) k
      → IsFirstOpen (record { sig = l.sig; judgments = l.judgments; rules = map plain_rule l.rules }) 0 (map plain_rule l.rules) k;
  all : AllByRecursion (NeedsNoContext (record { sig = l.sig; judgments = l.judgments; rules = map plain_rule l.rules })) (map plain_rule (drop l.i l.rules))
      → AllByRecursion (NeedsNoContext (record { sig = l.sig; judgments = l.judgments; rules = map plain_rule l.rules })) (map plain_rule l.rules);
  range : AllByRecursion (HasJudgments (length l.judgments)) (map plain_rule (drop l.i l.rules));
}
