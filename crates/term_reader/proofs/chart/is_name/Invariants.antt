use Rattle.std.proofs.Common.{◌≡◌, ◌↔◌, drop}
use Rattle.binding_terms.specs.Numbered.{AnyByRecursion}
use Rattle.rule_schemes.specs.Reading.{word}
use Rattle.term_reader.specs.View.{token}
use Rattle.term_reader.proofs.chart.is_name.Given as goal

abbrev pub invariant-loop-meta : goal.invariant-loop-meta
invariant-loop-meta l =
    AnyByRecursion (λ m. (token l.t ≡ word m.name) × (m.cat.0 ≡ l.cat)) (drop l.meta-index l.metas)
    ↔ AnyByRecursion (λ m. (token l.t ≡ word m.name) × (m.cat.0 ≡ l.cat)) l.metas
