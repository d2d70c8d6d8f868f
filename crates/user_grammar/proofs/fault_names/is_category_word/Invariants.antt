use Rattle.std.proofs.Common.{◌↔◌, map, drop}
use Rattle.binding_terms.specs.Numbered.{AnyByRecursion}
use Rattle.rule_schemes.specs.Reading.{IsSpelling}
use Rattle.user_grammar.specs.Finding.{written_view}
use Rattle.user_grammar.proofs.fault_names.is_category_word.Given as goal

abbrev pub invariant-loop-written : goal.invariant-loop-written
invariant-loop-written l =
    AnyByRecursion (λ name. IsSpelling name l.word) (map (λ written. written.name.text) (map written_view (drop l.written-index l.categories)))
    ↔ AnyByRecursion (λ name. IsSpelling name l.word) (map (λ written. written.name.text) (map written_view l.categories))
