use Rattle.std.proofs.Common.{◌↔◌, ◌⊎◌, MatchOption, drop}
use Rattle.binding_terms.specs.Numbered.{AnyByRecursion}
use Rattle.rule_schemes.specs.Reading.{IsSpelling}
use Rattle.proof_check.proofs.spelling.is_spelling_of_any.Given as goal

abbrev pub invariant-loop-cat : goal.invariant-loop-cat
invariant-loop-cat l =
    AnyByRecursion (λ cat. IsSpelling cat.name l.word ⊎ MatchOption cat.var ⊥ (λ name. IsSpelling name l.word)) (drop l.cat-index l.cats)
    ↔ AnyByRecursion (λ cat. IsSpelling cat.name l.word ⊎ MatchOption cat.var ⊥ (λ name. IsSpelling name l.word)) l.cats
