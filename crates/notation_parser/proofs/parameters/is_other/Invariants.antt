use Rattle.std.proofs.Common.{◌≡◌, ◌↔◌, drop}
use Rattle.std.specs.List.{AllByRecursion}
use Rattle.notation_parser.proofs.parameters.is_other.Given as goal

abbrev pub invariant-loop-word : goal.invariant-loop-word
invariant-loop-word l = AllByRecursion (λ v. l.one ≡ v → ⊥) (drop l.word-index l.words) ↔ AllByRecursion (λ v. l.one ≡ v → ⊥) l.words
