use Rattle.std.proofs.Common.{◌≡◌, ◌↔◌, drop}
use Rattle.binding_terms.specs.Numbered.{AnyByRecursion}
use Rattle.rule_schemes.proofs.spelling.is_among.Given as goal

abbrev pub invariant-loop-decl : goal.invariant-loop-decl
invariant-loop-decl l = AnyByRecursion (λ m. m.name ≡ l.name) (drop l.decl-index l.metas) ↔ AnyByRecursion (λ m. m.name ≡ l.name) l.metas
