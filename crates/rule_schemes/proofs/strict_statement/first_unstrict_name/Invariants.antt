use Rattle.std.proofs.Common.{ℕ, drop}
use Rattle.rule_schemes.specs.Statement.{StrictInStatement}
use Rattle.rule_schemes.specs.Strict.{IsFirstLacking}
use Rattle.binding_terms.specs.Numbered.{AllNumbered}
use Rattle.rule_schemes.specs.View.{statement}
use Rattle.rule_schemes.proofs.strict_statement.first_unstrict_name.Given as goal

abbrev pub invariant-loop-i : goal.invariant-loop-i
invariant-loop-i l = record {
  first : (m : ℕ) → IsFirstLacking (StrictInStatement (statement l.of)) l.i (drop l.i l.of.scope.metas) m → IsFirstLacking (StrictInStatement (statement l.of)) 0 l.of.scope.metas m;
  all : AllNumbered (λ m decl. StrictInStatement (statement l.of) m) l.i (drop l.i l.of.scope.metas) → AllNumbered (λ m decl. StrictInStatement (statement l.of) m) 0 l.of.scope.metas;
}
