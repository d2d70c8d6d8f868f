use Rattle.std.proofs.Common.{ℕ, drop}
use Rattle.rule_schemes.specs.Rules.{StrictInRule}
use Rattle.rule_schemes.specs.Refused.{IsFirstUnstrict}
use Rattle.binding_terms.specs.Numbered.{AllNumbered}
use Rattle.rule_schemes.specs.View.{rule}
use Rattle.rule_schemes.proofs.strict.first_unstrict.Given as goal

abbrev pub invariant-loop-i : goal.invariant-loop-i
invariant-loop-i l = record {
  first : (m : ℕ) → IsFirstUnstrict (rule l.r) l.i (drop l.i l.r.metas) m → IsFirstUnstrict (rule l.r) 0 l.r.metas m;
  all : AllNumbered (λ m decl. StrictInRule (rule l.r) m) l.i (drop l.i l.r.metas) → AllNumbered (λ m decl. StrictInRule (rule l.r) m) 0 l.r.metas;
}
