use Rattle.std.proofs.Common.{◌≡◌, take}
use Rattle.core_proofs.proofs.rule_step.scope_of.Given as goal

abbrev pub invariant-loop-decl : goal.invariant-loop-decl
invariant-loop-decl l = l.metas ≡ take l.decl-index l.decl-items
