use Rattle.std.proofs.Common.{◌↔◌, drop}
use Rattle.rule_schemes.specs.Touching.{HasTouchingName}
use Rattle.rule_schemes.proofs.touching.has_touching_name.Given as goal

abbrev pub invariant-loop-decl : goal.invariant-loop-decl
invariant-loop-decl l = HasTouchingName l.sig l.context.0 (drop l.decl-index l.metas) ↔ HasTouchingName l.sig l.context.0 l.metas
