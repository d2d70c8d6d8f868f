use Rattle.std.proofs.Common.{take, map}
use Rattle.rule_schemes.specs.View.{judgment_scheme}
use Rattle.judgments.specs.Standing.{AreReadOf}
use Rattle.judgments.proofs.standing.read_of.Given as goal

abbrev pub invariant-loop-decl : goal.invariant-loop-decl
invariant-loop-decl l = AreReadOf l.metas (map judgment_scheme l.forms) (take l.decl-index l.listed) l.those
