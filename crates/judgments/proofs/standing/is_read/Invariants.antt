use Rattle.std.proofs.Common.{◌↔◌, drop, map}
use Rattle.rule_schemes.specs.View.{judgment_scheme}
use Rattle.judgments.specs.Standing.{IsRead}
use Rattle.judgments.proofs.standing.is_read.Given as goal

abbrev pub invariant-loop-form : goal.invariant-loop-form
invariant-loop-form l = IsRead l.metas (map judgment_scheme (drop l.form-index l.forms)) l.name ↔ IsRead l.metas (map judgment_scheme l.forms) l.name
