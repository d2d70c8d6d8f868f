use Rattle.std.proofs.Common.{◌↔◌, drop}
use Rattle.rule_schemes.specs.View.{judgment_scheme}
use Rattle.judgments.specs.Standing.{IsReadFrom}
use Rattle.judgments.proofs.standing.is_read_in.Given as goal

-- it is read from this number on exactly where it is read at all
abbrev pub invariant-loop-i : goal.invariant-loop-i
invariant-loop-i l = IsReadFrom l.i (drop l.i l.metas) l.name (judgment_scheme l.j) ↔ IsReadFrom 0 l.metas l.name (judgment_scheme l.j)
