use Rattle.std.proofs.Common.{map, take}
use Rattle.sy_base.specs.declared.fault.Code.TheVariants.{Duplicate}
use Rattle.user_grammar.specs.Finding.{AtToken, HaveSeen, IsCommon, IsLeast, declaration_view}
use Rattle.user_grammar.proofs.fault_declared.first_common.Given as goal

abbrev pub invariant-loop-number : goal.invariant-loop-number
invariant-loop-number l =
    IsLeast (AtToken Duplicate (IsCommon (map declaration_view (take l.number l.all)))) l.found
    × HaveSeen (map declaration_view (take l.number l.all)) l.seen
