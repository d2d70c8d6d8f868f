use Rattle.std.proofs.Common.{◌↔◌, map, drop}
use Rattle.binding_terms.specs.Numbered.{AnyByRecursion}
use Rattle.user_grammar.specs.Finding.{HaveCommon, declaration_view}
use Rattle.user_grammar.proofs.fault_declared.some_common.Given as goal

abbrev pub invariant-loop-earlier : goal.invariant-loop-earlier
invariant-loop-earlier l =
    AnyByRecursion (λ earlier. HaveCommon earlier (declaration_view l.declaration)) (map declaration_view (drop l.earlier-index l.before))
    ↔ AnyByRecursion (λ earlier. HaveCommon earlier (declaration_view l.declaration)) (map declaration_view l.before)
