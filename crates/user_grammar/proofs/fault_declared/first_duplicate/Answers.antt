use Rattle.std.proofs.Common.{map, subst}
use Rattle.sy_base.specs.declared.fault.Code.TheVariants.{Duplicate}
use Rattle.user_grammar.specs.File.{categories}
use Rattle.sy_base.specs.FirstFault.{OfSome, at_token}
use Rattle.user_grammar.specs.Finding.{AtToken, IsCommon, IsLeast, declaration_view, portions_of, lent_words}
use Rattle.sy_base.proofs.FirstLemmas.{found_of_two}
use Rattle.user_grammar.proofs.FaultDeclared.{Seconds, duplicate_by_two}
use Rattle.user_grammar.proofs.fault_declared.first_duplicate.Goals as goal

pub returns : goal.returns
returns c =
    let portions = portions_of c.args.lists.now in
    let all = map declaration_view c.in_ok-all.all.items in
    duplicate_by_two portions all c.earlier.result c.in_ok-all.ensures
    (found_of_two at_token lent_words (AtToken Duplicate (IsCommon all)) (OfSome (Seconds portions) (categories portions)) c.in_ok-common.common _ c.earlier.result c.earlier.ensures
    (subst (λ ds. IsLeast (AtToken Duplicate (IsCommon (map declaration_view ds))) c.in_ok-common.common) c.as_slice.ensures.value c.in_ok-common.ensures)
    (subst (λ ws. IsLeast (OfSome (Seconds portions) ws) c.in_ok-second.second) c.requires.categories c.in_ok-second.ensures))
