use Rattle.std.proofs.Common.{◌↔◌, IsTrue, subst}
use Rattle.std.specs.List.{AllByRecursion}
use Rattle.user_grammar.specs.Finding.{portions_of, written_view}
use Rattle.user_grammar.specs.FindingContexts.{KeepsFront}
use Rattle.user_grammar.proofs.FaultFronts.{only_by_all}
use Rattle.user_grammar.proofs.fault_front.is_only_in_front.Goals as goal

pub returns : goal.returns
returns c =
    let P = portions_of c.args.lists.now in
    only_by_all P (written_view c.args.written.now) c.in_ok-all.all
    (subst (λ ws. IsTrue c.in_ok-all.all ↔ AllByRecursion (KeepsFront P (written_view c.args.written.now)) ws) c.requires.categories c.in_ok-all.ensures)
