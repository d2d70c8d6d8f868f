use Rattle.std.proofs.Common.{subst}
use Rattle.term_reader.specs.Firsts.{listed}
use Rattle.term_reader.proofs.SplitLemmas.{if_ok}
use Rattle.notation_parser.specs.Used.{TellsUsed}
use Rattle.notation_parser.specs.View.{outcome}
use Rattle.notation_parser.proofs.UsedAnswer.{used_answer}
use Rattle.notation_parser.proofs.used.tell.Goals as goal

pub returns : goal.returns
returns c =
    λ sig js scope want ts count may knowns short found.
    if_ok c.told.result _ _
    (λ r t. used_answer sig js scope want ts c.args.candidates.now may knowns (listed outcome c.args.found) r short found
    (subst (λ n. TellsUsed n c.args.candidates.now (listed outcome c.args.found) r) count t))
    c.told.ensures
