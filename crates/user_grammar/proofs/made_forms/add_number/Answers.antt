use Rattle.std.proofs.Common.{◌++◌, ◌∷◌, [], ◌∙◌, ap}
use Rattle.user_grammar.specs.Indexed.{names_in}
use Rattle.user_grammar.proofs.MadeReadings.{among_at}
use Rattle.user_grammar.proofs.Spellings.{one_place}
use Rattle.user_grammar.proofs.made_forms.add_number.Goals as goal

pub returns-in_ok-push-in-Some : goal.returns-in_ok-push-in-Some
returns-in_ok-push-in-Some c = λ differ n at.
    c.in_ok-push-in-Some.ensures.ok
    ∙ ap (λ k. c.args.numbers.now ++ k ∷ []) (one_place (names_in c.args.own.now) c.in-Some.place n c.args.word.now differ c.in-Some.ensures at)

pub returns-in-None : goal.returns-in-None
returns-in-None c = λ differ n at. absurd (c.in-None.ensures (among_at (names_in c.args.own.now) n c.args.word.now at))
