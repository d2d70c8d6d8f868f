use Rattle.std.proofs.Common.{◌≡◌, [], ◌++◌, map, reverse, drop}
use Rattle.rule_schemes.specs.Printing.{numbered}
use Rattle.form_printing.specs.View.{variables}
use Rattle.form_printing.proofs.words.numbered_outward.Given as goal

abbrev pub invariant-loop-cat : goal.invariant-loop-cat
invariant-loop-cat l =
    variables l.all.items ++ numbered (reverse (variables l.all.items) ++ []) (map (λ c. c.0) (drop l.cat-index l.locals))
    ≡ numbered [] (map (λ c. c.0) l.locals)
