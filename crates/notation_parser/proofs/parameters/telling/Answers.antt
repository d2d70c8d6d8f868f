use Rattle.std.proofs.Common.{true≢false, map, subst, sym, ◌∙◌}
use Rattle.rule_schemes.specs.NewNames.{AreDifferentWords}
use Rattle.term_reader.specs.View.{token}
use Rattle.notation_parser.proofs.Tellings.{not_telling}
use Rattle.notation_parser.proofs.parameters.telling.Goals as goal

pub returns-else-are_different : goal.returns-else-are_different
returns-else-are_different c =
    not_telling c.args.sig.now c.args.name.now (token c.args.first.now) (map token c.args.rest.now) c.in-Some.told _ c.new.ensures (rw c.in-Some.is at c.in_ok-brackets.ensures)
    (λ d. true≢false (sym (c.are_different.ensures.1 (subst AreDifferentWords (sym c.as_slice.ensures) d)) ∙ c.if-are_different.false))
