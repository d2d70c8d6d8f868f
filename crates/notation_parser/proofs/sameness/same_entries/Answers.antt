use Rattle.std.proofs.Common.{◌<◌, length, sym, ◌∙◌, true≢false, arith}
use Rattle.scheme_terms.specs.View.{scheme_entry}
use Rattle.notation_parser.proofs.sameness.same_entries.Goals as goal
use Rattle.binding_terms.proofs.Lists.{same_at, same_length}

pub returns-then-xs-ys : goal.returns-then-xs-ys
returns-then-xs-ys c = (λ e. absurd (true≢false (sym e)), λ e. absurd (c.if-xs-ys.true (same_length scheme_entry _ _ e)))

pub returns-then-not-same_entry : goal.returns-then-not-same_entry
returns-then-not-same_entry c =
    let h : c.loop-i.i < length c.args.xs.now = omega arith in
    let k : c.loop-i.i < length c.args.ys.now = omega arith in (
      λ e. absurd (true≢false (sym e)),
      λ e. absurd (true≢false (sym (c.same_entry.ensures.1 (same_at scheme_entry _ _ _ _ _ h k e c.index-xs-i.is c.index-ys-i.is)) ∙ c.if-not-same_entry.true)),
    )
