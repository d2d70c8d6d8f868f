use Rattle.std.proofs.Common.{◌∙◌, sym, ap, length, arith}
use Rattle.std.specs.Str.{chars}
use Rattle.proof_lexer.proofs.TextLemmas.{chars-spell}
use Rattle.proof_lexer.proofs.FrontLemmas.{bar_kind, short_kind, plain_kind}
use Rattle.proof_lexer.proofs.front.symbol_kind.Goals as goal
use Rattle.proof_lexer.proofs.front.symbol_kind.Goals.{else-symbol-ge3-via-then-symbol-ge3+else-all_dashes, else-symbol-ge3-via-else-symbol-ge3}

pub returns-then-all_dashes : goal.returns-then-all_dashes
returns-then-all_dashes c =
    let text = c.args.symbol.now in
    sym (bar_kind (chars text) (sym c.all_dashes.ensures ∙ c.if-all_dashes.true) (omega (arith, c.if-symbol-ge3.true, ap length (chars-spell text c.utf8.symbol))))

pub returns-else-symbol-ge3 : goal.returns-else-symbol-ge3
returns-else-symbol-ge3 c =
    let text = c.args.symbol.now in
    elim c.else-symbol-ge3.branch [
      | else-symbol-ge3-via-then-symbol-ge3+else-all_dashes w ↦ sym (plain_kind (chars text) (sym w.all_dashes.ensures ∙ w.if-all_dashes.false))
      | else-symbol-ge3-via-else-symbol-ge3 w ↦
          sym (short_kind (chars text) (omega (arith, w.if-symbol-ge3.false, ap length (chars-spell text c.utf8.symbol))))
    ]
