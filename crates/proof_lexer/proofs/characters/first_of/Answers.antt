use Rattle.std.proofs.Common.{◌∙◌, sym, ap, ◌++◌, length}
use Rattle.std.specs.Char.{encode_utf8}
use Rattle.proof_lexer.proofs.TextLemmas.{chars-first, length-first, chars-empty}
use Rattle.proof_lexer.proofs.characters.first_of.Goals as goal

pub returns-in-Some : goal.returns-in-Some
returns-in-Some c =
    let whole = sym c.chars-chars.ensures.rest ∙ c.in-Some.ensures.steps.0 ∙ ap (λ rest. encode_utf8 c.in-Some.first ++ rest) (sym c.as_str.ensures) in (
      chars-first c.args.text.now c.in-Some.first c.as_str.result.now c.utf8.text whole,
      length-first c.args.text.now c.in-Some.first c.as_str.result.now whole,
    )

pub returns-in-None : goal.returns-in-None
returns-in-None c =
    let empty = sym (ap length c.chars-chars.ensures.rest) ∙ c.in-None.ensures.steps.0.0 in
    (chars-empty c.args.text.now empty, empty)
