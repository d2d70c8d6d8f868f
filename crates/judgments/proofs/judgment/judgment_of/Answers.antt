use Rattle.std.proofs.Common.{◌≤◌, ◌∙◌, length, arith}
use Rattle.std.proofs.lemmas.List.{length-map}
use Rattle.proof_lexer.specs.View.{token_view}
use Rattle.outline_reader.specs.Plain.{outlined, plain_form}
use Rattle.judgments.proofs.ItemLemmas.{built_judgment, no_judgment}
use Rattle.judgments.proofs.judgment.judgment_of.Goals as goal

pub returns-in_ok-of-in-Some : goal.returns-in_ok-of-in-Some
returns-in_ok-of-in-Some c =
    let short : length (plain_form c.args.form.now) ≤ 256 = omega (arith, length-map c.args.form.now token_view) in
    built_judgment c.args.sig.now (outlined c.args.outline.now) _ _ (plain_form c.args.form.now) c.in-Some.items (c.in_ok-of-in-Some.ensures ∙ c.as_bytes.ensures.value) short
    (rw c.in-Some.is at c.in_ok-items.ensures)

pub returns-in-None : goal.returns-in-None
returns-in-None c = no_judgment c.args.sig.now (outlined c.args.outline.now) _ (rw c.in-None.is at c.in_ok-items.ensures)
