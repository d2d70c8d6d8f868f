use Rattle.std.proofs.Common.{List, sym, ◌∙◌, true≢false, subst}
use Rattle.std.specs.List.{AllByRecursion}
use Rattle.outline_reader.specs.declared.parts.Portion.{Portion}
use Rattle.outline_reader.specs.Plain.{outlined}
use Rattle.proof_check.specs.File.{IsGrammarPortion}
use Rattle.proof_check.specs.View.{plain_portions}
use Rattle.proof_check.proofs.JudgeLemmas.{right_judged, grammar_judged, wrong_judged}
use Rattle.proof_check.proofs.judge.judge_signature.Goals as goal

pub returns-in-Some : goal.returns-in-Some
returns-in-Some c =
    right_judged c.args.source.now (outlined c.args.outline.now) c.requires.has c.in-Some.accepted c.requires.built (rw c.in-Some.is at c.in_ok-accepted.ensures)

pub returns-then-are_of_grammar : goal.returns-then-are_of_grammar
returns-then-are_of_grammar c =
    let alone = subst (λ (portions : List Portion). AllByRecursion IsGrammarPortion (plain_portions portions)) c.as_slice.ensures.value (c.are_of_grammar.ensures.0 c.if-are_of_grammar.true) in
    grammar_judged c.args.source.now (outlined c.args.outline.now) c.requires.has c.args.sig c.requires.signature c.requires.built alone
    (rw c.in-None.is at c.in_ok-accepted.ensures)

pub returns-else-are_of_grammar : goal.returns-else-are_of_grammar
returns-else-are_of_grammar c =
    wrong_judged c.args.source.now (outlined c.args.outline.now) c.requires.has c.requires.no_fault (rw c.in-None.is at c.in_ok-accepted.ensures)
    (λ alone. true≢false (sym (c.are_of_grammar.ensures.1
    (subst (λ (portions : List Portion). AllByRecursion IsGrammarPortion (plain_portions portions)) (sym c.as_slice.ensures.value) alone)) ∙ c.if-are_of_grammar.false))
