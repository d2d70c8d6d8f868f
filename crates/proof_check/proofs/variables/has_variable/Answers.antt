use Rattle.std.proofs.Common.{sym, ◌∙◌, true≢false}
use Rattle.binding_terms.specs.Numbered.{AnyByRecursion}
use Rattle.user_grammar.specs.Fault.{DeclaresVariable}
use Rattle.user_grammar.specs.File.{WrittenCategory, category_in}
use Rattle.proof_check.specs.View.{plain_portions}
use Rattle.proof_check.proofs.VariableLemmas.{any_kept}
use Rattle.proof_check.proofs.variables.has_variable.Goals as goal

pub loop-portion-preserved : goal.loop-portion-preserved
loop-portion-preserved c =
    any_kept category_in (λ (written : WrittenCategory). AnyByRecursion (DeclaresVariable (plain_portions c.args.portions.now)) written.forms) c.args.portions.now
    c.loop-portion.portion-index c.portion-item.result c.loop-portion-test.true c.portion-item.is c.loop-portion.invariant
    (λ here. true≢false (sym (c.has_variable_in.ensures.1 here) ∙ c.if-has_variable_in.false))
