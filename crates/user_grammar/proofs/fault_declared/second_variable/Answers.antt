use Rattle.std.proofs.Common.{map, sym, subst}
use Rattle.sy_base.specs.declared.fault.Code.TheVariants.{Duplicate}
use Rattle.proof_lexer.specs.View.{token_view}
use Rattle.outline_reader.specs.Plain.{plain_form}
use Rattle.user_grammar.specs.Fault.{AreVariables}
use Rattle.user_grammar.specs.Finding.{portions_of}
use Rattle.user_grammar.proofs.FaultDeclared.{second_of_all, second_of_none}
use Rattle.user_grammar.proofs.fault_declared.second_variable.Goals as goal

pub returns-in-len1-up : goal.returns-in-len1-up
returns-in-len1-up c =
    let forms = map plain_form (map (λ form. form.now) c.args.forms.now) in
    second_of_all (λ name. token_view name.now) Duplicate (portions_of c.args.lists.now) forms c.as_slice.result.now c.first_token.result c.in-len1-up.len_at_least
    (subst (λ ns. AreVariables (portions_of c.args.lists.now) forms (map (λ name. token_view name.now) ns)) (sym c.as_slice.ensures.value) c.in_ok-own.ensures)
    c.first_token.ensures

pub returns : goal.returns
returns c =
    let forms = map plain_form (map (λ form. form.now) c.args.forms.now) in
    second_of_none (λ name. token_view name.now) Duplicate (portions_of c.args.lists.now) forms c.as_slice.result.now c.in_default.len_below
    (subst (λ ns. AreVariables (portions_of c.args.lists.now) forms (map (λ name. token_view name.now) ns)) (sym c.as_slice.ensures.value) c.in_ok-own.ensures)
