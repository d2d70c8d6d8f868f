use Rattle.std.proofs.Common.{◌∷◌, [], ◌∙◌, ap, map, sym}
use Rattle.std.proofs.lemmas.List.{append-nil, map-append}
use Rattle.proof_lexer.specs.View.{token_view}
use Rattle.outline_reader.specs.Plain.{plain_form}
use Rattle.user_grammar.specs.Finding.{portions_of}
use Rattle.user_grammar.proofs.FaultNames.{one_variable_form, no_variable_form}
use Rattle.user_grammar.proofs.fault_names.add_variable.Goals as goal

pub returns-in_ok-push-in-Some : goal.returns-in_ok-push-in-Some
returns-in_ok-push-in-Some c =
    let t = token_view c.in-Some.name.now in (
      t ∷ [],
      ap (map (λ name. token_view name.now)) c.in_ok-push-in-Some.ensures.items ∙ map-append (λ name. token_view name.now) c.args.all.now.items (c.in-Some.name ∷ []),
      one_variable_form (portions_of c.args.lists.now) (plain_form c.args.form.now) t c.in-Some.ensures.0 c.in-Some.ensures.1,
    )

pub returns-in-None : goal.returns-in-None
returns-in-None c = ([], sym (append-nil _), no_variable_form (portions_of c.args.lists.now) (plain_form c.args.form.now) c.in-None.ensures)
