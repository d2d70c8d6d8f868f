use Rattle.std.proofs.Common.{map}
use Rattle.outline_reader.specs.Plain.{plain_form}
use Rattle.user_grammar.proofs.MadeReadings.{found_none, production_form}
use Rattle.user_grammar.specs.Indexed.{names_in}
use Rattle.user_grammar.proofs.made_productions.add_form.Goals as goal
use Rattle.binding_terms.proofs.Lists.{pushed_item}

pub returns : goal.returns
returns c = λ var forms own are.
    let texts = names_in c.args.listed.now in
    let none = found_none c.is_variable.result c.args.cats.now (map (λ name. name.now) c.args.cat_names.now) texts (plain_form c.args.form.now) c.if-is_variable.false
    c.is_variable.ensures c.requires.named in
    let next = production_form c.args.cats.now texts c.args.number.0 var (plain_form c.args.form.now) forms own none are in
    (var, next.1, next.4, pushed_item _ _ _ next.0 own next.1 c.in_ok-push.ensures.items (c.in_ok-production.ensures texts next.0 next.3) next.2)
