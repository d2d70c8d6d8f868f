use Rattle.std.proofs.Common.{ap, refl, inl, inr}
use Rattle.user_grammar.specs.Finding.{declaration_view, sort_view}
use Rattle.user_grammar.proofs.FaultSeen.{see_terminal_ok, see_name}
use Rattle.user_grammar.proofs.fault_declared.see.Goals as goal

pub returns-in-Terminal : goal.returns-in-Terminal
returns-in-Terminal c =
    let d = declaration_view c.args.declaration.now in
    see_terminal_ok c.add_name.result d.sort d.token c.as_bytes.result.now c.args.seen.now (record { terminals = c.add_name.new.index; names = c.args.seen.now.names })
    (ap sort_view c.in-Terminal.is) c.as_bytes.ensures.value refl c.add_name.ensures

pub returns-in_ok-push-in-Category : goal.returns-in_ok-push-in-Category
returns-in_ok-push-in-Category c =
    see_name c.args.declaration.now c.args.seen.now (record { terminals = c.args.seen.now.terminals; names = c.push.new.self }) (inl (ap sort_view c.in-Category.is)) refl
    c.in_ok-push-in-Category.ensures.items

pub returns-in_ok-push-in-Variable : goal.returns-in_ok-push-in-Variable
returns-in_ok-push-in-Variable c =
    see_name c.args.declaration.now c.args.seen.now (record { terminals = c.args.seen.now.terminals; names = c.push-in-Variable.new.self }) (inr (ap sort_view c.in-Variable.is)) refl
    c.in_ok-push-in-Variable.ensures.items
