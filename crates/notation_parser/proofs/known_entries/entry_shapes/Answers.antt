use Rattle.std.proofs.Common.{◌+◌, ◌≤◌, length, drop, true≢false, sym, ◌∙◌, arith}
use Rattle.std.proofs.lemmas.List.{length-map}
use Rattle.term_reader.specs.Splitting.{tokens_of, Stands}
use Rattle.term_reader.specs.View.{token}
use Rattle.term_reader.proofs.SplitLemmas.{if_ok}
use Rattle.notation_parser.specs.View.{reading_scope}
use Rattle.notation_parser.proofs.KnownEntries.{in_head, in_scope}
use Rattle.notation_parser.proofs.NewEntries.{some_new, new_listed}
use Rattle.notation_parser.proofs.ScopeEntries.{scope_listed}
use Rattle.notation_parser.proofs.known_entries.entry_shapes.Goals as goal

pub new_of_each-requires : goal.new_of_each-requires
new_of_each-requires c =
    let sheet = c.args.sheet.now in
    rw c.as_slice.ensures
    (some_new sheet.sig.now (tokens_of sheet) (Stands sheet) (c.args.from + 1) c.args.to (drop 1 c.args.items.now) c.requires.entry.1 _ c.in_ok-found.ensures)

pub scope_of_each-requires : goal.scope_of_each-requires
scope_of_each-requires c =
    let sheet = c.args.sheet.now in
    rw c.as_slice-3.ensures
    (some_new sheet.sig.now (tokens_of sheet) (Stands sheet) (c.args.from + 1) c.args.to (drop 1 c.args.items.now) c.requires.entry.1 _ c.in_ok-found.ensures)

pub returns-then-is_head : goal.returns-then-is_head
returns-then-is_head c =
    let sheet = c.args.sheet.now in
    let scope = reading_scope c.args.scope.now in
    let items = drop 1 c.args.items.now in
    let within : c.args.to ≤ length (tokens_of sheet) = omega (arith, c.requires.range.1, length-map sheet.tokens.now token) in
    if_ok c.new_of_each.result _ _
    (λ all e. in_head sheet scope c.args.cat c.args.from c.args.to c.args.prod.0 items _ (c.is_head.ensures.0 c.if-is_head.true)
    (new_listed sheet scope c.args.cat c.args.from c.args.to c.args.prod.0 items c.requires.range.0 within c.requires.entry.1 _ _ c.requires.scope c.requires.apart c.in_ok-found.ensures e))
    (rw c.as_slice.ensures at c.new_of_each.ensures)

pub returns : goal.returns
returns c =
    let sheet = c.args.sheet.now in
    let scope = reading_scope c.args.scope.now in
    let items = drop 1 c.args.items.now in
    let within : c.args.to ≤ length (tokens_of sheet) = omega (arith, c.requires.range.1, length-map sheet.tokens.now token) in
    if_ok c.scope_of_each.result _ _
    (λ all e. in_scope sheet scope c.args.cat c.args.from c.args.to c.args.prod.0 items _ (λ h. true≢false (sym (c.is_head.ensures.1 h) ∙ c.if-is_head.false))
    (scope_listed sheet scope c.args.cat c.args.from c.args.to c.args.prod.0 items c.requires.range.0 within c.requires.entry.1 _ _ c.requires.scope c.requires.apart c.in_ok-found.ensures e))
    (rw (c.as_slice-2.ensures, c.as_slice-3.ensures) at c.scope_of_each.ensures)
