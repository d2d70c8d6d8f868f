use Rattle.std.proofs.Common.{◌≤◌, length, true≢false, sym, ap, ◌∙◌, arith}
use Rattle.std.proofs.lemmas.List.{length-map}
use Rattle.term_reader.specs.Splitting.{tokens_of}
use Rattle.term_reader.specs.View.{token}
use Rattle.notation_parser.specs.View.{reading_scope}
use Rattle.notation_parser.proofs.ContextSteps.{nothing_known, none_known_below, known_more, all_known}
use Rattle.notation_parser.proofs.known_entries.known_shapes.Goals as goal

pub returns-then-not-begins_newly : goal.returns-then-not-begins_newly
returns-then-not-begins_newly c =
    let sheet = c.args.sheet.now in
    let within : c.args.to ≤ length (tokens_of sheet) = omega (arith, c.requires.range.1, length-map sheet.tokens.now token) in
    rw c.new-all.ensures
    (nothing_known sheet (reading_scope c.args.scope.now) c.args.cat c.args.from c.args.to c.requires.range.0 within (length sheet.sig.now.prods)
    (λ h. true≢false (sym (c.begins_newly.ensures.1 h) ∙ c.if-not-begins_newly.true)))

pub loop-p-init : goal.loop-p-init
loop-p-init c =
    let sheet = c.args.sheet.now in
    let within : c.args.to ≤ length (tokens_of sheet) = omega (arith, c.requires.range.1, length-map sheet.tokens.now token) in
    rw c.new-all.ensures (none_known_below sheet (reading_scope c.args.scope.now) c.args.cat c.args.from c.args.to c.requires.range.0 within)

pub loop-p-preserved : goal.loop-p-preserved
loop-p-preserved c =
    let sheet = c.args.sheet.now in
    let within : c.args.to ≤ length (tokens_of sheet) = omega (arith, c.requires.range.1, length-map sheet.tokens.now token) in
    rw c.in_ok-append.ensures
    (known_more sheet (reading_scope c.args.scope.now) c.args.cat c.args.from c.args.to c.requires.range.0 within c.loop-p.p
    (c.begins_newly.ensures.0 c.if-not-begins_newly.false) c.loop-p.all c.in_ok-known_shapes_by.field-0 c.loop-p.invariant c.in_ok-known_shapes_by.ensures)

pub returns : goal.returns
returns c =
    let sheet = c.args.sheet.now in
    let within : c.args.to ≤ length (tokens_of sheet) = omega (arith, c.requires.range.1, length-map sheet.tokens.now token) in
    let past : length sheet.sig.now.prods ≤ c.loop-p.p = omega (arith, ap length c.prods.ensures.value) in
    all_known sheet (reading_scope c.args.scope.now) c.args.cat c.args.from c.args.to c.requires.range.0 within c.loop-p.p past _ c.loop-p.invariant
