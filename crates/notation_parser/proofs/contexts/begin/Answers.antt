use Rattle.std.proofs.Common.{[], ◌∷◌, sym, subst}
use Rattle.rule_schemes.specs.Said.{IsBefore}
use Rattle.term_reader.specs.Firsts.{AreFirst}
use Rattle.term_reader.specs.Splitting.{tokens_of}
use Rattle.notation_parser.specs.Shapes.{named, empty, WrittenContext, ReadsInShape}
use Rattle.notation_parser.specs.View.{reading_scope}
use Rattle.notation_parser.proofs.ContextFirsts.{first_named, first_empty}
use Rattle.notation_parser.proofs.contexts.begin.Goals as goal

pub returns-in-Name : goal.returns-in-Name
returns-in-Name c =
    let sheet = c.args.sheet.now in
    let scope = reading_scope c.args.scope.now in
    let ts = tokens_of sheet in
    rw c.in-Name.is
    (subst (λ (x : WrittenContext). AreFirst IsBefore (ReadsInShape sheet.sig.now scope sheet.metas.now ts c.args.cat named) (x ∷ [])) (sym c.rooted.ensures)
    (first_named sheet.sig.now scope sheet.metas.now ts c.args.cat))

pub returns-in-Empty : goal.returns-in-Empty
returns-in-Empty c =
    let sheet = c.args.sheet.now in
    let scope = reading_scope c.args.scope.now in
    let ts = tokens_of sheet in
    rw c.in-Empty.is
    (subst (λ (x : WrittenContext). AreFirst IsBefore (ReadsInShape sheet.sig.now scope sheet.metas.now ts c.args.cat (empty c.in-Empty.field-0.0)) (x ∷ [])) (sym c.rooted-in-Empty.ensures)
    (first_empty sheet.sig.now scope sheet.metas.now ts c.args.cat c.in-Empty.field-0.0))

pub returns-in-New : goal.returns-in-New
returns-in-New c = rw c.in-New.is c.new_contexts.ensures

pub returns-in-Known : goal.returns-in-Known
returns-in-Known c = rw c.in-Known.is c.scope_contexts.ensures
