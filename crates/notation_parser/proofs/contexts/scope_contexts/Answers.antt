use Rattle.std.proofs.Common.{◌≡◌, [], ◌∷◌, Some, slice_get, map, sym, ap, subst, ◌∙◌}
use Rattle.std.specs.Option.{option_copied}
use Rattle.std.specs.Prelude.{option_map}
use Rattle.std.proofs.lemmas.Option.{slice_get-map}
use Rattle.scheme_terms.specs.View.{scheme, known_variable}
use Rattle.rule_schemes.specs.Reading.{known_words}
use Rattle.rule_schemes.specs.Said.{IsBefore, AreBefore}
use Rattle.term_reader.specs.Firsts.{AreFirst}
use Rattle.term_reader.specs.Splitting.{tokens_of, slot_range}
use Rattle.term_reader.specs.FirstPlace.{IsFirstPlace, ReadPiecesAs}
use Rattle.term_reader.specs.PlaceView.{places}
use Rattle.notation_parser.specs.Shapes.{WrittenContext, ReadsInShape, scope_entry}
use Rattle.notation_parser.specs.View.{reading_scope}
use Rattle.notation_parser.proofs.ContextFirsts.{scope_found}
use Rattle.notation_parser.proofs.contexts.scope_contexts.Goals as goal

pub returns : goal.returns
returns c =
    let sheet = c.args.sheet.now in
    let sig = sheet.sig.now in
    let scope = reading_scope c.args.scope.now in
    let ts = tokens_of sheet in
    let entry = c.args.entry.now in
    let slots = map slot_range entry.slots in
    let known = c.in-Some.known.now in
    let here : slice_get scope.names.knowns entry.number ≡ Some (known_variable known) =
    slice_get-map known_variable c.args.scope.now.scope.knowns entry.number
    ∙ ap (option_map known_variable) (rw c.as_slice-knowns.ensures at (sym c.at.ensures ∙ ap option_copied c.in-Some.is)) in
    let found : IsFirstPlace AreBefore (ReadPiecesAs sig sheet.metas.now ts (known_words sig 0 scope.names.knowns) [] slots (map scheme known.entry.args)) places c.in_ok-places.places =
    rw (c.as_slice.ensures, c.in_ok-vars.ensures, c.as_slice-knowns.ensures, c.as_slice-2.ensures, c.as_slice-args.ensures) at c.in_ok-places.ensures in
    subst (λ (x : WrittenContext). AreFirst IsBefore (ReadsInShape sig scope sheet.metas.now ts c.args.cat (scope_entry entry.prod.0 entry.number slots)) (x ∷ [])) (sym c.in_ok-with_scope_known.ensures)
    (scope_found sig scope sheet.metas.now ts c.args.cat entry.prod.0 entry.number slots places c.in_ok-places.places c.is_none.result (known_variable known) c.is_none.ensures c.if-is_none.false
    here c.if-known-entry.false found)
