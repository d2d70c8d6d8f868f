use Rattle.std.proofs.Common.{◌≡◌, ◌+◌, ◌<◌, ◌≤◌, ◌∷◌, map, length, drop, get_or, slice_get, Some, refl, ap, ◌∙◌, sym, subst, true≢false, arith}
use Rattle.std.proofs.lemmas.List.{drop_all}
use Rattle.binding_terms.specs.Signature.{binders}
use Rattle.binding_terms.proofs.Lists.{drop_from, get_mapped_or, all_append}
use Rattle.rule_schemes.specs.Reading.{word}
use Rattle.form_cells.specs.Cells.{tokens_of}
use Rattle.form_cells.specs.Words.{AreOwn, AreComplete}
use Rattle.form_cells.specs.declared.variables.Var.{Var}
use Rattle.form_cells.specs.declared.variables.Meaning.TheVariants.{Bound}
use Rattle.form_cells.specs.View.{token}
use Rattle.form_cells.proofs.Tokens.{no_token, seen}
use Rattle.form_cells.proofs.WordLemmas.{none_complete, terminal_complete, slot_complete, binder_more, binder_not, own_more, if_ok}
use Rattle.form_cells.proofs.form.+words.Goals as goal
use Rattle.form_cells.proofs.form.+words.Goals.{binder_words-then-is_binder+in_ok-more+in_ok-add_before, binder_words-else-is_binder}

pub binder_words-loop-place-preserved : goal.binder_words-loop-place-preserved
binder_words-loop-place-preserved t c =
    let sheet = c.args.sheet.now in
    let tokens = sheet.tokens.now in
    let items = drop c.args.at c.args.items.now in
    let place = c.loop-place.place in
    let within = seen sheet c.args.to c.requires.range.1 in
    let lt : place < c.args.to = omega (arith, c.loop-place-test.true) in
    let l : place < length tokens = omega (arith, c.requires.range.1) in
    let here = get_or tokens place no_token in
    let at : slice_get (tokens_of sheet) place ≡ Some (token here) = get_mapped_or token tokens place no_token l in
    let start : c.args.from ≤ place = omega arith in
    elim c.if-is_binder.branch [
      | binder_words-then-is_binder+in_ok-more+in_ok-add_before w ↦
          (let v : Var = record { word = w.as_bytes.result; cat = c.args.cat; means = Bound } in
          let this = c.is_binder.ensures.0 w.if-is_binder.true in
          let named : slice_get (tokens_of sheet) place ≡ Some (word v.word.now) =
          at ∙ ap (λ k. Some (k, here.text.now)) this.0 ∙ ap (λ x. Some (word x)) (sym w.as_bytes.ensures.value) in
          rw (w.all-is, w.in_ok-add_before.ensures, w.as_slice.ensures) (
            all_append (AreOwn (c.args.cat.0 ∷ binders items)) c.loop-place.all (map (λ own. v ∷ own) w.in_ok-more.more) c.loop-place.invariant.0
                (own_more (binders items) c.args.cat.0 v w.in_ok-more.more refl w.in_ok-more.ensures.own),
            binder_more sheet c.args.from c.args.to within c.args.cat items c.loop-place.all w.in_ok-more.more v place start lt named c.loop-place.invariant.1 w.in_ok-more.ensures.complete,
          ))
      | binder_words-else-is_binder w ↦ rw w.all-is (
        c.loop-place.invariant.0,
        binder_not sheet c.args.from c.args.to within c.args.cat items c.loop-place.all place (token here) lt at
            (λ h. true≢false (sym (c.is_binder.ensures.1 h) ∙ w.if-is_binder.false)) c.loop-place.invariant.1,
      )
    ]

pub words_at-returns-then-at-items-clause-complete : goal.words_at-returns-then-at-items-clause-complete
words_at-returns-then-at-items-clause-complete t c =
    let sheet = c.args.sheet.now in
    let all : length c.args.items.now ≤ c.args.at = omega arith in
    if_ok c.no_words.result _ _
    (λ x e. subst (AreComplete sheet (drop c.args.at c.args.items.now) c.args.from c.args.to) (sym e)
    (none_complete sheet c.args.from c.args.to (seen sheet c.args.to c.requires.range.1) (drop c.args.at c.args.items.now) (drop_all c.args.at c.args.items.now all)))
    c.no_words.ensures

pub words_at-returns-in-Word-clause-complete : goal.words_at-returns-in-Word-clause-complete
words_at-returns-in-Word-clause-complete t c =
    let sheet = c.args.sheet.now in
    let items = c.args.items.now in
    let lt : c.args.at < length items = omega arith in
    let is = drop_from items c.args.at c.index-items-at.result lt c.index-items-at.is ∙ ap (λ i. i ∷ drop (c.args.at + 1) items) c.in-Word.is in
    if_ok c.words_at.result _ _
    (λ x h. subst (λ js. AreComplete sheet js c.args.from c.args.to x) (sym is)
    (terminal_complete sheet c.args.from c.args.to (seen sheet c.args.to c.requires.range.1) c.in-Word.text c.in-Word.quoted (drop (c.args.at + 1) items) x h))
    c.words_at.ensures.complete

pub words_at-returns-in-Slot-clause-complete : goal.words_at-returns-in-Slot-clause-complete
words_at-returns-in-Slot-clause-complete t c =
    let sheet = c.args.sheet.now in
    let items = c.args.items.now in
    let lt : c.args.at < length items = omega arith in
    let is = drop_from items c.args.at c.index-items-at.result lt c.index-items-at.is ∙ ap (λ i. i ∷ drop (c.args.at + 1) items) c.in-Slot.is in
    if_ok c.words_at-in-Slot.result _ _
    (λ x h. subst (λ js. AreComplete sheet js c.args.from c.args.to x) (sym is)
    (slot_complete sheet c.args.from c.args.to (seen sheet c.args.to c.requires.range.1) c.in-Slot.cat c.in-Slot.binds (drop (c.args.at + 1) items) x h))
    c.words_at-in-Slot.ensures.complete
