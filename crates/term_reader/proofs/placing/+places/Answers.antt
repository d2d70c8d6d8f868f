use Rattle.std.proofs.Common.{◌≡◌, ◌+◌, ◌-◌, ◌<◌, ◌≤◌, length, map, take, get_or, slice_get, slice_range, Some, refl, ap, ◌∙◌, sym, true≢false, arith}
use Rattle.std.proofs.lemmas.List.{length-map, take_all}
use Rattle.std.proofs.lemmas.Option.{slice_get_read}
use Rattle.scheme_terms.specs.SchemeTree.{meta, con, values}
use Rattle.scheme_terms.specs.View.{scheme, scheme_parts}
use Rattle.rule_schemes.specs.Reading.{word}
use Rattle.term_reader.specs.Splitting.{SlotRange, Divided, tokens_of, AreKnown, AreWithin, reach, slot_range, split}
use Rattle.term_reader.specs.View.{token, variable, in_scope}
use Rattle.term_reader.proofs.Pieces.{known_scope}
use Rattle.term_reader.proofs.SplitLemmas.{if_ok, no_token}
use Rattle.term_reader.proofs.TermEnds.{no_name_here, no_group}
use Rattle.term_reader.proofs.Usable.{no_piece, longest_at, reach_at, split_at, usable_splits, reach_splits, usable_brackets, reach_brackets}
use Rattle.term_reader.proofs.Alone.{name_alone, bound_alone, made_alone, name_numbered, made_numbered}
use Rattle.term_reader.proofs.Groups.{group_first, no_group_inside, group_is_first, alone_is_first, range_around}
use Rattle.term_reader.proofs.Heads.{head_kind, scheme_of_meta, scheme_of_known, scheme_of_local, scheme_of_con}
use Rattle.term_reader.proofs.InSplits.{none_more, first_split, name_first, made_first, none_bound_otherwise}
use Rattle.term_reader.proofs.Slots.{as_many_read, each_at, none_at, all_first}
use Rattle.term_reader.proofs.placing.+places.Goals as goal
use Rattle.binding_terms.proofs.Lists.{all_pick, get_mapped_or}

pub alone-returns-in-Meta : goal.alone-returns-in-Meta
alone-returns-in-Meta t c =
    let sheet = c.args.sheet.now in
    let is : scheme c.args.term.now ≡ meta c.in-Meta.number.0 (values (map scheme c.in-Meta.args)) = ap scheme c.in-Meta.is ∙ scheme_of_meta c.in-Meta.number c.in-Meta.args in
    rw is
    (if_ok c.as_name.result _ _ (λ found f. name_alone sheet.sig.now sheet.metas.now (in_scope c.args.vars.now) c.args.cat.0 (slice_range (tokens_of sheet) c.args.from c.args.to)
    (meta c.in-Meta.number.0 (values (map scheme c.in-Meta.args))) found refl f)
    (rw c.as_slice.ensures at c.as_name.ensures))

pub alone-returns-in-Known : goal.alone-returns-in-Known
alone-returns-in-Known t c =
    let sheet = c.args.sheet.now in
    bound_alone sheet.sig.now sheet.metas.now (in_scope c.args.vars.now) c.args.cat.0 (slice_range (tokens_of sheet) c.args.from c.args.to)
    (scheme c.args.term.now) c.as_variable.result (ap head_kind (ap scheme c.in-Known.is ∙ scheme_of_known c.in-Known.field-0)) c.as_variable.ensures

pub alone-returns-in-Local : goal.alone-returns-in-Local
alone-returns-in-Local t c =
    let sheet = c.args.sheet.now in
    bound_alone sheet.sig.now sheet.metas.now (in_scope c.args.vars.now) c.args.cat.0 (slice_range (tokens_of sheet) c.args.from c.args.to)
    (scheme c.args.term.now) c.as_variable-in-Local.result (ap head_kind (ap scheme c.in-Local.is ∙ scheme_of_local c.in-Local.field-0)) c.as_variable-in-Local.ensures

pub alone-returns-in-Con : goal.alone-returns-in-Con
alone-returns-in-Con t c =
    let sheet = c.args.sheet.now in
    let is : scheme c.args.term.now ≡ con c.in-Con.prod.0 (scheme_parts c.in-Con.parts) = ap scheme c.in-Con.is ∙ scheme_of_con c.in-Con.prod c.in-Con.parts in
    rw is
    (if_ok c.as_product.result _ _ (λ found f. made_alone sheet.sig.now sheet.metas.now (in_scope c.args.vars.now) c.args.cat.0 (slice_range (tokens_of sheet) c.args.from c.args.to)
    c.in-Con.prod.0 (scheme_parts c.in-Con.parts) found f)
    (rw c.as_slice-in-Con.ensures at c.as_product.ensures))

pub as_made-returns-then-not-bind_as_many : goal.as_made-returns-then-not-bind_as_many
as_made-returns-then-not-bind_as_many t c =
    none_bound_otherwise c.args.sheet.now (in_scope c.args.vars.now) c.requires.vars c.args.from c.args.to c.requires.range.1 c.args.prod c.args.items.now
    (scheme_parts c.args.parts.now) (λ b. true≢false (sym (c.bind_as_many.ensures.1 b) ∙ c.if-not-bind_as_many.true))

pub as_made-in_splits-requires : goal.as_made-in_splits-requires
as_made-in_splits-requires t c =
    let sheet = c.args.sheet.now in
    let usable = usable_splits sheet c.args.from c.args.to c.requires.range.1 c.args.items.now _ c.in_ok-all.ensures in
    let short = reach_splits sheet c.args.from c.args.to c.requires.range.1 c.args.items.now _ c.requires.some c.requires.not_single c.in_ok-all.ensures in
    let long : reach (map split c.as_slice.result.now) ≤ c.args.to - c.args.from = rw c.as_slice.ensures short in
    (omega (arith, c.decreases, long), (c.requires.sheet, (c.requires.vars, (rw c.as_slice.ensures usable, rw c.as_slice.ensures (c.in_ok-all.ensures).in_order))))

pub as_made-returns : goal.as_made-returns
as_made-returns t c =
    let sheet = c.args.sheet.now in
    if_ok c.in_splits.result _ _ (λ found f. made_first sheet (in_scope c.args.vars.now) c.requires.vars c.args.from c.args.to c.requires.range.1 c.args.prod c.args.items.now _
    (scheme_parts c.args.parts.now) found c.requires.range.0 (c.bind_as_many.ensures.0 c.if-not-bind_as_many.false) c.in_ok-all.ensures f)
    (rw (c.as_slice.ensures, c.as_slice-2.ensures, c.in_ok-terms.ensures) at c.in_splits.ensures)

pub as_name-returns : goal.as_name-returns
as_name-returns t c =
    let sheet = c.args.sheet.now in
    let decl = c.index-metas-m.result in
    let found = slice_get_read sheet.metas.now _ c.args.number.0 decl refl c.if-m-metas.false c.index-metas-m.is in
    if_ok c.as_name_of.result _ _ (λ place f. name_numbered sheet.sig.now sheet.metas.now (in_scope c.args.vars.now) c.args.cat.0 (slice_range (tokens_of sheet) c.args.from c.args.to)
    c.args.number.0 decl (values (map scheme c.args.args.now)) place found f)
    c.as_name_of.ensures

pub as_name_of-returns-then-not-is_word : goal.as_name_of-returns-then-not-is_word
as_name_of-returns-then-not-is_word t c =
    let sheet = c.args.sheet.now in
    let l : c.args.from < length sheet.tokens.now = omega arith in
    let here = get_or sheet.tokens.now c.args.from no_token in
    λ w s q. no_name_here sheet (in_scope c.args.vars.now) c.args.from c.args.to c.requires.range.0 c.requires.range.1 c.args.number.0 c.args.decl.now c.args.cat.0
    (λ lt e. (let two : Some (token here) ≡ Some (word c.args.decl.now.name) = sym (get_mapped_or token sheet.tokens.now c.args.from no_token l) ∙ e in
    let same : token here ≡ word c.args.decl.now.name = cc in
    true≢false (sym (c.is_word.ensures.1 (rw c.bytes.ensures same)) ∙ c.if-not-is_word.true))) w s q.0

pub as_name_of-in_splits-requires : goal.as_name_of-in_splits-requires
as_name_of-in_splits-requires t c =
    let sheet = c.args.sheet.now in
    let end : c.args.from + 1 ≤ c.args.to = omega arith in
    let usable = usable_brackets sheet (c.args.from + 1) c.args.to c.requires.range.1 _ _ c.in_ok-all.ensures in
    let short = reach_brackets sheet (c.args.from + 1) c.args.to c.requires.range.1 _ _ end c.in_ok-all.ensures in
    let long : reach (map split c.as_slice-2.result.now) ≤ c.args.to - (c.args.from + 1) + 1 = rw c.as_slice-2.ensures short in
    (omega (arith, c.decreases, long), (c.requires.sheet, (c.requires.vars, (rw c.as_slice-2.ensures usable, rw c.as_slice-2.ensures (c.in_ok-all.ensures).in_order))))

pub as_name_of-returns : goal.as_name_of-returns
as_name_of-returns t c =
    let sheet = c.args.sheet.now in
    let l : c.args.from < length sheet.tokens.now = omega arith in
    let lt : c.args.from < c.args.to = omega arith in
    let here = get_or sheet.tokens.now c.args.from no_token in
    let this : token here ≡ word c.args.decl.now.name = rw c.bytes.ensures at (c.is_word.ensures.0 c.if-not-is_word.false) in
    let found : slice_get (tokens_of sheet) c.args.from ≡ Some (word c.args.decl.now.name) = get_mapped_or token sheet.tokens.now c.args.from no_token l ∙ ap Some this in
    if_ok c.in_splits.result _ _ (λ place f. name_first sheet (in_scope c.args.vars.now) c.requires.vars c.args.from c.args.to c.requires.range.1 c.args.number c.args.decl.now c.args.cat.0 _
    (map scheme c.args.args.now) place c.if-decl-cat.false lt found (rw c.as_slice.ensures at c.in_ok-all.ensures) f)
    (rw c.as_slice-2.ensures at c.in_splits.ensures)

pub as_product-returns : goal.as_product-returns
as_product-returns t c =
    let sheet = c.args.sheet.now in
    let prod = c.index-found.result.now in
    let within : c.args.prod.0 < length sheet.sig.now.prods = omega (arith, c.if-p-len.false, ap length c.prods.ensures.value) in
    let found : slice_get sheet.sig.now.prods c.args.prod.0 ≡ Some prod =
    slice_get_read sheet.sig.now.prods _ c.args.prod.0 prod refl within (rw c.prods-2.ensures.value at c.index-found.ensures) in
    if_ok c.as_made.result _ _ (λ place f. made_numbered sheet.sig.now sheet.metas.now (in_scope c.args.vars.now) c.args.cat.0 (slice_range (tokens_of sheet) c.args.from c.args.to)
    c.args.prod.0 prod (con c.args.prod.0 (scheme_parts c.args.parts.now)) place found c.if-found-cat.false f)
    (rw c.as_slice.ensures at c.as_made.ensures)

pub in_group-returns-then-not-has : goal.in_group-returns-then-not-has
in_group-returns-then-not-has t c = λ w s q.
    no_group c.args.sheet.now (in_scope c.args.vars.now) c.args.from c.args.to c.requires.range.0 c.requires.range.1 c.args.cat.0
    (λ e f. true≢false (sym (c.has.ensures.1 e) ∙ c.if-not-has.true)) w s q.0

pub in_group-returns-then-not-has-2 : goal.in_group-returns-then-not-has-2
in_group-returns-then-not-has-2 t c = λ w s q.
    no_group c.args.sheet.now (in_scope c.args.vars.now) c.args.from c.args.to c.requires.range.0 c.requires.range.1 c.args.cat.0
    (λ e f. true≢false (sym (c.has-2.ensures.1 f) ∙ c.if-not-has-2.true)) w s q.0

pub in_group-returns-in_ok-found-in-Some : goal.in_group-returns-in_ok-found-in-Some
in_group-returns-in_ok-found-in-Some t c =
    let sheet = c.args.sheet.now in
    let two : c.args.from + 2 ≤ c.args.to = omega arith in
    group_first sheet.sig.now sheet.metas.now (in_scope c.args.vars.now) c.args.cat.0 (slice_range (tokens_of sheet) c.args.from c.args.to)
    (slice_range (tokens_of sheet) (c.args.from + 1) (c.args.to - 1)) (scheme c.args.term.now) c.in-Some.inside c.in_ok-found-in-Some.found
    (range_around sheet c.args.from c.args.to two c.requires.range.1 (c.has.ensures.0 c.if-not-has.false) (c.has-2.ensures.0 c.if-not-has-2.false))
    c.in_ok-found-in-Some.ensures (rw c.in-Some.is at c.in_ok-inside.ensures)

pub in_group-returns-in-None : goal.in_group-returns-in-None
in_group-returns-in-None t c =
    let sheet = c.args.sheet.now in
    let two : c.args.from + 2 ≤ c.args.to = omega arith in
    no_group_inside sheet.sig.now sheet.metas.now (in_scope c.args.vars.now) c.args.cat.0 (slice_range (tokens_of sheet) c.args.from c.args.to)
    (slice_range (tokens_of sheet) (c.args.from + 1) (c.args.to - 1)) (scheme c.args.term.now)
    (range_around sheet c.args.from c.args.to two c.requires.range.1 (c.has.ensures.0 c.if-not-has.false) (c.has-2.ensures.0 c.if-not-has-2.false))
    (rw c.in-None.is at c.in_ok-inside.ensures)

pub in_slot-place_of-requires : goal.in_slot-place_of-requires
in_slot-place_of-requires t c =
    let sheet = c.args.sheet.now in
    let known : AreKnown sheet (in_scope c.as_slice.result.now) =
    rw (c.as_slice.ensures, c.in_ok-scope.ensures) (known_scope sheet (in_scope c.args.vars.now) (map variable c.args.own.now) c.args.slot.now.binds.now c.requires.vars c.requires.own) in
    (omega (arith, c.decreases), (c.requires.sheet, (known, c.requires.within)))

pub in_splits-in_split-requires : goal.in_splits-in_split-requires
in_splits-in_split-requires t c =
    let sheet = c.args.sheet.now in
    let all = c.args.all.now in
    let j = c.loop-here.here-index in
    let here = c.here-item.result in
    let usable = split_at (λ (d : Divided). AreKnown sheet d.0 × AreWithin (length sheet.tokens.now) d.1) all j here c.loop-here-test.true c.here-item.is c.requires.usable in
    let short = reach_at all j here c.loop-here-test.true c.here-item.is in
    (omega (arith, c.decreases, short), (c.requires.sheet, (c.requires.vars, (usable.0, usable.1))))

pub in_splits-returns-in-Some : goal.in_splits-returns-in-Some
in_splits-returns-in-Some t c =
    first_split c.args.sheet.now (in_scope c.args.vars.now) c.args.alternative (map scheme c.args.terms.now) c.args.all.now c.loop-here.here-index c.here-item.result c.in-Some.found
    c.requires.in_order c.loop-here-test.true c.here-item.is c.loop-here.invariant (rw c.in-Some.is at c.in_ok-found.ensures)

pub in_splits-loop-here-preserved : goal.in_splits-loop-here-preserved
in_splits-loop-here-preserved t c =
    none_more c.args.sheet.now (in_scope c.args.vars.now) c.args.alternative (map scheme c.args.terms.now) c.args.all.now c.loop-here.here-index c.here-item.result
    c.loop-here-test.true c.here-item.is c.loop-here.invariant (rw c.in-None.is at c.in_ok-found.ensures)

pub in_splits-returns : goal.in_splits-returns
in_splits-returns t c =
    let whole : take c.loop-here.here-index c.args.all.now ≡ c.args.all.now = take_all c.loop-here.here-index c.args.all.now c.loop-here-test.false in
    rw whole at c.loop-here.invariant

pub place_of-returns-in-Some : goal.place_of-returns-in-Some
place_of-returns-in-Some t c =
    let sheet = c.args.sheet.now in
    group_is_first sheet.sig.now sheet.metas.now (in_scope c.args.vars.now) c.args.cat.0 (slice_range (tokens_of sheet) c.args.from c.args.to)
    (scheme c.args.term.now) c.in-Some.found (rw c.in-Some.is at c.in_ok-found.ensures)

pub place_of-returns-in-None : goal.place_of-returns-in-None
place_of-returns-in-None t c =
    let sheet = c.args.sheet.now in
    if_ok c.alone.result _ _ (λ found f. alone_is_first sheet.sig.now sheet.metas.now (in_scope c.args.vars.now) c.args.cat.0 (slice_range (tokens_of sheet) c.args.from c.args.to)
    (scheme c.args.term.now) found (rw c.in-None.is at c.in_ok-found.ensures) f) c.alone.ensures

pub places_of-returns-then-slots-terms : goal.places_of-returns-then-slots-terms
places_of-returns-then-slots-terms t c =
    let sheet = c.args.sheet.now in
    let slots = c.args.slots.now in
    let terms = c.args.terms.now in
    λ ws xs r. c.if-slots-terms.true
    (sym (length-map slots slot_range)
    ∙ as_many_read sheet.sig.now sheet.metas.now (tokens_of sheet) (in_scope c.args.vars.now) (map variable c.args.own.now) (map slot_range slots) (map scheme terms) ws xs r
    ∙ length-map terms scheme)

pub places_of-in_slot-requires : goal.places_of-in_slot-requires
places_of-in_slot-requires t c =
    let sheet = c.args.sheet.now in
    let slots = c.args.slots.now in
    let i = c.loop-i.i in
    let range = all_pick slot_range (λ (q : SlotRange). (q.from ≤ q.to) × (q.to ≤ length sheet.tokens.now)) slots i no_piece c.loop-i-test.true c.requires.within in
    let long = longest_at slots i no_piece c.loop-i-test.true in
    (omega (arith, c.decreases, long), (c.requires.sheet, (c.requires.vars, (c.requires.own, range))))

pub places_of-returns-in-None : goal.places_of-returns-in-None
places_of-returns-in-None t c =
    let sheet = c.args.sheet.now in
    let terms = c.args.terms.now in
    let within : c.loop-i.i < length terms = omega arith in
    none_at sheet.sig.now sheet.metas.now (tokens_of sheet) (in_scope c.args.vars.now) (map variable c.args.own.now) c.args.slots.now terms c.loop-i.i no_piece c.index-terms-i.result
    c.loop-i-test.true within c.index-terms-i.is (rw c.in-None.is at c.in_ok-found.ensures)

pub places_of-loop-i-preserved : goal.places_of-loop-i-preserved
places_of-loop-i-preserved t c =
    let sheet = c.args.sheet.now in
    let terms = c.args.terms.now in
    let within : c.loop-i.i < length terms = omega arith in
    rw c.in_ok-push-in-Some.ensures.ok
    (each_at sheet.sig.now sheet.metas.now (tokens_of sheet) (in_scope c.args.vars.now) (map variable c.args.own.now) c.args.slots.now terms c.loop-i.i no_piece c.index-terms-i.result
    c.loop-i.all c.in-Some.found c.loop-i-test.true within c.index-terms-i.is c.loop-i.invariant (rw c.in-Some.is at c.in_ok-found.ensures))

pub places_of-returns : goal.places_of-returns
places_of-returns t c =
    let sheet = c.args.sheet.now in
    let past : length c.args.terms.now ≤ c.loop-i.i = omega arith in
    all_first sheet.sig.now sheet.metas.now (tokens_of sheet) (in_scope c.args.vars.now) (map variable c.args.own.now) c.args.slots.now c.args.terms.now c.loop-i.i c.loop-i.all
    c.loop-i-test.false past c.loop-i.invariant
