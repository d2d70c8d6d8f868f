use Rattle.std.proofs.Common.{◌≡◌, ◌⊎◌, ◌+◌, ◌-◌, ◌<◌, ◌≤◌, ◌++◌, length, map, take, drop, get_or, slice_get, slice_range, Some, refl, ap, ◌∙◌, sym, subst, true≢false, arith}
use Rattle.std.proofs.lemmas.List.{length-map, take_all, map_more}
use Rattle.std.proofs.lemmas.Option.{slice_get_read}
use Rattle.scheme_terms.specs.View.{scheme, scheme_parts}
use Rattle.rule_schemes.specs.Reading.{word, slot_variables}
use Rattle.rule_schemes.specs.Said.{IsBefore, AreBefore}
use Rattle.term_reader.specs.Ordered.{ReadsTermAt}
use Rattle.term_reader.specs.Cases.{IsGroup, IsName, IsNameOf, IsNameBelow, IsVariable, IsMade, IsProduct, IsReadBelow}
use Rattle.term_reader.specs.Firsts.{listed, AreFirst}
use Rattle.term_reader.specs.Splitting.{SlotRange, Divided, tokens_of, AreKnown, AreWithin, longest, reach, slot_range, split, ReadsPieces}
use Rattle.term_reader.specs.View.{token, variable, in_scope}
use Rattle.term_reader.specs.declared.splitting.Piece.{Piece}
use Rattle.term_reader.proofs.Finding.{AreFirst-same, AreFirst-joined}
use Rattle.term_reader.proofs.Pieces.{known_scope}
use Rattle.term_reader.proofs.SplitLemmas.{if_ok, no_token}
use Rattle.term_reader.proofs.TermCases.{slot_more, none_read, no_slots, made_more, made_enough, made_in_none, made_in_splits, no_product_of, is_product, no_product, groups_first, variables_last, one_product_more, products_apart, read_enough, term_read, one_name_more, all_names, names_apart}
use Rattle.term_reader.proofs.TermEnds.{name_read, no_name_here, group_in_range, no_group, group_short}
use Rattle.term_reader.proofs.Usable.{no_piece, longest_at, reach_at, split_at, usable_splits, reach_splits, usable_brackets, reach_brackets}
use Rattle.term_reader.proofs.reading.+terms.Goals as goal
use Rattle.binding_terms.proofs.Lists.{all_pick, get_mapped_or, mapped_parts}

pub parts-terms-requires : goal.parts-terms-requires
parts-terms-requires t c =
    let sheet = c.args.sheet.now in
    let slots = c.args.slots.now in
    let j = c.loop-slot.slot-index in
    let p : Piece = get_or slots j no_piece in
    let range = all_pick slot_range (λ (q : SlotRange). (q.from ≤ q.to) × (q.to ≤ length sheet.tokens.now)) slots j no_piece c.loop-slot-test.true c.requires.within in
    let long = longest_at slots j no_piece c.loop-slot-test.true in
    let known : AreKnown sheet (in_scope c.as_slice.result.now) =
    rw (c.as_slice.ensures, c.in_ok-scope.ensures) (known_scope sheet (in_scope c.args.vars.now) (map variable c.args.own.now) p.binds.now c.requires.vars c.requires.own) in
    (omega (arith, c.decreases, long), (c.requires.sheet, (known, range)))

pub parts-loop-slot-init : goal.parts-loop-slot-init
parts-loop-slot-init t c =
    let sheet = c.args.sheet.now in
    rw c.new.ensures (no_slots sheet.sig.now sheet.metas.now (tokens_of sheet) (in_scope c.args.vars.now) (map variable c.args.own.now))

pub parts-loop-slot-preserved : goal.parts-loop-slot-preserved
parts-loop-slot-preserved t c =
    let sheet = c.args.sheet.now in
    let vars = in_scope c.args.vars.now in
    let own = map variable c.args.own.now in
    let slots = c.args.slots.now in
    let j = c.loop-slot.slot-index in
    let p : Piece = get_or slots j no_piece in
    let front = map slot_range (take j slots) in
    let Reads = ReadsPieces sheet.sig.now sheet.metas.now (tokens_of sheet) vars own in
    let bodies : AreFirst IsBefore (ReadsTermAt sheet.sig.now sheet.metas.now (slot_variables own p.binds.now ++ vars) p.cat.0 (slice_range (tokens_of sheet) p.from p.to)) (listed scheme c.in_ok-more.more) =
    rw (c.as_slice.ensures, c.in_ok-scope.ensures) at c.in_ok-more.ensures in
    subst (λ qs. AreFirst AreBefore (Reads qs) (listed scheme_parts c.in_ok-found.found)) (sym (map_more slot_range slots j no_piece c.loop-slot-test.true))
    (rw c.in_ok-found.ensures
    (slot_more sheet.sig.now sheet.metas.now (tokens_of sheet) vars own front (slot_range p) _ _ c.loop-slot.invariant bodies))

pub parts-returns-then-is_nothing : goal.parts-returns-then-is_nothing
parts-returns-then-is_nothing t c =
    let sheet = c.args.sheet.now in
    let slots = c.args.slots.now in
    let j = c.loop-slot.slot-index in
    let Reads = ReadsPieces sheet.sig.now sheet.metas.now (tokens_of sheet) (in_scope c.args.vars.now) (map variable c.args.own.now) in
    subst (λ qs. AreFirst AreBefore (Reads qs) (listed scheme_parts c.loop-slot.found)) (sym (mapped_parts slot_range slots j))
    (none_read sheet.sig.now sheet.metas.now (tokens_of sheet) (in_scope c.args.vars.now) (map variable c.args.own.now) (map slot_range (take j slots)) (map slot_range (drop j slots)) _
    c.loop-slot.invariant (c.is_nothing.ensures.0 c.if-is_nothing.true))

pub parts-returns : goal.parts-returns
parts-returns t c =
    let whole : take c.loop-slot.slot-index c.args.slots.now ≡ c.args.slots.now = take_all c.loop-slot.slot-index c.args.slots.now c.loop-slot-test.false in
    rw whole at c.loop-slot.invariant

pub in_splits-parts-requires : goal.in_splits-parts-requires
in_splits-parts-requires t c =
    let sheet = c.args.sheet.now in
    let all = c.args.all.now in
    let j = c.loop-split.split-index in
    let here = c.split-item.result in
    let usable = split_at (λ (d : Divided). AreKnown sheet d.0 × AreWithin (length sheet.tokens.now) d.1) all j here c.loop-split-test.true c.split-item.is c.requires.usable in
    let short = reach_at all j here c.loop-split-test.true c.split-item.is in
    let long : longest (map slot_range c.as_slice-in-loop-split.result.now) + 1 ≤ reach (map split all) = rw c.as_slice-in-loop-split.ensures short in
    (omega (arith, c.decreases, long), (c.requires.sheet, (c.requires.vars, (rw c.as_slice.ensures usable.0, rw c.as_slice-in-loop-split.ensures usable.1))))

pub in_splits-loop-split-init : goal.in_splits-loop-split-init
in_splits-loop-split-init t c = λ a. made_in_none c.args.sheet.now (in_scope c.args.vars.now) a c.args.head

pub in_splits-loop-split-preserved : goal.in_splits-loop-split-preserved
in_splits-loop-split-preserved t c = λ a.
    made_more c.args.sheet.now (in_scope c.args.vars.now) a c.args.head c.args.all.now c.loop-split.split-index c.split-item.result _ _ _ _ c.requires.in_order
    c.loop-split-test.true c.split-item.is (c.loop-split.invariant a) (rw (c.as_slice.ensures, c.as_slice-in-loop-split.ensures) at c.in_ok-slots.ensures) c.in_ok-more.ensures c.joined-found.ensures

pub in_splits-returns-then-is_full : goal.in_splits-returns-then-is_full
in_splits-returns-then-is_full t c = λ a.
    made_enough c.args.sheet.now (in_scope c.args.vars.now) a c.args.head c.args.all.now c.loop-split.split-index c.loop-split.found c.requires.in_order
    (c.is_full.ensures.0 c.if-is_full.true) (c.loop-split.invariant a)

pub in_splits-returns : goal.in_splits-returns
in_splits-returns t c =
    let whole : take c.loop-split.split-index c.args.all.now ≡ c.args.all.now = take_all c.loop-split.split-index c.args.all.now c.loop-split-test.false in
    rw whole at c.loop-split.invariant

pub name-in_splits-requires : goal.name-in_splits-requires
name-in_splits-requires t c =
    let sheet = c.args.sheet.now in
    let end : c.args.from + 1 ≤ c.args.to = omega arith in
    let usable = usable_brackets sheet (c.args.from + 1) c.args.to c.requires.range.1 _ _ c.in_ok-all.ensures in
    let short = reach_brackets sheet (c.args.from + 1) c.args.to c.requires.range.1 _ _ end c.in_ok-all.ensures in
    let long : reach (map split c.as_slice-2.result.now) ≤ c.args.to - (c.args.from + 1) + 1 = rw c.as_slice-2.ensures short in
    (omega (arith, c.decreases, long), (c.requires.sheet, (c.requires.vars, (rw c.as_slice-2.ensures usable, rw c.as_slice-2.ensures (c.in_ok-all.ensures).in_order))))

pub name-returns-then-from-to : goal.name-returns-then-from-to
name-returns-then-from-to t c =
    let sheet = c.args.sheet.now in
    no_name_here sheet (in_scope c.args.vars.now) c.args.from c.args.to c.requires.range.0 c.requires.range.1 c.args.m c.args.decl.now c.args.cat.0
    (λ lt e. omega arith)

pub name-returns-then-decl-cat : goal.name-returns-then-decl-cat
name-returns-then-decl-cat t c = λ w s h. absurd (c.if-decl-cat.true h.5)

pub name-returns-then-not-is_word : goal.name-returns-then-not-is_word
name-returns-then-not-is_word t c =
    let sheet = c.args.sheet.now in
    let l : c.args.from < length sheet.tokens.now = omega arith in
    let here = get_or sheet.tokens.now c.args.from no_token in
    no_name_here sheet (in_scope c.args.vars.now) c.args.from c.args.to c.requires.range.0 c.requires.range.1 c.args.m c.args.decl.now c.args.cat.0
    (λ lt e. (let two : Some (token here) ≡ Some (word c.args.decl.now.name) = sym (get_mapped_or token sheet.tokens.now c.args.from no_token l) ∙ e in
    let same : token here ≡ word c.args.decl.now.name = cc in
    true≢false (sym (c.is_word.ensures.1 (rw c.bytes.ensures same)) ∙ c.if-not-is_word.true)))

pub name-returns : goal.name-returns
name-returns t c =
    let sheet = c.args.sheet.now in
    let l : c.args.from < length sheet.tokens.now = omega arith in
    let lt : c.args.from < c.args.to = omega arith in
    let here = get_or sheet.tokens.now c.args.from no_token in
    let this : token here ≡ word c.args.decl.now.name = rw c.bytes.ensures at (c.is_word.ensures.0 c.if-not-is_word.false) in
    let found : slice_get (tokens_of sheet) c.args.from ≡ Some (word c.args.decl.now.name) = get_mapped_or token sheet.tokens.now c.args.from no_token l ∙ ap Some this in
    if_ok c.in_splits.result _ _ (λ more f. name_read sheet (in_scope c.args.vars.now) c.requires.vars c.args.from c.args.to c.requires.range.1 c.args.m c.args.decl.now c.args.cat.0 _ _ _
    c.in_ok-number.ensures c.if-decl-cat.false lt found (rw c.as_slice.ensures at c.in_ok-all.ensures) (f 1))
    (rw c.as_slice-2.ensures at c.in_splits.ensures)

pub names-loop-m-preserved : goal.names-loop-m-preserved
names-loop-m-preserved t c =
    let sheet = c.args.sheet.now in
    let sig = sheet.sig.now in
    let vars = in_scope c.args.vars.now in
    let us = slice_range (tokens_of sheet) c.args.from c.args.to in
    let ms = sheet.metas.now in
    let decl = c.index-metas-m.result in
    let found = slice_get_read ms _ c.loop-m.m decl refl c.loop-m-test.true c.index-metas-m.is in
    AreFirst-same IsBefore _ (IsNameBelow (c.loop-m.m + 1) sig ms vars c.args.cat.0 us) _ (λ w s. one_name_more sig ms vars c.args.cat.0 us c.loop-m.m decl w s found)
    (AreFirst-joined IsBefore (IsNameBelow c.loop-m.m sig ms vars c.args.cat.0 us) (IsNameOf sig ms vars c.loop-m.m decl c.args.cat.0 us) _ _ _
    (names_apart sig ms vars c.args.cat.0 us c.loop-m.m decl c.requires.sheet.names found) c.joined-found.ensures c.loop-m.invariant c.in_ok-more.ensures)

pub names-returns : goal.names-returns
names-returns t c =
    let sheet = c.args.sheet.now in
    let vars = in_scope c.args.vars.now in
    let us = slice_range (tokens_of sheet) c.args.from c.args.to in
    AreFirst-same IsBefore _ (IsName sheet.sig.now sheet.metas.now vars c.args.cat.0 us) _
    (λ w s. all_names sheet.sig.now sheet.metas.now vars c.args.cat.0 us c.loop-m.m w s c.loop-m-test.false) c.loop-m.invariant

pub made-in_splits-requires : goal.made-in_splits-requires
made-in_splits-requires t c =
    let sheet = c.args.sheet.now in
    let usable = usable_splits sheet c.args.from c.args.to c.requires.range.1 c.args.items.now _ c.in_ok-all.ensures in
    let short = reach_splits sheet c.args.from c.args.to c.requires.range.1 c.args.items.now _ c.requires.some c.requires.not_single c.in_ok-all.ensures in
    let long : reach (map split c.as_slice.result.now) ≤ c.args.to - c.args.from = rw c.as_slice.ensures short in
    (omega (arith, c.decreases, long), (c.requires.sheet, (c.requires.vars, (rw c.as_slice.ensures usable, rw c.as_slice.ensures (c.in_ok-all.ensures).in_order))))

pub made-returns : goal.made-returns
made-returns t c =
    let sheet = c.args.sheet.now in
    let vars = in_scope c.args.vars.now in
    let within : c.args.to ≤ length (tokens_of sheet) = omega (arith, length-map sheet.tokens.now token) in
    if_ok c.in_splits.result _ _ (λ found f. AreFirst-same IsBefore _
    (IsMade sheet.sig.now sheet.metas.now vars (3 + c.args.prod.0) c.args.prod.0 c.args.items.now (slice_range (tokens_of sheet) c.args.from c.args.to)) (listed scheme found)
    (λ w s. made_in_splits sheet vars c.requires.vars c.args.from c.args.to c.requires.range.0 within (3 + c.args.prod.0) c.args.prod c.args.items.now _ w s c.in_ok-all.ensures)
    (f (3 + c.args.prod.0)))
    (rw c.as_slice.ensures at c.in_splits.ensures)

pub product-returns-then-prod-cat : goal.product-returns-then-prod-cat
product-returns-then-prod-cat t c =
    let sheet = c.args.sheet.now in
    let prod = c.index-prod.result.now in
    let found : slice_get sheet.sig.now.prods c.args.p ≡ Some prod =
    slice_get_read sheet.sig.now.prods _ c.args.p prod refl c.requires.prod (rw c.prods.ensures.value at c.index-prod.ensures) in
    no_product_of sheet.sig.now sheet.metas.now (in_scope c.args.vars.now) c.args.cat.0 (slice_range (tokens_of sheet) c.args.from c.args.to) c.args.p prod found c.if-prod-cat.true

pub product-returns : goal.product-returns
product-returns t c =
    let sheet = c.args.sheet.now in
    let vars = in_scope c.args.vars.now in
    let us = slice_range (tokens_of sheet) c.args.from c.args.to in
    let prod = c.index-prod.result.now in
    let found : slice_get sheet.sig.now.prods c.args.p ≡ Some prod =
    slice_get_read sheet.sig.now.prods _ c.args.p prod refl c.requires.prod (rw c.prods.ensures.value at c.index-prod.ensures) in
    if_ok c.made.result _ _ (λ more f. AreFirst-same IsBefore _ (IsProduct sheet.sig.now sheet.metas.now vars c.args.p c.args.cat.0 us) _
    (λ w s. is_product sheet.sig.now sheet.metas.now vars c.args.cat.0 us c.args.p prod w s found c.if-prod-cat.false) f)
    (rw (c.in_ok-number.ensures, c.as_slice.ensures) at c.made.ensures)

pub group-returns-then-to-from-lt2 : goal.group-returns-then-to-from-lt2
group-returns-then-to-from-lt2 t c =
    group_short c.args.sheet.now (in_scope c.args.vars.now) c.args.from c.args.to c.requires.range.0 c.requires.range.1 c.args.cat.0 c.if-to-from-lt2.true

pub group-returns-then-not-has : goal.group-returns-then-not-has
group-returns-then-not-has t c =
    no_group c.args.sheet.now (in_scope c.args.vars.now) c.args.from c.args.to c.requires.range.0 c.requires.range.1 c.args.cat.0
    (λ e f. true≢false (sym (c.has.ensures.1 e) ∙ c.if-not-has.true))

pub group-returns-then-not-has-2 : goal.group-returns-then-not-has-2
group-returns-then-not-has-2 t c =
    no_group c.args.sheet.now (in_scope c.args.vars.now) c.args.from c.args.to c.requires.range.0 c.requires.range.1 c.args.cat.0
    (λ e f. true≢false (sym (c.has-2.ensures.1 f) ∙ c.if-not-has-2.true))

pub group-returns : goal.group-returns
group-returns t c =
    let two : c.args.from + 2 ≤ c.args.to = omega arith in
    if_ok c.terms.result _ _ (λ found f. group_in_range c.args.sheet.now (in_scope c.args.vars.now) c.args.from c.args.to c.requires.range.0 c.requires.range.1 c.args.cat.0 _ two
    (c.has.ensures.0 c.if-not-has.false) (c.has-2.ensures.0 c.if-not-has-2.false) f)
    c.terms.ensures

pub terms-loop-p-init : goal.terms-loop-p-init
terms-loop-p-init t c =
    let sheet = c.args.sheet.now in
    let sig = sheet.sig.now in
    let ms = sheet.metas.now in
    let vars = in_scope c.args.vars.now in
    let cat = c.args.cat.0 in
    let us = slice_range (tokens_of sheet) c.args.from c.args.to in
    AreFirst-same IsBefore _ (IsReadBelow 0 sig ms vars cat us) _ (λ w s. no_product sig ms vars cat us w s)
    (AreFirst-joined IsBefore (λ w s. IsGroup sig ms vars cat us w s ⊎ IsName sig ms vars cat us w s) (IsVariable vars cat us) _ _ _
    (variables_last sig ms vars cat us) c.joined-found.ensures
    (AreFirst-joined IsBefore (IsGroup sig ms vars cat us) (IsName sig ms vars cat us) _ _ _
    (groups_first sig ms vars cat us) c.joined.ensures c.in_ok-groups.ensures c.in_ok-named.ensures)
    c.variables-bound.ensures)

pub terms-loop-p-preserved : goal.terms-loop-p-preserved
terms-loop-p-preserved t c =
    let sheet = c.args.sheet.now in
    let sig = sheet.sig.now in
    let ms = sheet.metas.now in
    let vars = in_scope c.args.vars.now in
    let cat = c.args.cat.0 in
    let us = slice_range (tokens_of sheet) c.args.from c.args.to in
    let same : c.loop-p.p ≤ c.loop-p.p = omega arith in
    AreFirst-same IsBefore _ (IsReadBelow (c.loop-p.p + 1) sig ms vars cat us) _ (λ w s. one_product_more sig ms vars cat us c.loop-p.p w s)
    (AreFirst-joined IsBefore (IsReadBelow c.loop-p.p sig ms vars cat us) (IsProduct sig ms vars c.loop-p.p cat us) _ _ _
    (products_apart sig ms vars cat us c.loop-p.p c.loop-p.p same) c.joined-found-in-loop-p.ensures c.loop-p.invariant c.in_ok-more.ensures)

pub terms-returns-then-is_full : goal.terms-returns-then-is_full
terms-returns-then-is_full t c =
    let sheet = c.args.sheet.now in
    read_enough sheet.sig.now sheet.metas.now (in_scope c.args.vars.now) c.args.cat.0 (slice_range (tokens_of sheet) c.args.from c.args.to) c.loop-p.p c.loop-p.found
    (c.is_full.ensures.0 c.if-is_full.true) c.loop-p.invariant

pub terms-returns : goal.terms-returns
terms-returns t c =
    let sheet = c.args.sheet.now in
    let sig = sheet.sig.now in
    let vars = in_scope c.args.vars.now in
    let us = slice_range (tokens_of sheet) c.args.from c.args.to in
    let all : length sig.prods ≤ c.loop-p.p = omega (arith, ap length c.prods.ensures.value) in
    AreFirst-same IsBefore _ (ReadsTermAt sig sheet.metas.now vars c.args.cat.0 us) _ (λ w s. term_read sig sheet.metas.now vars c.args.cat.0 us c.loop-p.p w s all) c.loop-p.invariant
