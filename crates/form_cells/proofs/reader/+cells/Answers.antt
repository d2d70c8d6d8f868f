use Rattle.std.proofs.Common.{◌≡◌, ◌+◌, ◌-◌, ◌<◌, ◌≤◌, [], ◌∷◌, length, map, drop, get_or, slice_get, Some, refl, inl, inr, ap, ◌∙◌, sym, subst, true≢false, arith, length-drop}
use Rattle.std.proofs.lemmas.List.{take_all, drop_all, drop_more}
use Rattle.std.proofs.lemmas.Option.{slice_get_read, slice_get-get_or, slice_get_within}
use Rattle.std.proofs.lemmas.Bool.{cases_lt}
use Rattle.scheme_terms.specs.declared.scheme.MetaDecl.{MetaDecl}
use Rattle.binding_terms.proofs.Lists.{all_at, drop_next, get_mapped_or, some_once}
use Rattle.binding_terms.specs.Signature.{ProdFits}
use Rattle.binding_terms.specs.declared.grammar.Item.TheVariants.{Word, Slot, Binder}
use Rattle.rule_schemes.specs.Reading.{Token, word, punctuation, IsTerminal, IsVariableWord}
use Rattle.scheme_terms.specs.SchemeTree.{meta, no_values}
use Rattle.rule_schemes.specs.Said.{IsBefore, way, no_ways}
use Rattle.ordered_readings.specs.AnswerView.{answers}
use Rattle.ordered_readings.specs.Cells.{ReadsTermAt, ReadsItemsAt, ReadsBracketsAt, ReadsArgumentsAt, TakesFirst, TakesFewer}
use Rattle.ordered_readings.specs.FirstTwo.{AreFirst}
use Rattle.form_cells.specs.Cells.{tokens_of, range_of, IsGroup}
use Rattle.form_cells.specs.Words.{words_of}
use Rattle.form_cells.specs.View.{token, variable, in_scope}
use Rattle.form_cells.proofs.Joining.{no_first, none_listed}
use Rattle.form_cells.proofs.Ranges.{range_length, range_cons, range_end, range_begins}
use Rattle.form_cells.proofs.Tokens.{no_token, seen}
use Rattle.form_cells.proofs.VariableLemmas.{no_variable}
use Rattle.binding_terms.specs.declared.grammar.CatId.{CatId}
use Rattle.form_cells.proofs.WordLemmas.{if_ok, enough_tokens}
use Rattle.form_cells.proofs.TermLemmas.{group_short, no_group, group_in_range, no_name, same_name, name_read, no_product, product_joined, read_enough, all_read_terms}
use Rattle.form_cells.proofs.ArgumentLemmas.{arguments_more, no_length, all_lengths, no_arguments, no_brackets_read, brackets_of_none, no_bracket, brackets_read, comma_behind, bracket_behind, nothing_behind, argument_in_range, no_argument}
use Rattle.form_cells.proofs.RowLemmas.{end_told, none_short, terminal_not, terminal_read, binder_not, binder_read, no_slot, slot_more, slot_lengths, slot_enough, slot_in_range, no_slot_read, no_rest_read, no_binds, two_or_more, single_slot, range_same, no_words_left, words_left}
use Rattle.form_cells.proofs.ProductLemmas.{still, later, on_any, on_ok, one_list_more, no_product_of, no_made, all_lists}
use Rattle.form_cells.proofs.reader.+cells.Goals as goal

pub group-returns-then-to-from-lt2-clause-first : goal.group-returns-then-to-from-lt2-clause-first
group-returns-then-to-from-lt2-clause-first t c =
    let sheet = c.args.sheet.now in
    group_short sheet.sig.now sheet.metas.now (in_scope c.args.scope.now.vars.now) c.args.cat.0 (tokens_of sheet) c.args.from c.args.to c.requires.range.0 (seen sheet c.args.to c.requires.range.1)
    c.if-to-from-lt2.true

pub group-returns-then-to-from-lt2-clause-table : goal.group-returns-then-to-from-lt2-clause-table
group-returns-then-to-from-lt2-clause-table t c = still c.args.sheet.now c.args.table.now c.requires.table

pub group-returns-then-not-has-clause-first : goal.group-returns-then-not-has-clause-first
group-returns-then-not-has-clause-first t c =
    let sheet = c.args.sheet.now in
    no_group sheet.sig.now sheet.metas.now (in_scope c.args.scope.now.vars.now) c.args.cat.0 (tokens_of sheet) c.args.from c.args.to c.requires.range.0 (seen sheet c.args.to c.requires.range.1)
    (λ e f. true≢false (sym (c.has.ensures.1 e) ∙ c.if-not-has.true))

pub group-returns-then-not-has-clause-table : goal.group-returns-then-not-has-clause-table
group-returns-then-not-has-clause-table t c = still c.args.sheet.now c.args.table.now c.requires.table

pub group-returns-then-not-has-2-clause-first : goal.group-returns-then-not-has-2-clause-first
group-returns-then-not-has-2-clause-first t c =
    let sheet = c.args.sheet.now in
    no_group sheet.sig.now sheet.metas.now (in_scope c.args.scope.now.vars.now) c.args.cat.0 (tokens_of sheet) c.args.from c.args.to c.requires.range.0 (seen sheet c.args.to c.requires.range.1)
    (λ e f. true≢false (sym (c.has-2.ensures.1 f) ∙ c.if-not-has-2.true))

pub group-returns-then-not-has-2-clause-table : goal.group-returns-then-not-has-2-clause-table
group-returns-then-not-has-2-clause-table t c = still c.args.sheet.now c.args.table.now c.requires.table

pub group-cell-requires : goal.group-cell-requires
group-cell-requires t c = (omega (arith, c.decreases), (c.requires.names, (c.requires.table, (c.requires.scope, (omega arith, omega (arith, c.requires.range.1))))))

pub group-returns-clause-first : goal.group-returns-clause-first
group-returns-clause-first t c =
    let sheet = c.args.sheet.now in
    let two : c.args.from + 2 ≤ c.args.to = omega arith in
    if_ok c.all_in_parentheses.result _ _
    (λ found e. subst (AreFirst IsBefore (IsGroup sheet.sig.now sheet.metas.now (in_scope c.args.scope.now.vars.now) c.args.cat.0 (range_of sheet c.args.from c.args.to))) (sym e)
    (group_in_range sheet.sig.now sheet.metas.now (in_scope c.args.scope.now.vars.now) c.args.cat.0 (tokens_of sheet) c.args.from c.args.to c.requires.range.0 (seen sheet c.args.to c.requires.range.1)
    (answers c.in_ok-inside.inside) two (c.has.ensures.0 c.if-not-has.false) (c.has-2.ensures.0 c.if-not-has-2.false) c.in_ok-inside.ensures.first))
    c.all_in_parentheses.ensures

pub group-returns-clause-table : goal.group-returns-clause-table
group-returns-clause-table t c = on_any c.all_in_parentheses.result _ c.in_ok-inside.ensures.table

pub cell-anew-requires : goal.cell-anew-requires
cell-anew-requires t c = (omega (arith, c.decreases), (c.requires.names, (c.requires.table, (c.requires.scope, c.requires.range))))

pub cell-keep-requires-clause-table : goal.cell-keep-requires-clause-table
cell-keep-requires-clause-table t c = c.in_ok-found-in-None.ensures.table.cells

pub cell-keep-requires-clause-scope : goal.cell-keep-requires-clause-scope
cell-keep-requires-clause-scope t c = c.in_ok-found-in-None.ensures.table.scopes _ _ c.requires.scope

pub cell-keep-requires-clause-found : goal.cell-keep-requires-clause-found
cell-keep-requires-clause-found t c = c.in_ok-found-in-None.ensures.first

pub cell-returns-in-Some-clause-table : goal.cell-returns-in-Some-clause-table
cell-returns-in-Some-clause-table t c = still c.args.sheet.now c.args.table.now c.requires.table

pub cell-returns-in_ok-keep-in-None-clause-first : goal.cell-returns-in_ok-keep-in-None-clause-first
cell-returns-in_ok-keep-in-None-clause-first t c = c.in_ok-found-in-None.ensures.first

pub cell-returns-in_ok-keep-in-None-clause-table : goal.cell-returns-in_ok-keep-in-None-clause-table
cell-returns-in_ok-keep-in-None-clause-table t c = later c.in_ok-found-in-None.ensures.table c.in_ok-keep-in-None.ensures

pub anew-group-requires : goal.anew-group-requires
anew-group-requires t c = (omega (arith, c.decreases), (c.requires.names, (c.requires.table, (c.requires.scope, c.requires.range))))

pub anew-name-requires : goal.anew-name-requires
anew-name-requires t c =
    let follows = c.in_ok-groups.ensures.table in
    (omega (arith, c.decreases), (c.requires.names, (follows.cells, (follows.scopes _ _ c.requires.scope, c.requires.range))))

pub anew-bound_variable-bound-requires : goal.anew-bound_variable-bound-requires
anew-bound_variable-bound-requires t c = record { range = c.requires.range }

pub anew-loop-p-init : goal.anew-loop-p-init
anew-loop-p-init t c =
    let sheet = c.args.sheet.now in (
      no_product sheet.sig.now sheet.metas.now (in_scope c.args.scope.now.vars.now) c.args.cat.0 (range_of sheet c.args.from c.args.to) c.requires.names _ _ _ _ _
          c.in_ok-groups.ensures.first c.in_ok-named.ensures.first c.bound_variable-bound.ensures c.joined.ensures c.joined-found.ensures,
      later c.in_ok-groups.ensures.table c.in_ok-named.ensures.table,
    )

pub anew-returns-then-is_full-clause-first : goal.anew-returns-then-is_full-clause-first
anew-returns-then-is_full-clause-first t c =
    let sheet = c.args.sheet.now in
    read_enough sheet.sig.now sheet.metas.now (in_scope c.args.scope.now.vars.now) c.args.cat.0 (range_of sheet c.args.from c.args.to) c.loop-p.p (answers c.loop-p.found)
    (c.is_full.ensures.0 c.if-is_full.true) c.loop-p.invariant.0

pub anew-returns-then-is_full-clause-table : goal.anew-returns-then-is_full-clause-table
anew-returns-then-is_full-clause-table t c = c.loop-p.invariant.1

pub anew-product_of-requires : goal.anew-product_of-requires
anew-product_of-requires t c =
    let follows = c.loop-p.invariant.1 in
    let some : c.loop-p.p < length c.args.sheet.now.sig.now.prods = omega (arith, c.loop-p-test.true, ap length c.prods.ensures.value) in
    (omega (arith, c.decreases), (c.requires.names, (follows.cells, (follows.scopes _ _ c.requires.scope, (some, c.requires.range)))))

pub anew-loop-p-preserved : goal.anew-loop-p-preserved
anew-loop-p-preserved t c =
    let sheet = c.args.sheet.now in (
      product_joined sheet.sig.now sheet.metas.now (in_scope c.args.scope.now.vars.now) c.args.cat.0 (range_of sheet c.args.from c.args.to) c.requires.names c.loop-p.p _ _ _
          c.loop-p.invariant.0 c.in_ok-more.ensures.first c.joined-found-in-loop-p.ensures,
      later c.loop-p.invariant.1 c.in_ok-more.ensures.table,
    )

pub anew-returns-clause-first : goal.anew-returns-clause-first
anew-returns-clause-first t c =
    let sheet = c.args.sheet.now in
    let all : length sheet.sig.now.prods ≤ c.loop-p.p = omega (arith, c.loop-p-test.false, ap length c.prods.ensures.value) in
    all_read_terms sheet.sig.now sheet.metas.now (in_scope c.args.scope.now.vars.now) c.args.cat.0 (range_of sheet c.args.from c.args.to) c.loop-p.p _ all c.loop-p.invariant.0

pub anew-returns-clause-table : goal.anew-returns-clause-table
anew-returns-clause-table t c = c.loop-p.invariant.1

pub name-returns-then-from-to-clause-first : goal.name-returns-then-from-to-clause-first
name-returns-then-from-to-clause-first t c =
    let sheet = c.args.sheet.now in
    no_name sheet.sig.now sheet.metas.now (in_scope c.args.scope.now.vars.now) c.args.cat.0 (tokens_of sheet) c.args.from c.args.to c.requires.range.0 (seen sheet c.args.to c.requires.range.1)
    (λ m decl e f lt h. absurd (omega arith))

pub name-returns-then-from-to-clause-table : goal.name-returns-then-from-to-clause-table
name-returns-then-from-to-clause-table t c = still c.args.sheet.now c.args.table.now c.requires.table

pub name-loop-m-init : goal.name-loop-m-init
name-loop-m-init t c = (λ n decl lt e h. absurd (omega (arith, lt)), still c.args.sheet.now c.args.table.now c.requires.table)

pub name-returns-then-metas-m-clause-first : goal.name-returns-then-metas-m-clause-first
name-returns-then-metas-m-clause-first t c =
    let sheet = c.args.sheet.now in
    let ms = sheet.metas.now in
    let lt : c.loop-m.m < length ms = omega (arith, c.loop-m-test.true) in
    let d = get_or ms c.loop-m.m c.index-metas-m.result in
    let other = get_or ms c.loop-m.m c.index-metas-m-then-is_word.result in
    let same : d ≡ other = some_once (slice_get-get_or ms c.loop-m.m c.index-metas-m.result lt) (slice_get-get_or ms c.loop-m.m c.index-metas-m-then-is_word.result lt) in
    let l : c.args.from < length sheet.tokens.now = omega (arith, c.requires.range.1) in
    let here : slice_get (tokens_of sheet) c.args.from ≡ Some (word d.name) =
    get_mapped_or token sheet.tokens.now c.args.from no_token l ∙ ap Some (rw c.bytes.ensures at (c.is_word.ensures.0 c.if-is_word.true)) in
    no_name sheet.sig.now ms (in_scope c.args.scope.now.vars.now) c.args.cat.0 (tokens_of sheet) c.args.from c.args.to c.requires.range.0 (seen sheet c.args.to c.requires.range.1)
    (λ i x cat f less h.
    (let tells = same_name sheet.sig.now ms (in_scope c.args.scope.now.vars.now) c.args.cat.0 (tokens_of sheet) c.args.from c.args.to c.requires.range.0 (seen sheet c.args.to c.requires.range.1)
    c.requires.names c.loop-m.m d (slice_get-get_or ms c.loop-m.m c.index-metas-m.result lt) here i x f h in
    c.if-metas-m.true (ap (λ (y : MetaDecl). y.cat.0) (sym same ∙ sym tells.1) ∙ cat)))

pub name-returns-then-metas-m-clause-table : goal.name-returns-then-metas-m-clause-table
name-returns-then-metas-m-clause-table t c = c.loop-m.invariant.1

pub name-brackets-requires : goal.name-brackets-requires
name-brackets-requires t c =
    let follows = c.loop-m.invariant.1 in
    (omega (arith, c.decreases), (c.requires.names, (follows.cells, (follows.scopes _ _ c.requires.scope, (omega arith, (omega arith, c.requires.range.1))))))

pub name-returns-then-is_word-clause-first : goal.name-returns-then-is_word-clause-first
name-returns-then-is_word-clause-first t c =
    let sheet = c.args.sheet.now in
    let ms = sheet.metas.now in
    let lt : c.loop-m.m < length ms = omega (arith, c.loop-m-test.true) in
    let d = get_or ms c.loop-m.m c.index-metas-m.result in
    let other = get_or ms c.loop-m.m c.index-metas-m-then-is_word.result in
    let last = get_or ms c.loop-m.m c.index-metas-m-then-is_word-2.result in
    let at = slice_get-get_or ms c.loop-m.m c.index-metas-m-then-is_word-2.result lt in
    let same : d ≡ last = some_once (slice_get-get_or ms c.loop-m.m c.index-metas-m.result lt) at in
    let also : other ≡ last = some_once (slice_get-get_or ms c.loop-m.m c.index-metas-m-then-is_word.result lt) at in
    let l : c.args.from < length sheet.tokens.now = omega (arith, c.requires.range.1) in
    let less : c.args.from < c.args.to = omega arith in
    let here : slice_get (tokens_of sheet) c.args.from ≡ Some (word d.name) =
    get_mapped_or token sheet.tokens.now c.args.from no_token l ∙ ap Some (rw c.bytes.ensures at (c.is_word.ensures.0 c.if-is_word.true)) in
    if_ok c.brackets.result _ _
    (λ found f. name_read sheet.sig.now ms (in_scope c.args.scope.now.vars.now) c.args.cat.0 (tokens_of sheet) c.args.from c.args.to c.requires.range.0 (seen sheet c.args.to c.requires.range.1)
    c.requires.names c.loop-m.m last (answers found) at (ap (λ (y : MetaDecl). y.cat.0) (sym also) ∙ c.if-metas-m.false) less
    (here ∙ ap (λ (y : MetaDecl). Some (word y.name)) same) f)
    (rw (c.in_ok-number.ensures, c.as_slice-params.ensures) at c.brackets.ensures.first)

pub name-returns-then-is_word-clause-table : goal.name-returns-then-is_word-clause-table
name-returns-then-is_word-clause-table t c = on_ok c.brackets.result _ _ (λ f. later c.loop-m.invariant.1 f) c.brackets.ensures.table

pub name-loop-m-preserved : goal.name-loop-m-preserved
name-loop-m-preserved t c =
    let sheet = c.args.sheet.now in
    let ms = sheet.metas.now in
    let lt : c.loop-m.m < length ms = omega (arith, c.loop-m-test.true) in
    let d = get_or ms c.loop-m.m c.index-metas-m.result in
    let l : c.args.from < length sheet.tokens.now = omega (arith, c.requires.range.1) in (
      λ n decl less e h. elim (cases_lt n c.loop-m.m) [
        | inl below ↦ c.loop-m.invariant.0 n decl below e h
        | inr le ↦
            (let is : n ≡ c.loop-m.m = omega (arith, less) in
            let same : decl ≡ d = some_once (sym (ap (slice_get ms) is) ∙ e) (slice_get-get_or ms c.loop-m.m c.index-metas-m.result lt) in
            let two : Some (token (get_or sheet.tokens.now c.args.from no_token)) ≡ Some (word decl.name) =
            sym (get_mapped_or token sheet.tokens.now c.args.from no_token l) ∙ h in
            let one : token (get_or sheet.tokens.now c.args.from no_token) ≡ word decl.name = cc in
            true≢false (sym (c.is_word.ensures.1 (rw c.bytes.ensures (one ∙ ap (λ (y : MetaDecl). word y.name) same))) ∙ c.if-is_word.false))
      ],
      c.loop-m.invariant.1,
    )

pub name-returns-clause-first : goal.name-returns-clause-first
name-returns-clause-first t c =
    let sheet = c.args.sheet.now in
    no_name sheet.sig.now sheet.metas.now (in_scope c.args.scope.now.vars.now) c.args.cat.0 (tokens_of sheet) c.args.from c.args.to c.requires.range.0 (seen sheet c.args.to c.requires.range.1)
    (λ m decl e f lt h. c.loop-m.invariant.0 m decl (let within = slice_get_within sheet.metas.now m decl f in omega (arith, c.loop-m-test.false, within)) f h)

pub name-returns-clause-table : goal.name-returns-clause-table
name-returns-clause-table t c = c.loop-m.invariant.1

pub brackets-returns-then-from-to-clause-first : goal.brackets-returns-then-from-to-clause-first
brackets-returns-then-from-to-clause-first t c =
    let sheet = c.args.sheet.now in
    let all : length c.args.params.now ≤ c.args.at = omega arith in
    subst (λ ps. AreFirst IsBefore (ReadsBracketsAt sheet.sig.now sheet.metas.now (in_scope c.args.scope.now.vars.now) (map (λ p. p.0) ps) c.args.meta.0 (range_of sheet c.args.from c.args.to)) [])
    (sym (drop_all c.args.at c.args.params.now all))
    (brackets_of_none sheet.sig.now sheet.metas.now (in_scope c.args.scope.now.vars.now) c.args.meta.0 (range_of sheet c.args.from c.args.to)
    (λ e. c.if-from-to.true (range_end (tokens_of sheet) c.args.from c.args.to c.requires.range.0 (seen sheet c.args.to c.requires.range.1) (sym e))))

pub brackets-returns-then-from-to-clause-table : goal.brackets-returns-then-from-to-clause-table
brackets-returns-then-from-to-clause-table t c = still c.args.sheet.now c.args.table.now c.requires.table

pub brackets-returns-then-at-params-clause-first : goal.brackets-returns-then-at-params-clause-first
brackets-returns-then-at-params-clause-first t c =
    let sheet = c.args.sheet.now in
    let all : length c.args.params.now ≤ c.args.at = omega arith in
    let none = range_same (tokens_of sheet) c.args.from c.args.to c.if-from-to.false (seen sheet c.args.to c.requires.range.1) in
    subst (AreFirst IsBefore (ReadsBracketsAt sheet.sig.now sheet.metas.now (in_scope c.args.scope.now.vars.now) (map (λ p. p.0) (drop c.args.at c.args.params.now)) c.args.meta.0 (range_of sheet c.args.from c.args.to)))
    (sym c.at_end.ensures)
    (subst (λ ps. AreFirst IsBefore (ReadsBracketsAt sheet.sig.now sheet.metas.now (in_scope c.args.scope.now.vars.now) (map (λ p. p.0) ps) c.args.meta.0 (range_of sheet c.args.from c.args.to))
    ((way 1 [] no_ways, meta c.args.meta.0 no_values) ∷ []))
    (sym (drop_all c.args.at c.args.params.now all))
    (subst (λ us. AreFirst IsBefore (ReadsBracketsAt sheet.sig.now sheet.metas.now (in_scope c.args.scope.now.vars.now) [] c.args.meta.0 us) ((way 1 [] no_ways, meta c.args.meta.0 no_values) ∷ []))
    (sym none) (no_brackets_read sheet.sig.now sheet.metas.now (in_scope c.args.scope.now.vars.now) c.args.meta.0)))

pub brackets-returns-then-at-params-clause-table : goal.brackets-returns-then-at-params-clause-table
brackets-returns-then-at-params-clause-table t c = still c.args.sheet.now c.args.table.now c.requires.table

pub brackets-returns-then-from-to-2-clause-first : goal.brackets-returns-then-from-to-2-clause-first
brackets-returns-then-from-to-2-clause-first t c =
    let sheet = c.args.sheet.now in
    let lt : c.args.at < length c.args.params.now = omega (arith, c.requires.params) in
    let next = drop_next c.args.params.now c.args.at lt in
    no_bracket sheet.sig.now sheet.metas.now (in_scope c.args.scope.now.vars.now) c.args.meta.0 (map (λ p. p.0) (drop c.args.at c.args.params.now)) (range_of sheet c.args.from c.args.to)
    (λ e. (let two = sym (ap (map (λ p. p.0)) next.1) ∙ e in cc))
    (λ rest e. (let b = range_begins (tokens_of sheet) c.args.from c.args.to (punctuation 91) rest c.requires.range.0 (seen sheet c.args.to c.requires.range.1) (sym e) in absurd (omega (arith, b.0))))

pub brackets-returns-then-from-to-2-clause-table : goal.brackets-returns-then-from-to-2-clause-table
brackets-returns-then-from-to-2-clause-table t c = still c.args.sheet.now c.args.table.now c.requires.table

pub brackets-returns-then-not-has-clause-first : goal.brackets-returns-then-not-has-clause-first
brackets-returns-then-not-has-clause-first t c =
    let sheet = c.args.sheet.now in
    let lt : c.args.at < length c.args.params.now = omega (arith, c.requires.params) in
    let next = drop_next c.args.params.now c.args.at lt in
    no_bracket sheet.sig.now sheet.metas.now (in_scope c.args.scope.now.vars.now) c.args.meta.0 (map (λ p. p.0) (drop c.args.at c.args.params.now)) (range_of sheet c.args.from c.args.to)
    (λ e. (let two = sym (ap (map (λ p. p.0)) next.1) ∙ e in cc))
    (λ rest e. (let b = range_begins (tokens_of sheet) c.args.from c.args.to (punctuation 91) rest c.requires.range.0 (seen sheet c.args.to c.requires.range.1) (sym e) in
    true≢false (sym (c.has.ensures.1 b.1) ∙ c.if-not-has.true)))

pub brackets-returns-clause-first : goal.brackets-returns-clause-first
brackets-returns-clause-first t c =
    let sheet = c.args.sheet.now in
    let lt : c.args.at < length c.args.params.now = omega (arith, c.requires.params) in
    let next = drop_next c.args.params.now c.args.at lt in
    let less : c.args.from < c.args.to = omega (arith, c.requires.range.0) in
    let whole = range_cons (tokens_of sheet) c.args.from c.args.to (punctuation 91) less (seen sheet c.args.to c.requires.range.1) (c.has.ensures.0 c.if-not-has.false) in
    if_ok c.arguments.result _ _
    (λ found f. brackets_read sheet.sig.now sheet.metas.now (in_scope c.args.scope.now.vars.now) c.args.meta.0 (map (λ p. p.0) (drop c.args.at c.args.params.now)) (range_of sheet c.args.from c.args.to)
    (range_of sheet (c.args.from + 1) c.args.to) (answers found) (λ e. (let two = sym (ap (map (λ p. p.0)) next.1) ∙ e in cc)) whole f)
    c.arguments.ensures.first

pub brackets-returns-clause-table : goal.brackets-returns-clause-table
brackets-returns-clause-table t c = c.arguments.ensures.table

pub brackets-returns-then-not-has-clause-table : goal.brackets-returns-then-not-has-clause-table
brackets-returns-then-not-has-clause-table t c = still c.args.sheet.now c.args.table.now c.requires.table

pub brackets-arguments-requires : goal.brackets-arguments-requires
brackets-arguments-requires t c =
    (omega (arith, c.decreases), (c.requires.names, (c.requires.table, (c.requires.scope, (c.requires.params, (omega arith, c.requires.range.1))))))

pub behind_argument-arguments-requires : goal.behind_argument-arguments-requires
behind_argument-arguments-requires t c =
    (omega (arith, c.decreases), (c.requires.names, (c.requires.table, (c.requires.scope, (c.requires.params, (omega (arith, c.requires.range.0), c.requires.range.1))))))

pub behind_argument-brackets-requires : goal.behind_argument-brackets-requires
behind_argument-brackets-requires t c =
    (omega (arith, c.decreases), (c.requires.names, (c.requires.table, (c.requires.scope, (c.requires.params, (omega (arith, c.requires.range.0), c.requires.range.1))))))

pub behind_argument-returns-then-has-clause-first : goal.behind_argument-returns-then-has-clause-first
behind_argument-returns-then-has-clause-first t c =
    let sheet = c.args.sheet.now in
    let ts = tokens_of sheet in
    if_ok c.arguments.result _ _
    (λ found f. comma_behind sheet.sig.now sheet.metas.now (in_scope c.args.scope.now.vars.now) (map (λ p. p.0) (drop c.args.at c.args.params.now)) c.args.meta.0
    (range_of sheet c.args.from c.args.to) (range_of sheet (c.args.from + 1) c.args.to) (answers found)
    (range_cons ts c.args.from c.args.to (punctuation 44) c.requires.range.0 (seen sheet c.args.to c.requires.range.1) (c.has.ensures.0 c.if-has.true)) f)
    c.arguments.ensures.first

pub behind_argument-returns-then-has-clause-table : goal.behind_argument-returns-then-has-clause-table
behind_argument-returns-then-has-clause-table t c = c.arguments.ensures.table

pub behind_argument-returns-then-has-2-clause-first : goal.behind_argument-returns-then-has-2-clause-first
behind_argument-returns-then-has-2-clause-first t c =
    let sheet = c.args.sheet.now in
    let ts = tokens_of sheet in
    if_ok c.brackets.result _ _
    (λ found f. bracket_behind sheet.sig.now sheet.metas.now (in_scope c.args.scope.now.vars.now) (map (λ p. p.0) (drop c.args.at c.args.params.now)) c.args.meta.0
    (range_of sheet c.args.from c.args.to) (range_of sheet (c.args.from + 1) c.args.to) (answers found)
    (range_cons ts c.args.from c.args.to (punctuation 93) c.requires.range.0 (seen sheet c.args.to c.requires.range.1) (c.has-2.ensures.0 c.if-has-2.true)) f)
    c.brackets.ensures.first

pub behind_argument-returns-then-has-2-clause-table : goal.behind_argument-returns-then-has-2-clause-table
behind_argument-returns-then-has-2-clause-table t c = c.brackets.ensures.table

pub behind_argument-returns-clause-first : goal.behind_argument-returns-clause-first
behind_argument-returns-clause-first t c =
    let sheet = c.args.sheet.now in
    let ts = tokens_of sheet in
    let k = seen sheet c.args.to c.requires.range.1 in
    let le : c.args.from ≤ c.args.to = omega (arith, c.requires.range.0) in
    nothing_behind sheet.sig.now sheet.metas.now (in_scope c.args.scope.now.vars.now) (map (λ p. p.0) (drop c.args.at c.args.params.now)) c.args.meta.0 (range_of sheet c.args.from c.args.to)
    (λ rest e. true≢false (sym (c.has.ensures.1 (range_begins ts c.args.from c.args.to (punctuation 44) rest le k (sym e)).1) ∙ c.if-has.false))
    (λ rest e. true≢false (sym (c.has-2.ensures.1 (range_begins ts c.args.from c.args.to (punctuation 93) rest le k (sym e)).1) ∙ c.if-has-2.false))

pub behind_argument-returns-clause-table : goal.behind_argument-returns-clause-table
behind_argument-returns-clause-table t c = still c.args.sheet.now c.args.table.now c.requires.table

pub argument-behind_argument-requires : goal.argument-behind_argument-requires
argument-behind_argument-requires t c = (
  omega (arith, c.decreases, c.requires.range.0, c.requires.range.1),
  (c.requires.names, (c.requires.table, (c.requires.scope, (omega (arith, c.requires.params), (c.requires.range.1, c.requires.range.2))))),
)

pub argument-returns-then-is_none-clause-first : goal.argument-returns-then-is_none-clause-first
argument-returns-then-is_none-clause-first t c =
    let sheet = c.args.sheet.now in
    let vars = in_scope c.args.scope.now.vars.now in
    let next = drop_next c.args.params.now c.args.at c.requires.params in
    subst (λ ps. AreFirst IsBefore
    (λ w s. ReadsArgumentsAt sheet.sig.now sheet.metas.now vars (map (λ p. p.0) ps) c.args.meta.0 (range_of sheet c.args.from c.args.to) w s × TakesFirst (c.args.end - c.args.from) w) [])
    (sym next.1)
    (no_argument sheet.sig.now sheet.metas.now vars next.0.0 (map (λ p. p.0) (drop (c.args.at + 1) c.args.params.now)) c.args.meta.0 (tokens_of sheet) c.args.from c.args.end c.args.to
    c.requires.range.0 c.requires.range.1 (seen sheet c.args.to c.requires.range.2)
    (none_listed _ (answers c.in_ok-rest.rest) (c.is_none.ensures.0 c.if-is_none.true) c.in_ok-rest.ensures.first))

pub argument-returns-then-is_none-clause-table : goal.argument-returns-then-is_none-clause-table
argument-returns-then-is_none-clause-table t c = c.in_ok-rest.ensures.table

pub argument-cell-requires : goal.argument-cell-requires
argument-cell-requires t c =
    let follows = c.in_ok-rest.ensures.table in (
      omega (arith, c.decreases, c.requires.range.0, c.requires.range.1),
      (c.requires.names, (follows.cells, (follows.scopes _ _ c.requires.scope, (c.requires.range.0, omega (arith, c.requires.range.1, c.requires.range.2))))),
    )

pub argument-returns-clause-first : goal.argument-returns-clause-first
argument-returns-clause-first t c =
    let sheet = c.args.sheet.now in
    let vars = in_scope c.args.scope.now.vars.now in
    let none : CatId = record { 0 = 0 } in
    let next = drop_more c.args.params.now c.args.at none c.requires.params in
    if_ok c.product.result _ _
    (λ new h. subst (λ ps. AreFirst IsBefore
    (λ w s. ReadsArgumentsAt sheet.sig.now sheet.metas.now vars (map (λ p. p.0) ps) c.args.meta.0 (range_of sheet c.args.from c.args.to) w s × TakesFirst (c.args.end - c.args.from) w) (answers new))
    (sym next)
    (argument_in_range sheet.sig.now sheet.metas.now vars (get_or c.args.params.now c.args.at none).0 (map (λ p. p.0) (drop (c.args.at + 1) c.args.params.now)) c.args.meta.0 (tokens_of sheet)
    c.args.from c.args.end c.args.to c.requires.range.0 c.requires.range.1 (seen sheet c.args.to c.requires.range.2) c.requires.names (answers c.in_ok-first.first) (answers c.in_ok-rest.rest) (answers new)
    c.in_ok-first.ensures.first c.in_ok-rest.ensures.first h))
    c.product.ensures

pub argument-returns-clause-table : goal.argument-returns-clause-table
argument-returns-clause-table t c = on_any c.product.result _ (later c.in_ok-rest.ensures.table c.in_ok-first.ensures.table)

pub arguments-returns-then-at-params-clause-first : goal.arguments-returns-then-at-params-clause-first
arguments-returns-then-at-params-clause-first t c =
    let sheet = c.args.sheet.now in
    let all : length c.args.params.now ≤ c.args.at = omega arith in
    subst (λ ps. AreFirst IsBefore (ReadsArgumentsAt sheet.sig.now sheet.metas.now (in_scope c.args.scope.now.vars.now) (map (λ p. p.0) ps) c.args.meta.0 (range_of sheet c.args.from c.args.to)) [])
    (sym (drop_all c.args.at c.args.params.now all))
    (no_arguments sheet.sig.now sheet.metas.now (in_scope c.args.scope.now.vars.now) c.args.meta.0 (range_of sheet c.args.from c.args.to))

pub arguments-returns-then-at-params-clause-table : goal.arguments-returns-then-at-params-clause-table
arguments-returns-then-at-params-clause-table t c = still c.args.sheet.now c.args.table.now c.requires.table

pub arguments-loop-end-init : goal.arguments-loop-end-init
arguments-loop-end-init t c =
    let sheet = c.args.sheet.now in
    let vars = in_scope c.args.scope.now.vars.now in
    let lt : c.args.at < length c.args.params.now = omega (arith, c.requires.params) in
    let next = drop_next c.args.params.now c.args.at lt in
    let zero : 0 ≡ c.args.from - c.args.from = omega arith in (
      subst (λ ps. AreFirst IsBefore
          (λ w s. ReadsArgumentsAt sheet.sig.now sheet.metas.now vars (map (λ p. p.0) ps) c.args.meta.0 (range_of sheet c.args.from c.args.to) w s × TakesFewer (c.args.from - c.args.from) w) [])
          (sym next.1)
          (subst (λ k. AreFirst IsBefore
          (λ w s. ReadsArgumentsAt sheet.sig.now sheet.metas.now vars (map (λ p. p.0) (next.0 ∷ drop (c.args.at + 1) c.args.params.now)) c.args.meta.0 (range_of sheet c.args.from c.args.to) w s × TakesFewer k w) [])
          zero (no_length sheet.sig.now sheet.metas.now vars next.0.0 (map (λ p. p.0) (drop (c.args.at + 1) c.args.params.now)) c.args.meta.0 (range_of sheet c.args.from c.args.to))),
      still c.args.sheet.now c.args.table.now c.requires.table,
    )

pub arguments-argument-requires : goal.arguments-argument-requires
arguments-argument-requires t c =
    let follows = c.loop-end.invariant.1 in (
      omega (arith, c.decreases),
      (
        c.requires.names,
        (
          follows.cells,
          (
            follows.scopes _ _ c.requires.scope,
            (omega (arith, c.requires.params), (omega arith, c.loop-end-test.true, c.requires.range.1)),
          ),
        ),
      ),
    )

pub arguments-loop-end-preserved : goal.arguments-loop-end-preserved
arguments-loop-end-preserved t c =
    let sheet = c.args.sheet.now in
    let start : c.args.from ≤ c.loop-end.end = omega arith in
    let more : c.loop-end.end - c.args.from + 1 ≡ c.loop-end.end + 1 - c.args.from = omega (arith, start) in (
      arguments_more sheet.sig.now sheet.metas.now (in_scope c.args.scope.now.vars.now) (map (λ p. p.0) (drop c.args.at c.args.params.now)) c.args.meta.0 (range_of sheet c.args.from c.args.to) c.requires.names
          (c.loop-end.end - c.args.from) (c.loop-end.end + 1 - c.args.from) more _ _ _ c.loop-end.invariant.0 c.in_ok-more.ensures.first c.joined-found.ensures,
      later c.loop-end.invariant.1 c.in_ok-more.ensures.table,
    )

pub arguments-returns-clause-first : goal.arguments-returns-clause-first
arguments-returns-clause-first t c =
    let sheet = c.args.sheet.now in
    let vars = in_scope c.args.scope.now.vars.now in
    let lt : c.args.at < length c.args.params.now = omega (arith, c.requires.params) in
    let next = drop_next c.args.params.now c.args.at lt in
    let long = range_length (tokens_of sheet) c.args.from c.args.to c.requires.range.0 (seen sheet c.args.to c.requires.range.1) in
    let all : length (range_of sheet c.args.from c.args.to) ≤ c.loop-end.end - c.args.from = omega (arith, long, c.loop-end-test.false) in
    subst (λ ps. AreFirst IsBefore (ReadsArgumentsAt sheet.sig.now sheet.metas.now vars (map (λ p. p.0) ps) c.args.meta.0 (range_of sheet c.args.from c.args.to)) (answers c.loop-end.found)) (sym next.1)
    (all_lengths sheet.sig.now sheet.metas.now vars next.0.0 (map (λ p. p.0) (drop (c.args.at + 1) c.args.params.now)) c.args.meta.0 (range_of sheet c.args.from c.args.to) (c.loop-end.end - c.args.from)
    (answers c.loop-end.found) all
    (subst (λ ps. AreFirst IsBefore
    (λ w s. ReadsArgumentsAt sheet.sig.now sheet.metas.now vars (map (λ p. p.0) ps) c.args.meta.0 (range_of sheet c.args.from c.args.to) w s × TakesFewer (c.loop-end.end - c.args.from) w) (answers c.loop-end.found))
    next.1 c.loop-end.invariant.0))

pub arguments-returns-clause-table : goal.arguments-returns-clause-table
arguments-returns-clause-table t c = c.loop-end.invariant.1

pub in_slot-cell-requires : goal.in_slot-cell-requires
in_slot-cell-requires t c =
    let inside : c.args.end ≤ length c.args.sheet.now.tokens.now = omega (arith, c.requires.range.1, c.requires.range.2) in
    let le : c.args.from ≤ c.args.end = omega (arith, c.requires.range.0) in
    elim (cases_lt c.args.at 2) [
      | inl lt ↦
          (let one : c.args.at ≡ 1 = omega (arith, lt, c.requires.items.0) in
          (omega (arith, c.decreases, c.requires.items.1 one, c.requires.range.0), (c.requires.names, (c.requires.table, (c.requires.scope, (le, inside))))))
      | inr ge ↦ (omega (arith, c.decreases, ge, c.requires.range.0, c.requires.range.1), (c.requires.names, (c.requires.table, (c.requires.scope, (le, inside)))))
    ]

pub in_slot-returns-then-binds-eq0-clause-first : goal.in_slot-returns-then-binds-eq0-clause-first
in_slot-returns-then-binds-eq0-clause-first t c =
    let sheet = c.args.sheet.now in
    subst (λ vs. Rattle.std.specs.Result.IfOk c.cell.result
    (λ found. AreFirst IsBefore (ReadsTermAt sheet.sig.now sheet.metas.now vs c.args.cat.0 (range_of sheet c.args.from c.args.end)) (answers found)))
    (sym (no_binds (map variable c.args.form.now.own.now) (in_scope c.args.scope.now.vars.now) c.args.binds.now c.if-binds-eq0.true)) c.cell.ensures.first

pub in_slot-returns-then-binds-eq0-clause-table : goal.in_slot-returns-then-binds-eq0-clause-table
in_slot-returns-then-binds-eq0-clause-table t c = c.cell.ensures.table

pub in_slot-scope_number-requires : goal.in_slot-scope_number-requires
in_slot-scope_number-requires t c = c.requires.table

pub in_slot-cell-requires-2 : goal.in_slot-cell-requires-2
in_slot-cell-requires-2 t c =
    let follows = c.in_ok-number.ensures.follows in
    let inside : c.args.end ≤ length c.args.sheet.now.tokens.now = omega (arith, c.requires.range.1, c.requires.range.2) in
    let le : c.args.from ≤ c.args.end = omega (arith, c.requires.range.0) in
    let number = c.in_ok-number.ensures.number in
    elim (cases_lt c.args.at 2) [
      | inl lt ↦
          (let one : c.args.at ≡ 1 = omega (arith, lt, c.requires.items.0) in
          (omega (arith, c.decreases, c.requires.items.1 one, c.requires.range.0), (c.requires.names, (follows.cells, (number, (le, inside))))))
      | inr ge ↦ (omega (arith, c.decreases, ge, c.requires.range.0, c.requires.range.1), (c.requires.names, (follows.cells, (number, (le, inside)))))
    ]

pub in_slot-returns-clause-first : goal.in_slot-returns-clause-first
in_slot-returns-clause-first t c = rw (c.as_slice-vars.ensures, c.in_ok-inner.ensures) at c.cell-2.ensures.first

pub in_slot-returns-clause-table : goal.in_slot-returns-clause-table
in_slot-returns-clause-table t c = on_ok c.cell-2.result _ _ (λ f. later c.in_ok-number.ensures.follows f) c.cell-2.ensures.table

pub slot_to-returns-then-to-end-clause-first : goal.slot_to-returns-then-to-end-clause-first
slot_to-returns-then-to-end-clause-first t c =
    let sheet = c.args.sheet.now in
    let form = c.args.form.now in
    let vars = in_scope c.args.scope.now.vars.now in
    let own = map variable form.own.now in
    let words = words_of (drop c.args.word form.words.now) in
    let short = c.if-to-end.true in
    let long = range_length (tokens_of sheet) c.args.end c.args.to c.requires.range.1 (seen sheet c.args.to c.requires.range.2) in
    no_rest_read sheet.sig.now sheet.metas.now vars own words form.alternative form.prod.0 c.args.cat c.args.binds.now (drop c.args.at form.items.now) (tokens_of sheet) c.args.from c.args.end c.args.to
    c.requires.range.0 c.requires.range.1 (seen sheet c.args.to c.requires.range.2)
    (λ xs r. omega (arith, short, long, enough_tokens r, length-drop c.args.at form.items.now))

pub slot_to-returns-then-not-may_go_on-clause-first : goal.slot_to-returns-then-not-may_go_on-clause-first
slot_to-returns-then-not-may_go_on-clause-first t c =
    let sheet = c.args.sheet.now in
    let form = c.args.form.now in
    let vars = in_scope c.args.scope.now.vars.now in
    let own = map variable form.own.now in
    let words = words_of (drop c.args.word form.words.now) in
    no_rest_read sheet.sig.now sheet.metas.now vars own words form.alternative form.prod.0 c.args.cat c.args.binds.now (drop c.args.at form.items.now) (tokens_of sheet) c.args.from c.args.end c.args.to
    c.requires.range.0 c.requires.range.1 (seen sheet c.args.to c.requires.range.2) (λ xs r. c.may_go_on.ensures c.if-not-may_go_on.true vars own words xs r)

pub slot_to-returns-then-not-may_go_on-clause-table : goal.slot_to-returns-then-not-may_go_on-clause-table
slot_to-returns-then-not-may_go_on-clause-table t c = still c.args.sheet.now c.args.table.now c.requires.table

pub slot_to-in_slot-requires : goal.slot_to-in_slot-requires
slot_to-in_slot-requires t c = (
  omega (arith, c.decreases, c.requires.items.0),
  (
    c.requires.names,
    (
      c.requires.table,
      (
        c.requires.scope,
        (
          (c.requires.items.0, λ e. (let two : 2 ≤ length c.args.form.now.items.now = two_or_more (length c.args.form.now.items.now) c.args.at e c.requires.items.1 (c.requires.not_single e) in omega (arith, e, two))),
          c.requires.range,
        ),
      ),
    ),
  ),
)

pub slot_to-returns-then-is_none-clause-first : goal.slot_to-returns-then-is_none-clause-first
slot_to-returns-then-is_none-clause-first t c =
    let sheet = c.args.sheet.now in
    let form = c.args.form.now in
    no_slot_read sheet.sig.now sheet.metas.now (in_scope c.args.scope.now.vars.now) (map variable form.own.now) (words_of (drop c.args.word form.words.now)) form.alternative form.prod.0 c.args.cat c.args.binds.now
    (drop c.args.at form.items.now) (tokens_of sheet) c.args.from c.args.end c.args.to c.requires.range.0 c.requires.range.1 (seen sheet c.args.to c.requires.range.2)
    (none_listed _ (answers c.in_ok-first.first) (c.is_none.ensures.0 c.if-is_none.true) c.in_ok-first.ensures.first)

pub slot_to-returns-then-is_none-clause-table : goal.slot_to-returns-then-is_none-clause-table
slot_to-returns-then-is_none-clause-table t c = c.in_ok-first.ensures.table

pub slot_to-row-requires : goal.slot_to-row-requires
slot_to-row-requires t c =
    let follows = c.in_ok-first.ensures.table in (
      omega (arith, c.decreases, c.requires.items.0, c.requires.range.0, c.requires.range.1),
      (
        c.requires.names,
        (
          follows.cells,
          (
            follows.scopes _ _ c.requires.scope,
            ((c.requires.items.1, c.requires.items.2), ((λ e. absurd (omega (arith, e, c.requires.items.0))), (c.requires.range.1, c.requires.range.2))),
          ),
        ),
      ),
    )

pub slot_to-returns-clause-first : goal.slot_to-returns-clause-first
slot_to-returns-clause-first t c =
    let sheet = c.args.sheet.now in
    let form = c.args.form.now in
    if_ok c.product.result _ _
    (λ new h. slot_in_range sheet.sig.now sheet.metas.now (in_scope c.args.scope.now.vars.now) (map variable form.own.now) (words_of (drop c.args.word form.words.now)) form.alternative form.prod.0 c.args.cat
    c.args.binds.now (drop c.args.at form.items.now) (tokens_of sheet) c.args.from c.args.end c.args.to c.requires.range.0 c.requires.range.1 (seen sheet c.args.to c.requires.range.2) c.requires.names
    (answers c.in_ok-first.first) (answers c.in_ok-rest.rest) (answers new) c.in_ok-first.ensures.first c.in_ok-rest.ensures.first h)
    c.product.ensures

pub slot_to-returns-clause-table : goal.slot_to-returns-clause-table
slot_to-returns-clause-table t c = on_any c.product.result _ (later c.in_ok-first.ensures.table c.in_ok-rest.ensures.table)

pub slot-loop-end-init : goal.slot-loop-end-init
slot-loop-end-init t c =
    let sheet = c.args.sheet.now in
    let form = c.args.form.now in
    let one : 1 ≡ c.args.from + 1 - c.args.from = omega arith in (
      subst (λ k. AreFirst IsBefore
          (λ w s. ReadsItemsAt sheet.sig.now sheet.metas.now (in_scope c.args.scope.now.vars.now) (map variable form.own.now) (words_of (drop c.args.word form.words.now))
          (Slot c.args.cat c.args.binds.now ∷ drop c.args.at form.items.now) form.alternative form.prod.0 (range_of sheet c.args.from c.args.to) w s × TakesFewer k w) [])
          one
          (no_slot sheet.sig.now sheet.metas.now (in_scope c.args.scope.now.vars.now) (map variable form.own.now) (words_of (drop c.args.word form.words.now)) form.alternative form.prod.0
          c.args.cat c.args.binds.now (drop c.args.at form.items.now) (range_of sheet c.args.from c.args.to)),
      still c.args.sheet.now c.args.table.now c.requires.table,
    )

pub slot-returns-then-is_full-clause-first : goal.slot-returns-then-is_full-clause-first
slot-returns-then-is_full-clause-first t c =
    let sheet = c.args.sheet.now in
    let form = c.args.form.now in
    slot_enough sheet.sig.now sheet.metas.now (in_scope c.args.scope.now.vars.now) (map variable form.own.now) (words_of (drop c.args.word form.words.now)) form.alternative form.prod.0
    c.args.cat c.args.binds.now (drop c.args.at form.items.now) (range_of sheet c.args.from c.args.to) (c.loop-end.end - c.args.from) (answers c.loop-end.found)
    (c.is_full.ensures.0 c.if-is_full.true) c.loop-end.invariant.0

pub slot-returns-then-is_full-clause-table : goal.slot-returns-then-is_full-clause-table
slot-returns-then-is_full-clause-table t c = c.loop-end.invariant.1

pub slot-slot_to-requires : goal.slot-slot_to-requires
slot-slot_to-requires t c =
    let follows = c.loop-end.invariant.1 in
    let lt : c.args.from < c.loop-end.end = omega arith in
    let le : c.loop-end.end ≤ c.args.to = omega (arith, c.loop-end-test.true) in (
      omega (arith, c.decreases, c.requires.items.0),
      (
        c.requires.names,
        (
          follows.cells,
          (
            follows.scopes _ _ c.requires.scope,
            (c.requires.items, (c.requires.not_single, (lt, le, c.requires.range.1))),
          ),
        ),
      ),
    )

pub slot-loop-end-preserved : goal.slot-loop-end-preserved
slot-loop-end-preserved t c =
    let sheet = c.args.sheet.now in
    let form = c.args.form.now in
    let start : c.args.from ≤ c.loop-end.end = omega arith in
    let more : c.loop-end.end - c.args.from + 1 ≡ c.loop-end.end + 1 - c.args.from = omega (arith, start) in (
      slot_more sheet.sig.now sheet.metas.now (in_scope c.args.scope.now.vars.now) (map variable form.own.now) (words_of (drop c.args.word form.words.now)) form.alternative form.prod.0
          c.args.cat c.args.binds.now (drop c.args.at form.items.now) (range_of sheet c.args.from c.args.to) c.requires.names (c.loop-end.end - c.args.from) (c.loop-end.end + 1 - c.args.from) more _ _ _
          c.loop-end.invariant.0 c.in_ok-more.ensures.first c.joined-found.ensures,
      later c.loop-end.invariant.1 c.in_ok-more.ensures.table,
    )

pub slot-returns-clause-first : goal.slot-returns-clause-first
slot-returns-clause-first t c =
    let sheet = c.args.sheet.now in
    let form = c.args.form.now in
    let long = range_length (tokens_of sheet) c.args.from c.args.to c.requires.range.0 (seen sheet c.args.to c.requires.range.1) in
    let all : length (range_of sheet c.args.from c.args.to) < c.loop-end.end - c.args.from = omega (arith, long, c.loop-end-test.false, c.requires.range.0) in
    slot_lengths sheet.sig.now sheet.metas.now (in_scope c.args.scope.now.vars.now) (map variable form.own.now) (words_of (drop c.args.word form.words.now)) form.alternative form.prod.0
    c.args.cat c.args.binds.now (drop c.args.at form.items.now) (range_of sheet c.args.from c.args.to) (c.loop-end.end - c.args.from) (answers c.loop-end.found) all c.loop-end.invariant.0

pub slot-returns-clause-table : goal.slot-returns-clause-table
slot-returns-clause-table t c = c.loop-end.invariant.1

pub row-returns-then-at-form-clause-first : goal.row-returns-then-at-form-clause-first
row-returns-then-at-form-clause-first t c =
    let sheet = c.args.sheet.now in
    let form = c.args.form.now in
    let vars = in_scope c.args.scope.now.vars.now in
    let own = map variable form.own.now in
    let words = words_of (drop c.args.word form.words.now) in
    let ts = tokens_of sheet in
    let k = seen sheet c.args.to c.requires.range.1 in
    let all : length form.items.now ≤ c.args.at = omega arith in
    let told = end_told sheet.sig.now sheet.metas.now vars own form.alternative form.prod.0 (drop c.args.at form.items.now) words (range_of sheet c.args.from c.args.to) c.is_end-all_taken.result
    (drop_all c.args.at form.items.now all)
    (λ e. (let h = c.is_end-all_taken.ensures.0 e in
    (range_same ts c.args.from c.args.to h.0 k, no_words_left c.args.word form.words.now h.1)))
    (λ h. c.is_end-all_taken.ensures.1 (range_end ts c.args.from c.args.to c.requires.range.0 k (sym h.0), words_left c.args.word form.words.now c.requires.items.1 h.1)) in
    subst (AreFirst IsBefore (ReadsItemsAt sheet.sig.now sheet.metas.now vars own words (drop c.args.at form.items.now) form.alternative form.prod.0 (range_of sheet c.args.from c.args.to)))
    (sym c.at_end.ensures) told

pub row-returns-then-at-form-clause-table : goal.row-returns-then-at-form-clause-table
row-returns-then-at-form-clause-table t c = still c.args.sheet.now c.args.table.now c.requires.table

pub row-returns-then-from-to-clause-first : goal.row-returns-then-from-to-clause-first
row-returns-then-from-to-clause-first t c =
    let sheet = c.args.sheet.now in
    let form = c.args.form.now in
    let long = range_length (tokens_of sheet) c.args.from c.args.to c.requires.range.0 (seen sheet c.args.to c.requires.range.1) in
    none_short sheet.sig.now sheet.metas.now (in_scope c.args.scope.now.vars.now) (map variable form.own.now) (words_of (drop c.args.word form.words.now)) form.alternative form.prod.0
    (drop c.args.at form.items.now) (range_of sheet c.args.from c.args.to) (omega (arith, long, length-drop c.args.at form.items.now, c.requires.items.0))

pub row-returns-then-from-to-clause-table : goal.row-returns-then-from-to-clause-table
row-returns-then-from-to-clause-table t c = still c.args.sheet.now c.args.table.now c.requires.table

pub row-returns-then-not-is_terminal-clause-first : goal.row-returns-then-not-is_terminal-clause-first
row-returns-then-not-is_terminal-clause-first t c =
    let sheet = c.args.sheet.now in
    let form = c.args.form.now in
    let vars = in_scope c.args.scope.now.vars.now in
    let own = map variable form.own.now in
    let words = words_of (drop c.args.word form.words.now) in
    let ts = tokens_of sheet in
    let k = seen sheet c.args.to c.requires.range.1 in
    let lt : c.args.at < length form.items.now = omega (arith, c.requires.items.0) in
    let is = drop_more form.items.now c.args.at c.index-form-at.result lt ∙ ap (λ i. i ∷ drop (c.args.at + 1) form.items.now) c.in-Word.is in
    let l : c.args.from < length sheet.tokens.now = omega (arith, c.requires.range.0, c.requires.range.1) in
    let this = token (get_or sheet.tokens.now c.args.from no_token) in
    subst (λ js. AreFirst IsBefore (ReadsItemsAt sheet.sig.now sheet.metas.now vars own words js form.alternative form.prod.0 (range_of sheet c.args.from c.args.to)) []) (sym is)
    (terminal_not sheet.sig.now sheet.metas.now vars own words form.alternative form.prod.0 c.in-Word.text c.in-Word.quoted (drop (c.args.at + 1) form.items.now) (range_of sheet c.args.from c.args.to)
    (λ u rest e i. (let b = range_begins ts c.args.from c.args.to u rest c.requires.range.0 k (sym e) in
    let same : this ≡ u = some_once (get_mapped_or token sheet.tokens.now c.args.from no_token l) b.1 in
    true≢false (sym (c.is_terminal.ensures.1 (rw c.bytes.ensures (subst (IsTerminal c.in-Word.text) (sym same) i))) ∙ c.if-not-is_terminal.true))))

pub row-returns-then-not-is_terminal-clause-table : goal.row-returns-then-not-is_terminal-clause-table
row-returns-then-not-is_terminal-clause-table t c = still c.args.sheet.now c.args.table.now c.requires.table

pub row-row-requires : goal.row-row-requires
row-row-requires t c = (
  omega (arith, c.decreases),
  (
    c.requires.names,
    (
      c.requires.table,
      (
        c.requires.scope,
        ((omega (arith, c.requires.items.0), c.requires.items.1), ((λ e. absurd (omega (arith, e))), (omega (arith, c.requires.range.0), c.requires.range.1))),
      ),
    ),
  ),
)

pub row-returns-else-not-is_terminal-clause-first : goal.row-returns-else-not-is_terminal-clause-first
row-returns-else-not-is_terminal-clause-first t c =
    let sheet = c.args.sheet.now in
    let form = c.args.form.now in
    let vars = in_scope c.args.scope.now.vars.now in
    let own = map variable form.own.now in
    let words = words_of (drop c.args.word form.words.now) in
    let ts = tokens_of sheet in
    let k = seen sheet c.args.to c.requires.range.1 in
    let lt : c.args.at < length form.items.now = omega (arith, c.requires.items.0) in
    let is = drop_more form.items.now c.args.at c.index-form-at.result lt ∙ ap (λ i. i ∷ drop (c.args.at + 1) form.items.now) c.in-Word.is in
    let l : c.args.from < length sheet.tokens.now = omega (arith, c.requires.range.0, c.requires.range.1) in
    let less : c.args.from < c.args.to = omega (arith, c.requires.range.0) in
    let this = token (get_or sheet.tokens.now c.args.from no_token) in
    let whole = range_cons ts c.args.from c.args.to this less k (get_mapped_or token sheet.tokens.now c.args.from no_token l) in
    let here : IsTerminal c.in-Word.text this = rw c.bytes.ensures at (c.is_terminal.ensures.0 c.if-not-is_terminal.false) in
    if_ok c.row.result _ _
    (λ found f. subst (λ js. AreFirst IsBefore (ReadsItemsAt sheet.sig.now sheet.metas.now vars own words js form.alternative form.prod.0 (range_of sheet c.args.from c.args.to)) (answers found)) (sym is)
    (subst (λ us. AreFirst IsBefore (ReadsItemsAt sheet.sig.now sheet.metas.now vars own words (Word c.in-Word.text c.in-Word.quoted ∷ drop (c.args.at + 1) form.items.now) form.alternative form.prod.0 us) (answers found))
    (sym whole)
    (terminal_read sheet.sig.now sheet.metas.now vars own words form.alternative form.prod.0 c.in-Word.text c.in-Word.quoted (drop (c.args.at + 1) form.items.now) this
    (range_of sheet (c.args.from + 1) c.args.to) (answers found) here f)))
    c.row.ensures.first

pub row-returns-else-not-is_terminal-clause-table : goal.row-returns-else-not-is_terminal-clause-table
row-returns-else-not-is_terminal-clause-table t c = c.row.ensures.table

pub row-slot-requires : goal.row-slot-requires
row-slot-requires t c =
    let form = c.args.form.now in (
      omega (arith, c.decreases),
      (
        c.requires.names,
        (
          c.requires.table,
          (
            c.requires.scope,
            (
              (omega arith, omega (arith, c.requires.items.0), c.requires.items.1),
              (
                (λ e one. (let zero : c.args.at ≡ 0 = omega (arith, e) in c.requires.not_single zero (single_slot form.items.now c.args.at c.index-form-at.result zero one c.in-Slot.is))),
                c.requires.range,
              ),
            ),
          ),
        ),
      ),
    )

pub row-returns-in-Slot-clause-first : goal.row-returns-in-Slot-clause-first
row-returns-in-Slot-clause-first t c =
    let sheet = c.args.sheet.now in
    let form = c.args.form.now in
    let vars = in_scope c.args.scope.now.vars.now in
    let own = map variable form.own.now in
    let words = words_of (drop c.args.word form.words.now) in
    let ts = tokens_of sheet in
    let k = seen sheet c.args.to c.requires.range.1 in
    let lt : c.args.at < length form.items.now = omega (arith, c.requires.items.0) in
    let is = drop_more form.items.now c.args.at c.index-form-at.result lt ∙ ap (λ i. i ∷ drop (c.args.at + 1) form.items.now) c.in-Slot.is in
    if_ok c.slot.result _ _
    (λ found f. subst (λ js. AreFirst IsBefore (ReadsItemsAt sheet.sig.now sheet.metas.now vars own words js form.alternative form.prod.0 (range_of sheet c.args.from c.args.to)) (answers found)) (sym is) f)
    (rw c.as_slice.ensures at c.slot.ensures.first)

pub row-returns-in-Slot-clause-table : goal.row-returns-in-Slot-clause-table
row-returns-in-Slot-clause-table t c = c.slot.ensures.table

pub row-returns-then-word-form-clause-first : goal.row-returns-then-word-form-clause-first
row-returns-then-word-form-clause-first t c =
    let sheet = c.args.sheet.now in
    let form = c.args.form.now in
    let vars = in_scope c.args.scope.now.vars.now in
    let own = map variable form.own.now in
    let words = words_of (drop c.args.word form.words.now) in
    let ts = tokens_of sheet in
    let k = seen sheet c.args.to c.requires.range.1 in
    let lt : c.args.at < length form.items.now = omega (arith, c.requires.items.0) in
    let is = drop_more form.items.now c.args.at c.index-form-at.result lt ∙ ap (λ i. i ∷ drop (c.args.at + 1) form.items.now) c.in-Binder.is in
    let l : c.args.from < length sheet.tokens.now = omega (arith, c.requires.range.0, c.requires.range.1) in
    let this = token (get_or sheet.tokens.now c.args.from no_token) in
    let here : slice_get ts c.args.from ≡ Some this = get_mapped_or token sheet.tokens.now c.args.from no_token l in
    let all : length form.words.now ≤ c.args.word = omega arith in
    subst (λ js. AreFirst IsBefore (ReadsItemsAt sheet.sig.now sheet.metas.now vars own words js form.alternative form.prod.0 (range_of sheet c.args.from c.args.to)) []) (sym is)
    (binder_not sheet.sig.now sheet.metas.now vars own words form.alternative form.prod.0 c.in-Binder.cat (drop (c.args.at + 1) form.items.now) (range_of sheet c.args.from c.args.to)
    (λ w rest behind e f g. (let none = ap words_of (drop_all c.args.word form.words.now all) in let two : [] ≡ w ∷ behind = sym none ∙ f in cc)))

pub row-returns-then-not-is_word-clause-first : goal.row-returns-then-not-is_word-clause-first
row-returns-then-not-is_word-clause-first t c =
    let sheet = c.args.sheet.now in
    let form = c.args.form.now in
    let vars = in_scope c.args.scope.now.vars.now in
    let own = map variable form.own.now in
    let words = words_of (drop c.args.word form.words.now) in
    let ts = tokens_of sheet in
    let k = seen sheet c.args.to c.requires.range.1 in
    let lt : c.args.at < length form.items.now = omega (arith, c.requires.items.0) in
    let is = drop_more form.items.now c.args.at c.index-form-at.result lt ∙ ap (λ i. i ∷ drop (c.args.at + 1) form.items.now) c.in-Binder.is in
    let l : c.args.from < length sheet.tokens.now = omega (arith, c.requires.range.0, c.requires.range.1) in
    let this = token (get_or sheet.tokens.now c.args.from no_token) in
    let here : slice_get ts c.args.from ≡ Some this = get_mapped_or token sheet.tokens.now c.args.from no_token l in
    let wl : c.args.word < length form.words.now = omega (arith, c.requires.items.1) in
    let next = drop_more form.words.now c.args.word no_variable wl in
    subst (λ js. AreFirst IsBefore (ReadsItemsAt sheet.sig.now sheet.metas.now vars own words js form.alternative form.prod.0 (range_of sheet c.args.from c.args.to)) []) (sym is)
    (binder_not sheet.sig.now sheet.metas.now vars own words form.alternative form.prod.0 c.in-Binder.cat (drop (c.args.at + 1) form.items.now) (range_of sheet c.args.from c.args.to)
    (λ w rest behind e f g. (let b = range_begins ts c.args.from c.args.to (word w) rest c.requires.range.0 k (sym e) in
    let same : this ≡ word w = some_once here b.1 in
    let both : (get_or form.words.now c.args.word no_variable).word.now ∷ words_of (drop (c.args.word + 1) form.words.now) ≡ w ∷ behind = sym (ap words_of next) ∙ f in
    let first : (get_or form.words.now c.args.word no_variable).word.now ≡ w = cc in
    true≢false (sym (c.is_word.ensures.1 (same ∙ ap word (sym first))) ∙ c.if-not-is_word.true))))

pub row-returns-then-not-is_binder-clause-first : goal.row-returns-then-not-is_binder-clause-first
row-returns-then-not-is_binder-clause-first t c =
    let sheet = c.args.sheet.now in
    let form = c.args.form.now in
    let vars = in_scope c.args.scope.now.vars.now in
    let own = map variable form.own.now in
    let words = words_of (drop c.args.word form.words.now) in
    let ts = tokens_of sheet in
    let k = seen sheet c.args.to c.requires.range.1 in
    let lt : c.args.at < length form.items.now = omega (arith, c.requires.items.0) in
    let is = drop_more form.items.now c.args.at c.index-form-at.result lt ∙ ap (λ i. i ∷ drop (c.args.at + 1) form.items.now) c.in-Binder.is in
    let l : c.args.from < length sheet.tokens.now = omega (arith, c.requires.range.0, c.requires.range.1) in
    let this = token (get_or sheet.tokens.now c.args.from no_token) in
    let here : slice_get ts c.args.from ≡ Some this = get_mapped_or token sheet.tokens.now c.args.from no_token l in
    subst (λ js. AreFirst IsBefore (ReadsItemsAt sheet.sig.now sheet.metas.now vars own words js form.alternative form.prod.0 (range_of sheet c.args.from c.args.to)) []) (sym is)
    (binder_not sheet.sig.now sheet.metas.now vars own words form.alternative form.prod.0 c.in-Binder.cat (drop (c.args.at + 1) form.items.now) (range_of sheet c.args.from c.args.to)
    (λ w rest behind e f g. (let b = range_begins ts c.args.from c.args.to (word w) rest c.requires.range.0 k (sym e) in
    let same : this ≡ word w = some_once here b.1 in
    true≢false (sym (c.is_binder.ensures.1 (ap (λ (u : Token). u.0) same, subst (λ (u : Token). IsVariableWord sheet.sig.now c.in-Binder.cat.0 u.1) (sym same) g)) ∙ c.if-not-is_binder.true))))

pub row-returns-then-not-is_word-clause-table : goal.row-returns-then-not-is_word-clause-table
row-returns-then-not-is_word-clause-table t c = still c.args.sheet.now c.args.table.now c.requires.table

pub row-returns-then-not-is_binder-clause-table : goal.row-returns-then-not-is_binder-clause-table
row-returns-then-not-is_binder-clause-table t c = still c.args.sheet.now c.args.table.now c.requires.table

pub row-row-requires-in-Binder : goal.row-row-requires-in-Binder
row-row-requires-in-Binder t c = (
  omega (arith, c.decreases),
  (
    c.requires.names,
    (
      c.requires.table,
      (
        c.requires.scope,
        ((omega (arith, c.requires.items.0), omega (arith, c.requires.items.1)), ((λ e. absurd (omega (arith, e))), (omega (arith, c.requires.range.0), c.requires.range.1))),
      ),
    ),
  ),
)

pub row-returns-else-not-is_binder-clause-first : goal.row-returns-else-not-is_binder-clause-first
row-returns-else-not-is_binder-clause-first t c =
    let sheet = c.args.sheet.now in
    let form = c.args.form.now in
    let vars = in_scope c.args.scope.now.vars.now in
    let own = map variable form.own.now in
    let words = words_of (drop c.args.word form.words.now) in
    let ts = tokens_of sheet in
    let k = seen sheet c.args.to c.requires.range.1 in
    let lt : c.args.at < length form.items.now = omega (arith, c.requires.items.0) in
    let is = drop_more form.items.now c.args.at c.index-form-at.result lt ∙ ap (λ i. i ∷ drop (c.args.at + 1) form.items.now) c.in-Binder.is in
    let l : c.args.from < length sheet.tokens.now = omega (arith, c.requires.range.0, c.requires.range.1) in
    let this = token (get_or sheet.tokens.now c.args.from no_token) in
    let here : slice_get ts c.args.from ≡ Some this = get_mapped_or token sheet.tokens.now c.args.from no_token l in
    let wl : c.args.word < length form.words.now = omega (arith, c.requires.items.1) in
    let next = drop_more form.words.now c.args.word no_variable wl in
    let less : c.args.from < c.args.to = omega (arith, c.requires.range.0) in
    let v = (get_or form.words.now c.args.word no_variable).word.now in
    let spelled : this ≡ word v = c.is_word.ensures.0 c.if-not-is_word.false in
    let whole = range_cons ts c.args.from c.args.to (word v) less k (here ∙ ap Some spelled) in
    let may = subst (λ (u : Token). IsVariableWord sheet.sig.now c.in-Binder.cat.0 u.1) spelled (c.is_binder.ensures.0 c.if-not-is_binder.false).1 in
    if_ok c.row-in-Binder.result _ _
    (λ found f. subst (λ js. AreFirst IsBefore (ReadsItemsAt sheet.sig.now sheet.metas.now vars own words js form.alternative form.prod.0 (range_of sheet c.args.from c.args.to)) (answers found)) (sym is)
    (subst (λ us. AreFirst IsBefore (ReadsItemsAt sheet.sig.now sheet.metas.now vars own words (Binder c.in-Binder.cat ∷ drop (c.args.at + 1) form.items.now) form.alternative form.prod.0 us) (answers found))
    (sym whole)
    (subst (λ ws. AreFirst IsBefore (ReadsItemsAt sheet.sig.now sheet.metas.now vars own ws (Binder c.in-Binder.cat ∷ drop (c.args.at + 1) form.items.now) form.alternative form.prod.0
    (word v ∷ range_of sheet (c.args.from + 1) c.args.to)) (answers found)) (sym (ap words_of next))
    (binder_read sheet.sig.now sheet.metas.now vars own form.alternative form.prod.0 c.in-Binder.cat (drop (c.args.at + 1) form.items.now) v (words_of (drop (c.args.word + 1) form.words.now))
    (range_of sheet (c.args.from + 1) c.args.to) (answers found) may f))))
    c.row-in-Binder.ensures.first

pub row-returns-else-not-is_binder-clause-table : goal.row-returns-else-not-is_binder-clause-table
row-returns-else-not-is_binder-clause-table t c = c.row-in-Binder.ensures.table

pub product_of-returns-then-prod-cat-clause-first : goal.product_of-returns-then-prod-cat-clause-first
product_of-returns-then-prod-cat-clause-first t c =
    let sheet = c.args.sheet.now in
    let prod = c.index-prod.result.now in
    let found : slice_get sheet.sig.now.prods c.args.p ≡ Some prod =
    slice_get_read sheet.sig.now.prods _ c.args.p prod refl c.requires.prod (rw c.prods.ensures.value at c.index-prod.ensures) in
    no_product_of sheet.sig.now sheet.metas.now (in_scope c.args.scope.now.vars.now) c.args.p c.args.cat.0 prod (range_of sheet c.args.from c.args.to) found c.if-prod-cat.true

pub product_of-returns-then-prod-cat-clause-table : goal.product_of-returns-then-prod-cat-clause-table
product_of-returns-then-prod-cat-clause-table t c = still c.args.sheet.now c.args.table.now c.requires.table

pub product_of-returns-then-not-may_go_on-clause-first : goal.product_of-returns-then-not-may_go_on-clause-first
product_of-returns-then-not-may_go_on-clause-first t c =
    let sheet = c.args.sheet.now in
    let vars = in_scope c.args.scope.now.vars.now in
    let prod = c.index-prod.result.now in
    let found : slice_get sheet.sig.now.prods c.args.p ≡ Some prod =
    slice_get_read sheet.sig.now.prods _ c.args.p prod refl c.requires.prod (rw c.prods.ensures.value at c.index-prod.ensures) in
    let none = rw c.as_slice-items.ensures at (c.may_go_on.ensures c.if-not-may_go_on.true) in
    no_made sheet.sig.now sheet.metas.now vars c.args.p c.args.cat.0 prod (range_of sheet c.args.from c.args.to) found (λ own words xs r. none vars own words xs r)

pub product_of-returns-then-not-may_go_on-clause-table : goal.product_of-returns-then-not-may_go_on-clause-table
product_of-returns-then-not-may_go_on-clause-table t c = still c.args.sheet.now c.args.table.now c.requires.table

pub product_of-loop-own-init : goal.product_of-loop-own-init
product_of-loop-own-init t c = (no_first _ (λ w s h. h), still c.args.sheet.now c.args.table.now c.requires.table)

pub product_of-row-requires : goal.product_of-row-requires
product_of-row-requires t c =
    let sheet = c.args.sheet.now in
    let vars = in_scope c.args.scope.now.vars.now in
    let prod = c.index-prod.result.now in
    let found : slice_get sheet.sig.now.prods c.args.p ≡ Some prod =
    slice_get_read sheet.sig.now.prods _ c.args.p prod refl c.requires.prod (rw c.prods.ensures.value at c.index-prod.ensures) in
    let follows = c.loop-own.invariant.1 in
    let fits = all_at (ProdFits sheet.sig.now) sheet.sig.now.prods c.args.p prod c.prods.ensures.fits.prods found in (
      omega (arith, c.decreases),
      (
        c.requires.names,
        (
          follows.cells,
          (
            follows.scopes _ _ c.requires.scope,
            ((omega arith, omega arith), ((λ e h. fits.not_single (rw c.as_slice-items.ensures at h)), c.requires.range)),
          ),
        ),
      ),
    )

pub product_of-loop-own-preserved : goal.product_of-loop-own-preserved
product_of-loop-own-preserved t c =
    let sheet = c.args.sheet.now in
    let vars = in_scope c.args.scope.now.vars.now in
    let prod = c.index-prod.result.now in
    let found : slice_get sheet.sig.now.prods c.args.p ≡ Some prod =
    slice_get_read sheet.sig.now.prods _ c.args.p prod refl c.requires.prod (rw c.prods.ensures.value at c.index-prod.ensures) in
    let own = rw c.as_slice-items.ensures at c.in_ok-all.ensures.own in
    let one = c.own-item.result in
    let lt = rw c.as_slice-own-items.ensures at c.loop-own-test.true in
    let is = rw c.as_slice-own-items.ensures at c.own-item.is in
    let before = rw (c.as_slice-own-items.ensures, c.as_slice-items.ensures) at c.loop-own.invariant.0 in
    let more = rw (c.as_slice.ensures, c.as_slice-in-loop-own.ensures, c.as_slice-items.ensures, c.in_ok-number.ensures, c.in_ok-alternative.ensures) at c.in_ok-more.ensures.first in
    let all = one_list_more sheet.sig.now sheet.metas.now vars c.args.p c.args.cat.0 prod (range_of sheet c.args.from c.args.to) c.requires.names found c.if-prod-cat.false c.in_ok-all.all
    c.loop-own.own-index one lt is own _ _ _ before more c.joined-found.ensures in
    (rw (c.as_slice-own-items.ensures, c.as_slice-items.ensures) all, later c.loop-own.invariant.1 c.in_ok-more.ensures.table)

pub product_of-returns-clause-first : goal.product_of-returns-clause-first
product_of-returns-clause-first t c =
    let sheet = c.args.sheet.now in
    let vars = in_scope c.args.scope.now.vars.now in
    let prod = c.index-prod.result.now in
    let found : slice_get sheet.sig.now.prods c.args.p ≡ Some prod =
    slice_get_read sheet.sig.now.prods _ c.args.p prod refl c.requires.prod (rw c.prods.ensures.value at c.index-prod.ensures) in
    let own = rw c.as_slice-items.ensures at c.in_ok-all.ensures.own in
    let complete = rw c.as_slice-items.ensures at c.in_ok-all.ensures.complete in
    let start : c.args.from ≤ c.args.from = omega arith in
    let end = rw c.as_slice-own-items.ensures at c.loop-own-test.false in
    let whole = take_all c.loop-own.own-index c.in_ok-all.all end in
    all_lists sheet.sig.now sheet.metas.now vars c.args.p c.args.cat.0 prod (range_of sheet c.args.from c.args.to) found c.if-prod-cat.false c.in_ok-all.all own
    (λ words vs xs r. complete c.args.from vars vs words xs start c.requires.range.0 r) (answers c.loop-own.found) (rw (c.as_slice-own-items.ensures, whole, c.as_slice-items.ensures) at c.loop-own.invariant.0)

pub product_of-returns-clause-table : goal.product_of-returns-clause-table
product_of-returns-clause-table t c = c.loop-own.invariant.1
