use Rattle.std.proofs.Common.{◌≡◌, ◌+◌, ◌-◌, ◌*◌, ◌<◌, ℕ, map, take, drop, slice_get, Some, ◌∷◌}
use Rattle.binding_terms.specs.Numbered.{AnyByRecursion}
use Rattle.binding_terms.specs.declared.grammar.Item.TheVariants.{Slot}
use Rattle.scheme_terms.specs.declared.scheme.MetaDecl.{MetaDecl}
use Rattle.rule_schemes.specs.Reading.{word}
use Rattle.rule_schemes.specs.Said.{IsBefore}
use Rattle.ordered_readings.specs.FirstTwo.{AreFirst}
use Rattle.ordered_readings.specs.AnswerView.{answers}
use Rattle.ordered_readings.specs.Cells.{ReadsItemsAt, ReadsArgumentsAt, TakesFewer}
use Rattle.form_cells.specs.Cells.{tokens_of, range_of, Follows, IsReadBelow}
use Rattle.form_cells.specs.Words.{words_of}
use Rattle.form_cells.specs.View.{variable, in_scope}
use Rattle.form_cells.proofs.reader.+cells.Given as goal

abbrev pub decreases-cell : goal.decreases-cell
decreases-cell l = 16 * (l.to - l.from) + 15

abbrev pub decreases-anew : goal.decreases-anew
decreases-anew l = 16 * (l.to - l.from) + 14

abbrev pub decreases-product_of : goal.decreases-product_of
decreases-product_of l = 16 * (l.to - l.from) + 13

abbrev pub decreases-arguments : goal.decreases-arguments
decreases-arguments l = 16 * (l.to - l.from) + 6

abbrev pub decreases-argument : goal.decreases-argument
decreases-argument l = 16 * (l.to - l.from) + 5

abbrev pub decreases-name : goal.decreases-name
decreases-name l = 16 * (l.to - l.from) + 5

abbrev pub decreases-brackets : goal.decreases-brackets
decreases-brackets l = 16 * (l.to - l.from) + 4

abbrev pub decreases-group : goal.decreases-group
decreases-group l = 16 * (l.to - l.from) + 3

-- the first item of a production may take no more than all but one of the tokens
abbrev pub decreases-row : goal.decreases-row
decreases-row l = 16 * (l.to - l.from) + 25 - 13 * (1 - l.at)

abbrev pub decreases-slot : goal.decreases-slot
decreases-slot l = 16 * (l.to - l.from) + 24 - 13 * (2 - l.at)

abbrev pub decreases-in_slot : goal.decreases-in_slot
decreases-in_slot l = 16 * (l.to - l.from) + 22 - 13 * (2 - l.at)

abbrev pub decreases-slot_to : goal.decreases-slot_to
decreases-slot_to l = 16 * (l.to - l.from) + 23 - 13 * (2 - l.at)

abbrev pub decreases-behind_argument : goal.decreases-behind_argument
decreases-behind_argument l = 16 * (l.to - l.from) + 4

abbrev pub invariant-arguments-loop-end : goal.invariant-arguments-loop-end
invariant-arguments-loop-end l =
    AreFirst IsBefore
    (λ w s.
    ReadsArgumentsAt l.sheet.sig.now l.sheet.metas.now (in_scope l.scope.vars.now) (map (λ p. p.0) (drop l.at l.params)) l.meta.0 (range_of l.sheet l.from l.to) w s
    × TakesFewer (l.end - l.from) w)
    (answers l.found)
    × Follows l.sheet l.fn.table l.table

abbrev pub invariant-name-loop-m : goal.invariant-name-loop-m
invariant-name-loop-m l =
    ((n : ℕ) (decl : MetaDecl) → n < l.m → slice_get l.sheet.metas.now n ≡ Some decl → slice_get (tokens_of l.sheet) l.from ≡ Some (word decl.name) → ⊥)
    × Follows l.sheet l.fn.table l.table

abbrev pub invariant-slot-loop-end : goal.invariant-slot-loop-end
invariant-slot-loop-end l =
    AreFirst IsBefore
    (λ w s.
    ReadsItemsAt l.sheet.sig.now l.sheet.metas.now (in_scope l.scope.vars.now) (map variable l.form.own.now) (words_of (drop l.word l.form.words.now))
    (Slot l.cat l.binds ∷ drop l.at l.form.items.now) l.form.alternative l.form.prod.0 (range_of l.sheet l.from l.to) w s
    × TakesFewer (l.end - l.from) w)
    (answers l.found)
    × Follows l.sheet l.fn.table l.table

abbrev pub invariant-product_of-loop-own : goal.invariant-product_of-loop-own
invariant-product_of-loop-own l =
    AreFirst IsBefore
    (λ w s. AnyByRecursion
    (λ one. ReadsItemsAt l.sheet.sig.now l.sheet.metas.now (in_scope l.scope.vars.now) (map variable one) (words_of one) l.items (3 + l.p) l.p (range_of l.sheet l.from l.to) w s)
    (take l.own-index l.own-items))
    (answers l.found)
    × Follows l.sheet l.fn.table l.table

abbrev pub invariant-anew-loop-p : goal.invariant-anew-loop-p
invariant-anew-loop-p l =
    AreFirst IsBefore (IsReadBelow l.sheet.sig.now l.sheet.metas.now (in_scope l.scope.vars.now) l.p l.cat.0 (range_of l.sheet l.from l.to)) (answers l.found)
    × Follows l.sheet l.fn.table l.table
