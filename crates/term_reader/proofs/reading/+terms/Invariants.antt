use Rattle.std.proofs.Common.{ℕ, ◌+◌, ◌-◌, ◌*◌, map, take, slice_range}
use Rattle.scheme_terms.specs.View.{scheme, scheme_parts}
use Rattle.term_reader.specs.Cases.{IsNameBelow, IsReadBelow}
use Rattle.term_reader.specs.Firsts.{listed, AreFirst}
use Rattle.term_reader.specs.Splitting.{tokens_of, slot_range, split, longest, reach, ReadsPieces, IsMadeIn}
use Rattle.rule_schemes.specs.Said.{IsBefore, AreBefore}
use Rattle.term_reader.specs.View.{variable, in_scope}
use Rattle.term_reader.proofs.reading.+terms.Given as goal

abbrev pub decreases-terms : goal.decreases-terms
decreases-terms l = 8 * (l.to - l.from) + 7

abbrev pub decreases-group : goal.decreases-group
decreases-group l = 8 * (l.to - l.from) + 2

abbrev pub decreases-name : goal.decreases-name
decreases-name l = 8 * (l.to - l.from) + 2

abbrev pub decreases-names : goal.decreases-names
decreases-names l = 8 * (l.to - l.from) + 3

abbrev pub decreases-product : goal.decreases-product
decreases-product l = 8 * (l.to - l.from) + 3

abbrev pub decreases-made : goal.decreases-made
decreases-made l = 8 * (l.to - l.from) + 2

abbrev pub decreases-in_splits : goal.decreases-in_splits
decreases-in_splits l = 8 * reach (map split l.all.now) + 1

abbrev pub decreases-parts : goal.decreases-parts
decreases-parts l = 8 * longest (map slot_range l.slots.now) + 8

abbrev pub invariant-parts-loop-slot : goal.invariant-parts-loop-slot
invariant-parts-loop-slot l =
    AreFirst AreBefore
    (ReadsPieces l.sheet.sig.now l.sheet.metas.now (tokens_of l.sheet) (in_scope l.vars) (map variable l.own) (map slot_range (take l.slot-index l.slots)))
    (listed scheme_parts l.found)

abbrev pub invariant-in_splits-loop-split : goal.invariant-in_splits-loop-split
invariant-in_splits-loop-split l = (alternative : ℕ) →
    AreFirst IsBefore (IsMadeIn l.sheet (in_scope l.vars) alternative l.head (map split (take l.split-index l.all))) (listed scheme l.found)

abbrev pub invariant-names-loop-m : goal.invariant-names-loop-m
invariant-names-loop-m l =
    AreFirst IsBefore (IsNameBelow l.m l.sheet.sig.now l.sheet.metas.now (in_scope l.vars) l.cat.0 (slice_range (tokens_of l.sheet) l.from l.to)) (listed scheme l.found)

abbrev pub invariant-terms-loop-p : goal.invariant-terms-loop-p
invariant-terms-loop-p l =
    AreFirst IsBefore (IsReadBelow l.p l.sheet.sig.now l.sheet.metas.now (in_scope l.vars) l.cat.0 (slice_range (tokens_of l.sheet) l.from l.to)) (listed scheme l.found)
