use Rattle.std.proofs.Common.{◌+◌, ◌-◌, ◌*◌, map, take}
use Rattle.scheme_terms.specs.SchemeTree.{Parts}
use Rattle.scheme_terms.specs.View.{scheme}
use Rattle.rule_schemes.specs.Said.{Way}
use Rattle.term_reader.specs.Splitting.{tokens_of, slot_range, split, longest, reach}
use Rattle.term_reader.specs.View.{variable, in_scope}
use Rattle.term_reader.specs.PlaceCases.{IsInSplits}
use Rattle.term_reader.specs.PlaceView.{places}
use Rattle.term_reader.proofs.Slots.{EachFirst}
use Rattle.term_reader.proofs.placing.+places.Given as goal

abbrev pub decreases-place_of : goal.decreases-place_of
decreases-place_of l = 8 * (l.to - l.from) + 7

abbrev pub decreases-in_group : goal.decreases-in_group
decreases-in_group l = 8 * (l.to - l.from) + 2

abbrev pub decreases-alone : goal.decreases-alone
decreases-alone l = 8 * (l.to - l.from) + 6

abbrev pub decreases-as_name : goal.decreases-as_name
decreases-as_name l = 8 * (l.to - l.from) + 5

abbrev pub decreases-as_name_of : goal.decreases-as_name_of
decreases-as_name_of l = 8 * (l.to - l.from) + 4

abbrev pub decreases-as_product : goal.decreases-as_product
decreases-as_product l = 8 * (l.to - l.from) + 5

abbrev pub decreases-as_made : goal.decreases-as_made
decreases-as_made l = 8 * (l.to - l.from) + 4

abbrev pub decreases-in_splits : goal.decreases-in_splits
decreases-in_splits l = 8 * reach (map split l.all.now) + 3

abbrev pub decreases-in_split : goal.decreases-in_split
decreases-in_split l = 8 * longest (map slot_range l.here.now.slots) + 10

abbrev pub decreases-places_of : goal.decreases-places_of
decreases-places_of l = 8 * longest (map slot_range l.slots.now) + 9

abbrev pub decreases-in_slot : goal.decreases-in_slot
decreases-in_slot l = 8 * (l.slot.now.to - l.slot.now.from) + 8

abbrev pub invariant-places_of-loop-i : goal.invariant-places_of-loop-i
invariant-places_of-loop-i l =
    EachFirst l.sheet.sig.now l.sheet.metas.now (tokens_of l.sheet) (in_scope l.vars) (map variable l.own) (map slot_range (take l.i l.slots))
    (map scheme (take l.i l.terms)) (places l.all)

abbrev pub invariant-in_splits-loop-here : goal.invariant-in_splits-loop-here
invariant-in_splits-loop-here l =
    (w : Way) (xs : Parts) → IsInSplits l.sheet (in_scope l.vars) l.alternative (map split (take l.here-index l.all)) (map scheme l.terms) w xs → ⊥
