use Rattle.std.proofs.Common.{◌≡◌, ◌∙◌, ap, length, true, false, replicate, slice_get, Some, arith}
use Rattle.std.proofs.lemmas.List.{length-set}
use Rattle.std.proofs.lemmas.Option.{slice_get_within}
use Rattle.binding_terms.specs.Draft.{drafted}
use Rattle.binding_terms.specs.Reach.{Follows, IsClosed}
use Rattle.binding_terms.proofs.Reaching.{IsMarked-stays, Reaches-marked, cats_in_range, first_mark, next_sound, unmarked_falls}
use Rattle.binding_terms.proofs.fitting.Draft.column.Goals as goal

pub loop-cat-init : goal.loop-cat-init
loop-cat-init c =
    let sig = drafted c.args.self.now in
    let none : c.in_ok-marks.marks.items ≡ replicate (length sig.cats) false = c.in_ok-marks.ensures.items_if_clones_equal (λ y e. e) in
    let first = first_mark sig c.args.to c.in_ok-marks.marks.items c.has_variable.result none c.requires.in_range c.has_variable.ensures in
    record { long = first.0; start = first.1; sound = first.2 }

pub next_mark-requires : goal.next_mark-requires
next_mark-requires c =
    let sig = drafted c.args.self.now in
    cats_in_range sig _ (ap length c.as_slice.ensures.value ∙ c.loop-cat.invariant.long) sig.prods c.requires.fits.prods

pub index_mut-requires-in-Some : goal.index_mut-requires-in-Some
index_mut-requires-in-Some c =
    let found : (slice_get c.loop-cat.marks.items c.in-Some.cat.0 ≡ Some false) × Follows c.loop-cat.marks.items c.args.self.now.prods.now c.in-Some.cat.0 =
    rw c.as_slice.ensures.value at c.in-Some.ensures in
    let within = slice_get_within c.loop-cat.marks.items c.in-Some.cat.0 false found.0 in
    omega (arith, c.loop-cat.marks.ok.0)

pub loop-cat-smaller : goal.loop-cat-smaller
loop-cat-smaller c =
    let found : (slice_get c.loop-cat.marks.items c.in-Some.cat.0 ≡ Some false) × Follows c.loop-cat.marks.items c.args.self.now.prods.now c.in-Some.cat.0 =
    rw c.as_slice.ensures.value at c.in-Some.ensures in
    unmarked_falls c.loop-cat.marks.items c.in-Some.cat.0 found.0

pub loop-cat-preserved : goal.loop-cat-preserved
loop-cat-preserved c =
    let sig = drafted c.args.self.now in
    let marks = c.loop-cat.marks.items in
    let found : (slice_get marks c.in-Some.cat.0 ≡ Some false) × Follows marks sig.prods c.in-Some.cat.0 =
    rw c.as_slice.ensures.value at c.in-Some.ensures in
    let within = slice_get_within marks c.in-Some.cat.0 false found.0 in
    record {
      long = length-set marks c.in-Some.cat.0 true ∙ c.loop-cat.invariant.long;
      start = λ has. IsMarked-stays marks c.in-Some.cat.0 c.args.to within (c.loop-cat.invariant.start has);
      sound = next_sound sig c.args.to marks c.in-Some.cat.0 within found.1 c.loop-cat.invariant.sound;
    }

pub returns : goal.returns
returns c =
    let sig = drafted c.args.self.now in
    let marks = c.loop-cat.marks.items in
    let closed : IsClosed marks sig.prods = rw c.as_slice.ensures.value at c.in_default.ensures in
    λ from. rw c.from_vec.ensures (c.loop-cat.invariant.sound from, λ way. Reaches-marked sig marks closed way c.loop-cat.invariant.start)
