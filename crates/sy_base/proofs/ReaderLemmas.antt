-- A reader that gives bytes turn by turn.
use Rattle.std.proofs.Common.{ℕ, ◌+◌, ◌-◌, ◌≤◌, ◌≡◌, List, ◌++◌, length, Option, Some, None, sym, ◌∙◌, ap, append_assoc, arith, length-append}
use Rattle.std.specs.Io.KnownBytes.{Consumes}
use Rattle.sy_base.specs.Edge.{GaveAtMost, GaveInto}

consumes_more : (old mid new : Option (List ℕ)) (first second : List ℕ) → Consumes old mid first → Consumes mid new second → Consumes old new (first ++ second)
consumes_more None mid new first second one other = tt
consumes_more (Some xs) None new first second one other = absurd one
consumes_more (Some xs) (Some ys) None first second one other = absurd other
consumes_more (Some xs) (Some ys) (Some zs) first second one other = one ∙ ap (λ (bytes : List ℕ). first ++ bytes) other ∙ sym (append_assoc first second zs)

pub gave_more : (old mid new : Option (List ℕ)) (taken limit : ℕ) (before now : List ℕ) → taken ≤ limit → GaveInto old mid taken before now → GaveAtMost mid new (limit + 1 - taken)
    → GaveAtMost old new (limit + 1)
gave_more old mid new taken limit before now within gave more = record {
  bytes = gave.bytes ++ more.bytes;
  given = consumes_more old mid new gave.bytes more.bytes gave.given more.given;
  within = (
      let long : length (gave.bytes ++ more.bytes) ≡ length gave.bytes + length more.bytes = length-append gave.bytes more.bytes in
      omega (arith, long, gave.many, more.within, within)
      );
}
