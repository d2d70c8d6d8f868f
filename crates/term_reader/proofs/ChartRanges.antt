-- Ranges of a list, taken apart.
use Rattle.std.proofs.Common.{◌≡◌, ℕ, ◌+◌, ◌-◌, ◌<◌, ◌≤◌, List, [], ◌∷◌, ◌++◌, length, take, drop, refl, ap, ◌∙◌, sym, get_or, arith, Some, slice_get, slice_range, length-drop, length-take, length-append}
use Rattle.std.proofs.lemmas.List.{drop_more, drop-take, take-take, drop-drop, take_at, drop_at}
use Rattle.std.proofs.lemmas.Option.{slice_get-get_or}

module _ {X : Type 0} where
  pub range_long : (xs : List X) (from to : ℕ) → to ≤ length xs → length (slice_range xs from to) ≡ to - from
  range_long xs from to h = omega (arith, length-take (to - from) (drop from xs), length-drop from xs)

  -- a range that is two lists, one after the other
  pub range_parts : (xs first rest : List X) (from to : ℕ) → to ≤ length xs → from ≤ to → slice_range xs from to ≡ first ++ rest
      → (from + length first ≤ to) × (slice_range xs from (from + length first) ≡ first) × (slice_range xs (from + length first) to ≡ rest)
  range_parts xs first rest from to h le e =
      let k = length first in
      let m = to - (from + k) in
      let within : from + k ≤ to = omega (arith, ap length e, length-append first rest, range_long xs from to h) in
      let front : from + k - from ≡ k = omega arith in
      let short : k ≤ to - from = omega arith in
      let all : k + m ≡ to - from = omega arith in (
        within,
        ap (λ n. take n (drop from xs)) front ∙ sym (take-take k (to - from) (drop from xs) short) ∙ ap (take k) e ∙ take_at first rest k refl,
        ap (take m) (sym (drop-drop k from xs)) ∙ sym (drop-take k m (drop from xs)) ∙ ap (λ n. drop k (take n (drop from xs))) all ∙ ap (drop k) e ∙ drop_at first rest k refl,
      )

  -- the first element of a range, and the others
  pub range_front : (xs rest : List X) (x : X) (from to : ℕ) → to ≤ length xs → slice_range xs from to ≡ x ∷ rest
      → (from < to) × (slice_get xs from ≡ Some x) × (slice_range xs (from + 1) to ≡ rest)
  range_front xs rest x from to h e =
      let lt : from < to = omega (arith, ap length e, range_long xs from to h) in
      let parts = range_parts xs (x ∷ []) rest from to h (omega arith) e in
      let within : from < length xs = omega arith in
      let one : from + 1 - from ≡ 1 = omega arith in
      let both : get_or xs from x ∷ [] ≡ x ∷ [] = ap (take 1) (sym (drop_more xs from x within)) ∙ ap (λ n. take n (drop from xs)) (sym one) ∙ parts.1 in
      let same : get_or xs from x ≡ x = cc in
      (lt, slice_get-get_or xs from x within ∙ ap Some same, parts.2)

  -- the last element of a range, and the others
  pub range_last : (xs front : List X) (x : X) (from to : ℕ) → to ≤ length xs → slice_range xs from to ≡ front ++ x ∷ []
      → (from < to) × (slice_get xs (to - 1) ≡ Some x) × (slice_range xs from (to - 1) ≡ front)
  range_last xs front x from to h e =
      let lt : from < to = omega (arith, ap length e, length-append front (x ∷ []), range_long xs from to h) in
      let parts = range_parts xs front (x ∷ []) from to h (omega arith) e in
      let last = range_front xs [] x (from + length front) to h parts.2 in
      let at : from + length front ≡ to - 1 = omega (arith, ap length e, length-append front (x ∷ []), range_long xs from to h) in
      (lt, ap (slice_get xs) (sym at) ∙ last.1, ap (slice_range xs from) (sym at) ∙ parts.1)

  -- what stands between the first element and the last
  pub range_inner : (xs inner : List X) (x y : X) (from to : ℕ) → to ≤ length xs → slice_range xs from to ≡ x ∷ (inner ++ y ∷ [])
      → (from + 1 < to) × (slice_get xs from ≡ Some x) × (slice_get xs (to - 1) ≡ Some y) × (slice_range xs (from + 1) (to - 1) ≡ inner)
  range_inner xs inner x y from to h e =
      let front = range_front xs (inner ++ y ∷ []) x from to h e in
      let last = range_last xs inner y (from + 1) to h front.2 in
      (last.0, front.1, last.1, last.2)
