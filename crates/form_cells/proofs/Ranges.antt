-- Ranges of a list, from one place up to another.
use Rattle.std.proofs.Common.{◌≡◌, ◌≢◌, ℕ, suc, ◌+◌, ◌-◌, ◌<◌, ◌≤◌, List, [], ◌∷◌, ◌++◌, length, take, drop, refl, ap, ◌∙◌, sym, get_or, arith, Some, slice_get, slice_range, length-drop, length-take, length-append}
use Rattle.std.proofs.lemmas.List.{drop_more, take_all, take_at, drop_at}
use Rattle.std.proofs.lemmas.List.Folds.{drop_split}
use Rattle.std.proofs.Math.Seq.{take-append-add}
use Rattle.std.proofs.lemmas.Option.{slice_get-get_or, get_or_from_slice_get}

module _ {X : Type 0} (xs : List X) where
  pub range_length : (n m : ℕ) → n ≤ m → m ≤ length xs → length (slice_range xs n m) ≡ m - n
  range_length n m h k = omega (arith, length-take (m - n) (drop n xs), length-drop n xs)

  range_first : (n m : ℕ) (d : X) → n < m → m ≤ length xs → slice_range xs n m ≡ get_or xs n d ∷ slice_range xs (n + 1) m
  range_first n m d h k =
      let lt : n < length xs = omega arith in
      let one : m - n ≡ suc (m - (n + 1)) = omega arith in
      ap (λ i. take i (drop n xs)) one ∙ ap (take (suc (m - (n + 1)))) (drop_more xs n d lt)

  pub range_cons : (n m : ℕ) (x : X) → n < m → m ≤ length xs → slice_get xs n ≡ Some x → slice_range xs n m ≡ x ∷ slice_range xs (n + 1) m
  range_cons n m x h k e = range_first n m x h k ∙ ap (λ y. y ∷ slice_range xs (n + 1) m) (get_or_from_slice_get xs n x x e)

  pub range_end : (n m : ℕ) → n ≤ m → m ≤ length xs → [] ≡ slice_range xs n m → n ≡ m
  range_end n m h k e = let l = ap length e in omega (arith, l, range_length n m h k)

  pub range_none : (n : ℕ) → n ≤ length xs → slice_range xs n n ≡ []
  range_none n h = let e : n - n ≡ 0 = omega arith in ap (λ i. take i (drop n xs)) e

  pub range_begins : (n m : ℕ) (x : X) (rest : List X) → n ≤ m → m ≤ length xs → x ∷ rest ≡ slice_range xs n m
      → (n < m) × (slice_get xs n ≡ Some x) × (rest ≡ slice_range xs (n + 1) m)
  range_begins n m x rest h k e =
      let l = ap length e in
      let lt : n < m = omega (arith, l, range_length n m h k) in
      let within : n < length xs = omega arith in
      let both : x ∷ rest ≡ get_or xs n x ∷ slice_range xs (n + 1) m = e ∙ range_first n m x lt k in
      let first : x ≡ get_or xs n x = cc in
      let second : rest ≡ slice_range xs (n + 1) m = cc in
      (lt, slice_get-get_or xs n x within ∙ ap Some (sym first), second)

  pub range_two : (n k m : ℕ) → n ≤ k → k ≤ m → m ≤ length xs → slice_range xs n m ≡ slice_range xs n k ++ slice_range xs k m
  range_two n k m h i j =
      let front = slice_range xs n k in
      let long : length front ≡ k - n = range_length n k h (omega arith) in
      let count : m - n ≡ length front + (m - k) = omega (arith, long) in
      ap (λ i. take i (drop n xs)) count ∙ ap (take (length front + (m - k))) (drop_split xs n k h) ∙ take-append-add front (drop k xs) (m - k)

  -- what stands at the front of a range
  pub range_front : (n m : ℕ) (first rest : List X) → n ≤ m → m ≤ length xs → slice_range xs n m ≡ first ++ rest
      → (n + length first ≤ m) × (slice_range xs n (n + length first) ≡ first) × (slice_range xs (n + length first) m ≡ rest)
  range_front n m first rest h k e =
      let l = ap length e in
      let within : n + length first ≤ m = omega (arith, l, range_length n m h k, length-append first rest) in
      let some : n ≤ n + length first = omega arith in
      let end : n + length first ≤ length xs = omega arith in
      let long : length (slice_range xs n (n + length first)) ≡ length first = omega (arith, range_length n (n + length first) some end) in
      let two : slice_range xs n (n + length first) ++ slice_range xs (n + length first) m ≡ first ++ rest =
      sym (range_two n (n + length first) m some within k) ∙ e in (
        within,
        sym (take_at (slice_range xs n (n + length first)) (slice_range xs (n + length first) m) (length first) long)
            ∙ ap (take (length first)) two ∙ take_at first rest (length first) refl,
        sym (drop_at (slice_range xs n (n + length first)) (slice_range xs (n + length first) m) (length first) long)
            ∙ ap (drop (length first)) two ∙ drop_at first rest (length first) refl,
      )

  -- the range of all
  pub range_all : (n : ℕ) → length xs ≤ n → slice_range xs 0 n ≡ xs
  range_all n h = let all : n - 0 ≡ n = omega arith in ap (λ k. take k xs) all ∙ take_all n xs h

  pub range_some : (n m : ℕ) → n < m → m ≤ length xs → slice_range xs n m ≢ []
  range_some n m h k e = let l = ap length e in let le : n ≤ m = omega arith in absurd (omega (arith, l, range_length n m le k))
