-- The laws as specs/Laws.antt states them.
use Rattle.std.proofs.Common.{◌≡◌, ◌⊎◌, ℕ, ◌+◌, ◌-◌, ◌<◌, ◌≤◌, inl, inr, refl, ap, ◌∙◌, sym, arith}
use Rattle.std.proofs.lemmas.Bool.{cases_order}
use Rattle.std.proofs.lemmas.Bool.Decides.{nat_tests}
use Rattle.binding_terms.specs.Laws.{PutShifts, PutPuts, ShiftByNone, ShiftShifts, ShiftPastShift, ShiftBelowPut, ShiftAbovePut, ShiftOfClosed, PutInClosed, ShiftKeepsSize, ShiftIsFilled, PutIsFilled, FilledFilled, ShiftPastFilled, FilledPastShift}
use Rattle.binding_terms.specs.Substitution.{filled}
use Rattle.binding_terms.specs.Tree.{Tree, var, con, Args, no_args, arg, nodes, arg_nodes, raised, shifted, shifted_args, put_var}
use Rattle.binding_terms.proofs.Filling.{shifted_none, shifted_twice}
use Rattle.binding_terms.proofs.Kept.{put_kept, shifted_kept}
use Rattle.binding_terms.proofs.Puts.{put_above, put_below, put_here, put_put, put_shifted, shifted_put, shifted_shifted}
use Rattle.binding_terms.proofs.Substitutions.{filled_filled, filled_shifted, put_is_filled, shifted_filled, shifted_is_filled}

pub put_shifts : PutShifts
put_shifts t u a = put_shifted a u t

pub put_puts : PutPuts
put_puts t u v a = put_put 0 a (a + 1) (omega arith) refl v u t

pub shift_by_none : ShiftByNone
shift_by_none t cut = shifted_none cut t

pub shift_shifts : ShiftShifts
shift_shifts t cut m n = shifted_twice cut m n t

pub shift_past_shift : ShiftPastShift
shift_past_shift t low high m n h = shifted_shifted low high (high + m) m n h refl t

pub shift_below_put : ShiftBelowPut
shift_below_put t u cut a n h = shifted_put cut a (a + n) n h refl u t

-- raising after putting in, at a variable
above_at : (u : Tree) (cut a n i : ℕ) → a ≤ cut → (i ≡ a) ⊎ ((i < a) ⊎ (a < i)) →
    shifted cut n (put_var a u i) ≡ put_var a (shifted cut n u) (raised (cut + 1) n i)
above_at u cut a n i h (inl e) =
    let stays : raised (cut + 1) n i ≡ a = grind (arith, nat_tests) in
    ap (shifted cut n) (put_here a u i e) ∙ sym (put_here a (shifted cut n u) (raised (cut + 1) n i) stays)
above_at u cut a n i h (inr (inl e)) =
    let low : raised (cut + 1) n i < a = grind (arith, nat_tests) in
    let same : raised cut n i ≡ raised (cut + 1) n i = grind (arith, nat_tests) in
    ap (shifted cut n) (put_below a u i e) ∙ ap var same ∙ sym (put_below a (shifted cut n u) (raised (cut + 1) n i) low)
above_at u cut a n i h (inr (inr e)) =
    let high : a < raised (cut + 1) n i = grind (arith, nat_tests) in
    let same : raised cut n (i - 1) ≡ raised (cut + 1) n i - 1 = grind (arith, nat_tests) in
    ap (shifted cut n) (put_above a u i e) ∙ ap var same ∙ sym (put_above a (shifted cut n u) (raised (cut + 1) n i) high)

pub shift_above_put : ShiftAbovePut
shift_above_put t u cut a n h =
    let each : ◌≡◌ {A = ℕ → Tree} (λ i. shifted cut n (put_var a u i)) (λ i. put_var a (shifted cut n u) (raised (cut + 1) n i)) =
    λ k i. above_at u cut a n i h (cases_order i a) k in
    ap (shifted cut n) (put_is_filled a u t) ∙ shifted_filled (put_var a u) cut n t ∙ ap (λ f. filled f t) each
    ∙ sym (filled_shifted (put_var a (shifted cut n u)) (cut + 1) n t) ∙ sym (put_is_filled a (shifted cut n u) (shifted (cut + 1) n t))

pub shift_of_closed : ShiftOfClosed
shift_of_closed t cut by h = shifted_kept cut by t h

pub put_in_closed : PutInClosed
put_in_closed t u a h = put_kept a u t h

mutual
  nodes-shifted : (cut by : ℕ) (t : Tree) → nodes (shifted cut by t) ≡ nodes t
  nodes-shifted cut by (var i) = refl
  nodes-shifted cut by (con p xs) = ap (λ n. n + 1) (arg_nodes-shifted cut by xs)

  arg_nodes-shifted : (cut by : ℕ) (xs : Args) → arg_nodes (shifted_args cut by xs) ≡ arg_nodes xs
  arg_nodes-shifted cut by no_args = refl
  arg_nodes-shifted cut by (arg n t xs) = omega (arith, nodes-shifted (cut + n) by t, arg_nodes-shifted cut by xs)

pub shift_keeps_size : ShiftKeepsSize
shift_keeps_size t cut by = nodes-shifted cut by t

pub shift_is_filled : ShiftIsFilled
shift_is_filled t cut by = shifted_is_filled cut by t

pub put_in_is_filled : PutIsFilled
put_in_is_filled t u a = put_is_filled a u t

pub filled_fills : FilledFilled
filled_fills t f g = filled_filled f g t

pub shift_past_filled : ShiftPastFilled
shift_past_filled t f cut by = shifted_filled f cut by t

pub filled_past_shift : FilledPastShift
filled_past_shift t f cut by = filled_shifted f cut by t
