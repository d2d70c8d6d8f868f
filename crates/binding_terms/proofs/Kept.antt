-- What neither raises nor meets a free variable leaves the term.
use Rattle.std.proofs.Common.{◌≡◌, ℕ, ◌+◌, ◌≤◌, refl, ap, ◌∙◌, arith}
use Rattle.std.proofs.lemmas.Bool.Decides.{nat_tests}
use Rattle.binding_terms.specs.Tree.{Tree, var, con, Args, no_args, arg, raised, shifted, shifted_args, put_var, put_in, put_in_args, free, free_args}

raised_below : (cut by i : ℕ) → i + 1 ≤ cut → raised cut by i ≡ i
raised_below cut by i h = grind (arith, nat_tests)

put_below : (at : ℕ) (u : Tree) (i : ℕ) → i + 1 ≤ at → put_var at u i ≡ var i
put_below at u i h = grind (arith, nat_tests)

mutual
  pub shifted_kept : (cut by : ℕ) (t : Tree) → free t ≤ cut → shifted cut by t ≡ t
  shifted_kept cut by (var i) h = ap var (raised_below cut by i h)
  shifted_kept cut by (con p xs) h = ap (con p) (shifted_args_kept cut by xs h)

  pub shifted_args_kept : (cut by : ℕ) (xs : Args) → free_args xs ≤ cut → shifted_args cut by xs ≡ xs
  shifted_args_kept cut by no_args h = refl
  shifted_args_kept cut by (arg n t xs) h =
      ap (λ s. arg n s (shifted_args cut by xs)) (shifted_kept (cut + n) by t (omega arith))
      ∙ ap (arg n t) (shifted_args_kept cut by xs (omega arith))

mutual
  pub put_kept : (at : ℕ) (u t : Tree) → free t ≤ at → put_in at u t ≡ t
  put_kept at u (var i) h = put_below at u i h
  put_kept at u (con p xs) h = ap (con p) (put_args_kept at u xs h)

  pub put_args_kept : (at : ℕ) (u : Tree) (xs : Args) → free_args xs ≤ at → put_in_args at u xs ≡ xs
  put_args_kept at u no_args h = refl
  put_args_kept at u (arg n t xs) h =
      ap (λ s. arg n s (put_in_args at u xs)) (put_kept (at + n) (shifted 0 n u) t (omega arith))
      ∙ ap (arg n t) (put_args_kept at u xs (omega arith))
