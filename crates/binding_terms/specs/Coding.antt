-- A code for trees, by which proofs tell them apart.
use Rattle.std.specs.Prelude.{◌≡◌, refl}
use mathlib.Core.Path.{ap, sym, subst}
use base.Stored.{Coded, Gv, gnil, gnum, gcons, num}
use Rattle.binding_terms.specs.Tree.{Tree, var, con, Args, no_args, arg}

abbrev mutual
  pub tree_code : Tree → Gv
  tree_code (var i) = gnum i
  tree_code (con p xs) = gcons (gnum p) (args_code xs)

  pub args_code : Args → Gv
  args_code no_args = gnil
  args_code (arg n t xs) = gcons (gcons (gnum n) (tree_code t)) (args_code xs)

abbrev pub head : Gv → Gv
head gnil = gnil
head (gnum n) = gnil
head (gcons a b) = a

abbrev pub tail : Gv → Gv
tail gnil = gnil
tail (gnum n) = gnil
tail (gcons a b) = b

abbrev pub IsPair : Gv → Type 0
IsPair gnil = ⊥
IsPair (gnum n) = ⊥
IsPair (gcons a b) = Unit {0}

mutual
  pub tree_inj : (s t : Tree) → tree_code s ≡ tree_code t → s ≡ t
  tree_inj (var i) (var j) e = ap (λ g. var (num g)) e
  tree_inj (var i) (con q ys) e = absurd (subst IsPair (sym e) tt)
  tree_inj (con p xs) (var j) e = absurd (subst IsPair e tt)
  tree_inj (con p xs) (con q ys) e = λ i. con (num (head (e i))) (args_inj xs ys (ap tail e) i)

  pub args_inj : (xs ys : Args) → args_code xs ≡ args_code ys → xs ≡ ys
  args_inj no_args no_args e = refl
  args_inj no_args (arg n t ys) e = absurd (subst IsPair (sym e) tt)
  args_inj (arg n t xs) no_args e = absurd (subst IsPair e tt)
  args_inj (arg n t xs) (arg m u ys) e =
      λ i. arg (num (head (head (e i)))) (tree_inj t u (ap (λ g. tail (head g)) e) i) (args_inj xs ys (ap tail e) i)

abbrev pub coded_tree : Coded Tree
coded_tree = record { code = tree_code; inj = tree_inj }

abbrev pub coded_args : Coded Args
coded_args = record { code = args_code; inj = args_inj }
