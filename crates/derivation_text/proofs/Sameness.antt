-- The tests of sameness, and lists one step on.
use Rattle.std.proofs.Common.{◌≡◌, ◌≢◌, ◌<◌, ◌↔◌, ℕ, suc, length, map, Bool, true, false, ◌&&◌, eqb, IsTrue, List, [], ◌∷◌, refl, ap, subst, sym, arith}
use Rattle.std.proofs.lemmas.Bool.Decides.{nat_tests}
use Rattle.binding_terms.specs.Tree.{Tree, var, con, Args, no_args, arg}
use Rattle.binding_terms.specs.View.{tree}
use Rattle.binding_terms.specs.declared.term.Term.{Term}
use Rattle.scheme_terms.specs.View.{ground_entry}
use Rattle.scheme_terms.specs.declared.scheme.Entry.{Entry}
use Rattle.derivation_text.specs.Text.{are_first, same_tree, same_args, same_trees, same_entry}

mutual
  tree_refl : (t : Tree) → same_tree t t ≡ true
  tree_refl (var i) = grind (arith, nat_tests)
  tree_refl (con p xs) = rw (args_refl xs) (grind (arith, nat_tests))

  args_refl : (xs : Args) → same_args xs xs ≡ true
  args_refl no_args = refl
  args_refl (arg n t xs) = rw (tree_refl t) (rw (args_refl xs) (grind (arith, nat_tests)))

both : (a b : Bool) → a && b ≡ true → (a ≡ true) × (b ≡ true)
both true b h = (refl, h)
both false b h = cc

number_same : (i j : ℕ) → eqb i j ≡ true → i ≡ j
number_same i j h = grind (arith, nat_tests)

mutual
  tree_same : (t u : Tree) → same_tree t u ≡ true → t ≡ u
  tree_same (var i) (var j) h = ap var (number_same i j h)
  tree_same (var i) (con q ys) h = cc
  tree_same (con p xs) (var j) h = cc
  tree_same (con p xs) (con q ys) h =
      let parts = both (eqb p q) (same_args xs ys) h in λ k. con (number_same p q parts.0 k) (args_same xs ys parts.1 k)

  args_same : (xs ys : Args) → same_args xs ys ≡ true → xs ≡ ys
  args_same no_args no_args h = refl
  args_same no_args (arg m u ys) h = cc
  args_same (arg n t xs) no_args h = cc
  args_same (arg n t xs) (arg m u ys) h =
      let parts = both (eqb n m) (same_tree t u && same_args xs ys) h in
      let rest = both (same_tree t u) (same_args xs ys) parts.1 in
      λ k. arg (number_same n m parts.0 k) (tree_same t u rest.0 k) (args_same xs ys rest.1 k)

same_tests : (b c : Bool) → (b ≡ true → c ≡ true) → (c ≡ true → b ≡ true) → b ≡ c
same_tests true c f g = sym (f refl)
same_tests false true f g = g refl
same_tests false false f g = refl

-- a test that is true exactly at the same terms
pub same_tree_is : (b : Bool) (t u : Tree) → IsTrue b ↔ (t ≡ u) → b ≡ same_tree t u
same_tree_is b t u h =
    same_tests b (same_tree t u) (λ is. subst (λ v. same_tree t v ≡ true) (h.0 is) (tree_refl t)) (λ is. h.1 (tree_same t u is))

and_false : (b : Bool) → b && false ≡ false
and_false true = refl
and_false false = refl

-- lists of different lengths are not the same
pub uneven : (ts us : List Term) → length ts ≢ length us → same_trees (map tree ts) (map tree us) ≡ false
uneven [] [] h = absurd (h refl)
uneven [] (u ∷ us) h = refl
uneven (t ∷ ts) [] h = refl
uneven (t ∷ ts) (u ∷ us) h = rw (uneven ts us (λ e. h (ap suc e))) (and_false (same_tree (tree t) (tree u)))

-- fewer entries do not begin with more
pub too_few : (ds es : List Entry) → length es < length ds → are_first (map ground_entry ds) (map ground_entry es) ≡ false
too_few [] [] h = absurd (omega arith)
too_few [] (e ∷ es) h = absurd (omega arith)
too_few (d ∷ ds) [] h = refl
too_few (d ∷ ds) (e ∷ es) h = rw (too_few ds es (omega arith)) (and_false (same_entry (ground_entry d) (ground_entry e)))
