-- The instance of a scheme that was raised is the raised instance.
use Rattle.std.proofs.Common.{◌≡◌, ℕ, suc, ◌+◌, ◌-◌, ◌≤◌, List, ◌∷◌, length, map, refl, ap, ◌∙◌, sym, arith}
use Rattle.std.proofs.lemmas.Bool.Decides.{nat_tests}
use Rattle.binding_terms.specs.Tree as terms
use Rattle.binding_terms.specs.Tree.{Tree, var}
use Rattle.binding_terms.specs.Substitution as filling
use Rattle.binding_terms.proofs.Substitutions.{shifted_filled}
use Rattle.scheme_terms.specs.SchemeTree.{SchemeTree, meta, known, local, con, Values, no_values, value, Parts, no_parts, part, shifted, shifted_values, shifted_parts}
use Rattle.scheme_terms.specs.Forms.{Instance}
use Rattle.scheme_terms.specs.Instance.{instance_of, instances_of, parts_instance, argument_or_root, value_of, place_of}
use Rattle.scheme_terms.proofs.Arguments.{argument_mapped}

raised_root : (c d n i : ℕ) → c ≤ d → terms.raised c n (i + d) ≡ i + (d + n)
raised_root c d n i h = grind (arith, nat_tests)

arguments_raised : (c d n : ℕ) → c ≤ d → (args : List Tree) →
    ◌≡◌ {A = ℕ → Tree} (λ i. terms.shifted c n (argument_or_root d args i)) (argument_or_root (d + n) (map (terms.shifted c n) args))
arguments_raised c d n h args = λ k i.
    argument_mapped (terms.shifted c n) (var 0) (var 0) (λ j. var (j + d)) (λ j. var (j + (d + n))) args (λ j. ap var (raised_root c d n j h)) i k

mutual
  pub instance_shifted : (inst : Instance) (c d n : ℕ) → c ≤ d → (s : SchemeTree) →
      instance_of inst (d + n) (shifted c n s) ≡ terms.shifted c n (instance_of inst d s)
  instance_shifted inst c d n h (meta m vs) =
      ap (λ ts. filling.filled (argument_or_root (d + n) ts) (value_of inst m)) (instances_shifted inst c d n h vs)
      ∙ ap (λ f. filling.filled f (value_of inst m)) (sym (arguments_raised c d n h (instances_of inst d vs)))
      ∙ sym (shifted_filled (argument_or_root d (instances_of inst d vs)) c n (value_of inst m))
  instance_shifted inst c d n h (known k) =
      ap var (sym (raised_root c d n (length inst.root.entries - suc (place_of inst k)) h))
  instance_shifted inst c d n h (local i) = refl
  instance_shifted inst c d n h (con p xs) = ap (terms.con p) (parts_shifted inst c d n h xs)

  pub instances_shifted : (inst : Instance) (c d n : ℕ) → c ≤ d → (vs : Values) →
      instances_of inst (d + n) (shifted_values c n vs) ≡ map (terms.shifted c n) (instances_of inst d vs)
  instances_shifted inst c d n h no_values = refl
  instances_shifted inst c d n h (value s vs) =
      ap (λ t. t ∷ instances_of inst (d + n) (shifted_values c n vs)) (instance_shifted inst c d n h s)
      ∙ ap (λ ts. terms.shifted c n (instance_of inst d s) ∷ ts) (instances_shifted inst c d n h vs)

  pub parts_shifted : (inst : Instance) (c d n : ℕ) → c ≤ d → (xs : Parts) →
      parts_instance inst (d + n) (shifted_parts c n xs) ≡ terms.shifted_args c n (parts_instance inst d xs)
  parts_shifted inst c d n h no_parts = refl
  parts_shifted inst c d n h (part m s xs) =
      let swap : d + n + m ≡ d + m + n = omega arith in
      ap (λ e. terms.arg m (instance_of inst e (shifted (c + m) n s)) (parts_instance inst (d + n) (shifted_parts c n xs))) swap
      ∙ ap (λ t. terms.arg m t (parts_instance inst (d + n) (shifted_parts c n xs))) (instance_shifted inst (c + m) (d + m) n (omega arith) s)
      ∙ ap (terms.arg m (terms.shifted (c + m) n (instance_of inst (d + m) s))) (parts_shifted inst c d n h xs)
