-- What stands for the variables of a value: its arguments, the last one innermost, and beyond them others.
use Rattle.std.proofs.Common.{◌≡◌, ◌⊎◌, ℕ, ◌-◌, ◌<◌, ◌≤◌, nat_lt, if◌then◌else◌, List, length, map, reverse, slice_get, unwrap_or, inl, inr, ap, ◌∙◌, sym, arith}
use Rattle.std.proofs.lemmas.Bool.{cases_lt}
use Rattle.std.proofs.lemmas.Bool.Decides.{nat_tests}
use Rattle.std.proofs.lemmas.List.{length-map}
use Rattle.std.proofs.lemmas.Option.{slice_get-map}
use Rattle.binding_terms.proofs.Lists.{in_reverse, reverse_map, unwrap_mapped}

-- the i-th argument from the end, and beyond the arguments what stands outside
abbrev pub argument_or : {A : Type 0} → (default : A) → (outside : ℕ → A) → List A → ℕ → A
argument_or default outside args i =
    if nat_lt i (length args) then unwrap_or (slice_get (reverse args) i) default else outside (i - length args)

pub argument_at : {A : Type 0} (default : A) (outside : ℕ → A) (args : List A) (i : ℕ) → i < length args →
    argument_or default outside args i ≡ unwrap_or (slice_get (reverse args) i) default
argument_at default outside args i h = grind (arith, nat_tests)

pub argument_past : {A : Type 0} (default : A) (outside : ℕ → A) (args : List A) (i : ℕ) → length args ≤ i →
    argument_or default outside args i ≡ outside (i - length args)
argument_past default outside args i h = grind (arith, nat_tests)

-- a function goes through
mapped_at : {A B : Type 0} (f : A → B) (x : A) (y : B) (outer : ℕ → A) (inner : ℕ → B) (args : List A) →
    ((j : ℕ) → f (outer j) ≡ inner j) → (i : ℕ) → (i < length args) ⊎ (length args ≤ i) → f (argument_or x outer args i) ≡ argument_or y inner (map f args) i
mapped_at f x y outer inner args outside i (inl h) =
    let found = in_reverse x args i h in
    ap f (argument_at x outer args i h) ∙ unwrap_mapped f x y (slice_get (reverse args) i) found.0 found.1
    ∙ ap (λ o. unwrap_or o y) (sym (slice_get-map f (reverse args) i) ∙ ap (λ ts. slice_get ts i) (sym (reverse_map f args)))
    ∙ sym (argument_at y inner (map f args) i (rw length-map h))
mapped_at f x y outer inner args outside i (inr h) =
    ap f (argument_past x outer args i h) ∙ outside (i - length args)
    ∙ sym (argument_past y inner (map f args) i (rw length-map h) ∙ ap (λ n. inner (i - n)) (length-map args f))

pub argument_mapped : {A B : Type 0} (f : A → B) (x : A) (y : B) (outer : ℕ → A) (inner : ℕ → B) (args : List A) →
    ((j : ℕ) → f (outer j) ≡ inner j) → (i : ℕ) → f (argument_or x outer args i) ≡ argument_or y inner (map f args) i
argument_mapped f x y outer inner args outside i = mapped_at f x y outer inner args outside i (cases_lt i (length args))
