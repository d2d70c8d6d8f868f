-- The names of a choice, by where their numbers stand.
use Rattle.std.proofs.Common.{◌≡◌, ℕ, ◌-◌, ◌<◌, ◌≤◌, ◌++◌, if◌then◌else◌, List, [], ◌∷◌, zero, suc, map, refl, slice_get, unwrap_or, Option, option_map, length, codes, ap}
use Rattle.std.proofs.lemmas.Bool.{lt-ltb, le-ltb}
use Rattle.binding_terms.specs.Signature.{Signature}
use Rattle.scheme_terms.specs.Forms.{Names}
use Rattle.scheme_terms.specs.declared.scheme.MetaDecl.{MetaDecl}
use Rattle.rule_schemes.specs.Printing.{choice_labels, labels_of, meta_name}
use Rattle.scheme_terms.specs.View.{known_variable}
use Rattle.scheme_terms.specs.declared.scheme.KnownDecl.{KnownDecl}
use Rattle.form_printing.specs.View.{known_name, later_name, first_declared}

pub own_meta : (sig : Signature) (ns : Names) (choice : List MetaDecl) (known : Option ℕ) (m : ℕ) → m < length ns.metas
    → (choice_labels sig ns choice known).metas m ≡ meta_name ns.metas m
own_meta sig ns choice known m h =
    ap (λ b. if b then meta_name ns.metas m else later_name choice (m - length ns.metas)) (lt-ltb m (length ns.metas) h)

pub later_meta : (sig : Signature) (ns : Names) (choice : List MetaDecl) (known : Option ℕ) (m : ℕ) → length ns.metas ≤ m
    → (choice_labels sig ns choice known).metas m ≡ later_name choice (m - length ns.metas)
later_meta sig ns choice known m h =
    ap (λ b. if b then meta_name ns.metas m else later_name choice (m - length ns.metas)) (le-ltb m (length ns.metas) h)

pub own_known : (sig : Signature) (ns : Names) (choice : List MetaDecl) (known : Option ℕ) (k : ℕ) → k < length ns.knowns
    → (choice_labels sig ns choice known).knowns k ≡ (labels_of ns).knowns k
own_known sig ns choice known k h =
    ap (λ b. if b then (labels_of ns).knowns k else (codes "?" ++ first_declared sig known)) (lt-ltb k (length ns.knowns) h)

pub later_known : (sig : Signature) (ns : Names) (choice : List MetaDecl) (known : Option ℕ) (k : ℕ) → length ns.knowns ≤ k
    → (choice_labels sig ns choice known).knowns k ≡ codes "?" ++ first_declared sig known
later_known sig ns choice known k h =
    ap (λ b. if b then (labels_of ns).knowns k else (codes "?" ++ first_declared sig known)) (le-ltb k (length ns.knowns) h)

-- the name of a known variable does not depend on how its entry is seen
pub labels_known : (ks : List KnownDecl) (k : ℕ)
    → unwrap_or (option_map (λ decl. decl.name) (slice_get (map known_variable ks) k)) [] ≡ known_name ks k
labels_known [] k = refl
labels_known (x ∷ xs) zero = refl
labels_known (x ∷ xs) (suc k) = labels_known xs k
