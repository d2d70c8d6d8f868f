-- Terms for slots, and the scope that entries leave.
use Rattle.std.proofs.Common.{◌≡◌, ◌↔◌, ℕ, suc, List, [], ◌∷◌, length, map, drop, refl, ap, sym, subst}
use Rattle.binding_terms.proofs.Lists.{cons_tail}
use Rattle.binding_terms.specs.Tree.{Tree}
use Rattle.binding_terms.specs.Signature.{Signature, Place}
use Rattle.scheme_terms.specs.Context.{AreArguments}
use Rattle.derivation_check.specs.Judged.{AreTerms}

terms_to : (sig : Signature) (scope : List ℕ) (ss : List Place) (ts : List Tree) → AreTerms sig scope (map (λ s. s.cat) ss) ts → AreArguments sig scope ss ts
terms_to sig scope [] [] h = tt
terms_to sig scope [] (t ∷ ts) h = h
terms_to sig scope (s ∷ ss) [] h = h
terms_to sig scope (s ∷ ss) (t ∷ ts) h = (h.0, terms_to sig scope ss ts h.1)

terms_from : (sig : Signature) (scope : List ℕ) (ss : List Place) (ts : List Tree) → AreArguments sig scope ss ts → AreTerms sig scope (map (λ s. s.cat) ss) ts
terms_from sig scope [] [] h = tt
terms_from sig scope [] (t ∷ ts) h = h
terms_from sig scope (s ∷ ss) [] h = h
terms_from sig scope (s ∷ ss) (t ∷ ts) h = (h.0, terms_from sig scope ss ts h.1)

pub are_arguments : (sig : Signature) (scope : List ℕ) (cats : List ℕ) (ss : List Place) (ts : List Tree) → cats ≡ map (λ s. s.cat) ss → AreTerms sig scope cats ts ↔ AreArguments sig scope ss ts
are_arguments sig scope cats ss ts e = (
  λ h. terms_to sig scope ss ts (subst (λ cs. AreTerms sig scope cs ts) e h),
  λ h. subst (λ cs. AreTerms sig scope cs ts) (sym e) (terms_from sig scope ss ts h),
)

pub terms_long : (sig : Signature) (scope cats : List ℕ) (ts : List Tree) → AreTerms sig scope cats ts → length cats ≡ length ts
terms_long sig scope [] [] h = refl
terms_long sig scope [] (t ∷ ts) h = absurd h
terms_long sig scope (c ∷ cs) [] h = absurd h
terms_long sig scope (c ∷ cs) (t ∷ ts) h = ap suc (terms_long sig scope cs ts h.1)

pub dropped_one : {A : Type 0} (f : A → ℕ) (xs : List A) (ss : List Place) → map f xs ≡ map (λ s. s.cat) ss → map f (drop 1 xs) ≡ map (λ s. s.cat) (drop 1 ss)
dropped_one f [] [] e = refl
dropped_one f [] (s ∷ ss) e = absurd (let no : ⊥ = cc in no)
dropped_one f (x ∷ xs) [] e = absurd (let no : ⊥ = cc in no)
dropped_one f (x ∷ xs) (s ∷ ss) e = cons_tail e

pub in_scope_of : (sig : Signature) (scope here : List ℕ) (cats : List ℕ) (ss : List Place) (us ts : List Tree) → here ≡ scope → cats ≡ map (λ s. s.cat) ss → us ≡ ts →
    AreTerms sig here cats us ↔ AreArguments sig scope ss ts
in_scope_of sig scope here cats ss us ts e f g =
    subst (λ sc. AreTerms sig here cats us ↔ AreArguments sig sc ss ts) e
    (subst (λ (xs : List Tree). AreTerms sig here cats us ↔ AreArguments sig here ss xs) g (are_arguments sig here cats ss us f))
