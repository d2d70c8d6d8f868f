-- Distinct locals, one after another.
use Rattle.std.proofs.Common.{◌↔◌, ℕ, zero, suc, ◌+◌, ◌<◌, List, [], ◌∷◌, length, drop, map, add-one, arith}
use Rattle.scheme_terms.specs.SchemeTree.{SchemeTree, meta, known, local, con, Values, value, values, AreDistinctLocals, BeginsApart}
use Rattle.scheme_terms.specs.View.{scheme}
use Rattle.scheme_terms.specs.declared.scheme.Scheme.{Scheme}

first_distinct : (s : SchemeTree) (vs : Values) → AreDistinctLocals (value s vs) ↔ (BeginsApart (value s vs) × AreDistinctLocals vs)
first_distinct (meta m ws) vs = (λ h. absurd h, λ h. absurd h.0)
first_distinct (known k) vs = (λ h. absurd h, λ h. absurd h.0)
first_distinct (local i) vs = (λ h. h, λ h. h)
first_distinct (con p xs) vs = (λ h. absurd h, λ h. absurd h.0)

next_distinct : (args : List Scheme) (at : ℕ) → at < length args →
    AreDistinctLocals (values (map scheme (drop at args))) ↔ (BeginsApart (values (map scheme (drop at args))) × AreDistinctLocals (values (map scheme (drop (suc at) args))))
next_distinct [] at h = absurd (let no : ⊥ = omega arith in no)
next_distinct (s ∷ args) zero h = first_distinct (scheme s) (values (map scheme args))
next_distinct (s ∷ args) (suc at) h = next_distinct args at (omega arith)

pub distinct_from : (args : List Scheme) (at : ℕ) → at < length args →
    AreDistinctLocals (values (map scheme (drop at args))) ↔ (BeginsApart (values (map scheme (drop at args))) × AreDistinctLocals (values (map scheme (drop (at + 1) args))))
distinct_from args at h = rw add-one (next_distinct args at h)
