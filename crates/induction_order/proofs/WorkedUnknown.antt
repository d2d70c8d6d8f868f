-- Worked relations that are unknown.
use Rattle.std.proofs.Common.{◌≡◌, ℕ, inl, inr, refl, ◌∙◌, sym, subst, ap, arith}
use Rattle.scheme_terms.specs.SchemeTree.{SchemeTree, meta, local, con, no_values, value, no_parts, part}
use Rattle.induction_order.specs.Order.{IsPartUnder, IsRenaming, IsRenamedPart, renamed}
use Rattle.induction_order.specs.Worked.{SuccessorIsUnknown, SharedNameIsUnknown}

pub successor_is_unknown : SuccessorIsUnknown
successor_is_unknown = (λ e. cc, λ h. h.place)

-- t[x][y] with y innermost, and t[x'][x']
abbrev both : SchemeTree
both = meta 0 (value (local 1) (value (local 0) no_values))

abbrev shared : SchemeTree
shared = meta 0 (value (local 3) (value (local 3) no_values))

only_part : (inner : SchemeTree) (n : ℕ) → IsPartUnder inner n (con 0 (part 2 both no_parts)) → (n ≡ 2) × (both ≡ inner)
only_part inner n (inl here) = here
only_part inner n (inr (inl inside)) = absurd inside.2
only_part inner n (inr (inr after)) = absurd after

one_name : (to : ℕ → ℕ) → IsRenaming 2 to both → shared ≡ renamed 2 to both → ⊥
one_name to distinct same =
    let first : local 3 ≡ local (to 1) = cc in
    let second : local 3 ≡ local (to 0) = cc in
    let equal : to 0 ≡ to 1 = cc in
    let no : 0 ≡ 1 = distinct 0 1 (omega arith) (omega arith) (λ free. free.1.0 refl) (λ free. free.0 refl) equal in
    omega (arith, no)

pub shared_name_is_unknown : SharedNameIsUnknown
shared_name_is_unknown = (λ e. cc, no)
  where
    no : IsRenamedPart shared (con 0 (part 2 both no_parts)) → ⊥
    no h =
        let is = only_part h.inner h.binders h.place in
        let distinct : IsRenaming 2 h.to both = subst (λ n. IsRenaming n h.to both) is.0 (subst (IsRenaming h.binders h.to) (sym is.1) h.distinct) in
        let same : shared ≡ renamed 2 h.to both = h.same ∙ ap (renamed h.binders h.to) (sym is.1) ∙ ap (λ n. renamed n h.to both) is.0 in
        one_name h.to distinct same
