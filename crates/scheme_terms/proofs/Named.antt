-- The known variables of a scope, each for itself, as a loop makes them.
use Rattle.std.proofs.Common.{◌≡◌, ℕ, zero, suc, ◌+◌, ◌<◌, List, [], ◌∷◌, ◌++◌, length, map, drop, refl, ap, ◌∙◌, sym, append_assoc, add-one, arith}
use Rattle.scheme_terms.specs.Substituting.{knowns_from}
use Rattle.scheme_terms.specs.View.{known_variable}
use Rattle.scheme_terms.specs.declared.scheme.KnownDecl.{KnownDecl}

known_step : (decls : List KnownDecl) (i first : ℕ) → i < length decls →
    knowns_from first (map known_variable (drop i decls)) ≡ first ∷ knowns_from (suc first) (map known_variable (drop (suc i) decls))
known_step [] i first h = absurd (let no : ⊥ = omega arith in no)
known_step (x ∷ decls) zero first h = refl
known_step (x ∷ decls) (suc i) first h = known_step decls i first (omega arith)

-- one known variable more
pub known_pushed : (all new : List ℕ) (decls : List KnownDecl) (i : ℕ) → i < length decls → new ≡ all ++ i ∷ []
    → all ++ knowns_from i (map known_variable (drop i decls)) ≡ knowns_from 0 (map known_variable decls)
    → new ++ knowns_from (i + 1) (map known_variable (drop (i + 1) decls)) ≡ knowns_from 0 (map known_variable decls)
known_pushed all new decls i h e whole =
    ap (λ ss. ss ++ knowns_from (i + 1) (map known_variable (drop (i + 1) decls))) e
    ∙ ap (λ n. (all ++ i ∷ []) ++ knowns_from n (map known_variable (drop n decls))) (add-one i)
    ∙ append_assoc all (i ∷ []) (knowns_from (suc i) (map known_variable (drop (suc i) decls)))
    ∙ ap (λ ss. all ++ ss) (sym (known_step decls i i h)) ∙ whole
