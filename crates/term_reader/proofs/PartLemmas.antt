-- Parts with one more at the end, and their schemes alone.
use Rattle.std.proofs.Common.{◌≡◌, ℕ, List, [], ◌∷◌, ◌++◌, map, refl, ap, ◌∙◌}
use Rattle.std.proofs.lemmas.List.{map-append}
use Rattle.scheme_terms.specs.SchemeTree.{SchemeTree, Parts, no_parts, part}
use Rattle.scheme_terms.specs.View.{parts_of, scheme_part, scheme_parts}
use Rattle.scheme_terms.specs.declared.scheme.SArg.{SArg}
use Rattle.rule_schemes.specs.Reading.{bare}
use Rattle.term_reader.specs.Firsts.{with_last}

pub bare_parts : (xs : List (ℕ × SchemeTree)) → map (λ (a : ℕ × SchemeTree). a.1) xs ≡ bare (parts_of xs)
bare_parts [] = refl
bare_parts (x ∷ xs) = ap (λ ss. x.1 ∷ ss) (bare_parts xs)

parts_last : (xs : List (ℕ × SchemeTree)) (a : ℕ × SchemeTree) → parts_of (xs ++ a ∷ []) ≡ with_last a.0 (parts_of xs) a.1
parts_last [] a = refl
parts_last (x ∷ xs) a = ap (part x.0 x.1) (parts_last xs a)

-- what is kept with one more at the end
pub scheme_parts_last : (xs : List SArg) (a : SArg) → scheme_parts (xs ++ a ∷ []) ≡ with_last (scheme_part a).0 (scheme_parts xs) (scheme_part a).1
scheme_parts_last xs a = ap parts_of (map-append scheme_part xs (a ∷ [])) ∙ parts_last (map scheme_part xs) (scheme_part a)

-- parts with one more at the end are the same only where their first parts and the last schemes are
pub with_last_apart : (n : ℕ) (xs ys : Parts) (s t : SchemeTree) → with_last n xs s ≡ with_last n ys t → (xs ≡ ys) × (s ≡ t)
with_last_apart n no_parts no_parts s t e = (refl, (let k : s ≡ t = cc in k))
with_last_apart n no_parts (part m a no_parts) s t e = cc
with_last_apart n no_parts (part m a (part k b ys)) s t e = cc
with_last_apart n (part m a no_parts) no_parts s t e = cc
with_last_apart n (part m a (part k b xs)) no_parts s t e = cc
with_last_apart n (part m a xs) (part k b ys) s t e =
    let rest : with_last n xs s ≡ with_last n ys t = cc in
    let both = with_last_apart n xs ys s t rest in
    let first : m ≡ k = cc in
    let body : a ≡ b = cc in
    (ap (λ i. part i a xs) first ∙ ap (λ c. part k c xs) body ∙ ap (part k b) both.0, both.1)
