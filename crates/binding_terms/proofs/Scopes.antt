-- Raising and putting in keep the category of a term.
use Rattle.std.proofs.Common.{◌≡◌, ◌⊎◌, ℕ, suc, ◌+◌, ◌-◌, ◌<◌, ◌≤◌, List, [], ◌∷◌, ◌++◌, length, map, Option, Some, None, MatchOption, slice_get, slice_index, inl, inr, ap, ◌∙◌, sym, subst, append_assoc, length-append, arith}
use Rattle.std.proofs.lemmas.Bool.{cases_lt, cases_order}
use Rattle.std.proofs.lemmas.Bool.Decides.{nat_tests}
use Rattle.std.proofs.lemmas.List.{length-map, length-reverse}
use Rattle.binding_terms.specs.Tree.{Tree, var, con, Args, no_args, arg, raised, shifted, shifted_args, put_var}
use Rattle.binding_terms.specs.Signature.{Signature, Place, slots, binders}
use Rattle.binding_terms.specs.Scope.{bound, IsTerm, AreParts, Fills}
use Rattle.binding_terms.specs.Substitution.{under, filled, filled_args}
use Rattle.binding_terms.specs.Laws.{ShiftKeepsScope, PutKeepsScope, FilledKeepsScope}
use Rattle.binding_terms.proofs.Filling.{under_at, under_past}
use Rattle.binding_terms.proofs.Puts.{put_below, put_here, put_above}
use Rattle.binding_terms.proofs.Substitutions.{put_is_filled}
use Rattle.binding_terms.proofs.Lists.{append_beyond, append_within, match_map}

raised_get : (inner new outer : List ℕ) (i : ℕ) → (i < length inner) ⊎ (length inner ≤ i) →
    slice_get (inner ++ (new ++ outer)) (raised (length inner) (length new) i) ≡ slice_get (inner ++ outer) i
raised_get inner new outer i (inl h) =
    ap (slice_get (inner ++ (new ++ outer))) (let e : raised (length inner) (length new) i ≡ i = grind (arith, nat_tests) in e)
    ∙ append_within inner (new ++ outer) i h ∙ sym (append_within inner outer i h)
raised_get inner new outer i (inr h) =
    let e : raised (length inner) (length new) i ≡ i + length new = grind (arith, nat_tests) in
    ap (slice_get (inner ++ (new ++ outer))) e ∙ append_beyond inner (new ++ outer) (i + length new) (omega arith)
    ∙ append_beyond new outer (i + length new - length inner) (omega arith)
    ∙ ap (slice_get outer) (let k : i + length new - length inner - length new ≡ i - length inner = omega arith in k) ∙ sym (append_beyond inner outer i h)

pub length_bound : (bs binds : List ℕ) → length (bound bs binds) ≡ length binds
length_bound bs binds = length-reverse (map (slice_index bs) binds) ∙ length-map binds (slice_index bs)

module _ (sig : Signature) (new outer : List ℕ) where
  mutual
    pub IsTerm-shift : (inner : List ℕ) (c : ℕ) (t : Tree) → IsTerm sig (inner ++ outer) c t →
        IsTerm sig (inner ++ (new ++ outer)) c (shifted (length inner) (length new) t)
    IsTerm-shift inner c (var i) h = raised_get inner new outer i (cases_lt i (length inner)) ∙ h
    IsTerm-shift inner c (con p xs) h =
        match_map (slice_get sig.prods p) (λ prod. (prod.cat.0 ≡ c) × AreParts sig (inner ++ outer) (binders prod.items) (slots prod.items) xs)
        (λ prod. (prod.cat.0 ≡ c) × AreParts sig (inner ++ (new ++ outer)) (binders prod.items) (slots prod.items) (shifted_args (length inner) (length new) xs))
        (λ prod g. (g.0, AreParts-shift inner (binders prod.items) (slots prod.items) xs g.1)) h

    pub AreParts-shift : (inner bs : List ℕ) (ss : List Place) (xs : Args) → AreParts sig (inner ++ outer) bs ss xs →
        AreParts sig (inner ++ (new ++ outer)) bs ss (shifted_args (length inner) (length new) xs)
    AreParts-shift inner bs [] no_args h = tt
    AreParts-shift inner bs [] (arg n t xs) h = h
    AreParts-shift inner bs (s ∷ ss) no_args h = h
    AreParts-shift inner bs (s ∷ ss) (arg n t xs) h =
        let own : List ℕ = bound bs s.binds in
        let deep : length (own ++ inner) ≡ length inner + n = omega (arith, length-append own inner, length_bound bs s.binds, h.0) in
        let term : IsTerm sig ((own ++ inner) ++ outer) s.cat t = subst (λ sc. IsTerm sig sc s.cat t) (sym (append_assoc own inner outer)) h.1 in
        let raised_term : IsTerm sig ((own ++ inner) ++ (new ++ outer)) s.cat (shifted (length (own ++ inner)) (length new) t) = IsTerm-shift (own ++ inner) s.cat t term in (
          h.0,
          subst (λ sc. IsTerm sig sc s.cat (shifted (length inner + n) (length new) t)) (append_assoc own inner (new ++ outer))
              (subst (λ d. IsTerm sig ((own ++ inner) ++ (new ++ outer)) s.cat (shifted d (length new) t)) deep raised_term),
          AreParts-shift inner bs ss xs h.2,
        )

-- what fills a scope fills it under the binders of a slot
pub Fills-under : (sig : Signature) (own from to : List ℕ) (f : ℕ → Tree) → Fills sig from to f → Fills sig (own ++ from) (own ++ to) (under (length own) f)
Fills-under sig own from to f fills i cat is = at (cases_lt i (length own))
  where
    at : (i < length own) ⊎ (length own ≤ i) → IsTerm sig (own ++ to) cat (under (length own) f i)
    at (inl h) =
        subst (IsTerm sig (own ++ to) cat) (sym (under_at (length own) f i h))
        (append_within own to i h ∙ sym (append_within own from i h) ∙ is)
    at (inr h) =
        let there : IsTerm sig to cat (f (i - length own)) = fills (i - length own) cat (sym (append_beyond own from i h) ∙ is) in
        subst (IsTerm sig (own ++ to) cat) (sym (under_past (length own) f i h)) (IsTerm-shift sig own to [] cat (f (i - length own)) there)

module _ (sig : Signature) where
  mutual
    pub IsTerm-filled : (from to : List ℕ) (f : ℕ → Tree) → Fills sig from to f → (cat : ℕ) (t : Tree) → IsTerm sig from cat t → IsTerm sig to cat (filled f t)
    IsTerm-filled from to f fills cat (var i) h = fills i cat h
    IsTerm-filled from to f fills cat (con p xs) h =
        match_map (slice_get sig.prods p) (λ prod. (prod.cat.0 ≡ cat) × AreParts sig from (binders prod.items) (slots prod.items) xs)
        (λ prod. (prod.cat.0 ≡ cat) × AreParts sig to (binders prod.items) (slots prod.items) (filled_args f xs))
        (λ prod g. (g.0, AreParts-filled from to f fills (binders prod.items) (slots prod.items) xs g.1)) h

    pub AreParts-filled : (from to : List ℕ) (f : ℕ → Tree) → Fills sig from to f → (bs : List ℕ) (ss : List Place) (xs : Args) → AreParts sig from bs ss xs → AreParts sig to bs ss (filled_args f xs)
    AreParts-filled from to f fills bs [] no_args h = tt
    AreParts-filled from to f fills bs [] (arg n t xs) h = h
    AreParts-filled from to f fills bs (s ∷ ss) no_args h = h
    AreParts-filled from to f fills bs (s ∷ ss) (arg n t xs) h =
        let own : List ℕ = bound bs s.binds in
        let deep : length own ≡ n = length_bound bs s.binds ∙ sym h.0 in
        let body : IsTerm sig (own ++ to) s.cat (filled (under (length own) f) t) =
        IsTerm-filled (own ++ from) (own ++ to) (under (length own) f) (Fills-under sig own from to f fills) s.cat t h.1 in
        (h.0, subst (λ d. IsTerm sig (own ++ to) s.cat (filled (under d f) t)) deep body, AreParts-filled from to f fills bs ss xs h.2)

pub Fills-put : (sig : Signature) (inner outer : List ℕ) (of : ℕ) (u : Tree) → IsTerm sig (inner ++ outer) of u
    → Fills sig (inner ++ of ∷ outer) (inner ++ outer) (put_var (length inner) u)
Fills-put sig inner outer of u h i cat is = at (cases_order i (length inner))
  where
    at : (i ≡ length inner) ⊎ ((i < length inner) ⊎ (length inner < i)) → IsTerm sig (inner ++ outer) cat (put_var (length inner) u i)
    at (inl e) =
        let here : Some of ≡ Some cat = sym (append_beyond inner (of ∷ outer) i (omega arith) ∙ ap (slice_get (of ∷ outer)) (let k : i - length inner ≡ 0 = omega arith in k)) ∙ is in
        let same : of ≡ cat = cc in
        subst (IsTerm sig (inner ++ outer) cat) (sym (put_here (length inner) u i e)) (subst (λ c. IsTerm sig (inner ++ outer) c u) same h)
    at (inr (inl e)) =
        subst (IsTerm sig (inner ++ outer) cat) (sym (put_below (length inner) u i e))
        (append_within inner outer i e ∙ sym (append_within inner (of ∷ outer) i e) ∙ is)
    at (inr (inr e)) =
        let index : i - length inner ≡ suc (i - 1 - length inner) = omega arith in
        subst (IsTerm sig (inner ++ outer) cat) (sym (put_above (length inner) u i e))
        (append_beyond inner outer (i - 1) (omega arith) ∙ sym (append_beyond inner (of ∷ outer) i (omega arith) ∙ ap (slice_get (of ∷ outer)) index) ∙ is)

pub shift_keeps_scope : ShiftKeepsScope
shift_keeps_scope sig inner new outer cat t h = IsTerm-shift sig new outer inner cat t h

pub put_keeps_scope : PutKeepsScope
put_keeps_scope sig inner outer cat of t u h k =
    subst (IsTerm sig (inner ++ outer) cat) (sym (put_is_filled (length inner) u t))
    (IsTerm-filled sig (inner ++ of ∷ outer) (inner ++ outer) (put_var (length inner) u) (Fills-put sig inner outer of u k) cat t h)

pub filled_keeps_scope : FilledKeepsScope
filled_keeps_scope sig from to cat t f fills h = IsTerm-filled sig from to f fills cat t h
