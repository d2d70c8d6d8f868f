-- Variables that stand in a term, and their categories.
use Rattle.std.proofs.Common.{◌≡◌, ◌⊎◌, ℕ, zero, suc, ◌+◌, ◌-◌, ◌<◌, ◌≤◌, List, [], ◌∷◌, ◌++◌, length, inl, inr, Option, Some, None, MatchOption, slice_get, refl, ap, ◌∙◌, sym, subst, length-append, arith}
use Rattle.std.proofs.lemmas.Bool.{cases_lt}
use Rattle.std.proofs.lemmas.Option.{slice_get_past, slice_get_within}
use Rattle.std.specs.List.{AllByRecursion}
use Rattle.binding_terms.specs.Laws.{ClosedKeepsScope, FreeIsInScope, UnreachedDropOut, VariablesAreReached}
use Rattle.binding_terms.specs.Numbered.{AnyByRecursion}
use Rattle.binding_terms.specs.Occurs.{IsFreeIn, IsFreeInArgs, HoldsVariable, PartsHoldVariable}
use Rattle.binding_terms.specs.Scope.{bound, IsTerm, AreParts}
use Rattle.binding_terms.specs.Signature.{Signature, Place, HasVariable, Reaches, itself, through_slot, slots, binders}
use Rattle.binding_terms.specs.Tree.{Tree, var, con, Args, no_args, arg, free, free_args}
use Rattle.binding_terms.specs.declared.grammar.Prod.{Prod}
use Rattle.binding_terms.proofs.Scopes.{length_bound}
use Rattle.binding_terms.proofs.Lists.{append_beyond, append_within, match_both, match_map, match_to}

-- what stands free is below the bound of the free variables
mutual
  pub IsFreeIn-below : (i : ℕ) (t : Tree) → IsFreeIn i t → i < free t
  IsFreeIn-below i (var j) h = omega arith
  IsFreeIn-below i (con p xs) h = IsFreeInArgs-below i xs h

  pub IsFreeInArgs-below : (i : ℕ) (xs : Args) → IsFreeInArgs i xs → i < free_args xs
  IsFreeInArgs-below i no_args h = absurd h
  IsFreeInArgs-below i (arg n t xs) (inl h) = let below = IsFreeIn-below (i + n) t h in omega arith
  IsFreeInArgs-below i (arg n t xs) (inr h) = let below = IsFreeInArgs-below i xs h in omega arith

agree_under : (own scope other : List ℕ) (n : ℕ) (t : Tree) → length own ≡ n → ((i : ℕ) → IsFreeIn (i + n) t → slice_get scope i ≡ slice_get other i)
    → (i : ℕ) → IsFreeIn i t → slice_get (own ++ scope) i ≡ slice_get (own ++ other) i
agree_under own scope other n t deep agree i h = at (cases_lt i (length own))
  where
    at : (i < length own) ⊎ (length own ≤ i) → slice_get (own ++ scope) i ≡ slice_get (own ++ other) i
    at (inl k) = append_within own scope i k ∙ sym (append_within own other i k)
    at (inr k) =
        let here : IsFreeIn (i - length own + n) t = subst (λ j. IsFreeIn j t) (let e : i ≡ i - length own + n = omega arith in e) h in
        append_beyond own scope i k ∙ agree (i - length own) here ∙ sym (append_beyond own other i k)

-- a term is one in each scope that agrees on its free variables
module _ (sig : Signature) where
  mutual
    pub IsTerm-agree : (scope other : List ℕ) (cat : ℕ) (t : Tree) → ((i : ℕ) → IsFreeIn i t → slice_get scope i ≡ slice_get other i)
        → IsTerm sig scope cat t → IsTerm sig other cat t
    IsTerm-agree scope other cat (var i) agree h = sym (agree i refl) ∙ h
    IsTerm-agree scope other cat (con p xs) agree h =
        match_map (slice_get sig.prods p) (λ prod. (prod.cat.0 ≡ cat) × AreParts sig scope (binders prod.items) (slots prod.items) xs)
        (λ prod. (prod.cat.0 ≡ cat) × AreParts sig other (binders prod.items) (slots prod.items) xs)
        (λ prod g. (g.0, AreParts-agree scope other (binders prod.items) (slots prod.items) xs agree g.1)) h

    pub AreParts-agree : (scope other bs : List ℕ) (ss : List Place) (xs : Args) → ((i : ℕ) → IsFreeInArgs i xs → slice_get scope i ≡ slice_get other i)
        → AreParts sig scope bs ss xs → AreParts sig other bs ss xs
    AreParts-agree scope other bs [] no_args agree h = tt
    AreParts-agree scope other bs [] (arg n t xs) agree h = h
    AreParts-agree scope other bs (s ∷ ss) no_args agree h = h
    AreParts-agree scope other bs (s ∷ ss) (arg n t xs) agree h =
        let own : List ℕ = bound bs s.binds in
        let deep : length own ≡ n = length_bound bs s.binds ∙ sym h.0 in (
          h.0,
          IsTerm-agree (own ++ scope) (own ++ other) s.cat t (agree_under own scope other n t deep (λ i k. agree i (inl k))) h.1,
          AreParts-agree scope other bs ss xs (λ i k. agree i (inr k)) h.2,
        )

  mutual
    pub IsTerm-free : (scope : List ℕ) (cat : ℕ) (t : Tree) → IsTerm sig scope cat t → free t ≤ length scope
    IsTerm-free scope cat (var i) h = let within = slice_get_within scope i cat h in omega arith
    IsTerm-free scope cat (con p xs) h =
        match_to (slice_get sig.prods p) (λ prod. (prod.cat.0 ≡ cat) × AreParts sig scope (binders prod.items) (slots prod.items) xs)
        (free_args xs ≤ length scope) (λ prod g. AreParts-free scope (binders prod.items) (slots prod.items) xs g.1) h

    pub AreParts-free : (scope bs : List ℕ) (ss : List Place) (xs : Args) → AreParts sig scope bs ss xs → free_args xs ≤ length scope
    AreParts-free scope bs [] no_args h = omega arith
    AreParts-free scope bs [] (arg n t xs) h = absurd h
    AreParts-free scope bs (s ∷ ss) no_args h = absurd h
    AreParts-free scope bs (s ∷ ss) (arg n t xs) h =
        let own : List ℕ = bound bs s.binds in
        let deep : length own ≡ n = length_bound bs s.binds ∙ sym h.0 in
        let body : free t ≤ length (own ++ scope) = IsTerm-free (own ++ scope) s.cat t h.1 in
        let rest : free_args xs ≤ length scope = AreParts-free scope bs ss xs h.2 in
        omega (arith, length-append own scope)

has_slot : (cat d : ℕ) (prods : List Prod) (p : ℕ) (prod : Prod) → slice_get prods p ≡ Some prod → prod.cat.0 ≡ cat
    → AnyByRecursion (λ s. s.cat ≡ d) (slots prod.items) → AnyByRecursion (λ q. (q.cat.0 ≡ cat) × AnyByRecursion (λ s. s.cat ≡ d) (slots q.items)) prods
has_slot cat d [] p prod e is slot = cc
has_slot cat d (q ∷ qs) zero prod e is slot =
    let same : prod ≡ q = cc in
    inl (subst (λ r. (r.cat.0 ≡ cat) × AnyByRecursion (λ s. s.cat ≡ d) (slots r.items)) same (is, slot))
has_slot cat d (q ∷ qs) (suc p) prod e is slot = inr (has_slot cat d qs p prod e is slot)

module _ (sig : Signature) (of : ℕ) (has : HasVariable sig of) where
  mutual
    pub HoldsVariable-reached : (scope : List ℕ) (cat : ℕ) (t : Tree) → IsTerm sig scope cat t → HoldsVariable sig scope of t → Reaches sig cat of
    HoldsVariable-reached scope cat (var i) term holds =
        let here : Some of ≡ Some cat = sym holds ∙ term in
        let same : of ≡ cat = cc in
        subst (λ c. Reaches sig c of) same (itself of has)
    HoldsVariable-reached scope cat (con p xs) term holds =
        match_both (slice_get sig.prods p) (λ prod. (prod.cat.0 ≡ cat) × AreParts sig scope (binders prod.items) (slots prod.items) xs)
        (λ prod. PartsHoldVariable sig scope of (binders prod.items) (slots prod.items) xs) (Reaches sig cat of)
        (λ prod e g h.
        let slot = PartsHoldVariable-reached scope (binders prod.items) (slots prod.items) xs g.1 h in
        through_slot cat slot.0 of (has_slot cat slot.0 sig.prods p prod e g.0 slot.1) slot.2)
        term holds

    pub PartsHoldVariable-reached : (scope bs : List ℕ) (ss : List Place) (xs : Args) → AreParts sig scope bs ss xs → PartsHoldVariable sig scope of bs ss xs
        → (d : ℕ) × AnyByRecursion (λ s. s.cat ≡ d) ss × Reaches sig d of
    PartsHoldVariable-reached scope bs [] xs parts holds = absurd holds
    PartsHoldVariable-reached scope bs (s ∷ ss) no_args parts holds = absurd holds
    PartsHoldVariable-reached scope bs (s ∷ ss) (arg n t xs) parts (inl holds) =
        (s.cat, inl refl, HoldsVariable-reached (bound bs s.binds ++ scope) s.cat t parts.1 holds)
    PartsHoldVariable-reached scope bs (s ∷ ss) (arg n t xs) parts (inr holds) =
        let rest = PartsHoldVariable-reached scope bs ss xs parts.2 holds in
        (rest.0, inr rest.1, rest.2)

-- a free variable of the scope is held
module _ (sig : Signature) (of : ℕ) where
  mutual
    pub IsFreeIn-holds : (scope : List ℕ) (cat i : ℕ) (t : Tree) → slice_get scope i ≡ Some of → IsTerm sig scope cat t → IsFreeIn i t → HoldsVariable sig scope of t
    IsFreeIn-holds scope cat i (var j) is term h = subst (λ k. slice_get scope k ≡ Some of) h is
    IsFreeIn-holds scope cat i (con p xs) is term h =
        match_map (slice_get sig.prods p) (λ prod. (prod.cat.0 ≡ cat) × AreParts sig scope (binders prod.items) (slots prod.items) xs)
        (λ prod. PartsHoldVariable sig scope of (binders prod.items) (slots prod.items) xs)
        (λ prod g. IsFreeInArgs-holds scope (binders prod.items) (slots prod.items) i xs is g.1 h) term

    pub IsFreeInArgs-holds : (scope bs : List ℕ) (ss : List Place) (i : ℕ) (xs : Args) → slice_get scope i ≡ Some of → AreParts sig scope bs ss xs
        → IsFreeInArgs i xs → PartsHoldVariable sig scope of bs ss xs
    IsFreeInArgs-holds scope bs [] i no_args is parts h = absurd h
    IsFreeInArgs-holds scope bs [] i (arg n t xs) is parts h = absurd parts
    IsFreeInArgs-holds scope bs (s ∷ ss) i no_args is parts h = absurd h
    IsFreeInArgs-holds scope bs (s ∷ ss) i (arg n t xs) is parts (inl h) =
        let own : List ℕ = bound bs s.binds in
        let deep : length own ≡ n = length_bound bs s.binds ∙ sym parts.0 in
        let there : slice_get (own ++ scope) (i + n) ≡ Some of =
        append_beyond own scope (i + n) (omega arith) ∙ ap (slice_get scope) (let e : i + n - length own ≡ i = omega arith in e) ∙ is in
        inl (IsFreeIn-holds (own ++ scope) s.cat (i + n) t there parts.1 h)
    IsFreeInArgs-holds scope bs (s ∷ ss) i (arg n t xs) is parts (inr h) = inr (IsFreeInArgs-holds scope bs ss i xs is parts.2 h)

all_at : (P : ℕ → Type 0) (xs : List ℕ) (i x : ℕ) → slice_get xs i ≡ Some x → AllByRecursion P xs → P x
all_at P [] i x e h = cc
all_at P (y ∷ ys) zero x e h = let same : y ≡ x = cc in subst P same h.0
all_at P (y ∷ ys) (suc i) x e h = all_at P ys i x e h.1

pub free_is_in_scope : FreeIsInScope
free_is_in_scope sig scope cat t h = IsTerm-free sig scope cat t h

pub closed_keeps_scope : ClosedKeepsScope
closed_keeps_scope sig scope other cat t none h =
    IsTerm-agree sig scope other cat t (λ i k. absurd (let no : ⊥ = omega (arith, IsFreeIn-below i t k) in no)) h

pub variables_are_reached : VariablesAreReached
variables_are_reached sig scope cat of t has term holds = HoldsVariable-reached sig of has scope cat t term holds

pub unreached_drop_out : UnreachedDropOut
unreached_drop_out sig inner outer cat t vary unreached h = IsTerm-agree sig (inner ++ outer) inner cat t agree h
  where
    outside : (i : ℕ) → IsFreeIn i t → length inner ≤ i → (o : Option ℕ) → slice_get outer (i - length inner) ≡ o → slice_get (inner ++ outer) i ≡ slice_get inner i
    outside i k low None e = append_beyond inner outer i low ∙ e ∙ sym (slice_get_past inner i low)
    outside i k low (Some of) e =
        let there : slice_get (inner ++ outer) i ≡ Some of = append_beyond inner outer i low ∙ e in
        let reached = HoldsVariable-reached sig of (all_at (HasVariable sig) outer (i - length inner) of e vary) (inner ++ outer) cat t h (IsFreeIn-holds sig of (inner ++ outer) cat i t there h k) in
        absurd (all_at (λ v. Reaches sig cat v → ⊥) outer (i - length inner) of e unreached reached)

    at : (i : ℕ) → IsFreeIn i t → (i < length inner) ⊎ (length inner ≤ i) → slice_get (inner ++ outer) i ≡ slice_get inner i
    at i k (inl low) = append_within inner outer i low
    at i k (inr high) = outside i k high (slice_get outer (i - length inner)) refl

    agree : (i : ℕ) → IsFreeIn i t → slice_get (inner ++ outer) i ≡ slice_get inner i
    agree i k = at i k (cases_lt i (length inner))
