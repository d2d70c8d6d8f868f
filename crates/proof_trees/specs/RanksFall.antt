-- Every chain of falling ranks ends: by the group, then by the sizes place by place, then by the place in the group. To be held against Ranks alone.
use Rattle.std.specs.Prelude.{◌≡◌, ◌<◌, ◌⊎◌, ℕ, List, [], ◌∷◌}
use Rattle.std.proofs.Common.{refl, sym, subst, ap, ap₂, inl, inr, ⊎_elim, get_or, drop}
use mathlib.Core.WellFounded.{Acc, WellFounded}
use lib.WfN.{lt-wf_rel}
use native.Mathlib.Decide.{dec_lt, ℕ_discrete}
use Rattle.proof_trees.specs.Ranks.{HaveOneLength, Falls, Rank, IsLower}

-- numbers that fall end
pub number_ends : (n : ℕ) → Acc ◌<◌ n
number_ends n = lt-wf_rel.wf.apply n

-- lists of sizes that fall have one length
pub falls_length : (ms ns : List ℕ) → Falls ms ns → HaveOneLength ms ns
falls_length [] [] h = absurd h
falls_length [] (n ∷ ns) h = absurd h
falls_length (m ∷ ms) [] h = absurd h
falls_length (m ∷ ms) (n ∷ ns) (inl h) = h.1
falls_length (m ∷ ms) (n ∷ ns) (inr h) = falls_length ms ns h.1

one_length_trans : (ls ms ns : List ℕ) → HaveOneLength ls ms → HaveOneLength ms ns → HaveOneLength ls ns
one_length_trans [] [] ns h k = k
one_length_trans [] (m ∷ ms) ns h k = absurd h
one_length_trans (l ∷ ls) [] ns h k = absurd h
one_length_trans (l ∷ ls) (m ∷ ms) [] h k = absurd k
one_length_trans (l ∷ ls) (m ∷ ms) (n ∷ ns) h k = one_length_trans ls ms ns h k

one_length_itself : (ns : List ℕ) → HaveOneLength ns ns
one_length_itself [] = tt
one_length_itself (n ∷ ns) = one_length_itself ns

none_below_empty : (ms : List ℕ) → Falls ms [] → Acc Falls ms
none_below_empty [] h = absurd h
none_below_empty (m ∷ ms) h = absurd h

-- one size more, where all lists of the length of the rest end
below_longer : (like : List ℕ) (n : ℕ) → ((m : ℕ) → m < n → (ms : List ℕ) → HaveOneLength ms like → Acc Falls (m ∷ ms)) → (ns : List ℕ) →
    HaveOneLength ns like → ((ms : List ℕ) → Falls ms ns → HaveOneLength ms like → Acc Falls (n ∷ ms)) → (ys : List ℕ) → Falls ys (n ∷ ns) → Acc Falls ys
below_longer like n lower ns len same [] h = absurd h
below_longer like n lower ns len same (m ∷ ms) (inl h) = lower m h.0 ms (one_length_trans ms ns like h.1 len)
below_longer like n lower ns len same (m ∷ ms) (inr h) =
    subst (λ i. Acc Falls (i ∷ ms)) (sym h.0) (same ms h.1 (one_length_trans ms ns like (falls_length ms ns h.1) len))

longer_ends : (like : List ℕ) (n : ℕ) → ((m : ℕ) → m < n → (ms : List ℕ) → HaveOneLength ms like → Acc Falls (m ∷ ms)) → {ns : List ℕ} → Acc Falls ns →
    HaveOneLength ns like → Acc Falls (n ∷ ns)
longer_ends like n lower (Acc.intro ns h) len =
    Acc.intro (n ∷ ns) (below_longer like n lower ns len (λ ms f e. longer_ends like n lower (h ms f) e))

first_ends : (like : List ℕ) → ((ms : List ℕ) → HaveOneLength ms like → Acc Falls ms) → {n : ℕ} → Acc ◌<◌ n → (ns : List ℕ) → HaveOneLength ns like →
    Acc Falls (n ∷ ns)
first_ends like rest (Acc.intro n h) ns len =
    longer_ends like n (λ m lt ms e. first_ends like rest (h m lt) ms e) (rest ns len) len

sizes_end_like : (like ns : List ℕ) → HaveOneLength ns like → Acc Falls ns
sizes_end_like [] [] len = Acc.intro [] none_below_empty
sizes_end_like [] (n ∷ ns) len = absurd len
sizes_end_like (l ∷ ls) [] len = absurd len
sizes_end_like (l ∷ ls) (n ∷ ns) len = first_ends ls (sizes_end_like ls) (number_ends n) ns len

-- sizes of one length that fall end
pub sizes_end : (ns : List ℕ) → Acc Falls ns
sizes_end ns = sizes_end_like ns ns (one_length_itself ns)

-- a rank by its parts
abbrev pub rank : ℕ → List ℕ → ℕ → Rank
rank g ns p = record { group = g; sizes = ns; place = p }

below_rank : (g : ℕ) (ns : List ℕ) (p : ℕ) → ((r : Rank) → r.group < g → Acc IsLower r) → ((r : Rank) → r.group ≡ g → Falls r.sizes ns → Acc IsLower r) →
    ((q : ℕ) → q < p → Acc IsLower (rank g ns q)) → (r : Rank) → IsLower r (rank g ns p) → Acc IsLower r
below_rank g ns p groups sizes places r (inl h) = groups r h
below_rank g ns p groups sizes places r (inr (inl h)) = sizes r h.0 h.1
below_rank g ns p groups sizes places r (inr (inr h)) =
    subst (λ (x : Rank). Acc IsLower x) (ap₂ (λ i js. rank i js r.place) (sym h.0) (sym h.1)) (places r.place h.2)

place_ends : (g : ℕ) (ns : List ℕ) → ((r : Rank) → r.group < g → Acc IsLower r) → ((r : Rank) → r.group ≡ g → Falls r.sizes ns → Acc IsLower r) →
    {p : ℕ} → Acc ◌<◌ p → Acc IsLower (rank g ns p)
place_ends g ns groups sizes (Acc.intro p h) =
    Acc.intro (rank g ns p) (below_rank g ns p groups sizes (λ q lt. place_ends g ns groups sizes (h q lt)))

targets_end : (g : ℕ) → ((r : Rank) → r.group < g → Acc IsLower r) → {ns : List ℕ} → Acc Falls ns → (p : ℕ) → Acc IsLower (rank g ns p)
targets_end g groups (Acc.intro ns h) p =
    place_ends g ns groups (λ r e f. subst (λ i. Acc IsLower (rank i r.sizes r.place)) (sym e) (targets_end g groups (h r.sizes f) r.place)) (number_ends p)

group_ends : {g : ℕ} → Acc ◌<◌ g → (ns : List ℕ) (p : ℕ) → Acc IsLower (rank g ns p)
group_ends (Acc.intro g h) ns p = targets_end g (λ r lt. group_ends (h r.group lt) r.sizes r.place) (sizes_end ns) p

-- ranks that fall end
pub ranks_end : WellFounded IsLower
ranks_end = record { apply = λ r. group_ends (number_ends r.group) r.sizes r.place }

-- whether one rank is lower than another
and_decided : {A B : Type 0} → Dec A → Dec B → Dec (A × B)
and_decided (no f) d = no (λ p. f p.0)
and_decided (yes a) (no g) = no (λ p. g p.1)
and_decided (yes a) (yes b) = yes (a, b)

and3_decided : {A B C : Type 0} → Dec A → Dec B → Dec C → Dec (A × B × C)
and3_decided (no f) d e = no (λ p. f p.0)
and3_decided (yes a) (no g) e = no (λ p. g p.1)
and3_decided (yes a) (yes b) (no h) = no (λ p. h p.2)
and3_decided (yes a) (yes b) (yes c) = yes (a, b, c)

or_decided : {A B : Type 0} → Dec A → Dec B → Dec (A ⊎ B)
or_decided (yes a) d = yes (inl a)
or_decided (no f) (yes b) = yes (inr b)
or_decided (no f) (no g) = no (λ s. ⊎_elim f g s)

abbrev IsEmpty : List ℕ → Type 0
IsEmpty [] = Unit {0}
IsEmpty (n ∷ ns) = ⊥

sizes_decided : (ms ns : List ℕ) → Dec (ms ≡ ns)
sizes_decided [] [] = yes refl
sizes_decided [] (n ∷ ns) = no (λ e. subst IsEmpty e tt)
sizes_decided (m ∷ ms) [] = no (λ e. subst IsEmpty (sym e) tt)
sizes_decided (m ∷ ms) (n ∷ ns) = same_parts (ℕ_discrete m n) (sizes_decided ms ns)
  where
    same_parts : Dec (m ≡ n) → Dec (ms ≡ ns) → Dec (◌≡◌ {A = List ℕ} (m ∷ ms) (n ∷ ns))
    same_parts (no f) d = no (λ e. f (ap (λ xs. get_or xs 0 0) e))
    same_parts (yes a) (no g) = no (λ e. g (ap (drop 1) e))
    same_parts (yes a) (yes b) = yes (ap₂ (λ x xs. x ∷ xs) a b)

one_length_decided : (ms ns : List ℕ) → Dec (HaveOneLength ms ns)
one_length_decided [] [] = yes tt
one_length_decided [] (n ∷ ns) = no (λ h. h)
one_length_decided (m ∷ ms) [] = no (λ h. h)
one_length_decided (m ∷ ms) (n ∷ ns) = one_length_decided ms ns

falls_decided : (ms ns : List ℕ) → Dec (Falls ms ns)
falls_decided [] [] = no (λ h. h)
falls_decided [] (n ∷ ns) = no (λ h. h)
falls_decided (m ∷ ms) [] = no (λ h. h)
falls_decided (m ∷ ms) (n ∷ ns) =
    or_decided (and_decided (dec_lt m n) (one_length_decided ms ns)) (and_decided (ℕ_discrete m n) (falls_decided ms ns))

-- one rank is lower than another, or it is not
pub lower_decided : (a b : Rank) → Dec (IsLower a b)
lower_decided a b =
    or_decided (dec_lt a.group b.group)
    (or_decided (and_decided (ℕ_discrete a.group b.group) (falls_decided a.sizes b.sizes))
    (and3_decided (ℕ_discrete a.group b.group) (sizes_decided a.sizes b.sizes) (dec_lt a.place b.place)))
