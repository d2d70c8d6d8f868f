-- The order in which a run falls: the group, the sizes of the targets, the place in the group. To be held against docs/notation.md, 'Runs'.
use Rattle.std.specs.Prelude.{◌≡◌, ◌<◌, ◌⊎◌, ℕ, List, [], ◌∷◌, slice_get, option_map, unwrap_or}
use Rattle.binding_terms.specs.Tree.{nodes}
use Rattle.rule_schemes.specs.Derivation.{size}
use Rattle.rule_schemes.specs.Statement.{Theorem, InputTree, derived, term}

-- where a run stands: a theorem's group, the sizes of its targets, and its number
pub record Rank : Type 0 where
  pub group : ℕ
  pub sizes : List ℕ
  pub place : ℕ

-- the size of what is given
abbrev pub size_of : InputTree → ℕ
size_of (derived d) = size d
size_of (term t) = nodes t

-- the sizes of the targets among what is given
abbrev pub sizes_at : List InputTree → (targets : List ℕ) → List ℕ
sizes_at inputs [] = []
sizes_at inputs (n ∷ ns) = unwrap_or (option_map size_of (slice_get inputs n)) 0 ∷ sizes_at inputs ns

-- the rank of a theorem on inputs: its group, the sizes of its targets, and its place
abbrev pub rank_at : List Theorem → (theorem : ℕ) → List InputTree → Rank
rank_at sts k inputs =
    record {
      group = unwrap_or (option_map (λ st. st.group) (slice_get sts k)) 0;
      sizes = sizes_at inputs (unwrap_or (option_map (λ st. st.targets) (slice_get sts k)) []);
      place = k;
    }

-- lists of sizes of one length
abbrev pub HaveOneLength : List ℕ → List ℕ → Type 0
HaveOneLength [] [] = Unit {0}
HaveOneLength (m ∷ ms) (n ∷ ns) = HaveOneLength ms ns
HaveOneLength _ _ = ⊥

-- A list of sizes is less than another of the same length: less at some place and equal at all before. Lists of several lengths would have endless chains.
abbrev pub Falls : List ℕ → List ℕ → Type 0
Falls (m ∷ ms) (n ∷ ns) = ((m < n) × HaveOneLength ms ns) ⊎ ((m ≡ n) × Falls ms ns)
Falls _ _ = ⊥

-- an earlier group, or in the same group smaller targets, or targets of the same sizes for a theorem that stands earlier
abbrev pub IsLower : Rank → Rank → Type 0
IsLower a b =
    (a.group < b.group) ⊎ ((a.group ≡ b.group) × Falls a.sizes b.sizes) ⊎ ((a.group ≡ b.group) × (a.sizes ≡ b.sizes) × (a.place < b.place))
