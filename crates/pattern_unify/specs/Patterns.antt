-- Patterns, and what stands at rigid places of a scheme. To be held against docs/notation.md, 'Unification'.
use Rattle.std.specs.Prelude.{◌≡◌, ◌⊎◌, ◌+◌, ◌-◌, ◌<◌, ◌≤◌, ℕ, Bool, nat_lt, ◌==◌, ◌||◌, false, if◌then◌else◌, List, [], ◌∷◌, length}
use Rattle.scheme_terms.specs.SchemeTree.{SchemeTree, meta, known, local, con, Values, no_values, value, Parts, no_parts, part, listed, filled}

-- the local is one of the arguments
abbrev pub IsAmong : ℕ → Values → Type 0
IsAmong i no_values = ⊥
IsAmong i (value s vs) = (s ≡ local i) ⊎ IsAmong i vs

-- the metavariable stands at a rigid place, which is one that is not inside the arguments of a metavariable
abbrev mutual
  pub IsRigidIn : ℕ → SchemeTree → Type 0
  IsRigidIn m (meta n vs) = n ≡ m
  IsRigidIn m (known k) = ⊥
  IsRigidIn m (local i) = ⊥
  IsRigidIn m (con p xs) = IsRigidInParts m xs

  pub IsRigidInParts : ℕ → Parts → Type 0
  IsRigidInParts m no_parts = ⊥
  IsRigidInParts m (part n s xs) = IsRigidIn m s ⊎ IsRigidInParts m xs

-- the metavariable stands at a rigid place below a production
abbrev pub IsRigidBelow : ℕ → SchemeTree → Type 0
IsRigidBelow m (con p xs) = IsRigidInParts m xs
IsRigidBelow m _ = ⊥

-- the scheme, below so many binders, has at a rigid place a free local that is not among the arguments
abbrev mutual
  pub HasRigidOther : Values → (binders : ℕ) → SchemeTree → Type 0
  HasRigidOther vs d (meta n ws) = ⊥
  HasRigidOther vs d (known k) = ⊥
  HasRigidOther vs d (local i) = (d ≤ i) × (IsAmong (i - d) vs → ⊥)
  HasRigidOther vs d (con p xs) = PartsHaveRigidOther vs d xs

  pub PartsHaveRigidOther : Values → (binders : ℕ) → Parts → Type 0
  PartsHaveRigidOther vs d no_parts = ⊥
  PartsHaveRigidOther vs d (part n s xs) = HasRigidOther vs (d + n) s ⊎ PartsHaveRigidOther vs d xs

-- each free local of the scheme, below so many binders, is among the arguments, at whatever place it stands
abbrev mutual
  pub HasLocalsAmong : Values → (binders : ℕ) → SchemeTree → Type 0
  HasLocalsAmong vs d (meta n ws) = HaveLocalsAmong vs d ws
  HasLocalsAmong vs d (known k) = Unit {0}
  HasLocalsAmong vs d (local i) = (i < d) ⊎ IsAmong (i - d) vs
  HasLocalsAmong vs d (con p xs) = PartsHaveLocalsAmong vs d xs

  pub HaveLocalsAmong : Values → (binders : ℕ) → Values → Type 0
  HaveLocalsAmong vs d no_values = Unit {0}
  HaveLocalsAmong vs d (value s ws) = HasLocalsAmong vs d s × HaveLocalsAmong vs d ws

  pub PartsHaveLocalsAmong : Values → (binders : ℕ) → Parts → Type 0
  PartsHaveLocalsAmong vs d no_parts = Unit {0}
  PartsHaveLocalsAmong vs d (part n s xs) = HasLocalsAmong vs (d + n) s × PartsHaveLocalsAmong vs d xs

-- whether two schemes are one local
abbrev pub is_one_local : SchemeTree → SchemeTree → Bool
is_one_local (local i) (local j) = i == j
is_one_local _ _ = false

-- the parameter for which the local is the argument, the last parameter innermost
abbrev pub parameter_at : Values → ℕ → ℕ
parameter_at no_values i = 0
parameter_at (value s vs) i = if is_one_local s (local i) then length (listed vs) else parameter_at vs i

-- the scheme over the parameters of a metavariable that gives this scheme on these arguments
abbrev pub over_parameters : Values → SchemeTree → SchemeTree
over_parameters vs s = filled (λ i. local (parameter_at vs i)) s

-- those elements of a list that are marked
abbrev pub marked : {A : Type 0} → List Bool → List A → List A
marked [] xs = []
marked (b ∷ bs) [] = []
marked (b ∷ bs) (x ∷ xs) = if b then x ∷ marked bs xs else marked bs xs

-- a mark for each parameter at which both patterns have the same local
abbrev pub common_arguments : Values → Values → List Bool
common_arguments no_values ws = []
common_arguments (value s vs) no_values = []
common_arguments (value s vs) (value t ws) = is_one_local s t ∷ common_arguments vs ws

-- whether the local is one of the arguments
abbrev pub is_among : ℕ → Values → Bool
is_among i no_values = false
is_among i (value s vs) = is_one_local s (local i) || is_among i vs

-- whether a scheme below so many binders is a local that is bound there or among the arguments
abbrev pub is_kept : Values → (binders : ℕ) → SchemeTree → Bool
is_kept vs d (local i) = nat_lt i d || is_among (i - d) vs
is_kept vs d _ = false

-- a mark for each argument of a pattern below so many binders that is bound there or among the other arguments
abbrev pub kept_arguments : Values → (binders : ℕ) → Values → List Bool
kept_arguments vs d no_values = []
kept_arguments vs d (value t ws) = is_kept vs d t ∷ kept_arguments vs d ws
