-- What a strict occurrence of a metavariable in a pattern asks it to stand for, where the pattern is to become a target.
use Rattle.std.specs.Prelude.{◌≡◌, ◌⊎◌, ℕ, zero, suc, ◌==◌, ◌+◌, ◌-◌, nat_lt, if◌then◌else◌, List, [], ◌∷◌, length, Option, Some, None}
use Rattle.scheme_terms.specs.SchemeTree.{SchemeTree, meta, local, con, Values, no_values, value, Parts, part, filled, AreDistinctLocals}

-- the arguments of a strict occurrence as the numbers of locals
abbrev pub numbers : Values → List ℕ
numbers no_values = []
numbers (value (local i) vs) = i ∷ numbers vs
numbers (value _ vs) = 0 ∷ numbers vs

-- the parameter whose argument is this local, as the variable of a metavariable's value: the last parameter is the innermost
abbrev pub parameter_of : (args : List ℕ) → ℕ → ℕ
parameter_of [] i = 0
parameter_of (a ∷ args) i = if a == i then length args else parameter_of args i

-- The variable of a metavariable's value that a variable of its occurrence is, where the arguments there are different ones of
-- so many locals. A local that is no argument is in no value, and counts as 0.
abbrev pub variable_of : (args : List ℕ) (locals : ℕ) → ℕ → ℕ
variable_of args locals i = if nat_lt i locals then parameter_of args i else i - locals + length args

-- the value that a metavariable applied to different locals has to have in order to become this scheme
abbrev pub lowered : (args : List ℕ) (locals : ℕ) → SchemeTree → SchemeTree
lowered args locals t = filled (λ i. local (variable_of args locals i)) t

-- a strict occurrence of the metavariable in the pattern, which stands under so many locals, asks it to have this value
abbrev mutual
  pub Demands : (m locals : ℕ) (pattern target : SchemeTree) (asked : SchemeTree) → Type 0
  Demands m d (meta n vs) t v = (n ≡ m) × AreDistinctLocals vs × (v ≡ lowered (numbers vs) d t)
  Demands m d (con p xs) (con q ys) v = (p ≡ q) × PartsDemand m d xs ys v
  Demands m d _ t v = ⊥

  pub PartsDemand : (m locals : ℕ) (patterns targets : Parts) (asked : SchemeTree) → Type 0
  PartsDemand m d (part a s xs) (part b t ys) v = ((a ≡ b) × Demands m (d + a) s t v) ⊎ PartsDemand m d xs ys v
  PartsDemand m d _ _ v = ⊥

-- one value that is asked for, or none where there is none
abbrev pub IsDemanded : (SchemeTree → Type 0) → Option SchemeTree → Type 0
IsDemanded asked None = (v : SchemeTree) → asked v → ⊥
IsDemanded asked (Some v) = asked v

-- at one part of a pattern, which binds as many variables as the target's
abbrev pub PartDemands : (m locals : ℕ) (pattern target : ℕ × SchemeTree) (asked : SchemeTree) → Type 0
PartDemands m d a b v = (a.0 ≡ b.0) × Demands m (d + a.0) a.1 b.1 v

-- the parameters whose arguments so many locals are, the outermost local first
abbrev pub parameters_of : (args : List ℕ) (locals : ℕ) → List ℕ
parameters_of args zero = []
parameters_of args (suc i) = parameter_of args i ∷ parameters_of args i
