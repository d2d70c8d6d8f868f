-- To which equations each row of the table of moves applies. To be held against docs/notation.md, 'Unification' (the table of moves).
use Rattle.std.specs.Prelude.{◌≡◌, ◌≢◌, ◌⊎◌, ℕ, zero, suc, slice_get, MatchOption}
use Rattle.scheme_terms.specs.SchemeTree.{SchemeTree, meta, known, local, con, AreDistinctLocals, OccursIn}
use Rattle.scheme_terms.specs.Forms.{Names}
use Rattle.pattern_unify.specs.Equations.{SchemeEquation}
use Rattle.pattern_unify.specs.Patterns.{IsRigidBelow, HasRigidOther, HasLocalsAmong}
use Rattle.pattern_unify.specs.Pruning.{HasPrunable}

-- the rows of the table, in its order
pub data Row : Type 0 where
  delete : Row
  decompose : Row
  clash : Row
  join : Row
  meet : Row
  prune : Row
  bind : Row

-- the place of a row in the table
abbrev pub place_in_table : Row → ℕ
place_in_table delete = 0
place_in_table decompose = 1
place_in_table clash = 2
place_in_table join = 3
place_in_table meet = 4
place_in_table prune = 5
place_in_table bind = 6

-- the row at a place of the table
abbrev pub row_at : ℕ → Row
row_at zero = delete
row_at (suc zero) = decompose
row_at (suc (suc zero)) = clash
row_at (suc (suc (suc zero))) = join
row_at (suc (suc (suc (suc zero)))) = meet
row_at (suc (suc (suc (suc (suc zero))))) = prune
row_at (suc (suc (suc (suc (suc (suc n)))))) = bind

-- which side of the equation is the one that the table names first
pub data Direction : Type 0 where
  left_first : Direction
  right_first : Direction

-- the side that the table names first, and the other one
abbrev pub named_first : Direction → SchemeEquation → SchemeTree
named_first left_first e = e.left
named_first right_first e = e.right

abbrev pub named_second : Direction → SchemeEquation → SchemeTree
named_second left_first e = e.right
named_second right_first e = e.left

-- the entries of two known variables of the scope are of one production
abbrev pub AreOfOneProduction : Names → ℕ → ℕ → Type 0
AreOfOneProduction names k l =
    MatchOption (slice_get names.knowns k) ⊥ (λ a. MatchOption (slice_get names.knowns l) ⊥ (λ b. a.entry.prod ≡ b.entry.prod))

-- a pattern and a scheme that no scheme for the pattern's metavariable can make: it stands rigidly below a production of the scheme, or the
-- scheme has rigidly a free local that is not among the pattern's
abbrev pub IsOutOfReach : SchemeTree → SchemeTree → Type 0
IsOutOfReach (meta m vs) t = AreDistinctLocals vs × (IsRigidBelow m t ⊎ HasRigidOther vs 0 t)
IsOutOfReach _ t = ⊥

-- heads that no substitution makes the same
abbrev pub AreOtherHeads : Names → SchemeTree → SchemeTree → Type 0
AreOtherHeads names (con p xs) (con q ys) = p ≢ q
AreOtherHeads names (con p xs) (local i) = Unit {0}
AreOtherHeads names (con p xs) (known k) = Unit {0}
AreOtherHeads names (local i) (local j) = i ≢ j
AreOtherHeads names (local i) (known k) = Unit {0}
AreOtherHeads names (known k) (known l) = (k ≢ l) × (AreOfOneProduction names k l → ⊥)
AreOtherHeads names _ _ = ⊥

-- both sides begin with the same production
abbrev pub HaveOneProduction : SchemeTree → SchemeTree → Type 0
HaveOneProduction (con p xs) (con q ys) = p ≡ q
HaveOneProduction _ _ = ⊥

-- two different known variables whose entries are of one production
abbrev pub CanJoin : Names → SchemeTree → SchemeTree → Type 0
CanJoin names (known k) (known l) = (k ≢ l) × AreOfOneProduction names k l
CanJoin names _ _ = ⊥

-- two patterns of the same metavariable
abbrev pub CanMeet : SchemeTree → SchemeTree → Type 0
CanMeet (meta m vs) (meta n ws) = (m ≡ n) × AreDistinctLocals vs × AreDistinctLocals ws
CanMeet _ _ = ⊥

-- a pattern and a scheme with a rigid pattern of another metavariable that has a local not among the first one's and not bound in the scheme
abbrev pub CanPrune : SchemeTree → SchemeTree → Type 0
CanPrune (meta m vs) t = AreDistinctLocals vs × HasPrunable m vs 0 t
CanPrune _ t = ⊥

-- a pattern and a scheme without its metavariable, whose free locals are all among the pattern's
abbrev pub CanBind : SchemeTree → SchemeTree → Type 0
CanBind (meta m vs) t = AreDistinctLocals vs × (OccursIn m t → ⊥) × HasLocalsAmong vs 0 t
CanBind _ t = ⊥

-- the row applies to these two schemes, the first of which is the one that the table names first
abbrev pub AppliesTo : Names → Row → SchemeTree → SchemeTree → Type 0
AppliesTo names delete s t = s ≡ t
AppliesTo names decompose s t = HaveOneProduction s t
AppliesTo names clash s t = AreOtherHeads names s t ⊎ IsOutOfReach s t
AppliesTo names join s t = CanJoin names s t
AppliesTo names meet s t = CanMeet s t
AppliesTo names prune s t = CanPrune s t
AppliesTo names bind s t = CanBind s t

-- the row applies to the equation in the direction
abbrev pub Applies : Names → Row → Direction → SchemeEquation → Type 0
Applies names row direction e = AppliesTo names row (named_first direction e) (named_second direction e)

-- no move applies to the equation
abbrev pub Rests : Names → SchemeEquation → Type 0
Rests names e = (row : Row) (direction : Direction) → Applies names row direction e → ⊥
