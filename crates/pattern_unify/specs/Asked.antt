-- What equations ask of the names of their left sides; the functions inside the crate cite it, no public clause does.
use Rattle.std.specs.Prelude.{◌≡◌, ◌<◌, ℕ, List, length, Option, Some, None}
use Rattle.binding_terms.specs.Numbered.{AnyByRecursion, AllNumbered}
use Rattle.scheme_terms.specs.SchemeTree.{SchemeTree}
use Rattle.scheme_terms.specs.Demands.{Demands}
use Rattle.pattern_unify.specs.Equations.{SchemeEquation}

-- one of the equations asks the name to have this value: a strict occurrence of it on the left side, and what stands at its place on the right
abbrev pub IsAsked : List SchemeEquation → ℕ → SchemeTree → Type 0
IsAsked eqs m v = AnyByRecursion (λ e. Demands m (length e.locals) e.left e.right v) eqs

-- a value for each of so many names that is asked of it, or none where nothing is asked of one of them
abbrev pub AreAsked : List SchemeEquation → (count : ℕ) → Option (List SchemeTree) → Type 0
AreAsked eqs n None = (m : ℕ) × (m < n) × ((v : SchemeTree) → IsAsked eqs m v → ⊥)
AreAsked eqs n (Some vs) = (length vs ≡ n) × AllNumbered (IsAsked eqs) 0 vs
