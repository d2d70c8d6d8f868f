-- A test of reach for each signature, by marks: a category is marked where a production of it has a marked slot. To be held against docs/definitions.md, 'Signatures' (reach).
use Rattle.std.specs.Prelude.{ℕ, zero, suc, Bool, true, false, nat_lt, Option, None, Some, if◌then◌else◌, List, [], ◌∷◌, length, replicate, is_some, slice_get, set, unwrap_or, option_map}
use Rattle.binding_terms.specs.Signature.{Signature, Place, slots, Fits}
use Rattle.binding_terms.specs.declared.grammar.Prod.{Prod}
use Rattle.rule_schemes.specs.Raising.{TestsReach}

-- the category has a mark
abbrev pub is_marked : List Bool → ℕ → Bool
is_marked marks c = unwrap_or (slice_get marks c) false

-- one of the slots is of a marked category
abbrev pub has_mark : List Bool → List Place → Bool
has_mark marks [] = false
has_mark marks (s ∷ ss) = if is_marked marks s.cat then true else has_mark marks ss

-- the production has a marked slot, and its category no mark
abbrev pub follows : List Bool → Prod → Bool
follows marks p = if is_marked marks p.cat.0 then false else has_mark marks (slots p.items)

-- the first category that follows
abbrev pub next_mark : List Bool → List Prod → Option ℕ
next_mark marks [] = None
next_mark marks (p ∷ ps) = if follows marks p then Some p.cat.0 else next_mark marks ps

-- one mark more, where a category follows
abbrev pub with_mark : List Bool → Option ℕ → List Bool
with_mark marks None = marks
with_mark marks (Some c) = set marks c true

-- so many marks more, while a category follows
abbrev pub marked_on : (turns : ℕ) → List Prod → List Bool → List Bool
marked_on zero prods marks = marks
marked_on (suc n) prods marks = marked_on n prods (with_mark marks (next_mark marks prods))

-- the category has a variable
abbrev pub has_variable : Signature → ℕ → Bool
has_variable sig c = unwrap_or (option_map (λ cat. is_some cat.var) (slice_get sig.cats c)) false

-- which categories reach the one
abbrev pub reaching : Signature → (to : ℕ) → List Bool
reaching sig v =
    marked_on (length sig.cats) sig.prods (set (replicate (length sig.cats) false) v (has_variable sig v))

-- a test of reach
unfoldable pub reach_of : Signature → ℕ → ℕ → Bool
reach_of sig c v = if nat_lt v (length sig.cats) then is_marked (reaching sig v) c else false

-- each signature has a test of reach
abbrev pub ReachIsTested : Type 0
ReachIsTested = (sig : Signature) → Fits sig → TestsReach sig (reach_of sig)
