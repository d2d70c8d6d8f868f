-- What the functions inside the crate find for a prune.
use Rattle.std.specs.Prelude.{ℕ, Bool, List, Option, Some, None}
use Rattle.scheme_terms.specs.SchemeTree.{SchemeTree, Values, Parts}
use Rattle.pattern_unify.specs.Pruning.{HasPrunable, PartsHavePrunable, FirstPrunable, FirstPrunableInParts}
use Rattle.pattern_unify.specs.declared.pruning.Pruned.{Pruned}

abbrev pub pruned : Pruned → ℕ × List Bool
pruned p = (p.name.0, p.keeps.items)

-- the first pattern to prune with what is kept of it, or none where there is none
abbrev pub IsFirstPrunable : (of : ℕ) → Values → (binders : ℕ) → SchemeTree → Option (ℕ × List Bool) → Type 0
IsFirstPrunable m vs d s None = HasPrunable m vs d s → ⊥
IsFirstPrunable m vs d s (Some p) = FirstPrunable m vs d s p.0 p.1

abbrev pub IsFirstPrunableInParts : (of : ℕ) → Values → (binders : ℕ) → Parts → Option (ℕ × List Bool) → Type 0
IsFirstPrunableInParts m vs d xs None = PartsHavePrunable m vs d xs → ⊥
IsFirstPrunableInParts m vs d xs (Some p) = FirstPrunableInParts m vs d xs p.0 p.1

-- what is found in later parts is what is found in all of them
abbrev pub IsPrunableIn : (of : ℕ) → Values → (binders : ℕ) → (later all : Parts) → Type 0
IsPrunableIn m vs d later all =
    ((n : ℕ) (keeps : List Bool) → FirstPrunableInParts m vs d later n keeps → FirstPrunableInParts m vs d all n keeps)
    × (PartsHavePrunable m vs d all → PartsHavePrunable m vs d later)
