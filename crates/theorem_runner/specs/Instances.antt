-- The instance of a theorem's inputs. To be held against docs/notation.md, 'Runs'.
use Rattle.std.specs.Prelude.{◌≡◌, List, [], Option, Some, None}
use Rattle.scheme_terms.specs.Forms.{ContextValue, Names, Instance}
use Rattle.scheme_terms.specs.Instance.{FitsScope}
use Rattle.rule_schemes.specs.Rules.{Theory}
use Rattle.rule_schemes.specs.Derivation.{Derives}
use Rattle.rule_schemes.specs.Statement.{Theorem, InputTree, derived, term, IsInstantiation}

-- the value of no context
abbrev pub no_context_value : ContextValue
no_context_value = record { cat = None; entries = [] }

-- a tree that is given is a derivation of its judgment
abbrev pub IsDerived : Theory → InputTree → Type 0
IsDerived th (derived d) = Derives th d
IsDerived th (term t) = Unit {0}

-- an instance of the proof's scope that gives the inputs
abbrev pub Gives : Theory → Theorem → Names → ContextValue → List InputTree → Instance → Type 0
Gives th st scope v xs inst = FitsScope th.sig scope inst × IsInstantiation th st v inst xs

-- the one such instance, or none where there is none
abbrev pub IsOnlyInstance : Theory → Theorem → Names → ContextValue → List InputTree → Option Instance → Type 0
IsOnlyInstance th st scope v xs None = (inst : Instance) → Gives th st scope v xs inst → ⊥
IsOnlyInstance th st scope v xs (Some inst) =
    Gives th st scope v xs inst × ((other : Instance) → Gives th st scope v xs other → other ≡ inst)
