-- States as the functions inside the crate hold them.
use Rattle.std.specs.Prelude.{ℕ, ◌==◌, if◌then◌else◌, List, [], ◌∷◌, map, Option, Some, None}
use Rattle.scheme_terms.specs.SchemeTree.{SchemeTree, meta, values}
use Rattle.scheme_terms.specs.Forms.{Substitution}
use Rattle.scheme_terms.specs.Substituting.{composed, parameters, params}
use Rattle.scheme_terms.specs.View.{substitution}
use Rattle.pattern_unify.specs.Equations.{equation}
use Rattle.pattern_unify.specs.State as states
use Rattle.pattern_unify.specs.State.{applied_equation}
use Rattle.scheme_terms.specs.declared.scheme.MetaDecl.{MetaDecl}
use Rattle.pattern_unify.specs.declared.state.State.{State}

abbrev pub state : State → states.State
state st = record { equations = map equation st.equations; so_far = substitution st.so_far }

-- what a step makes of a state, where it is this substitution
abbrev pub through : Substitution → states.State → states.State
through by st = record { equations = map (applied_equation by.metas by.knowns) st.equations; so_far = composed st.so_far by }

-- the metavariables that a step makes, which are one or none
abbrev pub made_by : Option MetaDecl → List MetaDecl
made_by None = []
made_by (Some decl) = decl ∷ []

-- one of the metavariables of a step that changes one, and one of its known variables
abbrev pub meta_but : (changed : ℕ) → SchemeTree → (number : ℕ) → MetaDecl → SchemeTree
meta_but m s n decl = if n == m then s else meta n (values (parameters (params decl)))

abbrev pub known_but : (changed to number : ℕ) → ℕ
known_but k to n = if n == k then to else n
