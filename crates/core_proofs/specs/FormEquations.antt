-- What forms ask of the names of a rule or a goal, for each to become the form beside it. No form has a context here.
use Rattle.std.specs.Prelude.{ℕ, suc, ◌==◌, ◌&&◌, if◌then◌else◌, List, [], ◌∷◌, ◌++◌, length, Option, Some, None, slice_get}
use Rattle.scheme_terms.specs.SchemeTree.{SchemeTree, meta, no_values}
use Rattle.scheme_terms.specs.Forms.{Names}
use Rattle.scheme_terms.specs.declared.scheme.MetaDecl.{MetaDecl}
use Rattle.pattern_unify.specs.Equations.{SchemeEquation}
use Rattle.rule_schemes.specs.Rules.{JudgmentScheme}
use Rattle.rule_schemes.specs.Statement.{Theorem}

abbrev pub equated : SchemeTree → SchemeTree → SchemeEquation
equated s t = record { locals = []; left = s; right = t }

-- scheme by scheme
abbrev pub paired : List SchemeTree → List SchemeTree → List SchemeEquation
paired [] ts = []
paired (s ∷ ss) [] = []
paired (s ∷ ss) (t ∷ ts) = equated s t ∷ paired ss ts

-- the equations of a form and the form that it is to become, unless they are of two judgments
abbrev pub form_equations : JudgmentScheme → JudgmentScheme → Option (List SchemeEquation)
form_equations j t = if (j.judgment == t.judgment) && (length j.args == length t.args) then Some (paired j.args t.args) else None

abbrev pub both : Option (List SchemeEquation) → Option (List SchemeEquation) → Option (List SchemeEquation)
both None ys = None
both (Some xs) None = None
both (Some xs) (Some ys) = Some (xs ++ ys)

-- of forms, one after another, unless there are more of one kind
abbrev pub all_equations : List JudgmentScheme → List JudgmentScheme → Option (List SchemeEquation)
all_equations [] [] = Some []
all_equations [] (t ∷ ts) = None
all_equations (j ∷ js) [] = None
all_equations (j ∷ js) (t ∷ ts) = both (form_equations j t) (all_equations js ts)

-- the forms of the cited steps by their numbers, unless a number is of none
abbrev pub put_first : Option JudgmentScheme → Option (List JudgmentScheme) → Option (List JudgmentScheme)
put_first None js = None
put_first (Some j) None = None
put_first (Some j) (Some js) = Some (j ∷ js)

abbrev pub cited_forms : List JudgmentScheme → (on : List ℕ) → Option (List JudgmentScheme)
cited_forms scoped [] = Some []
cited_forms scoped (n ∷ on) = put_first (slice_get scoped n) (cited_forms scoped on)

-- a metavariable without arguments stays
abbrev pub stays : ℕ → SchemeEquation
stays m = equated (meta m no_values) (meta m no_values)

-- each of these names stays, where the first has this number
abbrev pub stays_from : ℕ → List MetaDecl → List SchemeEquation
stays_from m [] = []
stays_from m (decl ∷ decls) = stays m ∷ stays_from (suc m) decls

-- what is asked of a statement's names, for its conclusion to become the form and the names of the proof's scope to stay
abbrev pub goal_equations : Theorem → Names → JudgmentScheme → Option (List SchemeEquation)
goal_equations st scope form = both (all_equations st.outputs (form ∷ [])) (Some (stays_from 0 scope.metas))
