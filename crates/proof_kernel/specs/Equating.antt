-- The equations by which forms become others, under schemes for their names. To be held against docs/notation.md, 'Steps' and 'Unification'.
use Rattle.std.specs.Prelude.{◌≡◌, ℕ, List, [], ◌∷◌, ◌++◌, length, take, drop}
use Rattle.std.specs.List.{AllZip}
use Rattle.binding_terms.specs.Signature.{Signature}
use Rattle.scheme_terms.specs.SchemeTree.{SchemeTree}
use Rattle.scheme_terms.specs.Forms.{SchemeEntry, SchemeContext}
use Rattle.scheme_terms.specs.Context.{variables}
use Rattle.scheme_terms.specs.SchemeScope.{entry_variables}
use Rattle.scheme_terms.specs.declared.scheme.Root.{Root}
use Rattle.rule_schemes.specs.Rules.{JudgmentScheme}
use Rattle.rule_schemes.specs.Placed.{root_in, entries_in}
use Rattle.pattern_unify.specs.Equations.{SchemeEquation}

-- scheme by scheme, under locals of these categories
abbrev pub equated : List ℕ → List SchemeTree → List SchemeTree → List SchemeEquation
equated ls [] ts = []
equated ls (s ∷ ss) [] = []
equated ls (s ∷ ss) (t ∷ ts) = record { locals = ls; left = s; right = t } ∷ equated ls ss ts

-- entry by entry, each under the variables of those before it
abbrev pub entry_equations : Signature → List ℕ → List SchemeEntry → List SchemeEntry → List SchemeEquation
entry_equations sig ls [] es = []
entry_equations sig ls (d ∷ ds) [] = []
entry_equations sig ls (d ∷ ds) (e ∷ es) = equated ls d.args e.args ++ entry_equations sig (variables sig d.prod ++ ls) ds es

-- of a form that stands under locals and behind so many entries
abbrev pub form_equations : Signature → (around : List ℕ) → (front : ℕ) → JudgmentScheme → JudgmentScheme → List SchemeEquation
form_equations sig ls n j t =
    entry_equations sig ls j.context.entries (drop n t.context.entries) ++ equated (entry_variables sig ls j.context.entries) j.args t.args

-- of forms in a context, one after another
abbrev pub all_equations : Signature → (around : List ℕ) → SchemeContext → List JudgmentScheme → List JudgmentScheme → List SchemeEquation
all_equations sig ls ctx [] ts = []
all_equations sig ls ctx (j ∷ js) [] = []
all_equations sig ls ctx (j ∷ js) (t ∷ ts) =
    form_equations sig ls (length (entries_in ctx j.context.root)) j t ++ all_equations sig ls ctx js ts

-- two entries of one production, with as many arguments
abbrev pub AreLike : SchemeEntry → SchemeEntry → Type 0
AreLike d e = (d.prod ≡ e.prod) × (length d.args ≡ length e.args)

-- The form, behind these entries and with this root, is of one shape with the other: nothing but schemes differs.
pub record IsLike (front : List SchemeEntry) (root : Root) (j t : JudgmentScheme) : Type 0 where
  pub judgment : j.judgment ≡ t.judgment
  pub root_is : root ≡ t.context.root
  pub args : length j.args ≡ length t.args
  pub front_is : take (length front) t.context.entries ≡ front
  pub entries : AllZip AreLike j.context.entries (drop (length front) t.context.entries)

-- the same in a context
abbrev pub IsLikeIn : SchemeContext → JudgmentScheme → JudgmentScheme → Type 0
IsLikeIn ctx j t = IsLike (entries_in ctx j.context.root) (root_in ctx j.context.root) j t
