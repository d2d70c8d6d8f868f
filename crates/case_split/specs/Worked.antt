-- Worked choices: for a sum over numbers, and for typing and a term under a variable. To be held against docs/notation.md, 'Choices'.
use Rattle.std.specs.Prelude.{◌≡◌, ℕ, Bool, false, Option, Some, None, List, [], ◌∷◌, codes, map, ◌==◌, if◌then◌else◌, slice_get, option_map}
use Rattle.scheme_terms.specs.SchemeTree.{SchemeTree, meta, known, local, con, no_values, value, no_parts, part}
use Rattle.scheme_terms.specs.Forms.{Names, SchemeEntry}
use Rattle.scheme_terms.specs.declared.scheme.Root.TheVariants.{Closed, Whole}
use Rattle.rule_schemes.specs.Rules.{JudgmentScheme}
use Rattle.rule_schemes.specs.Sums.{sums, sum_scheme, name, name_of, successor_scheme, cat}
use Rattle.rule_schemes.specs.Lambda.{lambda, typed, T1, T2, t_of_x}
use Rattle.pattern_unify.specs.Equations.{SchemeEquation}
use Rattle.case_split.specs.declared.choice.Place.TheVariants.{Plain, Known, Explicit}
use Rattle.case_split.specs.declared.choice.Place.{Place}
use Rattle.case_split.specs.Choice.{JudgmentChoice, SyntaxChoice}
use Rattle.case_split.specs.Choices.{choices}
use Rattle.case_split.specs.SyntaxChoices.{syntax_choices}

-- over sums nothing has a variable
abbrev pub nothing_reaches : ℕ → ℕ → Bool
nothing_reaches c v = false

abbrev pub three_names : Names
three_names = record { root = Closed; metas = name_of (codes "n1") ∷ (name_of (codes "n2") ∷ (name_of (codes "n3") ∷ [])); knowns = [] }

-- the choices for n1 + n2 = n3
abbrev pub sum_choices : List JudgmentChoice
sum_choices = choices nothing_reaches sums three_names (sum_scheme (name 0) (name 1) (name 2))

-- one choice for each of the two rules
abbrev pub HaveSumRules : Type 0
HaveSumRules = map (λ c. c.rule) sum_choices ≡ 0 ∷ (1 ∷ [])

abbrev pub plain_equation : SchemeTree → SchemeTree → SchemeEquation
plain_equation s t = record { locals = []; left = s; right = t }

-- the rule for a successor equates n1 with s n1', n2 with n2', n3 with s n3', where the new names are numbered after the scope's
abbrev pub EquatesSuccessors : Type 0
EquatesSuccessors =
    option_map (λ c. c.equations) (slice_get sum_choices 1)
    ≡ Some (plain_equation (name 0) (successor_scheme (name 3)) ∷ (plain_equation (name 1) (name 4) ∷ (plain_equation (name 2) (successor_scheme (name 5)) ∷ [])))

-- its premise is n1' + n2' = n3'
abbrev pub HasSumPremise : Type 0
HasSumPremise = option_map (λ c. c.premises) (slice_get sum_choices 1) ≡ Some (sum_scheme (name 3) (name 4) (name 5) ∷ [])

-- over the typed lambda calculus terms reach the variables of terms
abbrev pub terms_reach : ℕ → ℕ → Bool
terms_reach c v = if c == 1 then v == 1 else false

abbrev pub typing_names : Names
typing_names = record { root = Whole (cat 2); metas = T1 ∷ (t_of_x ∷ (T2 ∷ [])); knowns = [] }

abbrev pub x_of : SchemeTree → SchemeEntry
x_of s = record { prod = 6; args = s ∷ [] }

-- t[x]
abbrev pub t_of : SchemeTree
t_of = meta 1 (value (local 0) no_values)

-- Gamma, x : T1 |- t[x] : T2
abbrev pub body_typed : JudgmentScheme
body_typed =
    record {
      judgment = 0;
      context = record { root = Whole (cat 2); entries = x_of (meta 0 no_values) ∷ [] };
      args = t_of ∷ (meta 2 no_values ∷ []);
    }

abbrev pub typing_choices : List JudgmentChoice
typing_choices = choices terms_reach typed typing_names body_typed

abbrev pub rule_and_place : JudgmentChoice → ℕ × Place
rule_and_place c = (c.rule, c.place)

abbrev pub prod_and_place : SyntaxChoice → Option ℕ × Place
prod_and_place c = (c.prod, c.place)

-- the rule of variables has a choice for a known variable and one for the explicit entry, and the rule of functions follows
abbrev pub HaveTypingPlaces : Type 0
HaveTypingPlaces = map rule_and_place typing_choices ≡ (0, Known) ∷ ((0, Explicit 0) ∷ ((1, Plain) ∷ []))

abbrev pub below_x : SchemeTree → SchemeTree → SchemeEquation
below_x s t = record { locals = 1 ∷ []; left = s; right = t }

-- the known variable has the rule's entry, with a new name for T
abbrev pub HasKnownSystem : Type 0
HasKnownSystem =
    (option_map (λ c. c.equations) (slice_get typing_choices 0)
    ≡ Some (below_x t_of (known 0) ∷ (below_x (meta 2 no_values) (meta 3 no_values) ∷ [])))
    × (option_map (λ c. map (λ k. k.entry) c.names.knowns) (slice_get typing_choices 0) ≡ Some (x_of (meta 3 no_values) ∷ []))

-- the explicit entry's variable, and after the judgment's arguments the entry's
abbrev pub HasExplicitSystem : Type 0
HasExplicitSystem =
    option_map (λ c. c.equations) (slice_get typing_choices 1)
    ≡ Some (below_x t_of (local 0) ∷ (below_x (meta 2 no_values) (meta 3 no_values)
    ∷ (record { locals = []; left = meta 0 no_values; right = meta 3 no_values } ∷ [])))

-- the rule of functions is raised: t takes the variable of the explicit entry before its own parameter
abbrev pub HasRaisedPremise : Type 0
HasRaisedPremise =
    option_map (λ c. c.premises) (slice_get typing_choices 2)
    ≡ Some (record {
      judgment = 0;
      context = record { root = Whole (cat 2); entries = x_of (meta 0 no_values) ∷ (x_of (meta 3 no_values) ∷ []) };
      args = meta 4 (value (local 1) (value (local 0) no_values)) ∷ (meta 5 no_values ∷ []);
    } ∷ [])

abbrev pub term_choices : List SyntaxChoice
term_choices = syntax_choices terms_reach lambda typing_names body_typed.context t_of 1

-- the choices for a term t[x] below x: function, application, unit, a known variable, and x
abbrev pub HaveTermPlaces : Type 0
HaveTermPlaces =
    map prod_and_place term_choices
    ≡ (Some 2, Plain) ∷ ((Some 3, Plain) ∷ ((Some 4, Plain) ∷ ((Some 6, Known) ∷ ((None, Explicit 0) ∷ []))))

-- the body of a function takes x and then its own variable
abbrev pub HasFunctionTerm : Type 0
HasFunctionTerm =
    option_map (λ c. c.term) (slice_get term_choices 0)
    ≡ Some (con 2 (part 0 (meta 3 no_values) (part 1 (meta 4 (value (local 1) (value (local 0) no_values))) no_parts)))
