-- The choices for a judgment, in order. To be held against docs/notation.md, 'Choices' (of a judgment).
use Rattle.std.specs.Prelude.{ℕ, suc, ◌+◌, ◌-◌, Bool, ◌==◌, if◌then◌else◌, Option, None, Some, List, [], ◌∷◌, ◌++◌, length, map, take, slice_get, option_map, unwrap_or}
use Rattle.binding_terms.specs.Signature.{Signature}
use Rattle.scheme_terms.specs.SchemeTree.{SchemeTree, known, local, shifted, filled}
use Rattle.scheme_terms.specs.Forms.{Names, SchemeEntry, KnownVariable, Substitution}
use Rattle.scheme_terms.specs.Substituting.{applied, applied_entry, metas_from}
use Rattle.scheme_terms.specs.Context.{variables}
use Rattle.scheme_terms.specs.declared.scheme.MetaDecl.{MetaDecl}
use Rattle.scheme_terms.specs.declared.scheme.Root.{Root}
use Rattle.scheme_terms.specs.declared.scheme.Root.TheVariants.{Whole}
use Rattle.rule_schemes.specs.Rules.{JudgmentScheme, Rule, Theory}
use Rattle.rule_schemes.specs.Raising.{raised, raised_decl, raised_by}
use Rattle.rule_schemes.specs.Placed.{form_in, locals_of, entry_cats}
use Rattle.case_split.specs.declared.choice.Place.TheVariants.{Plain, Known, Explicit}
use Rattle.case_split.specs.Choice.{JudgmentChoice, equated}

-- the scope with further names after its own
abbrev pub with_names : Names → List MetaDecl → List KnownVariable → Names
with_names scope metas knowns = record { root = scope.root; metas = scope.metas ++ metas; knowns = scope.knowns ++ knowns }

-- metavariables as new names, which are numbered after those of the scope
abbrev pub as_new : Names → List MetaDecl → Substitution
as_new scope metas =
    record { metas = metas_from (length scope.metas) metas; knowns = []; into = with_names scope metas [] }

-- The choice of an ordinary rule: the rule is raised to the subject's entries, and its metavariables are new names.
abbrev pub rule_choice : (ℕ → ℕ → Bool) → Theory → Names → (subject : JudgmentScheme) → (number : ℕ) → Rule → JudgmentChoice
rule_choice reaches th scope subject number rule =
    let higher = raised_by reaches (entry_cats th.sig subject.context.entries) rule.conclusion.context.root rule in
    let new_names = as_new scope higher.metas in
    let conclusion = form_in subject.context new_names higher.conclusion in
    record {
      rule = number;
      place = Plain;
      names = new_names.into;
      equations = equated (locals_of th.sig subject.context.entries) subject.args conclusion.args;
      premises = map (form_in subject.context new_names) higher.premises;
      conclusion = conclusion;
    }

-- a scheme below the variable of one entry, with a known variable for it, raised over so many locals
abbrev pub at_known : (known_variable locals : ℕ) → SchemeTree → SchemeTree
at_known k n s = filled (λ i. if i == 0 then known k else local (i - 1 + n)) s

-- the name of the variables that a production's entries bind
abbrev pub variable_name : Signature → ℕ → List ℕ
variable_name sig p =
    unwrap_or (unwrap_or (option_map (λ c. unwrap_or (option_map (λ cat. cat.var) (slice_get sig.cats c)) None)
    (slice_get (variables sig p) 0)) None) []

-- The choice of an assumption rule for a known variable: it has the rule's entry, with new names for the rule's metavariables, and the choice's
-- judgment is the rule's conclusion over the whole context, with the known variable for the entry's.
abbrev pub known_choice : Theory → Names → (subject : JudgmentScheme) → (number : ℕ) → Rule → SchemeEntry → JudgmentChoice
known_choice th scope subject number rule declared =
    let new_names = as_new scope rule.metas in
    let n = length subject.context.entries in
    let args = map (λ s. at_known (length scope.knowns) n (applied new_names.metas [] 1 s)) rule.conclusion.args in
    record {
      rule = number;
      place = Known;
      names =
          with_names scope rule.metas
          (record { name = variable_name th.sig declared.prod; entry = applied_entry new_names 0 declared } ∷ []);
      equations = equated (locals_of th.sig subject.context.entries) subject.args args;
      premises = [];
      conclusion = record { judgment = subject.judgment; context = subject.context; args = args };
    }

-- The choice of an assumption rule for the explicit entry at a place: the rule's metavariables are new names that take the variables of the entries
-- before that place. The equations of the entry's arguments with those of the rule's entry follow.
abbrev pub explicit_choice : (ℕ → ℕ → Bool) → Theory → Names → (subject : JudgmentScheme) → (number : ℕ) → Rule → (rule_entry : SchemeEntry) →
    (place : ℕ) → (found : SchemeEntry) → JudgmentChoice
explicit_choice reaches th scope subject number rule declared place found =
    let before = take place subject.context.entries in
    let cats = entry_cats th.sig before in
    let metas = map (raised_decl reaches cats) rule.metas in
    let new_names = as_new scope metas in
    let later = length subject.context.entries - suc place in
    let args = map (λ s. shifted 0 later (applied new_names.metas [] (suc place) (raised reaches rule.metas cats 1 s))) rule.conclusion.args in
    let entry_args = map (λ s. applied new_names.metas [] place (raised reaches rule.metas cats 0 s)) declared.args in
    record {
      rule = number;
      place = Explicit place;
      names = new_names.into;
      equations =
          equated (locals_of th.sig subject.context.entries) subject.args args
          ++ equated (locals_of th.sig before) found.args entry_args;
      premises = [];
      conclusion = record { judgment = subject.judgment; context = subject.context; args = args };
    }

-- the choices for the explicit entries of the rule's production from a place on, from the first
abbrev pub explicit_choices : (ℕ → ℕ → Bool) → Theory → Names → (subject : JudgmentScheme) → (number : ℕ) → Rule → (rule_entry : SchemeEntry) →
    (place : ℕ) → (entries : List SchemeEntry) → List JudgmentChoice
explicit_choices reaches th scope subject number rule declared place [] = []
explicit_choices reaches th scope subject number rule declared place (e ∷ es) =
    (if e.prod == declared.prod then explicit_choice reaches th scope subject number rule declared place e ∷ [] else [])
    ++ explicit_choices reaches th scope subject number rule declared (suc place) es

-- a known variable is among the choices where the root is the whole context
abbrev pub known_choices : Theory → Names → (subject : JudgmentScheme) → (number : ℕ) → Rule → (rule_entry : SchemeEntry) → Root → List JudgmentChoice
known_choices th scope subject number rule declared (Whole c) = known_choice th scope subject number rule declared ∷ []
known_choices th scope subject number rule declared _ = []

-- the entry of an assumption rule
abbrev pub assumed_entry : Root → List SchemeEntry → Option SchemeEntry
assumed_entry (Whole c) (e ∷ []) = Some e
assumed_entry _ _ = None

-- the choices of a rule of the subject's judgment: of an assumption rule a known variable and then the explicit entries, of any other rule one
abbrev pub choices_by : (ℕ → ℕ → Bool) → Theory → Names → (subject : JudgmentScheme) → (number : ℕ) → Rule → Option SchemeEntry → List JudgmentChoice
choices_by reaches th scope subject number rule None = rule_choice reaches th scope subject number rule ∷ []
choices_by reaches th scope subject number rule (Some declared) =
    known_choices th scope subject number rule declared subject.context.root
    ++ explicit_choices reaches th scope subject number rule declared 0 subject.context.entries

-- the choices of rules, where the first one has this number
abbrev pub choices_from : (ℕ → ℕ → Bool) → Theory → Names → (subject : JudgmentScheme) → (number : ℕ) → List Rule → List JudgmentChoice
choices_from reaches th scope subject n [] = []
choices_from reaches th scope subject n (rule ∷ rules) =
    (if rule.conclusion.judgment == subject.judgment
    then choices_by reaches th scope subject n rule (assumed_entry rule.conclusion.context.root rule.conclusion.context.entries)
    else [])
    ++ choices_from reaches th scope subject (suc n) rules

-- all choices for the judgment, in the order of the rules
abbrev pub choices : (ℕ → ℕ → Bool) → Theory → Names → (subject : JudgmentScheme) → List JudgmentChoice
choices reaches th scope subject = choices_from reaches th scope subject 0 th.rules
