-- Forms of rules and statements in the context of a step. To be held against docs/notation.md, 'Steps'.
use Rattle.std.specs.Prelude.{ℕ, ◌+◌, List, [], ◌∷◌, ◌++◌, length, map, reverse}
use Rattle.binding_terms.specs.Signature.{Signature}
use Rattle.scheme_terms.specs.Forms.{SchemeEntry, SchemeContext, Substitution}
use Rattle.scheme_terms.specs.SchemeScope.{entry_variables}
use Rattle.scheme_terms.specs.Substituting.{applied, applied_entry}
use Rattle.scheme_terms.specs.declared.scheme.Root.{Root}
use Rattle.scheme_terms.specs.declared.scheme.Root.TheVariants.{Closed, Empty, Whole}
use Rattle.rule_schemes.specs.Rules.{JudgmentScheme}

-- What stands for the root of a form in a context: for the whole root the context, with its explicit entries, and any other root for itself.
abbrev pub root_in : SchemeContext → Root → Root
root_in ctx Closed = Closed
root_in ctx (Empty c) = Empty c
root_in ctx (Whole c) = ctx.root

abbrev pub entries_in : SchemeContext → Root → List SchemeEntry
entries_in ctx Closed = []
entries_in ctx (Empty c) = []
entries_in ctx (Whole c) = ctx.entries

-- the entries of a form under a substitution, with so many entries before them
abbrev pub applied_entries : Substitution → (before : ℕ) → List SchemeEntry → List SchemeEntry
applied_entries by n [] = []
applied_entries by n (e ∷ es) = applied_entry by n e ∷ applied_entries by (n + 1) es

-- a form in a context, with schemes for its names
abbrev pub form_in : SchemeContext → Substitution → JudgmentScheme → JudgmentScheme
form_in ctx by j =
    let front = entries_in ctx j.context.root in
    record {
      judgment = j.judgment;
      context = record { root = root_in ctx j.context.root; entries = front ++ applied_entries by (length front) j.context.entries };
      args = map (applied by.metas by.knowns (length front + length j.context.entries)) j.args;
    }

-- a form with schemes for its names
abbrev pub applied_judgment : Substitution → JudgmentScheme → JudgmentScheme
applied_judgment by j =
    record {
      judgment = j.judgment;
      context = record { root = j.context.root; entries = applied_entries by 0 j.context.entries };
      args = map (applied by.metas by.knowns (length j.context.entries)) j.args;
    }

-- the variables of explicit entries as locals, the innermost first
abbrev pub locals_of : Signature → List SchemeEntry → List ℕ
locals_of sig es = entry_variables sig [] es

-- the same variables, the first entry's first
abbrev pub entry_cats : Signature → List SchemeEntry → List ℕ
entry_cats sig es = reverse (locals_of sig es)
