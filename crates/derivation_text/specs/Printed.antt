-- How two readings of a form are told. To be held against docs/notation.md, 'Printing'. Variables of the context line's value are numbered
-- from the first, and those of the form's own entries go on from there.
use Rattle.std.specs.Prelude.{ℕ, List, [], ◌++◌, map, codes}
use Rattle.binding_terms.specs.Signature.{Signature}
use Rattle.scheme_terms.specs.Forms.{SchemeContext, ContextValue}
use Rattle.scheme_terms.specs.declared.scheme.Root.{Root}
use Rattle.rule_schemes.specs.AtValue.{entries_for}
use Rattle.rule_schemes.specs.Printing.{Variable, argument, entries_tokens, judgment_over, no_labels, plain_entry, root_tokens, text_of, value_variables, with_entries}
use Rattle.rule_schemes.specs.Rules.{JudgmentScheme, Theory}
use Rattle.rule_schemes.specs.Said.{Written, a_term, a_judgment, a_context}

-- the variables of the value where the root stands for it, and none for another root
abbrev pub root_variables : Signature → ContextValue → Root → List Variable
root_variables sig v root = with_entries sig [] (map plain_entry (entries_for v root))

-- a context with the category's name for the value
abbrev pub context_words : Signature → ContextValue → SchemeContext → List (List ℕ)
context_words sig v ctx = root_tokens sig ctx.root ++ entries_tokens sig no_labels (root_variables sig v ctx.root) ctx.entries

abbrev pub judgment_words : Theory → ContextValue → JudgmentScheme → List (List ℕ)
judgment_words th v j =
    judgment_over th no_labels j.judgment (context_words th.sig v j.context)
    (with_entries th.sig (root_variables th.sig v j.context.root) j.context.entries) j.args

-- what a form says over a value; a term as an argument
abbrev pub written_words : Theory → ContextValue → Written → List (List ℕ)
written_words th v (a_term s) = argument th.sig no_labels (value_variables th.sig v) s
written_words th v (a_judgment j) = judgment_words th v j
written_words th v (a_context ctx) = context_words th.sig v ctx

-- two readings, with a stroke between them
abbrev pub two_readings : Theory → ContextValue → (one two : Written) → List ℕ
two_readings th v one two = text_of (written_words th v one) ++ (codes " / " ++ text_of (written_words th v two))
