-- The variables that a scope of the code holds, the innermost first.
use Rattle.std.specs.Prelude.{ℕ, List, [], ◌∷◌, map, Option, option_map}
use Rattle.binding_terms.specs.Signature.{Signature, slots}
use Rattle.binding_terms.specs.View.{tree, args_tree}
use Rattle.binding_terms.specs.declared.term.Term.{Term}
use Rattle.scheme_terms.specs.Forms.{SchemeEntry, ContextValue}
use Rattle.scheme_terms.specs.View.{ground_entry, context_value}
use Rattle.scheme_terms.specs.declared.scheme.CtxValue.{CtxValue}
use Rattle.rule_schemes.specs.declared.rule.Judgment.{Judgment}
use Rattle.rule_schemes.specs.declared.rule.JudgInst.{JudgInst}
use Rattle.derivation_text.specs.Text.{context_from}
use Rattle.scheme_terms.specs.declared.scheme.Entry.{Entry}
use Rattle.binding_terms.specs.declared.grammar.Item.{Item}
use Rattle.binding_terms.specs.declared.term.Arg.{Arg}
use Rattle.rule_schemes.specs.Printing.{argument, first, judgment_form, laid_out, no_labels, plain, plain_entry, plain_parts, subterms, variable_word}
use Rattle.rule_schemes.specs.Printing as printing
use Rattle.derivation_text.specs.declared.words.Variable.{Variable}

abbrev pub variable : Variable → printing.Variable
variable v = record { cat = v.cat.0; number = v.number }

abbrev pub variables : List Variable → List printing.Variable
variables vs = map variable vs

-- items with the words of binders that are left, and arguments in a scope under all binders of the production
abbrev pub items_tokens : Signature → (scope binders words : List printing.Variable) → List Item → List Arg → List (List ℕ)
items_tokens sig vs bs ws items args =
    laid_out items (map (variable_word sig) ws) (subterms sig no_labels vs bs (slots items) (plain_parts (args_tree args)))

-- what stands in a slot: the first of the arguments, under the binders that the slot lists
abbrev pub slot_tokens : Signature → (scope binders : List printing.Variable) → (binds : List ℕ) → List Arg → List (List ℕ)
slot_tokens sig vs bs binds args =
    first (subterms sig no_labels vs bs (record { cat = 0; binds = binds } ∷ []) (plain_parts (args_tree args)))

-- terms as arguments
abbrev pub terms_tokens : Signature → (scope : List printing.Variable) → List Term → List (List (List ℕ))
terms_tokens sig vs ts = map (argument sig no_labels vs) (map plain (map tree ts))

-- entries as schemes
abbrev pub entry_scheme : Entry → SchemeEntry
entry_scheme e = plain_entry (ground_entry e)

abbrev pub plain_entries : List Entry → List SchemeEntry
plain_entries es = map plain_entry (map ground_entry es)

-- the root that is given, as a value
abbrev pub root_value : Option CtxValue → Option ContextValue
root_value = option_map context_value

-- a judgment by its form, over a context that adds the variables of the scope
abbrev pub form_tokens : Signature → Option ContextValue → Judgment → JudgInst → (scope : List printing.Variable) → List (List ℕ)
form_tokens sig root form j vs =
    judgment_form form.ctx form.items (context_from sig root (context_value j.ctx)) (terms_tokens sig vs j.args)
