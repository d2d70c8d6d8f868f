-- What the code holds while it prints, as the definition of printing has it.
use Rattle.std.specs.Prelude.{ℕ, ◌+◌, ◌-◌, nat_lt, if◌then◌else◌, List, [], ◌∷◌, ◌++◌, length, map, Option, option_map, unwrap_or, slice_get, codes, decimal}
use Rattle.binding_terms.specs.Signature.{Signature, slots, binders}
use Rattle.binding_terms.specs.declared.grammar.Item.{Item}
use Rattle.scheme_terms.specs.SchemeTree.{values}
use Rattle.scheme_terms.specs.View.{names, scheme, scheme_parts}
use Rattle.scheme_terms.specs.declared.scheme.MetaDecl.{MetaDecl}
use Rattle.scheme_terms.specs.declared.scheme.KnownDecl.{KnownDecl}
use Rattle.scheme_terms.specs.declared.scheme.Scheme.{Scheme}
use Rattle.scheme_terms.specs.declared.scheme.SArg.{SArg}
use Rattle.scheme_terms.specs.View.{scheme_context}
use Rattle.rule_schemes.specs.declared.rule.Judgment.{Judgment}
use Rattle.rule_schemes.specs.declared.rule.JScheme.{JScheme}
use Rattle.rule_schemes.specs.Printing as printing
use Rattle.rule_schemes.specs.Printing.{after_commas, argument, arguments, bracketed, choice_labels, context_tokens, declared_name, first, items_of, judgment_form, labels_of, laid_out, meta_name, subterms, variable_word}
use Rattle.form_printing.specs.declared.words.Variable.{Variable}
use Rattle.form_printing.specs.declared.labels.Labels.{Labels}
use Rattle.form_printing.specs.declared.labels.Labels.TheVariants.{Scope, Choice}

abbrev pub variable : Variable → printing.Variable
variable v = record { cat = v.cat.0; number = v.number }

abbrev pub variables : List Variable → List printing.Variable
variables vs = map variable vs

-- the names that are printed: those of a scope, or those of a scope and a choice
unfoldable pub shown : Signature → Labels → printing.Labels
shown sig (Scope s) = labels_of (names s.now)
shown sig (Choice s metas known) = choice_labels sig (names s.now) metas.now (option_map (λ p. p.0) known)

-- the name of a known variable as it is written
abbrev pub known_name : List KnownDecl → ℕ → List ℕ
known_name ks k = unwrap_or (option_map (λ decl. decl.name) (slice_get ks k)) []

-- a metavariable after those of the scope: of the choice's rule, or one of those that follow
abbrev pub later_name : List MetaDecl → ℕ → List ℕ
later_name choice n = codes "?" ++ (if nat_lt n (length choice) then meta_name choice n else decimal (n - length choice + 1))

-- the declared name of the first variable that an entry of the production adds
abbrev pub first_declared : Signature → Option ℕ → List ℕ
first_declared sig prod = declared_name sig (unwrap_or (slice_get (binders (items_of sig (unwrap_or prod 0))) 0) 0)

-- items with the words of binders that are left, and parts in a scope under all binders of the production
abbrev pub items_tokens : Signature → printing.Labels → (scope binders words : List printing.Variable) → List Item → List SArg → List (List ℕ)
items_tokens sig labels vs bs ws items args =
    laid_out items (map (variable_word sig) ws) (subterms sig labels vs bs (slots items) (scheme_parts args))

-- what stands in a slot: the first of the parts, under the binders that the slot lists
abbrev pub slot_tokens : Signature → printing.Labels → (scope binders : List printing.Variable) → (binds : List ℕ) → List SArg → List (List ℕ)
slot_tokens sig labels vs bs binds args =
    first (subterms sig labels vs bs (record { cat = 0; binds = binds } ∷ []) (scheme_parts args))

-- the arguments of a metavariable
abbrev pub values_tokens : Signature → printing.Labels → (scope : List printing.Variable) → List Scheme → List (List (List ℕ))
values_tokens sig labels vs ss = arguments sig labels vs (values (map scheme ss))

-- schemes as arguments
abbrev pub schemes_tokens : Signature → printing.Labels → (scope : List printing.Variable) → List Scheme → List (List (List ℕ))
schemes_tokens sig labels vs ss = map (argument sig labels vs) (map scheme ss)

-- a judgment by its form, over a context that adds the variables of the scope
abbrev pub form_tokens : Signature → printing.Labels → Judgment → JScheme → (scope : List printing.Variable) → List (List ℕ)
form_tokens sig labels form j vs =
    judgment_form form.ctx form.items (context_tokens sig labels (scheme_context j.ctx)) (schemes_tokens sig labels vs j.args)
