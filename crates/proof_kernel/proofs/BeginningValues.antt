-- The value of a target where a proof begins.
use Rattle.std.proofs.Common.{◌≡◌, ℕ, List, [], map, option_map, slice_get, unwrap_or, Option, None, ap, sym, ◌∙◌}
use Rattle.std.proofs.lemmas.Option.{slice_get-map}
use Rattle.scheme_terms.specs.SchemeTree.{SchemeTree, meta, no_values}
use Rattle.scheme_terms.specs.View.{scheme, scheme_level, part_level}
use Rattle.scheme_terms.specs.declared.scheme.MetaId.{MetaId}
use Rattle.scheme_terms.specs.declared.scheme.Scheme.TheVariants.{Meta, rolls-Meta}
use Rattle.scheme_terms.specs.declared.scheme.Scheme.TheOpen.{Scheme-F}
use Rattle.scheme_terms.specs.declared.scheme.Scheme.TheFolds.{fold-roll-Scheme}
use Rattle.rule_schemes.specs.declared.rule.Input.{Input}
use Rattle.rule_schemes.specs.View.{statement_input}
use Rattle.proof_trees.specs.Here.{scheme_of_input}

-- a name alone
pub scheme_name : (m : MetaId) → scheme (Meta m []) ≡ meta m.0 no_values
scheme_name m = ap scheme (sym (rolls-Meta m [])) ∙ fold-roll-Scheme SchemeTree (ℕ × SchemeTree) scheme_level part_level (Scheme-F.Meta m [])

-- the value by what stands among the inputs
pub value_by : (inputs : List Input) (target : ℕ) (o : Option Input) → slice_get inputs target ≡ o
    → unwrap_or (option_map scheme_of_input (slice_get (map statement_input inputs) target)) None
    ≡ unwrap_or (option_map scheme_of_input (option_map statement_input o)) None
value_by inputs target o e =
    ap (λ x. unwrap_or (option_map scheme_of_input x) None) (slice_get-map statement_input inputs target ∙ ap (option_map statement_input) e)
