-- A known variable's entry as a context, when it is kept as a metavariable with arguments.
use Rattle.std.proofs.Common.{◌≡◌, ℕ, List, ◌∷◌, refl, ap, ◌∙◌}
use Rattle.binding_terms.specs.declared.grammar.CatId.{CatId}
use Rattle.scheme_terms.specs.SchemeTree.{SchemeTree, Parts, no_parts, part}
use Rattle.scheme_terms.specs.declared.scheme.MetaId.{MetaId}
use Rattle.rule_schemes.specs.Reading.{bare}
use Rattle.rule_schemes.specs.Said.{Way}
use Rattle.ordered_readings.specs.NodeView.{reading, row, values_of}
use Rattle.ordered_readings.specs.declared.node.Head.TheVariants.{Meta}
use Rattle.ordered_readings.specs.declared.node.Node.TheVariants.{Made}
use Rattle.ordered_readings.specs.declared.node.Row.{Row}
use Rattle.ordered_readings.proofs.NodeEquations.{reading-Made}
use Rattle.form_readings.specs.Trees.{arguments, context_of, with_known}

arguments_are : (xs : Parts) → arguments (values_of xs) ≡ bare xs
arguments_are no_parts = refl
arguments_are (part n s xs) = ap (λ ss. s ∷ ss) (arguments_are xs)

pub known_kept : (c : CatId) (name : List ℕ) (a : ℕ) (p : MetaId) (r : Row) → context_of c name (reading (Made a (Meta p) r)).1 ≡ with_known c name p.0 (bare (row r).2)
known_kept c name a p r =
    ap (λ (d : Way × SchemeTree). context_of c name d.1) (reading-Made a (Meta p) r) ∙ ap (with_known c name p.0) (arguments_are (row r).2)
