-- Each argument list inside is smaller than the list that holds it.
use Rattle.std.specs.Prelude.{ℕ, ◌≡◌, ◌<◌, zero, suc, length, ◌≤◌, List, [], ◌∷◌}
use Rattle.std.proofs.Common.{arith, ap, get_or}
use denote.Param.Weighed.{most}
use Rattle.binding_terms.specs.Tree.{nodes, arg_nodes}
use Rattle.binding_terms.specs.View.{tree, args_tree}
use Rattle.binding_terms.specs.declared.term.Term.{Term}
use Rattle.binding_terms.specs.declared.term.Term.TheVariants.{Var, Con}
use Rattle.binding_terms.specs.declared.term.Arg.{Arg}
use Rattle.binding_terms.specs.declared.term.ArgList.TheDeep.{deep-Arg, deep-Term}

pub deep_le-nodes : (t : Term) → deep-Term t ≤ nodes (tree t)
deep_le-nodes (Var i) = omega arith
deep_le-nodes (Con p args) = omega arith

pub most_le-arg_nodes : (xs : List Arg) → most deep-Arg xs ≤ arg_nodes (args_tree xs)
most_le-arg_nodes [] = omega arith
most_le-arg_nodes (a ∷ xs) = omega (arith, deep_le-nodes a.body, most_le-arg_nodes xs)

-- an argument is no larger than all of them
pub nodes_at : (args : List Arg) (i : ℕ) (a : Arg) → i < length args → a ≡ get_or args i a → nodes (tree a.body) ≤ arg_nodes (args_tree args)
nodes_at [] i a h e = absurd (let no : ⊥ = omega arith in no)
nodes_at (x ∷ xs) zero a h e = omega (arith, ap (λ (y : Arg). nodes (tree y.body)) e)
nodes_at (x ∷ xs) (suc i) a h e = omega (arith, nodes_at xs i a (omega arith) e)
