-- The tree that a term is.
use Rattle.std.specs.Prelude.{ℕ, List, [], ◌∷◌, map}
use Rattle.binding_terms.specs.Tree.{Tree, var, con, Args, no_args, arg}
use Rattle.binding_terms.specs.declared.term.Term.{Term}
use Rattle.binding_terms.specs.declared.term.Term.TheVariants.{Var, Con}
use Rattle.binding_terms.specs.declared.term.Arg.{Arg}

-- the arguments, one after another
abbrev pub args_of : List (ℕ × Tree) → Args
args_of [] = no_args
args_of (a ∷ rest) = arg a.0 a.1 (args_of rest)

abbrev pub tree : Term → Tree
tree (Var i) = var i
tree (Con p args) = con p.0 args

abbrev pub arg_tree : Arg → ℕ × Tree
arg_tree a = (a.binds, tree a.body)

abbrev pub args_tree : List Arg → Args
args_tree xs = args_of (map arg_tree xs)
