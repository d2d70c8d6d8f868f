-- Terms as schemes: a term is a scheme without names.
use Rattle.binding_terms.specs.Tree.{Tree, var, con as node, Args, no_args, arg}
use Rattle.scheme_terms.specs.SchemeTree.{SchemeTree, local, con, Parts, no_parts, part}

abbrev mutual
  pub embedded : Tree → SchemeTree
  embedded (var i) = local i
  embedded (node p xs) = con p (embedded_args xs)

  pub embedded_args : Args → Parts
  embedded_args no_args = no_parts
  embedded_args (arg n t xs) = part n (embedded t) (embedded_args xs)
