-- What is given for the inputs of a statement, as plain data.
use Rattle.std.specs.Prelude.{List, map}
use Rattle.binding_terms.specs.View.{tree}
use Rattle.rule_schemes.specs.Statement.{InputTree, derived, term}
use Rattle.derivation_check.specs.declared.inputs.InputValue.{InputValue}
use Rattle.derivation_check.specs.declared.inputs.InputValue.TheVariants.{Tree, Syntax}
use Rattle.derivation_check.specs.declared.inputs.Inputs.{Inputs}

abbrev pub input_tree : InputValue → InputTree
input_tree (Tree d) = derived d
input_tree (Syntax t) = term (tree t)

abbrev pub input_trees : Inputs → List InputTree
input_trees inputs = map input_tree inputs.items.items
