-- What is given for an input, and the pieces of inputs, as plain data.
use Rattle.binding_terms.specs.View.{tree}
use Rattle.scheme_terms.specs.SchemeTree.{meta, no_values}
use Rattle.scheme_terms.specs.View.{scheme}
use Rattle.rule_schemes.specs.View.{judgment_value}
use Rattle.derivation_check.specs.Fitting as fitting
use Rattle.derivation_check.specs.Fitting.{GivenForm, judged, written}
use Rattle.derivation_check.specs.declared.inputs.InputForm.{InputForm}
use Rattle.derivation_check.specs.declared.inputs.InputForm.TheVariants.{Tree, Syntax}
use Rattle.derivation_check.specs.declared.pieces.Piece.{Piece}
use Rattle.derivation_check.specs.declared.pieces.Piece.TheVariants.{Part, Own}

abbrev pub given_form : InputForm → GivenForm
given_form (Tree j) = judged (judgment_value j)
given_form (Syntax t) = written (tree t)

abbrev pub piece : Piece → fitting.Piece
piece (Part n pattern target) = record { locals = n; pattern = scheme pattern.now; target = tree target.now }
piece (Own m target) = record { locals = 0; pattern = meta m.0 no_values; target = tree target.now }
