use Rattle.rule_schemes.specs.Derivation.{sizes}
use Rattle.derivation_check.specs.Parts.{subtrees_of}
use Rattle.derivation_check.proofs.deriv.drop_all.Given as goal

abbrev pub decreases-loop-one : goal.decreases-loop-one
decreases-loop-one l = sizes (subtrees_of l.left.items)
