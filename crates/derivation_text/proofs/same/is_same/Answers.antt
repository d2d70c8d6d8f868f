use Rattle.derivation_text.proofs.Sameness.{same_tree_is}
use Rattle.derivation_text.proofs.same.is_same.Goals as goal

pub returns : goal.returns
returns c = same_tree_is _ _ _ c.same.ensures
