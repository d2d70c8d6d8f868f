use Rattle.derivation_check.proofs.Instantiations as laws
use Rattle.derivation_check.proofs.laws.fits_where_instantiated.Goals as goal

pub returns : goal.returns
returns c = laws.fits_where_instantiated
