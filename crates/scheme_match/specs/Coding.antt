-- A code for schemes, by which proofs tell them apart.
use base.Stored.{Coded}
use Rattle.binding_terms.specs.Coding.{tree_code, tree_inj}
use Rattle.scheme_terms.specs.SchemeTree.{SchemeTree}
use Rattle.scheme_terms.proofs.SchemeFilling.{coded, coded_injective}

abbrev pub coded_scheme : Coded SchemeTree
coded_scheme = record { code = λ s. tree_code (coded s); inj = λ s t e. coded_injective s t (tree_inj (coded s) (coded t) e) }
