-- Names without parameters, as they are where nothing binds.
use Rattle.std.specs.Prelude.{◌≡◌, List, []}
use Rattle.std.specs.List.{AllByRecursion}
pub use Rattle.binding_terms.specs.Signature.{NothingBinds}
use Rattle.scheme_terms.specs.declared.scheme.MetaDecl.{MetaDecl}

-- no metavariable takes parameters
abbrev pub HaveNoParameters : List MetaDecl → Type 0
HaveNoParameters metas = AllByRecursion (λ m. m.params ≡ []) metas
