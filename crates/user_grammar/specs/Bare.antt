-- The condition under which theories are made over a file's signature so far. It is to go.
use Rattle.std.specs.Prelude.{◌≡◌, None}
use Rattle.std.specs.List.{AllByRecursion}
use Rattle.binding_terms.specs.Signature.{Signature}
use Rattle.rule_schemes.specs.Plain.{IsPlainSignature}

-- No category has a variable or is one of contexts, and no slot binds.
pub record IsBareSignature (sig : Signature) : Type 0 where
  pub plain : IsPlainSignature sig
  pub variables : AllByRecursion (λ cat. cat.var ≡ None) sig.cats
