-- Theories without contexts and binding: no category is one of contexts, no slot binds, no metavariable has parameters.
use Rattle.std.specs.Prelude.{◌≡◌, false, []}
use Rattle.std.specs.List.{AllByRecursion}
use Rattle.binding_terms.specs.Signature.{Signature, slots}
use Rattle.rule_schemes.specs.Rules.{Rule, Theory, IsSystemSoFar}

-- no category is one of contexts
abbrev pub HasNoContextCategory : Signature → Type 0
HasNoContextCategory sig = AllByRecursion (λ cat. cat.context ≡ false) sig.cats

pub record IsPlainSignature (sig : Signature) : Type 0 where
  pub no_context : HasNoContextCategory sig
  pub no_binding : AllByRecursion (λ prod. AllByRecursion (λ slot. slot.binds ≡ []) (slots prod.items)) sig.prods

-- no metavariable of the rule has parameters
abbrev pub HasPlainNames : Rule → Type 0
HasPlainNames r = AllByRecursion (λ decl. decl.params ≡ []) r.metas

pub record IsPlainTheory (th : Theory) : Type 0 where
  pub sig : IsPlainSignature th.sig
  pub rules : AllByRecursion HasPlainNames th.rules

-- a system without contexts in which nothing binds
pub record IsPlainSystem (th : Theory) : Type 0 where
  pub so_far : IsSystemSoFar th
  pub plain : IsPlainTheory th
