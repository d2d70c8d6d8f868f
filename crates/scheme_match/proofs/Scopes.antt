-- Terms of a closed context have no free variable.
use Rattle.std.proofs.Common.{◌≡◌, ℕ, ◌+◌, List, [], ◌∷◌, ◌++◌, length, slice_get, refl, length-append, arith}
use Rattle.std.specs.List.{AllByRecursion}
use Rattle.std.proofs.lemmas.Option.{slice_get_within}
use Rattle.binding_terms.specs.Tree.{Tree, var, con, Args, no_args, arg}
use Rattle.binding_terms.specs.Signature.{Signature, Place, slots, binders}
use Rattle.binding_terms.specs.Scope.{bound, IsTerm, AreParts}
use Rattle.binding_terms.proofs.Lists.{match_some}
use Rattle.scheme_terms.specs.Context.{AreArguments}
use Rattle.scheme_terms.proofs.SchemeFacts.{length_bound}
use Rattle.rule_schemes.specs.Rules.{IsBelow, AreBelow}

-- the free variables of a term in a scope are below its length
module _ (sig : Signature) where
  mutual
    pub below_scope : (scope : List ℕ) (c n : ℕ) (t : Tree) → length scope ≡ n → IsTerm sig scope c t → IsBelow n t
    below_scope scope c n (var i) e h = let within = slice_get_within scope i c h in omega arith
    below_scope scope c n (con p xs) e h =
        let prod = match_some (slice_get sig.prods p) _ h in
        below_parts scope (binders prod.0.items) (slots prod.0.items) n xs e prod.2.1

    below_parts : (scope bs : List ℕ) (ss : List Place) (n : ℕ) (xs : Args) → length scope ≡ n → AreParts sig scope bs ss xs → AreBelow n xs
    below_parts scope bs [] n no_args e h = tt
    below_parts scope bs [] n (arg m t xs) e h = absurd h
    below_parts scope bs (s ∷ ss) n no_args e h = absurd h
    below_parts scope bs (s ∷ ss) n (arg m t xs) e h = (
      below_scope (bound bs s.binds ++ scope) s.cat (n + m) t
          (omega (arith, length-append (bound bs s.binds) scope, length_bound bs s.binds, h.0)) h.1,
      below_parts scope bs ss n xs e h.2,
    )

  pub closed_arguments : (ss : List Place) (ts : List Tree) → AreArguments sig [] ss ts → AllByRecursion (IsBelow 0) ts
  closed_arguments [] [] h = tt
  closed_arguments [] (t ∷ ts) h = absurd h
  closed_arguments (s ∷ ss) [] h = absurd h
  closed_arguments (s ∷ ss) (t ∷ ts) h = (below_scope [] s.cat 0 t refl h.0, closed_arguments ss ts h.1)
