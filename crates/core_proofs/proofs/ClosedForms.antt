-- Forms of judgments without a context, and their instances.
use Rattle.std.proofs.Common.{◌≡◌, ℕ, ◌+◌, List, [], ◌∷◌, ◌++◌, length, map, None, slice_get, refl, subst, arith}
use Rattle.std.proofs.lemmas.List.{length-append}
use Rattle.std.proofs.lemmas.Option.{slice_get_within}
use Rattle.std.specs.List.{AllByRecursion}
use Rattle.binding_terms.specs.Tree.{Tree, var, con, Args, no_args, arg}
use Rattle.binding_terms.specs.Signature.{Signature, Place, slots, binders}
use Rattle.binding_terms.specs.Scope.{bound, IsTerm, AreParts}
use Rattle.scheme_terms.specs.SchemeTree.{SchemeTree}
use Rattle.scheme_terms.specs.Forms.{SchemeContext, ContextValue, Names, Instance, Substitution}
use Rattle.scheme_terms.specs.Context.{scope_of}
use Rattle.scheme_terms.specs.Instance.{instance_of, FitsScope}
use Rattle.scheme_terms.specs.SchemeScope.{AreSchemes}
use Rattle.scheme_terms.specs.Substituting.{applied, followed, IsSubstitution}
use Rattle.scheme_terms.specs.declared.scheme.Root.TheVariants.{Closed}
use Rattle.scheme_terms.proofs.SchemeFacts.{length_bound}
use Rattle.scheme_terms.proofs.Followed.{instance_of_applied_scheme}
use Rattle.scheme_terms.proofs.InstanceScopes.{instance_keeps_scope_of_metas}
use Rattle.rule_schemes.specs.Rules.{JudgmentScheme, IsBelow, AreBelow}
use Rattle.binding_terms.proofs.Lists.{match_some}

-- a form without a context
abbrev pub no_context : SchemeContext
no_context = record { root = Closed; entries = [] }

abbrev pub closed_form : ℕ → List SchemeTree → JudgmentScheme
closed_form k ss = record { judgment = k; context = no_context; args = ss }

pub is_closed_form : (j : JudgmentScheme) → j.context.root ≡ Closed → j.context.entries ≡ [] → j ≡ closed_form j.judgment j.args
is_closed_form j root entries = λ i. record { judgment = j.judgment; context = record { root = root i; entries = entries i }; args = j.args }

abbrev pub no_value : ContextValue
no_value = record { cat = None; entries = [] }

deeper : (bs binds scope : List ℕ) (n : ℕ) → n ≡ length binds → length (bound bs binds ++ scope) ≡ length scope + n
deeper bs binds scope n e = omega (arith, length-append (bound bs binds) scope, length_bound bs binds, e)

-- a term's free variables are below the length of its scope
mutual
  pub below : (sig : Signature) (scope : List ℕ) (c : ℕ) (t : Tree) → IsTerm sig scope c t → IsBelow (length scope) t
  below sig scope c (var i) h = slice_get_within scope i c h
  below sig scope c (con p xs) h =
      let got = match_some (slice_get sig.prods p) (λ prod. (prod.cat.0 ≡ c) × AreParts sig scope (binders prod.items) (slots prod.items) xs) h in
      parts_below sig scope (binders got.0.items) (slots got.0.items) xs got.2.1

  parts_below : (sig : Signature) (scope bs : List ℕ) (ss : List Place) (xs : Args) → AreParts sig scope bs ss xs → AreBelow (length scope) xs
  parts_below sig scope bs [] no_args h = tt
  parts_below sig scope bs (s ∷ ss) no_args h = absurd h
  parts_below sig scope bs [] (arg n t xs) h = absurd h
  parts_below sig scope bs (s ∷ ss) (arg n t xs) h =
      (subst (λ k. IsBelow k t) (deeper bs s.binds scope n h.0) (below sig (bound bs s.binds ++ scope) s.cat t h.1), parts_below sig scope bs ss xs h.2)

-- the instances of schemes without locals are closed terms where the root has no variables
pub closed_instances : (sig : Signature) (scope : Names) (inst : Instance) (ps : List Place) (ss : List SchemeTree) → scope.knowns ≡ [] → scope_of sig inst.root ≡ [] →
    FitsScope sig scope inst → AreSchemes sig scope [] ps ss → AllByRecursion (IsBelow 0) (map (instance_of inst 0) ss)
closed_instances sig scope inst [] [] none empty fits h = tt
closed_instances sig scope inst [] (s ∷ ss) none empty fits h = absurd h
closed_instances sig scope inst (p ∷ ps) [] none empty fits h = absurd h
closed_instances sig scope inst (p ∷ ps) (s ∷ ss) none empty fits h =
    let term : IsTerm sig ([] ++ scope_of sig inst.root) p.cat (instance_of inst 0 s) = instance_keeps_scope_of_metas sig scope inst [] p.cat s none fits h.0 in (
      below sig [] p.cat (instance_of inst 0 s) (subst (λ sc. IsTerm sig sc p.cat (instance_of inst 0 s)) empty term),
      closed_instances sig scope inst ps ss none empty fits h.1,
    )

-- the instances of schemes in which others were put in
pub instances_applied : (sig : Signature) (scope : Names) (by : Substitution) (inst : Instance) (ps : List Place) (ss : List SchemeTree) →
    IsSubstitution sig scope by → AreSchemes sig scope [] ps ss →
    map (instance_of inst 0) (map (applied by.metas by.knowns 0) ss) ≡ map (instance_of (followed scope.metas by inst) 0) ss
instances_applied sig scope by inst [] [] is h = refl
instances_applied sig scope by inst [] (s ∷ ss) is h = absurd h
instances_applied sig scope by inst (p ∷ ps) [] is h = absurd h
instances_applied sig scope by inst (p ∷ ps) (s ∷ ss) is h =
    let first = instance_of_applied_scheme sig scope by inst [] p.cat s is h.0 in
    let rest = instances_applied sig scope by inst ps ss is h.1 in
    λ i. first i ∷ rest i
