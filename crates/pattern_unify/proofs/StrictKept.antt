-- A strict occurrence stays one where its metavariable becomes one on some of its parameters.
use Rattle.std.proofs.Common.{◌≡◌, inl, inr, ℕ, suc, ◌+◌, ◌-◌, ◌<◌, Bool, true, false, List, [], ◌∷◌, length, map, reverse, get_or, Some, slice_get, refl, ap, sym, ◌∙◌, subst, arith}
use Rattle.std.specs.List.{AllByRecursion}
use Rattle.std.proofs.lemmas.List.{length-map, get_or-reverse}
use Rattle.std.proofs.lemmas.Option.{unwrap_or-slice_get}
use Rattle.binding_terms.specs.Numbered.{AnyByRecursion}
use Rattle.binding_terms.proofs.Lists.{match_at}
use Rattle.scheme_terms.specs.SchemeTree.{SchemeTree, meta, known, local, con, Values, no_values, value, values, listed, Parts, no_parts, part, filled, filled_values, AreDistinctLocals, IsApart, StrictIn, StrictInParts}
use Rattle.scheme_terms.specs.Substituting.{scheme_for, argument_or_local, applied, applied_values, applied_parts, params, parameters, IsSaturated, PartsAreSaturated}
use Rattle.scheme_terms.specs.Demands.{numbers}
use Rattle.scheme_terms.specs.declared.scheme.MetaDecl.{MetaDecl}
use Rattle.scheme_terms.proofs.Arguments.{argument_at}
use Rattle.scheme_terms.proofs.Makings.{applied_locals}
use Rattle.pattern_unify.specs.Patterns.{marked}
use Rattle.pattern_unify.proofs.MoveValues.{numbers_long}

-- the marked parameters with schemes put in for them
read_marked : (f : ℕ → SchemeTree) (keeps : List Bool) (args : List SchemeTree) → ((i : ℕ) → i < length args → f (length args - 1 - i) ≡ get_or args i (local 0)) →
    filled_values f (values (marked keeps (parameters (length args)))) ≡ values (marked keeps args)
read_marked f [] args h = refl
read_marked f (b ∷ bs) [] h = refl
read_marked f (true ∷ bs) (s ∷ args) h =
    let first : f (length args) ≡ s = ap f (let e : length args ≡ suc (length args) - 1 - 0 = omega arith in e) ∙ h 0 (omega arith) in
    ap (λ t. value t (filled_values f (values (marked bs (parameters (length args)))))) first
    ∙ ap (value s) (read_marked f bs args (λ i below. ap f (let e : length args - 1 - i ≡ suc (length args) - 1 - suc i = omega arith in e) ∙ h (suc i) (omega (arith, below))))
read_marked f (false ∷ bs) (s ∷ args) h =
    read_marked f bs args (λ i below. ap f (let e : length args - 1 - i ≡ suc (length args) - 1 - suc i = omega arith in e) ∙ h (suc i) (omega (arith, below)))

pub argument_is : (d : ℕ) (args : List SchemeTree) (i : ℕ) → i < length args → argument_or_local d args (length args - 1 - i) ≡ get_or args i (local 0)
argument_is d args i below =
    argument_at (local 0) (λ k. local (k + d)) args (length args - 1 - i) (omega (arith, below))
    ∙ unwrap_or-slice_get (reverse args) (length args - 1 - i) (local 0)
    ∙ get_or-reverse args (length args - 1 - i) (local 0) (omega (arith, below))
    ∙ ap (λ k. get_or args k (local 0)) (let e : length args - 1 - (length args - 1 - i) ≡ i = omega (arith, below) in e)

-- some of distinct locals are distinct
some_apart : (i : ℕ) (keeps : List Bool) (ns : List ℕ) → IsApart i (values (map local ns)) → IsApart i (values (marked keeps (map local ns)))
some_apart i [] ns h = tt
some_apart i (b ∷ bs) [] h = tt
some_apart i (true ∷ bs) (n ∷ ns) h = (h.0, some_apart i bs ns h.1)
some_apart i (false ∷ bs) (n ∷ ns) h = some_apart i bs ns h.1

some_distinct : (keeps : List Bool) (ns : List ℕ) → AreDistinctLocals (values (map local ns)) → AreDistinctLocals (values (marked keeps (map local ns)))
some_distinct [] ns h = tt
some_distinct (b ∷ bs) [] h = tt
some_distinct (true ∷ bs) (n ∷ ns) h = (some_apart n bs ns h.0, some_distinct bs ns h.1)
some_distinct (false ∷ bs) (n ∷ ns) h = some_distinct bs ns h.1

numbers_again : (vs : Values) → AreDistinctLocals vs → values (map local (numbers vs)) ≡ vs
numbers_again no_values h = refl
numbers_again (value (local i) vs) h = ap (value (local i)) (numbers_again vs h.1)
numbers_again (value (meta m ws) vs) h = absurd h
numbers_again (value (known l) vs) h = absurd h
numbers_again (value (con p xs) vs) h = absurd h

module _ (ss : List SchemeTree) (ks : List ℕ) (metas : List MetaDecl) (n q : ℕ) (decl : MetaDecl) (keeps : List Bool) (declared : slice_get metas n ≡ Some decl)
    (becomes : scheme_for ss n ≡ meta q (values (marked keeps (parameters (params decl))))) where
  here_kept : (d : ℕ) (vs : Values) → AreDistinctLocals vs → length (listed vs) ≡ params decl → StrictIn q (applied ss ks d (meta n vs))
  here_kept d vs distinct long =
      subst (λ s. StrictIn q (filled (argument_or_local d (applied_values ss ks d vs)) s)) (sym becomes) (refl, subst AreDistinctLocals (sym arguments) there)
    where
      args : List SchemeTree
      args = map local (numbers vs)

      count : length (map local (numbers vs)) ≡ params decl
      count = length-map (numbers vs) local ∙ numbers_long vs ∙ long

      arguments : filled_values (argument_or_local d (applied_values ss ks d vs)) (values (marked keeps (parameters (params decl)))) ≡ values (marked keeps (map local (numbers vs)))
      arguments =
          ap (λ ts. filled_values (argument_or_local d ts) (values (marked keeps (parameters (params decl))))) (applied_locals ss ks d vs distinct)
          ∙ ap (λ p. filled_values (argument_or_local d (map local (numbers vs))) (values (marked keeps (parameters p)))) (sym count)
          ∙ read_marked (argument_or_local d (map local (numbers vs))) keeps (map local (numbers vs)) (λ i below. argument_is d (map local (numbers vs)) i below)

      there : AreDistinctLocals (values (marked keeps (map local (numbers vs))))
      there = some_distinct keeps (numbers vs) (subst AreDistinctLocals (sym (numbers_again vs distinct)) distinct)

  mutual
    pub strict_kept : (d : ℕ) (s : SchemeTree) → IsSaturated metas s → StrictIn n s → StrictIn q (applied ss ks d s)
    strict_kept d (meta k vs) sat h =
        let long : length (listed vs) ≡ params decl =
        match_at (slice_get metas k) (λ x. length (listed vs) ≡ params x) decl (ap (slice_get metas) h.0 ∙ declared) sat.0 in
        subst (λ j. StrictIn q (applied ss ks d (meta j vs))) (sym h.0) (here_kept d vs h.1 long)
    strict_kept d (known k) sat h = absurd h
    strict_kept d (local i) sat h = absurd h
    strict_kept d (con p xs) sat h = strict_kept_parts d xs sat h

    strict_kept_parts : (d : ℕ) (xs : Parts) → PartsAreSaturated metas xs → StrictInParts n xs → StrictInParts q (applied_parts ss ks d xs)
    strict_kept_parts d no_parts sat h = absurd h
    strict_kept_parts d (part b s xs) sat (inl h) = inl (strict_kept (d + b) s sat.0 h)
    strict_kept_parts d (part b s xs) sat (inr h) = inr (strict_kept_parts d xs sat.1 h)

  pub strict_kept_in : (ts : List SchemeTree) → AllByRecursion (IsSaturated metas) ts → AnyByRecursion (StrictIn n) ts → AnyByRecursion (StrictIn q) (map (applied ss ks 0) ts)
  strict_kept_in [] sat h = absurd h
  strict_kept_in (t ∷ ts) sat (inl h) = inl (strict_kept 0 t sat.0 h)
  strict_kept_in (t ∷ ts) sat (inr h) = inr (strict_kept_in ts sat.1 h)
