-- The instance that gives each metavariable what is asked of it is the only one that can make the pairs equal.
use Rattle.std.proofs.Common.{◌≡◌, ◌⊎◌, ℕ, suc, ◌+◌, ◌<◌, ◌≤◌, List, [], ◌∷◌, length, map, Option, Some, None, MatchOption, slice_get, unwrap_or, inl, inr, refl, ap, ◌∙◌, sym, subst, arith}
use Rattle.std.specs.List.{AllByRecursion, AllZip}
use Rattle.std.proofs.lemmas.Bool.{cases_lt}
use Rattle.std.proofs.lemmas.Option.{slice_get_within, slice_get_past}
use Rattle.std.proofs.lemmas.Slice.Zip.{AllZip-long}
use Rattle.binding_terms.specs.Numbered.{AnyByRecursion}
use Rattle.binding_terms.specs.Tree.{Tree, var}
use Rattle.binding_terms.proofs.Lists.{some_within, numbered_at}
use Rattle.scheme_terms.specs.Forms.{ContextValue, Instance}
use Rattle.scheme_terms.specs.Embedding.{embedded}
use Rattle.scheme_terms.specs.Instance.{value_of, IsMetaValue}
use Rattle.scheme_terms.specs.declared.scheme.MetaDecl.{MetaDecl}
use Rattle.scheme_terms.proofs.Embeddings.{embedded_injective}
use Rattle.scheme_terms.proofs.Options.{zip_at}
use Rattle.scheme_match.specs.Matching.{Matching, IsMatching, IsMatch, IsOnlyMatch, StrictInPair, AreStrict}
use Rattle.scheme_match.specs.Demands.{PairsDemand, IsAsked, AreAsked, Becomes}
use Rattle.scheme_match.proofs.PairLemmas.{all_become, all_equal, pairs_value, pairs_strict, pairs_typed}

-- two lists with the same elements
same_lists : {A : Type 0} (xs ys : List A) → ((k : ℕ) → slice_get xs k ≡ slice_get ys k) → xs ≡ ys
same_lists [] [] h = refl
same_lists [] (y ∷ ys) h = let e = h 0 in cc
same_lists (x ∷ xs) [] h = let e = h 0 in cc
same_lists (x ∷ xs) (y ∷ ys) h =
    let first : Some x ≡ Some y = h 0 in
    let rest : xs ≡ ys = same_lists xs ys (λ k. h (suc k)) in
    cc

zip_from_places : {A B : Type 0} (R : A → B → Type 0) (xs : List A) (ys : List B) → length ys ≡ length xs →
    ((k : ℕ) (x : A) (y : B) → slice_get xs k ≡ Some x → slice_get ys k ≡ Some y → R x y) → AllZip R xs ys
zip_from_places R [] [] long h = tt
zip_from_places R [] (y ∷ ys) long h = absurd (omega (arith, long))
zip_from_places R (x ∷ xs) [] long h = absurd (omega (arith, long))
zip_from_places R (x ∷ xs) (y ∷ ys) long h = (h 0 x y refl refl, zip_from_places R xs ys (omega (arith, long)) (λ k. h (suc k)))

set_value : (inst : Instance) (m : ℕ) (o : Option Tree) (t : Tree) → slice_get inst.metas m ≡ Some o → o ≡ Some t → value_of inst m ≡ t
set_value inst m o t e f = ap (λ x. unwrap_or (unwrap_or x None) (var 0)) (e ∙ ap Some f)

given : {P : Tree → Type 0} (o : Option Tree) → MatchOption o ⊥ P → (t : Tree) × (o ≡ Some t) × P t
given None h = absurd h
given (Some t) h = (t, refl, h)

module _ (m : Matching) (ok : IsMatching m) (strict : AreStrict m) where
  become : (inst : Instance) → IsMatch m inst → AllByRecursion (Becomes inst) m.pairs
  become inst is = all_become m.sig ok.sig_fits m.metas m.root inst is.root m.pairs is.pairs

  strict_at : (k : ℕ) (decl : MetaDecl) → slice_get m.metas k ≡ Some decl → AnyByRecursion (StrictInPair k) m.pairs
  strict_at k decl e =
      subst (λ n. AnyByRecursion (StrictInPair n) m.pairs) (let z : 0 + k ≡ k = omega arith in z)
      (numbered_at (λ n decl. AnyByRecursion (StrictInPair n) m.pairs) 0 m.metas k decl strict e)

  -- where nothing is asked of a metavariable, no pairs become equal
  pub none_unasked : AreAsked m.root m.pairs m.metas None → IsOnlyMatch m None
  none_unasked unasked inst is =
      let decl = some_within m.metas unasked.0 unasked.1 in
      let found = pairs_strict m.sig ok.sig_fits m.metas m.root inst is.root unasked.0 m.pairs (become inst is) (strict_at unasked.0 decl.0 decl.1) in
      unasked.2 found.0 found.1

  module _ (values : List (Option Tree)) (asked : AreAsked m.root m.pairs m.metas (Some values)) where
    abbrev pub candidate : Instance
    candidate = record { metas = values; knowns = map Some m.knowns; root = m.root }

    asked_at : (k : ℕ) (o : Option Tree) → slice_get values k ≡ Some o → (t : Tree) × (o ≡ Some t) × PairsDemand m.root k m.pairs (embedded t)
    asked_at k o e =
        given o (subst (λ n. IsAsked m.root m.pairs n o) (let z : 0 + k ≡ k = omega arith in z) (numbered_at (IsAsked m.root m.pairs) 0 values k o asked.1 e))

    -- a match gives each metavariable what is asked of it
    same_at : (inst : Instance) → IsMatch m inst → (k : ℕ) (o : Option Tree) → slice_get values k ≡ Some o → slice_get inst.metas k ≡ Some o
    same_at inst is k o e =
        let at = asked_at k o e in
        let decl = some_within m.metas k (omega (arith, asked.0, slice_get_within values k o e)) in
        let there = zip_at (IsMetaValue m.sig inst) m.metas inst.metas is.metas k decl.0 decl.1 in
        let own = given there.0 there.2 in
        let value : value_of inst k ≡ own.0 = set_value inst k there.0 own.0 there.1 own.1 in
        let same : own.0 ≡ at.0 = embedded_injective own.0 at.0 (ap embedded (sym value)
        ∙ pairs_value m.sig ok.sig_fits m.metas m.root inst is.root k m.pairs (embedded at.0) ok.pairs (become inst is) at.2) in
        there.1 ∙ ap Some (own.1 ∙ ap Some same ∙ sym at.1)

    metas_same : (inst : Instance) → IsMatch m inst → inst.metas ≡ values
    metas_same inst is = same_lists inst.metas values (λ k. at k (cases_lt k (length values)))
      where
        at : (k : ℕ) → (k < length values) ⊎ (length values ≤ k) → slice_get inst.metas k ≡ slice_get values k
        at k (inl h) = let here = some_within values k h in same_at inst is k here.0 here.1 ∙ sym here.1
        at k (inr h) =
            slice_get_past inst.metas k (omega (arith, asked.0, h, AllZip-long (IsMetaValue m.sig inst) m.metas inst.metas is.metas))
            ∙ sym (slice_get_past values k h)

    only_one : (inst : Instance) → IsMatch m inst → inst ≡ candidate
    only_one inst is =
        let first = metas_same inst is in
        let second = is.knowns in
        let third = is.root in
        λ i. record { metas = first i; knowns = second i; root = third i }

    -- where it fails, none matches
    pub none_becomes : (AllByRecursion (Becomes candidate) m.pairs → ⊥) → IsOnlyMatch m None
    none_becomes fails inst is = fails (subst (λ i. AllByRecursion (Becomes i) m.pairs) (only_one inst is) (become inst is))

    candidate_value : AllByRecursion (Becomes candidate) m.pairs → (k : ℕ) (decl : MetaDecl) (o : Option Tree) → slice_get m.metas k ≡ Some decl → slice_get values k ≡ Some o →
        IsMetaValue m.sig candidate decl o
    candidate_value all k decl o e f =
        let at = asked_at k o f in
        let typed = pairs_typed m.sig ok.sig_fits m.metas m.root candidate refl k decl e m.pairs ok.pairs all (strict_at k decl e) in
        subst (IsMetaValue m.sig candidate decl) (ap Some (set_value candidate k o at.0 f at.1) ∙ sym at.1) typed

    -- where it makes the pairs equal, it is the one
    pub one_becomes : AllByRecursion (Becomes candidate) m.pairs → IsOnlyMatch m (Some candidate)
    one_becomes all = (
      record {
        root = refl;
        metas = zip_from_places (IsMetaValue m.sig candidate) m.metas values asked.0 (candidate_value all);
        knowns = refl;
        pairs = all_equal m.sig ok.sig_fits m.metas m.root candidate refl m.pairs ok.pairs all;
      },
      only_one,
    )

    pub candidate_is : (knowns : List (Option ℕ)) (root : ContextValue) → knowns ≡ map Some m.knowns → root ≡ m.root →
        ◌≡◌ {A = Instance} (record { metas = values; knowns = knowns; root = root }) candidate
    candidate_is knowns root e f = λ i. record { metas = values; knowns = e i; root = f i }

    pub none_becomes_as : (inst : Instance) → inst ≡ candidate → (AllByRecursion (Becomes inst) m.pairs → ⊥) → IsOnlyMatch m None
    none_becomes_as inst e fails = none_becomes (λ all. fails (subst (λ i. AllByRecursion (Becomes i) m.pairs) (sym e) all))

    pub one_becomes_as : (inst : Instance) → inst ≡ candidate → AllByRecursion (Becomes inst) m.pairs → IsOnlyMatch m (Some inst)
    one_becomes_as inst e all = subst (λ i. IsOnlyMatch m (Some i)) (sym e) (one_becomes (subst (λ i. AllByRecursion (Becomes i) m.pairs) e all))
