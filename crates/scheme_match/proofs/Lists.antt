-- Patterns that are to become terms, place by place.
use Rattle.std.proofs.Common.{◌≡◌, ℕ, List, [], ◌∷◌, ◌++◌, length, map, Some, slice_get, inl, inr, ap, sym, subst}
use Rattle.std.specs.List.{AllByRecursion}
use Rattle.binding_terms.specs.Numbered.{AnyByRecursion}
use Rattle.binding_terms.specs.Signature.{Signature, Place}
use Rattle.binding_terms.specs.Scope.{IsTerm}
use Rattle.binding_terms.specs.Tree.{Tree}
use Rattle.binding_terms.proofs.Lists.{cons_head, cons_tail}
use Rattle.scheme_terms.specs.SchemeTree.{SchemeTree, StrictIn}
use Rattle.scheme_terms.specs.Forms.{Names, Instance}
use Rattle.scheme_terms.specs.Context.{AreArguments}
use Rattle.scheme_terms.specs.Instance.{instance_of, value_of}
use Rattle.scheme_terms.specs.SchemeScope.{IsScheme, AreSchemes, params_scope}
use Rattle.scheme_terms.specs.Substituting.{LocalsBelow}
use Rattle.scheme_terms.specs.Embedding.{embedded}
use Rattle.scheme_terms.specs.declared.scheme.MetaDecl.{MetaDecl}
use Rattle.scheme_terms.proofs.Embeddings.{embedded_is_scheme, embedded_is_term}
use Rattle.scheme_terms.proofs.Makings.{instance_making, demand_is_value, strict_demands}
use Rattle.scheme_terms.proofs.SchemeFacts.{scheme_below}
use Rattle.scheme_terms.proofs.StrictTyped.{strict_is_scheme}
use Rattle.scheme_match.specs.Demands.{ListDemands}

pub schemes_below : (sig : Signature) (names : Names) (ls : List ℕ) (places : List Place) (ss : List SchemeTree) → AreSchemes sig names ls places ss →
    AllByRecursion (LocalsBelow (length ls)) ss
schemes_below sig names ls [] [] is = tt
schemes_below sig names ls [] (s ∷ ss) is = absurd is
schemes_below sig names ls (p ∷ ps) [] is = absurd is
schemes_below sig names ls (p ∷ ps) (s ∷ ss) is = (scheme_below sig names ls p.cat s is.0, schemes_below sig names ls ps ss is.1)

module _ (inst : Instance) (m d : ℕ) where
  -- what is asked is the value
  pub list_value : (ss : List SchemeTree) (ts : List Tree) (v : SchemeTree) → AllByRecursion (LocalsBelow d) ss → map (instance_of inst d) ss ≡ ts →
      ListDemands m d ss ts v → embedded (value_of inst m) ≡ v
  list_value [] ts v below e asked = absurd asked
  list_value (s ∷ ss) [] v below e asked = absurd asked
  list_value (s ∷ ss) (t ∷ ts) v below e (inl asked) =
      demand_is_value (instance_making inst) m d s (embedded t) v below.0 (ap embedded (cons_head e)) asked
  list_value (s ∷ ss) (t ∷ ts) v below e (inr asked) = list_value ss ts v below.1 (cons_tail e) asked

  -- a strict occurrence asks for something
  pub list_strict : (ss : List SchemeTree) (ts : List Tree) → map (instance_of inst d) ss ≡ ts → AnyByRecursion (StrictIn m) ss →
      (v : SchemeTree) × ListDemands m d ss ts v
  list_strict [] ts e strict = absurd strict
  list_strict (s ∷ ss) [] e strict = absurd (let no : ⊥ = cc in no)
  list_strict (s ∷ ss) (t ∷ ts) e (inl strict) =
      let found = strict_demands (instance_making inst) m d s (embedded t) (ap embedded (cons_head e)) strict in
      (found.0, inl found.1)
  list_strict (s ∷ ss) (t ∷ ts) e (inr strict) =
      let found = list_strict ss ts (cons_tail e) strict in
      (found.0, inr found.1)

-- a strict occurrence types the value
module _ (outer beyond : List ℕ) (wide : (i c : ℕ) → slice_get outer i ≡ Some c → slice_get beyond i ≡ Some c) (sig : Signature) (names : Names)
    (inst : Instance) (m : ℕ) (decl : MetaDecl) (named : slice_get names.metas m ≡ Some decl) where
  pub one_typed : (ls : List ℕ) (c : ℕ) (s : SchemeTree) (t : Tree) → IsScheme sig names ls c s → IsTerm sig (ls ++ outer) c t →
      instance_of inst (length ls) s ≡ t → StrictIn m s → IsTerm sig (params_scope decl ++ beyond) decl.cat.0 (value_of inst m)
  one_typed ls c s t is term e strict =
      embedded_is_term sig names (params_scope decl ++ beyond) decl.cat.0 (value_of inst m)
      (strict_is_scheme outer beyond wide sig names names (instance_making inst) m decl named ls c s strict is
      (embedded_is_scheme sig names (ls ++ outer) c (instance_of inst (length ls) s) (subst (IsTerm sig (ls ++ outer) c) (sym e) term)))

  pub list_typed : (ls : List ℕ) (places : List Place) (ss : List SchemeTree) (ts : List Tree) → AreSchemes sig names ls places ss →
      AreArguments sig (ls ++ outer) places ts → map (instance_of inst (length ls)) ss ≡ ts → AnyByRecursion (StrictIn m) ss →
      IsTerm sig (params_scope decl ++ beyond) decl.cat.0 (value_of inst m)
  list_typed ls [] [] ts is terms e strict = absurd strict
  list_typed ls [] (s ∷ ss) ts is terms e strict = absurd is
  list_typed ls (p ∷ ps) [] ts is terms e strict = absurd strict
  list_typed ls (p ∷ ps) (s ∷ ss) [] is terms e strict = absurd terms
  list_typed ls (p ∷ ps) (s ∷ ss) (t ∷ ts) is terms e (inl strict) = one_typed ls p.cat s t is.0 terms.0 (cons_head e) strict
  list_typed ls (p ∷ ps) (s ∷ ss) (t ∷ ts) is terms e (inr strict) = list_typed ls ps ss ts is.1 terms.1 (cons_tail e) strict
