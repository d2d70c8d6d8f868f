-- Two instances that give a scheme the same instance agree on each metavariable with a strict occurrence in it.
use Rattle.std.proofs.Common.{◌≡◌, ℕ, List, [], ◌∷◌, ◌++◌, length, map, slice_get, Option, Some, None, MatchOption, unwrap_or, inl, inr, refl, ap, ◌∙◌, sym, subst}
use Rattle.binding_terms.specs.Signature.{Signature, Place, slots, binders}
use Rattle.binding_terms.specs.Scope.{bound}
use Rattle.binding_terms.specs.Tree.{Tree, var}
use Rattle.binding_terms.proofs.Lists.{match_some}
use Rattle.scheme_terms.specs.SchemeTree as schemes
use Rattle.scheme_terms.specs.SchemeTree.{SchemeTree, meta, known, local, Values, Parts, no_parts, part, StrictIn, StrictInParts}
use Rattle.scheme_terms.specs.Forms.{Names}
use Rattle.scheme_terms.specs.Instance.{instance_of, value_of, IsMetaValue}
use Rattle.scheme_terms.specs.Demands.{Demands}
use Rattle.scheme_terms.specs.Embedding.{embedded}
use Rattle.scheme_terms.specs.Substituting.{applied}
use Rattle.scheme_terms.specs.Laws.{StrictAgreement, StrictAgreementInScope, InstanceAsksForValues, SubstitutionAsksForSchemes}
use Rattle.scheme_terms.specs.SchemeScope.{IsScheme, AreValues, AreSchemeParts}
use Rattle.scheme_terms.specs.declared.scheme.MetaDecl.{MetaDecl}
use Rattle.scheme_terms.proofs.Embeddings.{embedded_injective}
use Rattle.scheme_terms.proofs.Makings.{applied_making, instance_making, strict_demands, demand_is_value}
use Rattle.scheme_terms.proofs.Options.{zip_at}
use Rattle.scheme_terms.proofs.SchemeFacts.{scheme_below}

-- both are what the strict occurrence asks for
pub strict_agreement : StrictAgreement
strict_agreement first second d m s below strict e =
    let asked = strict_demands (instance_making first) m d s (embedded (instance_of first d s)) refl strict in
    embedded_injective (value_of first m) (value_of second m)
    (demand_is_value (instance_making first) m d s (embedded (instance_of first d s)) asked.0 below refl asked.1
    ∙ sym (demand_is_value (instance_making second) m d s (embedded (instance_of first d s)) asked.0 below (ap embedded (sym e)) asked.1))

pub instance_asks : InstanceAsksForValues
instance_asks inst m d s below = (
  λ v asked. sym (demand_is_value (instance_making inst) m d s (embedded (instance_of inst d s)) v below refl asked),
  λ strict.
      let asked = strict_demands (instance_making inst) m d s (embedded (instance_of inst d s)) refl strict in
      subst (Demands m d s (embedded (instance_of inst d s)))
      (sym (demand_is_value (instance_making inst) m d s (embedded (instance_of inst d s)) asked.0 below refl asked.1)) asked.1,
)

pub substitution_asks : SubstitutionAsksForSchemes
substitution_asks by m d s below =
    let made = applied_making by.metas by.knowns in (
      λ v asked. sym (demand_is_value made m d s (applied by.metas by.knowns d s) v below refl asked),
      λ strict.
          let asked = strict_demands made m d s (applied by.metas by.knowns d s) refl strict in
          subst (Demands m d s (applied by.metas by.knowns d s)) (sym (demand_is_value made m d s (applied by.metas by.knowns d s) asked.0 below refl asked.1)) asked.1,
    )

-- a metavariable with a strict occurrence is one of the scope's
module _ (sig : Signature) (names : Names) (m : ℕ) where
  mutual
    strict_named : (ls : List ℕ) (c : ℕ) (s : SchemeTree) → IsScheme sig names ls c s → StrictIn m s → (decl : MetaDecl) × (slice_get names.metas m ≡ Some decl)
    strict_named ls c (meta n vs) h strict =
        let found = match_some (slice_get names.metas n) (λ decl. (decl.cat.0 ≡ c) × AreValues sig names ls (map (λ p. p.0) decl.params) vs) h in
        (found.0, ap (slice_get names.metas) (sym strict.0) ∙ found.1)
    strict_named ls c (known k) h strict = absurd strict
    strict_named ls c (local i) h strict = absurd strict
    strict_named ls c (schemes.con p xs) h strict =
        let found = match_some (slice_get sig.prods p) (λ prod. (prod.cat.0 ≡ c) × AreSchemeParts sig names ls (binders prod.items) (slots prod.items) xs) h in
        strict_in_parts_named ls (binders found.0.items) (slots found.0.items) xs found.2.1 strict

    strict_in_parts_named : (ls bs : List ℕ) (ss : List Place) (xs : Parts) → AreSchemeParts sig names ls bs ss xs → StrictInParts m xs →
        (decl : MetaDecl) × (slice_get names.metas m ≡ Some decl)
    strict_in_parts_named ls bs [] no_parts h strict = absurd strict
    strict_in_parts_named ls bs [] (part n s xs) h strict = absurd h
    strict_in_parts_named ls bs (at ∷ ss) no_parts h strict = absurd h
    strict_in_parts_named ls bs (at ∷ ss) (part n s xs) h (inl strict) = strict_named (bound bs at.binds ++ ls) at.cat s h.1 strict
    strict_in_parts_named ls bs (at ∷ ss) (part n s xs) h (inr strict) = strict_in_parts_named ls bs ss xs h.2 strict

given : (P : Tree → Type 0) (o : Option Tree) → MatchOption o ⊥ P → o ≡ Some (unwrap_or o (var 0))
given P None h = absurd h
given P (Some t) h = refl

pub strict_agreement_in_scope : StrictAgreementInScope
strict_agreement_in_scope sig scope first second ls c m s fits also is strict e =
    let named = strict_named sig scope m ls c s is strict in
    let one = zip_at (IsMetaValue sig first) scope.metas first.metas fits.metas m named.0 named.1 in
    let other = zip_at (IsMetaValue sig second) scope.metas second.metas also.metas m named.0 named.1 in
    let same : value_of first m ≡ value_of second m = strict_agreement first second (length ls) m s (scheme_below sig scope ls c s is) strict e in
    let values : unwrap_or one.0 (var 0) ≡ unwrap_or other.0 (var 0) =
    ap (λ o. unwrap_or (unwrap_or o None) (var 0)) (sym one.1) ∙ same ∙ ap (λ o. unwrap_or (unwrap_or o None) (var 0)) other.1 in
    one.1 ∙ ap Some (given _ one.0 one.2 ∙ ap Some values ∙ sym (given _ other.0 other.2)) ∙ sym other.1
