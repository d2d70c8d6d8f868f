-- The instance of a form without a context depends on the values of its names alone.
use Rattle.std.proofs.Common.{◌≡◌, ℕ, ◌<◌, List, [], ◌∷◌, length, map, inl, inr, refl, ap, ◌∙◌, sym, subst}
use Rattle.binding_terms.specs.Numbered.{AnyByRecursion}
use Rattle.binding_terms.specs.Signature.{Place}
use Rattle.scheme_terms.specs.SchemeTree.{SchemeTree, meta, known, local, con, Parts, no_parts, part, OccursIn, OccursInValues, OccursInParts, KnownIn, KnownInValues, KnownInParts}
use Rattle.scheme_terms.specs.Forms.{Names, Instance}
use Rattle.scheme_terms.specs.Instance.{instance_of, value_of}
use Rattle.scheme_terms.specs.SchemeScope.{IsScheme, AreSchemes}
use Rattle.scheme_terms.proofs.Agreements.{instances_agree}
use Rattle.pattern_unify.proofs.PlainSchemes.{IsPlain, ArePlain, plain_scheme}
use Rattle.rule_schemes.specs.Plain.{IsPlainSystem}
use Rattle.rule_schemes.specs.Rules.{JudgmentScheme, Theory, judgment_instance}
use Rattle.rule_schemes.specs.Statement.{OccursInJudgment}
use Rattle.core_proofs.specs.Plain.{IsPlainScope, IsPlainForm}
use Rattle.core_proofs.proofs.ClosedForms.{closed_form, no_value}
use Rattle.core_proofs.proofs.RuleFitting.{places, bare}

mutual
  occurs_below : (n m : ℕ) (s : SchemeTree) → IsPlain n s → OccursIn m s → m < n
  occurs_below n m (meta k vs) is (inl e) = subst (λ j. j < n) e is.0
  occurs_below n m (meta k vs) is (inr h) = absurd (subst (OccursInValues m) is.1 h)
  occurs_below n m (known k) is h = absurd is
  occurs_below n m (local i) is h = absurd is
  occurs_below n m (con p xs) is h = occurs_below_parts n m xs is h

  occurs_below_parts : (n m : ℕ) (xs : Parts) → ArePlain n xs → OccursInParts m xs → m < n
  occurs_below_parts n m no_parts is h = absurd h
  occurs_below_parts n m (part b s xs) is (inl h) = occurs_below n m s is.1 h
  occurs_below_parts n m (part b s xs) is (inr h) = occurs_below_parts n m xs is.2 h

mutual
  no_known : (n k : ℕ) (s : SchemeTree) → IsPlain n s → KnownIn k s → ⊥
  no_known n k (meta m vs) is h = subst (KnownInValues k) is.1 h
  no_known n k (known l) is h = is
  no_known n k (local i) is h = is
  no_known n k (con p xs) is h = no_known_parts n k xs is h

  no_known_parts : (n k : ℕ) (xs : Parts) → ArePlain n xs → KnownInParts k xs → ⊥
  no_known_parts n k no_parts is h = h
  no_known_parts n k (part b s xs) is (inl h) = no_known n k s is.1 h
  no_known_parts n k (part b s xs) is (inr h) = no_known_parts n k xs is.2 h

module _ (th : Theory) (system : IsPlainSystem th) (scope : Names) (plain : IsPlainScope scope) where
  is_plain : (c : ℕ) (s : SchemeTree) → IsScheme th.sig scope [] c s → IsPlain (length scope.metas) s
  is_plain = plain_scheme th.sig scope system.plain.sig.no_binding plain.metas plain.knowns

  all_below : (ps : List Place) (ss : List SchemeTree) → AreSchemes th.sig scope [] ps ss → (m : ℕ) → AnyByRecursion (OccursIn m) ss → m < length scope.metas
  all_below [] [] is m h = absurd h
  all_below [] (s ∷ ss) is m h = absurd is
  all_below (p ∷ ps) [] is m h = absurd is
  all_below (p ∷ ps) (s ∷ ss) is m (inl h) = occurs_below (length scope.metas) m s (is_plain p.cat s is.0) h
  all_below (p ∷ ps) (s ∷ ss) is m (inr h) = all_below ps ss is.1 m h

  -- a name that stands in a form is one of the scope
  pub names_below : (j : JudgmentScheme) → IsPlainForm th scope j → (m : ℕ) → OccursInJudgment m j → m < length scope.metas
  names_below j form m (inl h) = absurd (subst (λ es. AnyByRecursion (λ e. AnyByRecursion (OccursIn m) e.args) es) (bare th scope j form).entries h)
  names_below j form m (inr h) = all_below (places th j.judgment) j.args (bare th scope j form).args m h

  module _ (first second : Instance) (root : length first.root.entries ≡ length second.root.entries)
      (agree : (m : ℕ) → m < length scope.metas → value_of first m ≡ value_of second m) where
    same_terms : (ps : List Place) (ss : List SchemeTree) → AreSchemes th.sig scope [] ps ss → map (instance_of first 0) ss ≡ map (instance_of second 0) ss
    same_terms [] [] is = refl
    same_terms [] (s ∷ ss) is = absurd is
    same_terms (p ∷ ps) [] is = absurd is
    same_terms (p ∷ ps) (s ∷ ss) is =
        let plain_s = is_plain p.cat s is.0 in
        let one = instances_agree first second 0 s root (λ m h. agree m (occurs_below (length scope.metas) m s plain_s h))
        (λ k h. absurd (no_known (length scope.metas) k s plain_s h)) in
        let rest = same_terms ps ss is.1 in
        λ i. one i ∷ rest i

    -- instances that agree on the names give a form the same judgment
    pub same_judgment : (j : JudgmentScheme) → IsPlainForm th scope j → judgment_instance first j ≡ judgment_instance second j
    same_judgment j form =
        let is = bare th scope j form in
        let terms = same_terms (places th j.judgment) j.args is.args in
        let middle : judgment_instance first (closed_form j.judgment j.args) ≡ judgment_instance second (closed_form j.judgment j.args) =
        λ i. record { judgment = j.judgment; context = no_value; args = terms i } in
        ap (judgment_instance first) is.form ∙ middle ∙ ap (judgment_instance second) (sym is.form)

-- the arguments of a form's instance
pub instance_args : (th : Theory) (scope : Names) (inst : Instance) (j : JudgmentScheme) → IsPlainForm th scope j → (judgment_instance inst j).args ≡ map (instance_of inst 0) j.args
instance_args th scope inst j form = ap (λ es. map (instance_of inst (length es)) j.args) (bare th scope j form).entries
