-- What is the same on the names of a scheme makes the same of it.
use Rattle.std.proofs.Common.{◌≡◌, ℕ, suc, ◌+◌, ◌-◌, ◌∷◌, length, inl, inr, refl, ap, ◌∙◌}
use Rattle.binding_terms.specs.Tree as terms
use Rattle.binding_terms.specs.Tree.{Tree, var, Args}
use Rattle.binding_terms.specs.Substitution as filling
use Rattle.scheme_terms.specs.SchemeTree.{SchemeTree, meta, known, local, con, Values, no_values, value, Parts, no_parts, part, filled, OccursIn, OccursInValues, OccursInParts, KnownIn, KnownInValues, KnownInParts}
use Rattle.scheme_terms.specs.Forms.{Substitution, Instance}
use Rattle.scheme_terms.specs.Instance.{instance_of, instances_of, parts_instance, argument_or_root, value_of, place_of}
use Rattle.scheme_terms.specs.Substituting.{scheme_for, known_for, argument_or_local, applied, applied_values, applied_parts}
use Rattle.scheme_terms.specs.Laws.{SubstitutionsAgree, InstancesAgree}

module _ (first second : Substitution) where
  mutual
    same_applied : (d : ℕ) (s : SchemeTree) → ((m : ℕ) → OccursIn m s → scheme_for first.metas m ≡ scheme_for second.metas m) →
        ((k : ℕ) → KnownIn k s → known_for first.knowns k ≡ known_for second.knowns k) → applied first.metas first.knowns d s ≡ applied second.metas second.knowns d s
    same_applied d (meta m vs) h k =
        ap (λ ts. filled (argument_or_local d ts) (scheme_for first.metas m)) (same_values d vs (λ n at. h n (inr at)) k)
        ∙ ap (filled (argument_or_local d (applied_values second.metas second.knowns d vs))) (h m (inl refl))
    same_applied d (known l) h k = ap known (k l refl)
    same_applied d (local i) h k = refl
    same_applied d (con p xs) h k = ap (con p) (same_parts d xs h k)

    same_values : (d : ℕ) (vs : Values) → ((m : ℕ) → OccursInValues m vs → scheme_for first.metas m ≡ scheme_for second.metas m) →
        ((k : ℕ) → KnownInValues k vs → known_for first.knowns k ≡ known_for second.knowns k) →
        applied_values first.metas first.knowns d vs ≡ applied_values second.metas second.knowns d vs
    same_values d no_values h k = refl
    same_values d (value s vs) h k =
        ap (λ t. t ∷ applied_values first.metas first.knowns d vs) (same_applied d s (λ n at. h n (inl at)) (λ n at. k n (inl at)))
        ∙ ap (λ ts. applied second.metas second.knowns d s ∷ ts) (same_values d vs (λ n at. h n (inr at)) (λ n at. k n (inr at)))

    same_parts : (d : ℕ) (xs : Parts) → ((m : ℕ) → OccursInParts m xs → scheme_for first.metas m ≡ scheme_for second.metas m) →
        ((k : ℕ) → KnownInParts k xs → known_for first.knowns k ≡ known_for second.knowns k) →
        applied_parts first.metas first.knowns d xs ≡ applied_parts second.metas second.knowns d xs
    same_parts d no_parts h k = refl
    same_parts d (part n s xs) h k =
        ap (λ t. part n t (applied_parts first.metas first.knowns d xs)) (same_applied (d + n) s (λ m at. h m (inl at)) (λ m at. k m (inl at)))
        ∙ ap (part n (applied second.metas second.knowns (d + n) s)) (same_parts d xs (λ m at. h m (inr at)) (λ m at. k m (inr at)))

pub substitutions_agree : SubstitutionsAgree
substitutions_agree first second d s h k = same_applied first second d s h k

module _ (first second : Instance) (long : length first.root.entries ≡ length second.root.entries) where
  mutual
    same_instance : (d : ℕ) (s : SchemeTree) → ((m : ℕ) → OccursIn m s → value_of first m ≡ value_of second m) →
        ((k : ℕ) → KnownIn k s → place_of first k ≡ place_of second k) → instance_of first d s ≡ instance_of second d s
    same_instance d (meta m vs) h k =
        ap (λ ts. filling.filled (argument_or_root d ts) (value_of first m)) (same_instances d vs (λ n at. h n (inr at)) k)
        ∙ ap (filling.filled (argument_or_root d (instances_of second d vs))) (h m (inl refl))
    same_instance d (known l) h k =
        ap (λ n. var (n - suc (place_of first l) + d)) long ∙ ap (λ p. var (length second.root.entries - suc p + d)) (k l refl)
    same_instance d (local i) h k = refl
    same_instance d (con p xs) h k = ap (terms.con p) (same_parts_instance d xs h k)

    same_instances : (d : ℕ) (vs : Values) → ((m : ℕ) → OccursInValues m vs → value_of first m ≡ value_of second m) →
        ((k : ℕ) → KnownInValues k vs → place_of first k ≡ place_of second k) → instances_of first d vs ≡ instances_of second d vs
    same_instances d no_values h k = refl
    same_instances d (value s vs) h k =
        ap (λ t. t ∷ instances_of first d vs) (same_instance d s (λ n at. h n (inl at)) (λ n at. k n (inl at)))
        ∙ ap (λ ts. instance_of second d s ∷ ts) (same_instances d vs (λ n at. h n (inr at)) (λ n at. k n (inr at)))

    same_parts_instance : (d : ℕ) (xs : Parts) → ((m : ℕ) → OccursInParts m xs → value_of first m ≡ value_of second m) →
        ((k : ℕ) → KnownInParts k xs → place_of first k ≡ place_of second k) → parts_instance first d xs ≡ parts_instance second d xs
    same_parts_instance d no_parts h k = refl
    same_parts_instance d (part n s xs) h k =
        ap (λ t. terms.arg n t (parts_instance first d xs)) (same_instance (d + n) s (λ m at. h m (inl at)) (λ m at. k m (inl at)))
        ∙ ap (terms.arg n (instance_of second (d + n) s)) (same_parts_instance d xs (λ m at. h m (inr at)) (λ m at. k m (inr at)))

pub instances_agree : InstancesAgree
instances_agree first second d s long h k = same_instance first second long d s h k
