-- What is made of schemes: instances, and schemes with schemes put in. A strict occurrence in what becomes a target tells the value.
use Rattle.std.proofs.Common.{◌≡◌, ℕ, ◌+◌, List, ◌∷◌, map, inl, inr, refl, ap, ◌∙◌, sym}
use Rattle.binding_terms.specs.Tree.{Tree, var}
use Rattle.scheme_terms.specs.SchemeTree.{SchemeTree, meta, known, local, con, Values, no_values, value, Parts, no_parts, part, filled, AreDistinctLocals, StrictIn, StrictInParts}
use Rattle.scheme_terms.specs.Forms.{Instance}
use Rattle.scheme_terms.specs.Instance.{instance_of, instances_of, parts_instance, argument_or_root, value_of}
use Rattle.scheme_terms.specs.Embedding.{embedded, embedded_args}
use Rattle.scheme_terms.specs.Substituting.{scheme_for, argument_or_local, applied, applied_values, applied_parts, LocalsBelow, PartsBelow}
use Rattle.scheme_terms.specs.Demands.{numbers, lowered, Demands, PartsDemand}
use Rattle.scheme_terms.proofs.Arguments.{argument_mapped}
use Rattle.scheme_terms.proofs.Embeddings.{embedded_filled}
use Rattle.scheme_terms.proofs.Lowering.{numbers_different, numbers_below, lowered_filled}

-- What is made of schemes under locals: a metavariable applied to different locals becomes its value, applied to them, and
-- productions stay. What becomes of anything else is free.
pub record Making : Type 0 where
  pub stands_for : ℕ → SchemeTree
  pub make : (locals : ℕ) → SchemeTree → SchemeTree
  pub make_parts : (locals : ℕ) → Parts → Parts
  pub of_meta : (d m : ℕ) (vs : Values) → AreDistinctLocals vs → make d (meta m vs) ≡ filled (argument_or_local d (map local (numbers vs))) (stands_for m)
  pub of_con : (d p : ℕ) (xs : Parts) → make d (con p xs) ≡ con p (make_parts d xs)
  pub of_none : (d : ℕ) → make_parts d no_parts ≡ no_parts
  pub of_part : (d n : ℕ) (s : SchemeTree) (xs : Parts) → make_parts d (part n s xs) ≡ part n (make (d + n) s) (make_parts d xs)

pub applied_locals : (ss : List SchemeTree) (ks : List ℕ) (d : ℕ) (vs : Values) → AreDistinctLocals vs → applied_values ss ks d vs ≡ map local (numbers vs)
applied_locals ss ks d no_values h = refl
applied_locals ss ks d (value (local i) vs) h = ap (λ ts. local i ∷ ts) (applied_locals ss ks d vs h.1)
applied_locals ss ks d (value (meta m ws) vs) h = absurd h
applied_locals ss ks d (value (known l) vs) h = absurd h
applied_locals ss ks d (value (con p xs) vs) h = absurd h

abbrev pub applied_making : (ss : List SchemeTree) (ks : List ℕ) → Making
applied_making ss ks = record {
  stands_for = scheme_for ss;
  make = applied ss ks;
  make_parts = applied_parts ss ks;
  of_meta = λ d m vs h. ap (λ ts. filled (argument_or_local d ts) (scheme_for ss m)) (applied_locals ss ks d vs h);
  of_con = λ d p xs. refl;
  of_none = λ d. refl;
  of_part = λ d n s xs. refl;
}

pub instances_locals : (inst : Instance) (d : ℕ) (vs : Values) → AreDistinctLocals vs → map embedded (instances_of inst d vs) ≡ map local (numbers vs)
instances_locals inst d no_values h = refl
instances_locals inst d (value (local i) vs) h = ap (λ ts. local i ∷ ts) (instances_locals inst d vs h.1)
instances_locals inst d (value (meta m ws) vs) h = absurd h
instances_locals inst d (value (known l) vs) h = absurd h
instances_locals inst d (value (con p xs) vs) h = absurd h

pub embedded_arguments : (d : ℕ) (ts : List Tree) → ◌≡◌ {A = ℕ → SchemeTree} (λ i. embedded (argument_or_root d ts i)) (argument_or_local d (map embedded ts))
embedded_arguments d ts = λ k i. argument_mapped embedded (var 0) (local 0) (λ j. var (j + d)) (λ j. local (j + d)) ts (λ j. refl) i k

abbrev pub instance_making : Instance → Making
instance_making inst = record {
  stands_for = λ m. embedded (value_of inst m);
  make = λ d s. embedded (instance_of inst d s);
  make_parts = λ d xs. embedded_args (parts_instance inst d xs);
  of_meta = λ d m vs h. embedded_filled (argument_or_root d (instances_of inst d vs)) (value_of inst m)
      ∙ ap (λ f. filled f (embedded (value_of inst m))) (embedded_arguments d (instances_of inst d vs))
      ∙ ap (λ ts. filled (argument_or_local d ts) (embedded (value_of inst m))) (instances_locals inst d vs h);
  of_con = λ d p xs. refl;
  of_none = λ d. refl;
  of_part = λ d n s xs. refl;
}

con_same : (p q : ℕ) (xs ys : Parts) → con p xs ≡ con q ys → (p ≡ q) × (xs ≡ ys)
con_same p q xs ys e = (cc, cc)

part_same : (m n : ℕ) (s t : SchemeTree) (xs ys : Parts) → part m s xs ≡ part n t ys → (m ≡ n) × (s ≡ t) × (xs ≡ ys)
part_same m n s t xs ys e = (cc, cc, cc)

module _ (made : Making) (m : ℕ) where
  -- what is asked of a metavariable where a pattern becomes its target is its value
  mutual
    pub demand_is_value : (d : ℕ) (s t v : SchemeTree) → LocalsBelow d s → made.make d s ≡ t → Demands m d s t v → made.stands_for m ≡ v
    demand_is_value d (meta n vs) t v below e asked =
        ap made.stands_for (sym asked.0)
        ∙ sym (lowered_filled (numbers vs) d (made.stands_for n) (numbers_different vs asked.1) (numbers_below d vs asked.1 below))
        ∙ ap (lowered (numbers vs) d) (sym (made.of_meta d n vs asked.1) ∙ e) ∙ sym asked.2
    demand_is_value d (known k) t v below e asked = absurd asked
    demand_is_value d (local i) t v below e asked = absurd asked
    demand_is_value d (con p xs) (meta n ws) v below e asked = absurd asked
    demand_is_value d (con p xs) (known k) v below e asked = absurd asked
    demand_is_value d (con p xs) (local j) v below e asked = absurd asked
    demand_is_value d (con p xs) (con q ys) v below e asked =
        demand_is_value_parts d xs ys v below (con_same p q _ ys (sym (made.of_con d p xs) ∙ e)).1 asked.1

    demand_is_value_parts : (d : ℕ) (xs ys : Parts) (v : SchemeTree) → PartsBelow d xs → made.make_parts d xs ≡ ys → PartsDemand m d xs ys v → made.stands_for m ≡ v
    demand_is_value_parts d no_parts ys v below e asked = absurd asked
    demand_is_value_parts d (part a s xs) no_parts v below e asked = absurd asked
    demand_is_value_parts d (part a s xs) (part b t ys) v below e (inl asked) =
        demand_is_value (d + a) s t v below.0 (part_same a b _ t _ ys (sym (made.of_part d a s xs) ∙ e)).1 asked.1
    demand_is_value_parts d (part a s xs) (part b t ys) v below e (inr asked) =
        demand_is_value_parts d xs ys v below.1 (part_same a b _ t _ ys (sym (made.of_part d a s xs) ∙ e)).2 asked

  -- where a pattern becomes its target, a strict occurrence asks for something
  mutual
    pub strict_demands : (d : ℕ) (s t : SchemeTree) → made.make d s ≡ t → StrictIn m s → (v : SchemeTree) × Demands m d s t v
    strict_demands d (meta n vs) t e strict = (lowered (numbers vs) d t, (strict.0, strict.1, refl))
    strict_demands d (known k) t e strict = absurd strict
    strict_demands d (local i) t e strict = absurd strict
    strict_demands d (con p xs) (meta n ws) e strict = let no = made.of_con d p xs in cc
    strict_demands d (con p xs) (known k) e strict = let no = made.of_con d p xs in cc
    strict_demands d (con p xs) (local j) e strict = let no = made.of_con d p xs in cc
    strict_demands d (con p xs) (con q ys) e strict =
        let same = con_same p q _ ys (sym (made.of_con d p xs) ∙ e) in
        let found = strict_demands_parts d xs ys same.1 strict in
        (found.0, (same.0, found.1))

    strict_demands_parts : (d : ℕ) (xs ys : Parts) → made.make_parts d xs ≡ ys → StrictInParts m xs → (v : SchemeTree) × PartsDemand m d xs ys v
    strict_demands_parts d no_parts ys e strict = absurd strict
    strict_demands_parts d (part a s xs) no_parts e strict = let no = made.of_part d a s xs in cc
    strict_demands_parts d (part a s xs) (part b t ys) e (inl strict) =
        let same = part_same a b _ t _ ys (sym (made.of_part d a s xs) ∙ e) in
        let found = strict_demands (d + a) s t same.1 strict in
        (found.0, inl (same.0, found.1))
    strict_demands_parts d (part a s xs) (part b t ys) e (inr strict) =
        let same = part_same a b _ t _ ys (sym (made.of_part d a s xs) ∙ e) in
        let found = strict_demands_parts d xs ys same.2 strict in
        (found.0, inr found.1)
