-- Known variables whose entries are written over the first metavariables, and known variables that are told apart.
use Rattle.std.proofs.Common.{◌≡◌, ◌≢◌, ◌↔◌, ℕ, ◌+◌, ◌-◌, ◌<◌, Bool, true, false, get_or, IsTrue, List, [], ◌∷◌, length, map, take, drop, inl, inr, refl, ap, ◌∙◌, sym, subst}
use Rattle.std.proofs.lemmas.List.{drop_more, take_rest}
use Rattle.std.specs.List.{AllByRecursion}
use Rattle.scheme_terms.specs.SchemeTree.{SchemeTree, meta, known, local, con, Values, no_values, value, Parts, no_parts, part, OccursIn, OccursInValues, OccursInParts}
use Rattle.scheme_terms.specs.Forms.{KnownVariable}
use Rattle.scheme_terms.specs.View.{known_variable}
use Rattle.scheme_terms.specs.declared.scheme.KnownDecl.{KnownDecl}
use Rattle.binding_terms.specs.Numbered.{AnyByRecursion}
use Rattle.notation_parser.specs.Below.{IsBelow, ValuesBelow, PartsBelow}
use Rattle.notation_parser.specs.Renaming.{OccursInKnowns}
use Rattle.notation_parser.specs.Shapes.{KnownsApart}

module _ (n : ℕ) where
  mutual
    scheme_below : (s : SchemeTree) → ((m : ℕ) → OccursIn m s → m < n) → IsBelow n s
    scheme_below (meta m vs) h = (h m (inl refl), values_below vs (λ k o. h k (inr o)))
    scheme_below (known k) h = tt
    scheme_below (local i) h = tt
    scheme_below (con p xs) h = parts_below xs h

    values_below : (vs : Values) → ((m : ℕ) → OccursInValues m vs → m < n) → ValuesBelow n vs
    values_below no_values h = tt
    values_below (value s vs) h = (scheme_below s (λ k o. h k (inl o)), values_below vs (λ k o. h k (inr o)))

    parts_below : (xs : Parts) → ((m : ℕ) → OccursInParts m xs → m < n) → PartsBelow n xs
    parts_below no_parts h = tt
    parts_below (part b s xs) h = (scheme_below s (λ k o. h k (inl o)), parts_below xs (λ k o. h k (inr o)))

  mutual
    below_scheme : (s : SchemeTree) → IsBelow n s → (m : ℕ) → OccursIn m s → m < n
    below_scheme (meta k vs) h m (inl e) = subst (λ j. j < n) e h.0
    below_scheme (meta k vs) h m (inr o) = below_values vs h.1 m o
    below_scheme (known k) h m o = absurd o
    below_scheme (local i) h m o = absurd o
    below_scheme (con p xs) h m o = below_parts xs h m o

    below_values : (vs : Values) → ValuesBelow n vs → (m : ℕ) → OccursInValues m vs → m < n
    below_values no_values h m o = absurd o
    below_values (value s vs) h m (inl o) = below_scheme s h.0 m o
    below_values (value s vs) h m (inr o) = below_values vs h.1 m o

    below_parts : (xs : Parts) → PartsBelow n xs → (m : ℕ) → OccursInParts m xs → m < n
    below_parts no_parts h m o = absurd o
    below_parts (part b s xs) h m (inl o) = below_scheme s h.0 m o
    below_parts (part b s xs) h m (inr o) = below_parts xs h.1 m o

  schemes_below : (ss : List SchemeTree) → ((m : ℕ) → AnyByRecursion (OccursIn m) ss → m < n) → AllByRecursion (IsBelow n) ss
  schemes_below [] h = tt
  schemes_below (s ∷ ss) h = (scheme_below s (λ k o. h k (inl o)), schemes_below ss (λ k o. h k (inr o)))

  below_schemes : (ss : List SchemeTree) → AllByRecursion (IsBelow n) ss → (m : ℕ) → AnyByRecursion (OccursIn m) ss → m < n
  below_schemes [] h m o = absurd o
  below_schemes (s ∷ ss) h m (inl o) = below_scheme s h.0 m o
  below_schemes (s ∷ ss) h m (inr o) = below_schemes ss h.1 m o

  -- known variables whose entries are below the number
  pub knowns_below : (ks : List KnownVariable) → ((m : ℕ) → OccursInKnowns m ks → m < n) → AllByRecursion (λ (k : KnownVariable). AllByRecursion (IsBelow n) k.entry.args) ks
  knowns_below [] h = tt
  knowns_below (k ∷ ks) h = (schemes_below k.entry.args (λ j o. h j (inl o)), knowns_below ks (λ j o. h j (inr o)))

  pub below_knowns : (ks : List KnownVariable) → AllByRecursion (λ (k : KnownVariable). AllByRecursion (IsBelow n) k.entry.args) ks → (m : ℕ) → OccursInKnowns m ks → m < n
  below_knowns [] h m o = absurd o
  below_knowns (k ∷ ks) h m (inl o) = below_schemes k.entry.args h.0 m o
  below_knowns (k ∷ ks) h m (inr o) = below_knowns ks h.1 m o

-- one known variable less to compare
abbrev Others : KnownDecl → List KnownDecl → Type 0
Others d knowns = AllByRecursion (λ (k : KnownVariable). d.name ≢ k.name) (map known_variable knowns)

abbrev Apart : List KnownDecl → Type 0
Apart knowns = KnownsApart (map known_variable knowns)

pub apart_step : (knowns : List KnownDecl) (i : ℕ) (d : KnownDecl) (r : Bool) → i < length knowns → d ≡ get_or knowns i d
    → (IsTrue r ↔ Others d (take (length knowns - (i + 1)) (drop (i + 1) knowns))) → r ≡ true → (Apart (drop i knowns) ↔ Apart knowns) → Apart (drop (i + 1) knowns) ↔ Apart knowns
apart_step knowns i d r lt is new holds h =
    let e : drop i knowns ≡ d ∷ drop (i + 1) knowns = drop_more knowns i d lt ∙ ap (λ x. x ∷ drop (i + 1) knowns) (sym is) in
    let k : Apart (d ∷ drop (i + 1) knowns) ↔ Apart knowns = subst (λ xs. Apart xs ↔ Apart knowns) e h in
    let all : Others d (drop (i + 1) knowns) = subst (Others d) (take_rest knowns (i + 1)) (new.0 holds) in
    (λ a. k.0 (all, a), λ b. (k.1 b).1)

pub apart_end : (knowns : List KnownDecl) (i : ℕ) (d : KnownDecl) (r : Bool) → i < length knowns → d ≡ get_or knowns i d
    → (IsTrue r ↔ Others d (take (length knowns - (i + 1)) (drop (i + 1) knowns))) → r ≡ false → (Apart (drop i knowns) ↔ Apart knowns) → IsTrue false ↔ Apart knowns
apart_end knowns i d r lt is new fails h =
    let e : drop i knowns ≡ d ∷ drop (i + 1) knowns = drop_more knowns i d lt ∙ ap (λ x. x ∷ drop (i + 1) knowns) (sym is) in
    let k : Apart (d ∷ drop (i + 1) knowns) ↔ Apart knowns = subst (λ xs. Apart xs ↔ Apart knowns) e h in
    let rest : Others d (drop (i + 1) knowns) → IsTrue r = λ all. new.1 (subst (Others d) (sym (take_rest knowns (i + 1))) all) in
    (λ t. (let never : false ≡ true = t in cc), λ b. (let holds : r ≡ true = rest ((k.1 b).0) in sym fails ∙ holds))
