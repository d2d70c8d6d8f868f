-- The walk over a tree, and the first node that is not right.
use Rattle.std.proofs.Common.{◌≡◌, ◌↔◌, ◌<◌, ◌≤◌, ◌⊎◌, ℕ, zero, suc, ◌+◌, ◌-◌, ◌*◌, List, [], ◌∷◌, ◌++◌, length, map, take, drop, refl, ap, ◌∙◌, sym, subst, Some, None, slice_get, inl, inr, arith}
use Rattle.std.specs.Prelude.{Bool, IsTrue, MatchOption}
use Rattle.std.specs.List.{AllByRecursion}
use Rattle.std.proofs.lemmas.Bool.{cases_lt}
use Rattle.std.proofs.lemmas.Option.{same_Some}
use Rattle.std.proofs.lemmas.List.{take_all}
use Rattle.binding_terms.proofs.Lists.{all_at, map_append, match_at, match_some, match_map, match_from, some_once}
use Rattle.rule_schemes.specs.Rules.{JudgmentValue, Rule, Theory, IsAssumptionJudgment}
use Rattle.rule_schemes.specs.Derivation.{Derivation, node, leaf, Subtrees, no_more, subtree, judgment, Derives, AllDerive, IsNodeOf, size, sizes}
use Rattle.derivation_check.specs.Parts.{premises_of, listed, subtrees_of, rule_of, place_of}
use Rattle.derivation_check.specs.Nodes.{IsRightNode, IsWrongAt, Precedes, IsFirstWrong}
use Rattle.derivation_check.specs.Walk.{Stop, stop, Walks, Went, path_of, weights}
use Rattle.derivation_check.specs.declared.check.Frame.{Frame}

-- a derivation is a right node over derivations
all_listed : (th : Theory) (ds : Subtrees) → AllDerive th ds → AllByRecursion (Derives th) (listed ds)
all_listed th no_more h = tt
all_listed th (subtree d ds) h = (h.0, all_listed th ds h.1)

all_derive : (th : Theory) (ds : Subtrees) → AllByRecursion (Derives th) (listed ds) → AllDerive th ds
all_derive th no_more h = tt
all_derive th (subtree d ds) h = (h.0, all_derive th ds h.1)

right_of : (th : Theory) (d : Derivation) → Derives th d → IsRightNode th d
right_of th (node r j ds) h = h.0
right_of th (leaf r j place) h = h

premises_derive : (th : Theory) (d : Derivation) → Derives th d → AllByRecursion (Derives th) (premises_of d)
premises_derive th (node r j ds) h = all_listed th ds h.1
premises_derive th (leaf r j place) h = tt

derives_from : (th : Theory) (d : Derivation) → IsRightNode th d → AllByRecursion (Derives th) (premises_of d) → Derives th d
derives_from th (node r j ds) right all = (right, all_derive th ds all)
derives_from th (leaf r j place) right all = right

-- no node of a derivation is wrong
pub none_wrong : (th : Theory) (d : Derivation) (path : List ℕ) → Derives th d → IsWrongAt th d path → ⊥
none_wrong th d [] h wrong = wrong (right_of th d h)
none_wrong th d (i ∷ path) h wrong =
    let at = match_some (slice_get (premises_of d) i) _ wrong in
    none_wrong th at.0 path (all_at (Derives th) (premises_of d) i at.0 (premises_derive th d h) at.1) at.2

-- a tree none of whose premises before a number has a wrong node, and whose premise of that number has its first one there
first_below : (th : Theory) (d e : Derivation) (i : ℕ) (path : List ℕ) → IsRightNode th d → AllByRecursion (Derives th) (take i (premises_of d)) → slice_get (premises_of d) i ≡ Some e
    → IsFirstWrong th e path → IsFirstWrong th d (i ∷ path)
first_below th d e i path right before at first =
    record { wrong = match_from (slice_get (premises_of d) i) (λ x. IsWrongAt th x path) e at first.wrong; first = comes }
  where
    earlier : (k : ℕ) (x : Derivation) → k < i → slice_get (premises_of d) k ≡ Some x → Derives th x
    earlier k x less is = all_at (Derives th) (take i (premises_of d)) k x before (taken k i (premises_of d) x less is)
      where
        taken : (k i : ℕ) (ds : List Derivation) (x : Derivation) → k < i → slice_get ds k ≡ Some x → slice_get (take i ds) k ≡ Some x
        taken k zero ds x less is = absurd (omega (arith, less))
        taken k (suc i) [] x less is = is
        taken zero (suc i) (y ∷ ds) x less is = is
        taken (suc k) (suc i) (y ∷ ds) x less is = taken k i ds x (omega (arith, less)) is

    below : (k : ℕ) (other : List ℕ) → (x : Derivation) → slice_get (premises_of d) k ≡ Some x → IsWrongAt th x other → (k < i) ⊎ (i ≤ k) → Precedes (i ∷ path) (k ∷ other)
    below k other x is wrong (inl less) = absurd (none_wrong th x other (earlier k x less is) wrong)
    below k other x is wrong (inr more) = elim (cases_lt i k) [
      | inl less ↦ inl less
      | inr same ↦
          let equal : i ≡ k = omega (arith, more, same) in
          let one : e ≡ x = some_once at (ap (slice_get (premises_of d)) equal ∙ is) in
          inr (equal, first.first other (subst (λ (y : Derivation). IsWrongAt th y other) (sym one) wrong))
    ]

    comes : (other : List ℕ) → IsWrongAt th d other → Precedes (i ∷ path) other
    comes [] wrong = absurd (wrong right)
    comes (k ∷ other) wrong =
        let there = match_some (slice_get (premises_of d) k) _ wrong in
        below k other there.0 there.1 there.2 (cases_lt k i)

pub first_here : (th : Theory) (d : Derivation) → (IsRightNode th d → ⊥) → IsFirstWrong th d []
first_here th d wrong = record { wrong = wrong; first = λ other h. tt }

-- the walk at its beginning, and what a turn does to it
pub begun : (th : Theory) (d : Derivation) → IsRightNode th d → Walks th d (record { tree = d; gone = 0 } ∷ [])
begun th d right = (refl, right, refl)

-- all but the last of these, and the last
all_and_last : (th : Theory) (ds : List Derivation) (n : ℕ) (e : Derivation) → AllByRecursion (Derives th) (take n ds) → slice_get ds n ≡ Some e → Derives th e → AllByRecursion (Derives th) (take (suc n) ds)
all_and_last th [] n e before at here = tt
all_and_last th (y ∷ ds) zero e before at here = (subst (Derives th) (sym (same_Some y e at)) here, tt)
all_and_last th (y ∷ ds) (suc n) e before at here = (before.0, all_and_last th ds n e before.1 at here)

-- where nothing is left, all premises that the walk went into are derivations
gone_derive : (th : Theory) (ds : List Derivation) (n : ℕ) → Went th ds n [] → AllByRecursion (Derives th) (take n ds)
gone_derive th ds zero h = tt
gone_derive th ds (suc n) h = let at = match_some (slice_get ds n) _ h.1 in all_and_last th ds n at.0 h.0 at.1 at.2

nothing_pushed : (left : List Stop) (s : Stop) → left ++ s ∷ [] ≡ [] → ⊥
nothing_pushed [] s e = let no : ⊥ = cc in no
nothing_pushed (x ∷ left) s e = let no : ⊥ = cc in no

-- what holds of the walks over a premise holds of it where the tree was gone into
went_into : (th : Theory) (left more : List Stop) → ((e : Derivation) → Walks th e left → Walks th e more) → (ds : List Derivation) (n : ℕ) → Went th ds (suc n) left → Went th ds (suc n) more
went_into th left more f ds n h = (h.0, match_map (slice_get ds n) (λ e. Walks th e left) (λ e. Walks th e more) f h.1)

went_over : (th : Theory) (left more : List Stop) (s : Stop) → ((e : Derivation) → Walks th e (left ++ s ∷ []) → Walks th e more) → (ds : List Derivation) (n : ℕ) → Went th ds n (left ++ s ∷ []) → Went th ds n more
went_over th left more s f ds zero h = absurd (nothing_pushed left s h)
went_over th left more s f ds (suc n) h = went_into th (left ++ s ∷ []) more f ds n h

-- a walk whose last tree has no premise left
pub finished : (th : Theory) (d : Derivation) (left : List Stop) (s : Stop) → length (premises_of s.tree) ≤ s.gone → Walks th d (left ++ s ∷ []) → Walks th d left
finished th d [] s all h =
    derives_from th d h.1
    (subst (AllByRecursion (Derives th)) (take_all s.gone (premises_of d) (subst (λ (t : Derivation). length (premises_of t) ≤ s.gone) h.0 all)) (gone_derive th (premises_of d) s.gone h.2))
finished th d (t ∷ left) s all h = (h.0, h.1, went_over th left left s (λ e. finished th e left s all) (premises_of d) t.gone h.2)

-- a walk that goes into the next premise, which is right
module _ (th : Theory) (t : Derivation) (n : ℕ) (e : Derivation) (at : slice_get (premises_of t) n ≡ Some e) where
  next_number : suc n ≡ n + 1
  next_number = omega arith

  pub deeper : (d : Derivation) (left : List Stop) → IsRightNode th e → Walks th d (left ++ record { tree = t; gone = n } ∷ [])
      → Walks th d ((left ++ record { tree = t; gone = n + 1 } ∷ []) ++ record { tree = e; gone = 0 } ∷ [])
  deeper d [] right h = (
    h.0,
    h.1,
    subst (λ k. Went th (premises_of d) k (record { tree = e; gone = 0 } ∷ [])) next_number (
      gone_derive th (premises_of d) n h.2,
      match_from (slice_get (premises_of d) n) (λ x. Walks th x (record { tree = e; gone = 0 } ∷ [])) e
          (subst (λ (x : Derivation). slice_get (premises_of x) n ≡ Some e) h.0 at) (begun th e right),
    ),
  )
  deeper d (s ∷ left) right h =
      (h.0, h.1, went_over th left ((left ++ record { tree = t; gone = n + 1 } ∷ []) ++ record { tree = e; gone = 0 } ∷ []) (record { tree = t; gone = n }) (λ x. deeper x left right) (premises_of d) s.gone h.2)

  -- and one that is not right is the first
  path_is : (d : Derivation) (path : List ℕ) (k m : ℕ) → m ≡ k - 1 → IsFirstWrong th d (m ∷ path) → IsFirstWrong th d ((k - 1) ∷ path)
  path_is d path k m e first = subst (λ j. IsFirstWrong th d (j ∷ path)) e first

  wrong_under : (d : Derivation) (left : List Stop) (path : List ℕ) → ((x : Derivation) → Walks th x (left ++ record { tree = t; gone = n } ∷ []) → IsFirstWrong th x path)
      → (k : ℕ) → IsRightNode th d → Went th (premises_of d) k (left ++ record { tree = t; gone = n } ∷ []) → IsFirstWrong th d ((k - 1) ∷ path)
  wrong_under d left path f zero right h = absurd (nothing_pushed left (record { tree = t; gone = n }) h)
  wrong_under d left path f (suc m) right h =
      let below = match_some (slice_get (premises_of d) m) _ h.1 in
      path_is d path (suc m) m (omega arith) (first_below th d below.0 m path right h.0 below.1 (f below.0 below.2))

  pub wrong_next : (d : Derivation) (left : List Stop) → (IsRightNode th e → ⊥) → Walks th d (left ++ record { tree = t; gone = n } ∷ [])
      → IsFirstWrong th d (path_of (left ++ record { tree = t; gone = n + 1 } ∷ []))
  wrong_next d [] wrong h =
      path_is d [] (n + 1) n (omega arith)
      (first_below th d e n [] h.1 (gone_derive th (premises_of d) n h.2) (subst (λ (x : Derivation). slice_get (premises_of x) n ≡ Some e) h.0 at) (first_here th e wrong))
  wrong_next d (s ∷ left) wrong h =
      wrong_under d left (path_of (left ++ record { tree = t; gone = n + 1 } ∷ [])) (λ x. wrong_next x left wrong) s.gone h.1 h.2

-- the same over the frames of the walk
module _ (th : Theory) (d : Derivation) where
  pushed : (fs : List Frame) (f : Frame) → map stop (fs ++ f ∷ []) ≡ map stop fs ++ stop f ∷ []
  pushed fs f = map_append stop fs (f ∷ [])

  last_of : (old rest : List Frame) (f : Frame) → old ≡ rest ++ f ∷ [] → Walks th d (map stop old) → Walks th d (map stop rest ++ stop f ∷ [])
  last_of old rest f e h = subst (Walks th d) (ap (map stop) e ∙ pushed rest f) h

  pub frames_finished : (old rest : List Frame) (f : Frame) → old ≡ rest ++ f ∷ [] → length (premises_of f.tree.now) ≤ f.gone → Walks th d (map stop old) → Walks th d (map stop rest)
  frames_finished old rest f e all h = finished th d (map stop rest) (stop f) all (last_of old rest f e h)

  pub frames_deeper : (old rest second third : List Frame) (f next below : Frame) → old ≡ rest ++ f ∷ [] → second ≡ rest ++ next ∷ [] → third ≡ second ++ below ∷ [] →
      next.tree.now ≡ f.tree.now → next.gone ≡ f.gone + 1 → below.gone ≡ 0 → slice_get (premises_of f.tree.now) f.gone ≡ Some below.tree.now → IsRightNode th below.tree.now →
      Walks th d (map stop old) → Walks th d (map stop third)
  frames_deeper old rest second third f next below e g k tree gone none at right h =
      let all : map stop third ≡ (map stop rest ++ record { tree = f.tree.now; gone = f.gone + 1 } ∷ []) ++ record { tree = below.tree.now; gone = 0 } ∷ [] =
      ap (map stop) k ∙ pushed second below ∙ (λ i. (map stop (g i)) ++ record { tree = below.tree.now; gone = none i } ∷ [])
      ∙ (λ i. pushed rest next i ++ record { tree = below.tree.now; gone = 0 } ∷ [])
      ∙ (λ i. (map stop rest ++ record { tree = tree i; gone = gone i } ∷ []) ++ record { tree = below.tree.now; gone = 0 } ∷ []) in
      subst (Walks th d) (sym all) (deeper th f.tree.now f.gone below.tree.now at d (map stop rest) right (last_of old rest f e h))

  pub frames_wrong : (old rest second : List Frame) (f next : Frame) (x : Derivation) → old ≡ rest ++ f ∷ [] → second ≡ rest ++ next ∷ [] →
      next.tree.now ≡ f.tree.now → next.gone ≡ f.gone + 1 → slice_get (premises_of f.tree.now) f.gone ≡ Some x → (IsRightNode th x → ⊥) →
      Walks th d (map stop old) → IsFirstWrong th d (path_of (map stop second))
  frames_wrong old rest second f next x e g tree gone at wrong h =
      let all : map stop second ≡ map stop rest ++ record { tree = f.tree.now; gone = f.gone + 1 } ∷ [] =
      ap (map stop) g ∙ pushed rest next ∙ (λ i. map stop rest ++ record { tree = tree i; gone = gone i } ∷ []) in
      subst (λ s. IsFirstWrong th d (path_of s)) (sym all) (wrong_next th f.tree.now f.gone x at d (map stop rest) wrong (last_of old rest f e h))

-- each turn makes what is left less
weights_append : (xs ys : List Stop) → weights (xs ++ ys) ≡ weights xs + weights ys
weights_append [] ys = omega arith
weights_append (x ∷ xs) ys = omega (arith, weights_append xs ys)

sizes_listed : (ds : Subtrees) → sizes (subtrees_of (listed ds)) ≡ sizes ds
sizes_listed no_more = refl
sizes_listed (subtree d ds) = ap (λ n. size d + n) (sizes_listed ds)

size_is : (d : Derivation) → size d ≡ 1 + sizes (subtrees_of (premises_of d))
size_is (node r j ds) = omega (arith, sizes_listed ds)
size_is (leaf r j place) = refl

sizes_dropped : (ds : List Derivation) (n : ℕ) (e : Derivation) → slice_get ds n ≡ Some e → sizes (subtrees_of (drop n ds)) ≡ size e + sizes (subtrees_of (drop (suc n) ds))
sizes_dropped [] n e at = absurd (let no : ⊥ = cc in no)
sizes_dropped (x ∷ ds) zero e at = ap (λ y. size y + sizes (subtrees_of ds)) (same_Some x e at)
sizes_dropped (x ∷ ds) (suc n) e at = sizes_dropped ds n e at

pub weights_fall : (old rest : List Frame) (f : Frame) → old ≡ rest ++ f ∷ [] → weights (map stop rest) < weights (map stop old)
weights_fall old rest f e =
    let all : weights (map stop old) ≡ weights (map stop rest) + weights (stop f ∷ []) = ap (λ fs. weights (map stop fs)) e ∙ ap weights (map_append stop rest (f ∷ [])) ∙ weights_append (map stop rest) (stop f ∷ []) in
    omega (arith, all)

pub weights_deeper : (old rest second third : List Frame) (f next below : Frame) → old ≡ rest ++ f ∷ [] → second ≡ rest ++ next ∷ [] → third ≡ second ++ below ∷ [] →
    next.tree.now ≡ f.tree.now → next.gone ≡ f.gone + 1 → below.gone ≡ 0 → slice_get (premises_of f.tree.now) f.gone ≡ Some below.tree.now → weights (map stop third) < weights (map stop old)
weights_deeper old rest second third f next below e g k tree gone none at =
    let one : weights (map stop old) ≡ weights (map stop rest) + weights (stop f ∷ []) = ap (λ fs. weights (map stop fs)) e ∙ ap weights (map_append stop rest (f ∷ [])) ∙ weights_append (map stop rest) (stop f ∷ []) in
    let two : weights (map stop second) ≡ weights (map stop rest) + weights (stop next ∷ []) = ap (λ fs. weights (map stop fs)) g ∙ ap weights (map_append stop rest (next ∷ [])) ∙ weights_append (map stop rest) (stop next ∷ []) in
    let three : weights (map stop third) ≡ weights (map stop second) + weights (stop below ∷ []) = ap (λ fs. weights (map stop fs)) k ∙ ap weights (map_append stop second (below ∷ [])) ∙ weights_append (map stop second) (stop below ∷ []) in
    let ps : List Derivation = premises_of f.tree.now in
    let left : sizes (subtrees_of (drop next.gone (premises_of next.tree.now))) ≡ sizes (subtrees_of (drop (suc f.gone) ps)) =
    (λ i. sizes (subtrees_of (drop (gone i) (premises_of (tree i))))) ∙ (let m : f.gone + 1 ≡ suc f.gone = omega arith in ap (λ n. sizes (subtrees_of (drop n ps))) m) in
    let inner : sizes (subtrees_of (drop below.gone (premises_of below.tree.now))) ≡ sizes (subtrees_of (premises_of below.tree.now)) = ap (λ n. sizes (subtrees_of (drop n (premises_of below.tree.now)))) none in
    fewer (weights (map stop rest)) (sizes (subtrees_of (drop f.gone ps))) (sizes (subtrees_of (drop next.gone (premises_of next.tree.now)))) (sizes (subtrees_of (drop below.gone (premises_of below.tree.now))))
    (sizes (subtrees_of (drop (suc f.gone) ps))) (size below.tree.now) (sizes (subtrees_of (premises_of below.tree.now))) _ _ _ one two three (sizes_dropped ps f.gone below.tree.now at) left inner (size_is below.tree.now)
  where
    fewer : (w a b c a2 s s2 old second third : ℕ) → old ≡ w + (1 + 2 * a + 0) → second ≡ w + (1 + 2 * b + 0) → third ≡ second + (1 + 2 * c + 0) → a ≡ s + a2 → b ≡ a2 → c ≡ s2 → s ≡ 1 + s2 → third < old
    fewer w a b c a2 s s2 old second third d e f g h i j = omega arith

-- what the parts of a tree make right
pub leaf_right : (th : Theory) (d : Derivation) (place : ℕ) (r : Rule) → place_of d ≡ Some place → slice_get th.rules (rule_of d) ≡ Some r →
    IsAssumptionJudgment th r (judgment d).context place (judgment d) ↔ IsRightNode th d
leaf_right th (node n j ds) place r e at = absurd (let no : ⊥ = cc in no)
leaf_right th (leaf n j p) place r e at =
    let same : p ≡ place = same_Some p place e in (
      λ h. match_from (slice_get th.rules n) (λ x. IsAssumptionJudgment th x j.context p j) r at (subst (λ k. IsAssumptionJudgment th r j.context k j) (sym same) h),
      λ h. subst (λ k. IsAssumptionJudgment th r j.context k j) same (match_at (slice_get th.rules n) (λ x. IsAssumptionJudgment th x j.context p j) r at h),
    )

again_listed : (ds : Subtrees) → subtrees_of (listed ds) ≡ ds
again_listed no_more = refl
again_listed (subtree d ds) = ap (subtree d) (again_listed ds)

pub node_right : (th : Theory) (d : Derivation) (r : Rule) → place_of d ≡ None → slice_get th.rules (rule_of d) ≡ Some r →
    IsNodeOf th (judgment d) (subtrees_of (premises_of d)) r ↔ IsRightNode th d
node_right th (leaf n j p) r e at = absurd (let no : ⊥ = cc in no)
node_right th (node n j ds) r e at = (
  λ h. match_from (slice_get th.rules n) (IsNodeOf th j ds) r at (subst (λ es. IsNodeOf th j es r) (again_listed ds) h),
  λ h. subst (λ es. IsNodeOf th j es r) (sym (again_listed ds)) (match_at (slice_get th.rules n) (IsNodeOf th j ds) r at h),
)

pub no_rule : (th : Theory) (d : Derivation) → slice_get th.rules (rule_of d) ≡ None → IsRightNode th d → ⊥
no_rule th (node n j ds) e h = subst (λ o. MatchOption o ⊥ (IsNodeOf th j ds)) e h
no_rule th (leaf n j p) e h = subst (λ o. MatchOption o ⊥ (λ x. IsAssumptionJudgment th x j.context p j)) e h

-- what the tests of the parts say of the node
pub leaf_case : (th : Theory) (d : Derivation) (place : ℕ) (r : Rule) (v : JudgmentValue) (k : ℕ) (b : Bool) → v ≡ judgment d → place_of d ≡ Some place → k ≡ rule_of d → slice_get th.rules k ≡ Some r →
    (IsTrue b ↔ IsAssumptionJudgment th r v.context place v) → IsTrue b ↔ IsRightNode th d
leaf_case th d place r v k b e at n found test =
    let both = leaf_right th d place r at (ap (slice_get th.rules) (sym n) ∙ found) in
    let here = subst (λ (w : JudgmentValue). IsTrue b ↔ IsAssumptionJudgment th r w.context place w) e test in
    (λ h. both.0 (here.0 h), λ h. here.1 (both.1 h))

pub node_case : (th : Theory) (d : Derivation) (r : Rule) (v : JudgmentValue) (ds : List Derivation) (k : ℕ) (b : Bool) → v ≡ judgment d → ds ≡ premises_of d → place_of d ≡ None → k ≡ rule_of d → slice_get th.rules k ≡ Some r →
    (IsTrue b ↔ IsNodeOf th v (subtrees_of ds) r) → IsTrue b ↔ IsRightNode th d
node_case th d r v ds k b e f at n found test =
    let both = node_right th d r at (ap (slice_get th.rules) (sym n) ∙ found) in
    let here = subst (λ (w : JudgmentValue). IsTrue b ↔ IsNodeOf th w (subtrees_of (premises_of d)) r) e (subst (λ (xs : List Derivation). IsTrue b ↔ IsNodeOf th v (subtrees_of xs) r) f test) in
    (λ h. both.0 (here.0 h), λ h. here.1 (both.1 h))
