-- The instance of a scheme in which schemes were put in for its names.
use Rattle.std.proofs.Common.{◌≡◌, ◌⊎◌, ℕ, suc, ◌+◌, ◌-◌, ◌<◌, ◌≤◌, nat_lt, List, ◌∷◌, length, map, Option, Some, None, slice_get, unwrap_or, MatchOption, inl, inr, refl, ap, ◌∙◌, sym, if◌then◌else◌, arith}
use Rattle.std.proofs.lemmas.Bool.{cases_lt}
use Rattle.std.proofs.lemmas.Bool.Decides.{nat_tests}
use Rattle.std.proofs.lemmas.List.{length-map}
use Rattle.binding_terms.specs.Tree as terms
use Rattle.binding_terms.specs.Tree.{Tree, var, Args}
use Rattle.binding_terms.specs.Substitution as filling
use Rattle.binding_terms.proofs.Substitutions.{filled_filled}
use Rattle.binding_terms.proofs.Filling.{under_at, under_past}
use Rattle.scheme_terms.specs.SchemeTree.{SchemeTree, meta, known, local, con, Values, no_values, value, Parts, no_parts, part, shifted, filled, filled_values, filled_parts, under, listed}
use Rattle.scheme_terms.specs.Forms.{Instance}
use Rattle.scheme_terms.specs.Instance.{instance_of, instances_of, parts_instance, argument_or_root, value_of, place_of}
use Rattle.scheme_terms.specs.Substituting.{scheme_for, known_for, argument_or_local, applied, applied_values, applied_parts, LocalsBelow, ValuesBelow, PartsBelow, Suits, SuitsValues, SuitsParts}
use Rattle.scheme_terms.proofs.Arguments.{argument_past, argument_mapped}
use Rattle.scheme_terms.proofs.RaisedInstances.{instance_shifted}

-- what stands for the k locals of a scheme that are filled, and beyond them the root's variables
abbrev outer : Instance → (d k : ℕ) → (ℕ → SchemeTree) → ℕ → Tree
outer inst d k f i = if nat_lt i k then instance_of inst d (f i) else var (i - k + d)

outer_at : (inst : Instance) (d k : ℕ) (f : ℕ → SchemeTree) (i : ℕ) → i < k → outer inst d k f i ≡ instance_of inst d (f i)
outer_at inst d k f i h = grind (arith, nat_tests)

outer_past : (inst : Instance) (d k : ℕ) (f : ℕ → SchemeTree) (i : ℕ) → k ≤ i → outer inst d k f i ≡ var (i - k + d)
outer_past inst d k f i h = grind (arith, nat_tests)

scheme_under_at : (n : ℕ) (f : ℕ → SchemeTree) (i : ℕ) → i < n → under n f i ≡ local i
scheme_under_at n f i h = grind (arith, nat_tests)

scheme_under_past : (n : ℕ) (f : ℕ → SchemeTree) (i : ℕ) → n ≤ i → under n f i ≡ shifted 0 n (f (i - n))
scheme_under_past n f i h = grind (arith, nat_tests)

outer_under : (inst : Instance) (d k n : ℕ) (f : ℕ → SchemeTree) → outer inst (d + n) (k + n) (under n f) ≡ filling.under n (outer inst d k f)
outer_under inst d k n f = λ z i. at i (cases_lt i n) (cases_lt i (k + n)) z
  where
    at : (i : ℕ) → (i < n) ⊎ (n ≤ i) → (i < k + n) ⊎ (k + n ≤ i) → outer inst (d + n) (k + n) (under n f) i ≡ filling.under n (outer inst d k f) i
    at i (inl h) c =
        outer_at inst (d + n) (k + n) (under n f) i (omega arith) ∙ ap (instance_of inst (d + n)) (scheme_under_at n f i h)
        ∙ sym (under_at n (outer inst d k f) i h)
    at i (inr h) (inl c) =
        outer_at inst (d + n) (k + n) (under n f) i c ∙ ap (instance_of inst (d + n)) (scheme_under_past n f i h)
        ∙ instance_shifted inst 0 d n (omega arith) (f (i - n))
        ∙ ap (terms.shifted 0 n) (sym (outer_at inst d k f (i - n) (omega arith))) ∙ sym (under_past n (outer inst d k f) i h)
    at i (inr h) (inr c) =
        let e : i - (k + n) + (d + n) ≡ terms.raised 0 n (i - n - k + d) = grind (arith, nat_tests) in
        outer_past inst (d + n) (k + n) (under n f) i c ∙ ap var e
        ∙ ap (terms.shifted 0 n) (sym (outer_past inst d k f (i - n) (omega arith))) ∙ sym (under_past n (outer inst d k f) i h)

root_past : (inst : Instance) (d k : ℕ) (f : ℕ → SchemeTree) (i : ℕ) → outer inst d k f (i + k) ≡ var (i + d)
root_past inst d k f i = outer_past inst d k f (i + k) (omega arith) ∙ ap var (let e : i + k - k + d ≡ i + d = omega arith in e)

arguments_filled : (inst : Instance) (d k : ℕ) (f : ℕ → SchemeTree) (args : List Tree) →
    ◌≡◌ {A = ℕ → Tree} (λ i. filling.filled (outer inst d k f) (argument_or_root k args i)) (argument_or_root d (map (filling.filled (outer inst d k f)) args))
arguments_filled inst d k f args =
    λ z i. argument_mapped (filling.filled (outer inst d k f)) (var 0) (var 0) (λ j. var (j + k)) (λ j. var (j + d)) args (root_past inst d k f) i z

-- the instance of a scheme whose locals were filled
mutual
  pub instance_filled : (inst : Instance) (d k : ℕ) (f : ℕ → SchemeTree) (s : SchemeTree) → LocalsBelow k s →
      instance_of inst d (filled f s) ≡ filling.filled (outer inst d k f) (instance_of inst k s)
  instance_filled inst d k f (meta m vs) h =
      ap (λ ts. filling.filled (argument_or_root d ts) (value_of inst m)) (instances_filled inst d k f vs h)
      ∙ ap (λ g. filling.filled g (value_of inst m)) (sym (arguments_filled inst d k f (instances_of inst k vs)))
      ∙ sym (filled_filled (argument_or_root k (instances_of inst k vs)) (outer inst d k f) (value_of inst m))
  instance_filled inst d k f (known l) h = sym (root_past inst d k f (length inst.root.entries - suc (place_of inst l)))
  instance_filled inst d k f (local i) h = sym (outer_at inst d k f i h)
  instance_filled inst d k f (con p xs) h = ap (terms.con p) (parts_filled inst d k f xs h)

  pub instances_filled : (inst : Instance) (d k : ℕ) (f : ℕ → SchemeTree) (vs : Values) → ValuesBelow k vs →
      instances_of inst d (filled_values f vs) ≡ map (filling.filled (outer inst d k f)) (instances_of inst k vs)
  instances_filled inst d k f no_values h = refl
  instances_filled inst d k f (value s vs) h =
      ap (λ t. t ∷ instances_of inst d (filled_values f vs)) (instance_filled inst d k f s h.0)
      ∙ ap (λ ts. filling.filled (outer inst d k f) (instance_of inst k s) ∷ ts) (instances_filled inst d k f vs h.1)

  pub parts_filled : (inst : Instance) (d k : ℕ) (f : ℕ → SchemeTree) (xs : Parts) → PartsBelow k xs →
      parts_instance inst d (filled_parts f xs) ≡ filling.filled_args (outer inst d k f) (parts_instance inst k xs)
  parts_filled inst d k f no_parts h = refl
  parts_filled inst d k f (part n s xs) h =
      ap (λ t. terms.arg n t (parts_instance inst d (filled_parts f xs)))
      (instance_filled inst (d + n) (k + n) (under n f) s h.0 ∙ ap (λ g. filling.filled g (instance_of inst (k + n) s)) (outer_under inst d k n f))
      ∙ ap (terms.arg n (filling.filled (filling.under n (outer inst d k f)) (instance_of inst (k + n) s))) (parts_filled inst d k f xs h.1)

-- `given` gives each metavariable of the scheme what `inst` makes of the scheme that is put in for it, and each
-- known variable the place of the one that is put in
abbrev mutual
  pub Follows : Instance → Instance → List SchemeTree → List ℕ → SchemeTree → Type 0
  Follows inst given ss ks (meta m vs) =
      (value_of given m ≡ instance_of inst (length (listed vs)) (scheme_for ss m)) × FollowsValues inst given ss ks vs
  Follows inst given ss ks (known k) = place_of given k ≡ place_of inst (known_for ks k)
  Follows inst given ss ks (local i) = Unit {0}
  Follows inst given ss ks (con p xs) = FollowsParts inst given ss ks xs

  pub FollowsValues : Instance → Instance → List SchemeTree → List ℕ → Values → Type 0
  FollowsValues inst given ss ks no_values = Unit {0}
  FollowsValues inst given ss ks (value s vs) = Follows inst given ss ks s × FollowsValues inst given ss ks vs

  pub FollowsParts : Instance → Instance → List SchemeTree → List ℕ → Parts → Type 0
  FollowsParts inst given ss ks no_parts = Unit {0}
  FollowsParts inst given ss ks (part n s xs) = Follows inst given ss ks s × FollowsParts inst given ss ks xs

pub length_applied : (ss : List SchemeTree) (ks : List ℕ) (d : ℕ) (vs : Values) → length (applied_values ss ks d vs) ≡ length (listed vs)
length_applied ss ks d no_values = refl
length_applied ss ks d (value s vs) = ap suc (length_applied ss ks d vs)

-- the arguments of a metavariable, seen from the scheme that is put in for it
arguments_applied : (inst : Instance) (d n : ℕ) (args : List SchemeTree) → length args ≡ n →
    outer inst d n (argument_or_local d args) ≡ argument_or_root d (map (instance_of inst d) args)
arguments_applied inst d n args same = λ z i. at i (cases_lt i n) z
  where
    at : (i : ℕ) → (i < n) ⊎ (n ≤ i) → outer inst d n (argument_or_local d args) i ≡ argument_or_root d (map (instance_of inst d) args) i
    at i (inl h) =
        outer_at inst d n (argument_or_local d args) i h
        ∙ argument_mapped (instance_of inst d) (local 0) (var 0) (λ j. local (j + d)) (λ j. var (j + d)) args (λ j. refl) i
    at i (inr h) =
        let e : i - n + d ≡ i - length (map (instance_of inst d) args) + d = rw length-map (let k : i - n + d ≡ i - length args + d = omega arith in k) in
        outer_past inst d n (argument_or_local d args) i h ∙ ap var e
        ∙ sym (argument_past (var 0) (λ j. var (j + d)) (map (instance_of inst d) args) i (rw length-map (let k : length args ≤ i = omega arith in k)))

pub value_below : (n : ℕ) (o : Option SchemeTree) → MatchOption o ⊥ (LocalsBelow n) → LocalsBelow n (unwrap_or o (local 0))
value_below n None h = absurd h
value_below n (Some s) h = h

-- putting in schemes and then taking the instance is one instance
mutual
  pub instance_applied : (inst given : Instance) (ss : List SchemeTree) (ks : List ℕ) (d : ℕ) → length given.root.entries ≡ length inst.root.entries →
      (s : SchemeTree) → Suits ss ks s → Follows inst given ss ks s → instance_of inst d (applied ss ks d s) ≡ instance_of given d s
  instance_applied inst given ss ks d r (meta m vs) h g =
      instance_filled inst d (length (listed vs)) (argument_or_local d (applied_values ss ks d vs)) (scheme_for ss m)
      (value_below (length (listed vs)) (slice_get ss m) h.0)
      ∙ ap (λ f. filling.filled f (instance_of inst (length (listed vs)) (scheme_for ss m)))
      (arguments_applied inst d (length (listed vs)) (applied_values ss ks d vs) (length_applied ss ks d vs))
      ∙ ap (λ ts. filling.filled (argument_or_root d ts) (instance_of inst (length (listed vs)) (scheme_for ss m))) (instances_applied inst given ss ks d r vs h.1 g.1)
      ∙ ap (filling.filled (argument_or_root d (instances_of given d vs))) (sym g.0)
  instance_applied inst given ss ks d r (known k) h g = ap (λ p. var (length inst.root.entries - suc p + d)) (sym g) ∙ ap (λ l. var (l - suc (place_of given k) + d)) (sym r)
  instance_applied inst given ss ks d r (local i) h g = refl
  instance_applied inst given ss ks d r (con p xs) h g = ap (terms.con p) (parts_applied inst given ss ks d r xs h g)

  pub instances_applied : (inst given : Instance) (ss : List SchemeTree) (ks : List ℕ) (d : ℕ) → length given.root.entries ≡ length inst.root.entries →
      (vs : Values) → SuitsValues ss ks vs → FollowsValues inst given ss ks vs → map (instance_of inst d) (applied_values ss ks d vs) ≡ instances_of given d vs
  instances_applied inst given ss ks d r no_values h g = refl
  instances_applied inst given ss ks d r (value s vs) h g =
      ap (λ t. t ∷ map (instance_of inst d) (applied_values ss ks d vs)) (instance_applied inst given ss ks d r s h.0 g.0)
      ∙ ap (λ ts. instance_of given d s ∷ ts) (instances_applied inst given ss ks d r vs h.1 g.1)

  pub parts_applied : (inst given : Instance) (ss : List SchemeTree) (ks : List ℕ) (d : ℕ) → length given.root.entries ≡ length inst.root.entries →
      (xs : Parts) → SuitsParts ss ks xs → FollowsParts inst given ss ks xs → parts_instance inst d (applied_parts ss ks d xs) ≡ parts_instance given d xs
  parts_applied inst given ss ks d r no_parts h g = refl
  parts_applied inst given ss ks d r (part n s xs) h g =
      ap (λ t. terms.arg n t (parts_instance inst d (applied_parts ss ks d xs))) (instance_applied inst given ss ks (d + n) r s h.0 g.0)
      ∙ ap (terms.arg n (instance_of given (d + n) s)) (parts_applied inst given ss ks d r xs h.1 g.1)
