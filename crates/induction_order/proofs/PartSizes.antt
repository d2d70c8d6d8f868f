-- A renamed part of a term has fewer nodes, under every ground instance.
use Rattle.std.proofs.Common.{◌≡◌, ◌<◌, ◌≤◌, ◌+◌, ◌-◌, ℕ, zero, suc, Bool, true, false, if◌then◌else◌, nat_lt, List, [], ◌∷◌, length, map, reverse, slice_get, unwrap_or, inl, inr, refl, ap, ◌∙◌, sym, arith}
use mathlib.Core.List.{reverse_aux}
use Rattle.std.proofs.lemmas.List.{length-map}
use Rattle.binding_terms.proofs.TermLaws.{shift_keeps_size}
use Rattle.binding_terms.specs.Tree as terms
use Rattle.binding_terms.specs.Tree.{Tree, nodes, arg_nodes}
use Rattle.binding_terms.specs.Substitution as fillings
use Rattle.scheme_terms.specs.SchemeTree.{SchemeTree, meta, known, local, con, Values, no_values, value, Parts, no_parts, part, filled, filled_values, filled_parts, under, shifted}
use Rattle.scheme_terms.specs.Forms.{Instance}
use Rattle.scheme_terms.specs.Instance.{instance_of, instances_of, parts_instance, argument_or_root, value_of}
use Rattle.induction_order.specs.Order.{IsPartUnder, IsAmongParts}
use Rattle.induction_order.specs.Sizes.{RenamedPartIsSmaller}

-- terms of the same sizes put in give the same size

under_nodes : (b : Bool) (i n : ℕ) (s t : Tree) → nodes s ≡ nodes t →
    nodes (if b then terms.var i else terms.shifted 0 n s) ≡ nodes (if b then terms.var i else terms.shifted 0 n t)
under_nodes true i n s t h = refl
under_nodes false i n s t h = shift_keeps_size s 0 n ∙ (h ∙ sym (shift_keeps_size t 0 n))

mutual
  nodes_filled : (f g : ℕ → Tree) → ((i : ℕ) → nodes (f i) ≡ nodes (g i)) → (t : Tree) → nodes (fillings.filled f t) ≡ nodes (fillings.filled g t)
  nodes_filled f g h (terms.var i) = h i
  nodes_filled f g h (terms.con p xs) = ap (λ n. n + 1) (arg_nodes_filled f g h xs)

  arg_nodes_filled : (f g : ℕ → Tree) → ((i : ℕ) → nodes (f i) ≡ nodes (g i)) → (xs : terms.Args) →
      arg_nodes (fillings.filled_args f xs) ≡ arg_nodes (fillings.filled_args g xs)
  arg_nodes_filled f g h terms.no_args = refl
  arg_nodes_filled f g h (terms.arg n t xs) =
      ap (λ k. k + arg_nodes (fillings.filled_args f xs))
      (nodes_filled (fillings.under n f) (fillings.under n g) (λ i. under_nodes (nat_lt i n) i n (f (i - n)) (g (i - n)) (h (i - n))) t)
      ∙ ap (λ k. nodes (fillings.filled (fillings.under n g) t) + k) (arg_nodes_filled f g h xs)

-- what stands for a variable of a value has the size that the arguments' sizes tell

abbrev size_at : List ℕ → ℕ → ℕ
size_at sizes i = if nat_lt i (length sizes) then unwrap_or (slice_get (reverse sizes) i) 1 else 1

reversed_onto : (ts rest : List Tree) → map nodes (reverse_aux ts rest) ≡ reverse_aux (map nodes ts) (map nodes rest)
reversed_onto [] rest = refl
reversed_onto (t ∷ ts) rest = reversed_onto ts (t ∷ rest)

reversed_sizes : (ts : List Tree) → map nodes (reverse ts) ≡ reverse (map nodes ts)
reversed_sizes ts = reversed_onto ts []

argument_nodes : (b : Bool) (ts : List Tree) (i j : ℕ) →
    nodes (if b then unwrap_or (slice_get (reverse ts) i) (terms.var 0) else terms.var j) ≡ (if b then unwrap_or (slice_get (reverse (map nodes ts)) i) 1 else 1)
argument_nodes true ts i j = at (reverse ts) i ∙ ap (λ xs. unwrap_or (slice_get xs i) 1) (reversed_sizes ts)
  where
    at : (xs : List Tree) (i : ℕ) → nodes (unwrap_or (slice_get xs i) (terms.var 0)) ≡ unwrap_or (slice_get (map nodes xs) i) 1
    at [] i = refl
    at (x ∷ xs) zero = refl
    at (x ∷ xs) (suc i) = at xs i
argument_nodes false ts i j = refl

nodes_at : (d : ℕ) (ts : List Tree) (i : ℕ) → nodes (argument_or_root d ts i) ≡ size_at (map nodes ts) i
nodes_at d ts i =
    argument_nodes (nat_lt i (length ts)) ts i (i - length ts + d)
    ∙ ap (λ n. if nat_lt i n then unwrap_or (slice_get (reverse (map nodes ts)) i) 1 else 1) (sym (length-map ts nodes))

-- locals in the place of locals

abbrev AreLocals : (ℕ → SchemeTree) → Type 0
AreLocals f = (i : ℕ) → (j : ℕ) × (f i ≡ local j)

under_locals : (n : ℕ) (f : ℕ → SchemeTree) → AreLocals f → AreLocals (under n f)
under_locals n f h i = at (nat_lt i n) (h (i - n))
  where
    at : (b : Bool) → (j : ℕ) × (f (i - n) ≡ local j) → (j : ℕ) × ((if b then local i else shifted 0 n (f (i - n))) ≡ local j)
    at true k = (i, refl)
    at false k = (if nat_lt k.0 0 then k.0 else k.0 + n, ap (shifted 0 n) k.1)

mutual
  same_nodes : (inst : Instance) (d e : ℕ) (f : ℕ → SchemeTree) → AreLocals f → (s : SchemeTree) →
      nodes (instance_of inst d (filled f s)) ≡ nodes (instance_of inst e s)
  same_nodes inst d e f h (meta m vs) =
      nodes_filled (argument_or_root d (instances_of inst d (filled_values f vs))) (argument_or_root e (instances_of inst e vs))
      (λ i. nodes_at d (instances_of inst d (filled_values f vs)) i ∙ (ap (λ sizes. size_at sizes i) (same_sizes inst d e f h vs) ∙ sym (nodes_at e (instances_of inst e vs) i)))
      (value_of inst m)
  same_nodes inst d e f h (known k) = refl
  same_nodes inst d e f h (local i) = ap (λ s. nodes (instance_of inst d s)) (h i).1
  same_nodes inst d e f h (con p xs) = ap (λ n. n + 1) (same_part_nodes inst d e f h xs)

  same_sizes : (inst : Instance) (d e : ℕ) (f : ℕ → SchemeTree) → AreLocals f → (vs : Values) →
      map nodes (instances_of inst d (filled_values f vs)) ≡ map nodes (instances_of inst e vs)
  same_sizes inst d e f h no_values = refl
  same_sizes inst d e f h (value s vs) =
      ap (λ n. n ∷ map nodes (instances_of inst d (filled_values f vs))) (same_nodes inst d e f h s)
      ∙ ap (λ ns. nodes (instance_of inst e s) ∷ ns) (same_sizes inst d e f h vs)

  same_part_nodes : (inst : Instance) (d e : ℕ) (f : ℕ → SchemeTree) → AreLocals f → (xs : Parts) →
      arg_nodes (parts_instance inst d (filled_parts f xs)) ≡ arg_nodes (parts_instance inst e xs)
  same_part_nodes inst d e f h no_parts = refl
  same_part_nodes inst d e f h (part n s xs) =
      ap (λ k. k + arg_nodes (parts_instance inst d (filled_parts f xs))) (same_nodes inst (d + n) (e + n) (under n f) (under_locals n f h) s)
      ∙ ap (λ k. nodes (instance_of inst (e + n) s) + k) (same_part_nodes inst d e f h xs)

-- so the size is the same under all numbers of locals
any_locals : (inst : Instance) (d e : ℕ) (s : SchemeTree) → nodes (instance_of inst d s) ≡ nodes (instance_of inst e s)
any_locals inst d e s = sym (same_nodes inst 0 d local (λ i. (i, refl)) s) ∙ same_nodes inst 0 e local (λ i. (i, refl)) s

-- a proper part is smaller

mutual
  part_is_smaller : (inst : Instance) (d e : ℕ) (s : SchemeTree) (n : ℕ) (whole : SchemeTree) → IsPartUnder s n whole →
      nodes (instance_of inst d s) < nodes (instance_of inst e whole)
  part_is_smaller inst d e s n (meta m vs) h = absurd h
  part_is_smaller inst d e s n (known k) h = absurd h
  part_is_smaller inst d e s n (local i) h = absurd h
  part_is_smaller inst d e s n (con p xs) h = let small = among_is_small inst d e s n xs h in omega (arith, small)

  among_is_small : (inst : Instance) (d e : ℕ) (s : SchemeTree) (n : ℕ) (xs : Parts) → IsAmongParts s n xs →
      nodes (instance_of inst d s) ≤ arg_nodes (parts_instance inst e xs)
  among_is_small inst d e s n no_parts h = absurd h
  among_is_small inst d e s n (part b t xs) (inl h) =
      let same : nodes (instance_of inst (e + b) t) ≡ nodes (instance_of inst d s) =
      any_locals inst (e + b) d t ∙ ap (λ x. nodes (instance_of inst d x)) h.1 in
      omega (arith, same)
  among_is_small inst d e s n (part b t xs) (inr (inl h)) =
      let small = part_is_smaller inst d (e + b) s h.0 t h.2 in omega (arith, small)
  among_is_small inst d e s n (part b t xs) (inr (inr h)) =
      let small = among_is_small inst d e s n xs h in omega (arith, small)

to_local : (d : ℕ) (to : ℕ → ℕ) → AreLocals (λ i. if nat_lt i d then local (to i) else local (i - d))
to_local d to i = at (nat_lt i d)
  where
    at : (b : Bool) → (j : ℕ) × ((if b then local (to i) else local (i - d)) ≡ local j)
    at true = (to i, refl)
    at false = (i - d, refl)

pub renamed_part_is_smaller : RenamedPartIsSmaller
renamed_part_is_smaller inst d e arg whole h =
    let small = part_is_smaller inst d e h.inner h.binders whole h.place in
    let same : nodes (instance_of inst d arg) ≡ nodes (instance_of inst d h.inner) =
    ap (λ x. nodes (instance_of inst d x)) h.same ∙ same_nodes inst d d (λ i. if nat_lt i h.binders then local (h.to i) else local (i - h.binders)) (to_local h.binders h.to) h.inner in
    omega (arith, small, same)
