-- The parameters whose arguments locals are, one after another, and what they make of a value.
use Rattle.std.proofs.Common.{◌≡◌, ◌⊎◌, ℕ, zero, suc, ◌+◌, ◌-◌, ◌<◌, ◌≤◌, List, [], ◌∷◌, ◌++◌, length, map, drop, reverse, length-drop, get_or, inl, inr, refl, ap, ◌∙◌, sym, append_assoc, arith}
use Rattle.std.proofs.lemmas.Bool.{cases_lt}
use Rattle.std.proofs.lemmas.List.{length-map, map-append, drop_more, get_or-reverse}
use Rattle.std.proofs.lemmas.Option.{unwrap_or-slice_get}
use Rattle.binding_terms.specs.Tree.{Tree, var}
use Rattle.binding_terms.specs.Substitution as filling
use Rattle.scheme_terms.specs.SchemeTree.{SchemeTree, meta, known, local, con, Values, no_values, value, values, filled}
use Rattle.scheme_terms.specs.Instance.{argument_or_root}
use Rattle.scheme_terms.specs.Substituting.{argument_or_local}
use Rattle.scheme_terms.specs.Embedding.{embedded}
use Rattle.scheme_terms.specs.Demands.{numbers, parameter_of, parameters_of, variable_of, lowered}
use Rattle.scheme_terms.specs.View.{scheme}
use Rattle.scheme_terms.specs.declared.scheme.Scheme.{Scheme}
use Rattle.scheme_terms.proofs.Arguments.{argument_or, argument_at, argument_past, argument_mapped}
use Rattle.scheme_terms.proofs.Embeddings.{embedded_filled}
use Rattle.scheme_terms.proofs.Lowering.{told, variable_at, variable_past}

-- as many numbers as arguments
numbers_more : (s : SchemeTree) (vs : Values) (n : ℕ) → numbers (value s no_values) ≡ n ∷ [] → numbers (value s vs) ≡ n ∷ numbers vs
numbers_more (meta m ws) vs n e = ap (λ k. k ∷ numbers vs) (let same : 0 ≡ n = cc in same)
numbers_more (known l) vs n e = ap (λ k. k ∷ numbers vs) (let same : 0 ≡ n = cc in same)
numbers_more (local i) vs n e = ap (λ k. k ∷ numbers vs) (let same : i ≡ n = cc in same)
numbers_more (con p xs) vs n e = ap (λ k. k ∷ numbers vs) (let same : 0 ≡ n = cc in same)

length_more : (s : SchemeTree) (vs : Values) → length (numbers (value s vs)) ≡ suc (length (numbers vs))
length_more (meta m ws) vs = refl
length_more (known l) vs = refl
length_more (local i) vs = refl
length_more (con p xs) vs = refl

pub length_numbers : (ss : List SchemeTree) → length (numbers (values ss)) ≡ length ss
length_numbers [] = refl
length_numbers (s ∷ ss) = length_more s (values ss) ∙ ap suc (length_numbers ss)

length_left : (args : List Scheme) (at : ℕ) → at < length args → length (numbers (values (map scheme (drop (at + 1) args)))) ≡ length args - 1 - at
length_left args at h =
    length_numbers (map scheme (drop (at + 1) args)) ∙ length-map (drop (at + 1) args) scheme ∙ grind (arith, length-drop)

-- the parameter of the first argument that is the local
pub parameter_here : (args : List Scheme) (at n index : ℕ) (s : Scheme) → at < length args → s ≡ get_or args at s →
    numbers (value (scheme s) no_values) ≡ n ∷ [] → n ≡ index →
    length args - 1 - at ≡ parameter_of (numbers (values (map scheme (drop at args)))) index
parameter_here args at n index s h is number same =
    sym (ap (λ xs. parameter_of (numbers (values (map scheme xs))) index) (drop_more args at s h ∙ ap (λ z. z ∷ drop (at + 1) args) (sym is))
    ∙ ap (λ ns. parameter_of ns index) (numbers_more (scheme s) (values (map scheme (drop (at + 1) args))) n number)
    ∙ told n index (length (numbers (values (map scheme (drop (at + 1) args))))) (parameter_of (numbers (values (map scheme (drop (at + 1) args)))) index) same
    ∙ length_left args at h)

-- one local more
parameters_step : (is : List ℕ) (left : ℕ) → 0 < left → parameters_of is left ≡ parameter_of is (left - 1) ∷ parameters_of is (left - 1)
parameters_step is zero h = absurd (let no : ⊥ = omega arith in no)
parameters_step is (suc n) h = ap (λ k. parameter_of is k ∷ parameters_of is k) (let e : n ≡ suc n - 1 = omega arith in e)

pub parameter_pushed : {A B : Type 0} (view : A → B) (f : ℕ → B) (is : List ℕ) (left : ℕ) (all new : List A) (one : A) (whole : List B) → 0 < left →
    view one ≡ f (parameter_of is (left - 1)) → new ≡ all ++ one ∷ [] → map view all ++ map f (parameters_of is left) ≡ whole →
    map view new ++ map f (parameters_of is (left - 1)) ≡ whole
parameter_pushed view f is left all new one whole h is_one more e =
    ap (λ xs. map view xs ++ map f (parameters_of is (left - 1))) more
    ∙ ap (λ xs. xs ++ map f (parameters_of is (left - 1))) (map-append view all (one ∷ []))
    ∙ append_assoc (map view all) (view one ∷ []) (map f (parameters_of is (left - 1)))
    ∙ ap (λ b. map view all ++ b ∷ map f (parameters_of is (left - 1))) is_one
    ∙ ap (λ xs. map view all ++ map f xs) (sym (parameters_step is left h)) ∙ e

-- the parameters, put in for the locals, rename them back
length_parameters : (is : List ℕ) (d : ℕ) → length (parameters_of is d) ≡ d
length_parameters is zero = refl
length_parameters is (suc d) = ap suc (length_parameters is d)

parameter_at : (is : List ℕ) (d k : ℕ) → k < d → get_or (parameters_of is d) k 0 ≡ parameter_of is (d - 1 - k)
parameter_at is zero k h = absurd (let no : ⊥ = omega arith in no)
parameter_at is (suc d) zero h = ap (parameter_of is) (let e : d ≡ suc d - 1 - 0 = omega arith in e)
parameter_at is (suc d) (suc k) h = parameter_at is d k (omega arith) ∙ ap (parameter_of is) (let e : d - 1 - k ≡ suc d - 1 - suc k = omega arith in e)

parameters_rename : (is : List ℕ) (d i : ℕ) → argument_or 0 (λ j. j + length is) (parameters_of is d) i ≡ variable_of is d i
parameters_rename is d i = at (cases_lt i d)
  where
    long : length (parameters_of is d) ≡ d
    long = length_parameters is d

    at : (i < d) ⊎ (d ≤ i) → argument_or 0 (λ j. j + length is) (parameters_of is d) i ≡ variable_of is d i
    at (inl h) =
        argument_at 0 (λ j. j + length is) (parameters_of is d) i (omega (arith, long))
        ∙ unwrap_or-slice_get (reverse (parameters_of is d)) i 0 ∙ get_or-reverse (parameters_of is d) i 0 (omega (arith, long))
        ∙ ap (λ n. get_or (parameters_of is d) (n - 1 - i) 0) long ∙ parameter_at is d (d - 1 - i) (omega arith)
        ∙ ap (parameter_of is) (let e : d - 1 - (d - 1 - i) ≡ i = omega arith in e) ∙ sym (variable_at is d i h)
    at (inr h) =
        argument_past 0 (λ j. j + length is) (parameters_of is d) i (omega (arith, long))
        ∙ ap (λ n. i - n + length is) long ∙ sym (variable_past is d i h)

renamed_root : (is : List ℕ) (d i : ℕ) → argument_or_root (length is) (map var (parameters_of is d)) i ≡ var (variable_of is d i)
renamed_root is d i =
    sym (argument_mapped var 0 (var 0) (λ j. j + length is) (λ j. var (j + length is)) (parameters_of is d) (λ j. refl) i)
    ∙ ap var (parameters_rename is d i)

renamed_local : (is : List ℕ) (d i : ℕ) → argument_or_local (length is) (map local (parameters_of is d)) i ≡ local (variable_of is d i)
renamed_local is d i =
    sym (argument_mapped local 0 (local 0) (λ j. j + length is) (λ j. local (j + length is)) (parameters_of is d) (λ j. refl) i)
    ∙ ap local (parameters_rename is d i)

-- the lists that the calls make
pub lowered_term : (args : List SchemeTree) (d n : ℕ) (ts : List Tree) (t v : Tree) → n ≡ length args → ts ≡ map var (parameters_of (numbers (values args)) d) →
    v ≡ filling.filled (argument_or_root n ts) t → embedded v ≡ lowered (numbers (values args)) d (embedded t)
lowered_term args d n ts t v long are is =
    ap embedded (is ∙ ap (λ xs. filling.filled (argument_or_root n xs) t) are
    ∙ ap (λ k. filling.filled (argument_or_root k (map var (parameters_of (numbers (values args)) d))) t) (long ∙ sym (length_numbers args)))
    ∙ embedded_filled (argument_or_root (length (numbers (values args))) (map var (parameters_of (numbers (values args)) d))) t
    ∙ ap (λ f. filled f (embedded t)) (λ k i. embedded (renamed_root (numbers (values args)) d i k))

pub lowered_scheme : (args : List SchemeTree) (d n : ℕ) (ts : List SchemeTree) (t v : SchemeTree) → n ≡ length args →
    ts ≡ map local (parameters_of (numbers (values args)) d) → v ≡ filled (argument_or_local n ts) t → v ≡ lowered (numbers (values args)) d t
lowered_scheme args d n ts t v long are is =
    is ∙ ap (λ xs. filled (argument_or_local n xs) t) are
    ∙ ap (λ k. filled (argument_or_local k (map local (parameters_of (numbers (values args)) d))) t) (long ∙ sym (length_numbers args))
    ∙ ap (λ f. filled f t) (λ k i. renamed_local (numbers (values args)) d i k)
