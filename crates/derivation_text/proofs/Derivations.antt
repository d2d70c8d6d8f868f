-- The lines of trees, one tree further on.
use Rattle.std.proofs.Common.{◌≡◌, ℕ, zero, suc, ◌+◌, ◌<◌, ◌≤◌, List, [], ◌∷◌, ◌++◌, drop, Option, Some, slice_get, refl, ap, sym, ◌∙◌, arith, add-one, append_assoc}
use Rattle.std.proofs.lemmas.List.{append-nil}
use Rattle.scheme_terms.specs.Forms.{ContextValue}
use Rattle.rule_schemes.specs.Rules.{Theory}
use Rattle.rule_schemes.specs.Derivation.{Derivation, node, leaf, Subtrees, no_more, subtree, judgment, size, sizes}
use Rattle.derivation_check.specs.Parts.{listed, premises_of, rule_of, subtrees_of}
use Rattle.derivation_text.specs.Text.{all_lines, line, lines, numbers}

-- the trees from an index on
pub trees_from : (ds : List Derivation) (i : ℕ) (d : Derivation) → slice_get ds i ≡ Some d → drop i ds ≡ d ∷ drop (i + 1) ds
trees_from ds i d h = from ds i d h ∙ ap (λ k. d ∷ drop k ds) (sym (add-one i))
  where
    from : (ds : List Derivation) (i : ℕ) (d : Derivation) → slice_get ds i ≡ Some d → drop i ds ≡ d ∷ drop (suc i) ds
    from [] i d h = cc
    from (e ∷ ds) zero d h = cc
    from (e ∷ ds) (suc i) d h = from ds i d h

-- a subtree has fewer nodes than the tree
listed_size : (ds : Subtrees) (i : ℕ) (d : Derivation) → slice_get (listed ds) i ≡ Some d → size d ≤ sizes ds
listed_size no_more i d h = cc
listed_size (subtree e ds) zero d h = let same : e ≡ d = cc in omega (arith, ap size same)
listed_size (subtree e ds) (suc i) d h = omega (arith, listed_size ds i d h)

pub premise_smaller : (tree : Derivation) (i : ℕ) (d : Derivation) → slice_get (premises_of tree) i ≡ Some d → size d < size tree
premise_smaller (node r j ds) i d h = omega (arith, listed_size ds i d h)
premise_smaller (leaf r j place) i d h = cc

-- the lines of a tree are written of those that are left
pub lines_step : (th : Theory) (root : Option ContextValue) (t u : List ℕ) (n m : ℕ) (d : Derivation) (left rest : List Derivation)
    → left ≡ d ∷ rest → u ≡ t ++ lines th root n d → m ≡ n + size d
    → u ++ all_lines th root m (subtrees_of rest) ≡ t ++ all_lines th root n (subtrees_of left)
lines_step th root t u n m d left rest first text number =
    (λ k. text k ++ all_lines th root (number k) (subtrees_of rest))
    ∙ (append_assoc t (lines th root n d) _ ∙ ap (λ ds. t ++ all_lines th root n (subtrees_of ds)) (sym first))

pub numbers_step : (ns ms : List ℕ) (n m : ℕ) (d : Derivation) (left rest : List Derivation)
    → left ≡ d ∷ rest → ms ≡ ns ++ m ∷ [] → m ≡ n + size d
    → ms ++ numbers m (subtrees_of rest) ≡ ns ++ numbers n (subtrees_of left)
numbers_step ns ms n m d left rest first more number =
    (λ k. more k ++ numbers m (subtrees_of rest))
    ∙ (append_assoc ns (m ∷ []) _
    ∙ ((λ k. ns ++ (number k ∷ numbers (number k) (subtrees_of rest))) ∙ ap (λ ds. ns ++ numbers n (subtrees_of ds)) (sym first)))

pub sizes_step : (n m whole : ℕ) (d : Derivation) (left rest : List Derivation)
    → left ≡ d ∷ rest → m ≡ n + size d → n + sizes (subtrees_of left) ≡ whole → m + sizes (subtrees_of rest) ≡ whole
sizes_step n m whole d left rest first number all = omega (arith, ap (λ ds. sizes (subtrees_of ds)) first)

listed_back : (ds : Subtrees) → subtrees_of (listed ds) ≡ ds
listed_back no_more = refl
listed_back (subtree d ds) = ap (subtree d) (listed_back ds)

-- a tree's lines and its size, by its premises
lines_parts : (th : Theory) (root : Option ContextValue) (n : ℕ) (d : Derivation)
    → lines th root n d
    ≡ all_lines th root n (subtrees_of (premises_of d))
    ++ line th root (n + (sizes (subtrees_of (premises_of d)) + 1)) (judgment d) (rule_of d) (numbers n (subtrees_of (premises_of d)))
lines_parts th root n (node r j ds) =
    ap (λ es. all_lines th root n es ++ line th root (n + (sizes es + 1)) j r (numbers n es)) (sym (listed_back ds))
lines_parts th root n (leaf r j place) = refl

size_parts : (d : Derivation) → size d ≡ sizes (subtrees_of (premises_of d)) + 1
size_parts (node r j ds) = ap (λ es. sizes es + 1) (sym (listed_back ds))
size_parts (leaf r j place) = refl

-- no premise is left
pub number_done : (d : Derivation) (n last number : ℕ) (left : List Derivation) → left ≡ []
    → last + sizes (subtrees_of left) ≡ n + sizes (subtrees_of (premises_of d)) → number ≡ last + 1 → number ≡ n + size d
number_done d n last number left none all one = omega (arith, size_parts d, ap (λ ds. sizes (subtrees_of ds)) none)

pub lines_done : (th : Theory) (root : Option ContextValue) (d : Derivation) (t u v names : List ℕ) (n last number : ℕ) (left : List Derivation)
    → left ≡ []
    → u ++ all_lines th root last (subtrees_of left) ≡ t ++ all_lines th root n (subtrees_of (premises_of d))
    → names ++ numbers last (subtrees_of left) ≡ numbers n (subtrees_of (premises_of d))
    → number ≡ n + size d
    → v ≡ u ++ line th root number (judgment d) (rule_of d) names
    → v ≡ t ++ lines th root n d
lines_done th root d t u v names n last number left none text all count own =
    let before : u ≡ t ++ all_lines th root n (subtrees_of (premises_of d)) =
    sym (append-nil u) ∙ (ap (λ ds. u ++ all_lines th root last (subtrees_of ds)) (sym none) ∙ text) in
    let named : names ≡ numbers n (subtrees_of (premises_of d)) =
    sym (append-nil names) ∙ (ap (λ ds. names ++ numbers last (subtrees_of ds)) (sym none) ∙ all) in
    own
    ∙ ((λ k. before k ++ line th root ((count ∙ ap (λ m. n + m) (size_parts d)) k) (judgment d) (rule_of d) (named k))
    ∙ (append_assoc t _ _ ∙ ap (λ ls. t ++ ls) (sym (lines_parts th root n d))))

-- three pieces after nothing
pub three_pieces : (t u v w a b c : List ℕ) → t ≡ [] → u ≡ t ++ a → v ≡ u ++ b → w ≡ v ++ c → w ≡ a ++ (b ++ c)
three_pieces t u v w a b c none first second third =
    third ∙ (ap (λ x. x ++ c) (second ∙ ap (λ x. x ++ b) (first ∙ ap (λ x. x ++ a) none)) ∙ append_assoc a b c)
