-- What is done to the arguments is done to each of them.
use Rattle.std.proofs.Common.{◌≡◌, ℕ, ◌+◌, ◌<◌, ◌≤◌, List, [], ◌∷◌, ◌++◌, ◌-◌, max, length, get_or, take, map, sum_by, refl, ap, ◌∙◌, sym, arith}
use Rattle.std.proofs.lemmas.List.Sums.{sum_by-cons}
use Rattle.std.proofs.lemmas.List.{get_or-map, length-map, take_all, take_more, map-append}
use Rattle.binding_terms.specs.Tree.{Tree, arg, nodes, arg_nodes, shifted, shifted_args, put_in, put_in_args, free, free_args, Bounds}
use Rattle.binding_terms.specs.View.{args_of, arg_tree, args_tree}
use Rattle.binding_terms.specs.declared.term.Arg.{Arg}

abbrev pub arg_size : ℕ × Tree → ℕ
arg_size a = nodes a.1

pub all_nodes : (xs : List (ℕ × Tree)) → arg_nodes (args_of xs) ≡ sum_by arg_size xs
all_nodes [] = refl
all_nodes (a ∷ xs) = ap (λ n. nodes a.1 + n) (all_nodes xs) ∙ sym (sum_by-cons arg_size a xs)

-- arguments that are the same are the same one by one
pub args_of-same : (xs ys : List (ℕ × Tree)) → args_of xs ≡ args_of ys → xs ≡ ys
args_of-same [] [] e = refl
args_of-same [] (y ∷ ys) e = cc
args_of-same (x ∷ xs) [] e = cc
args_of-same (x ∷ xs) (y ∷ ys) e =
    let rest : args_of xs ≡ args_of ys = cc in
    let more : xs ≡ ys = args_of-same xs ys rest in
    let binds : x.0 ≡ y.0 = cc in
    let body : x.1 ≡ y.1 = cc in
    let first : x ≡ y = λ i. (binds i, body i) in
    cc

pub same_length : (xs ys : List Arg) → args_tree xs ≡ args_tree ys → length xs ≡ length ys
same_length xs ys e = sym (length-map xs arg_tree) ∙ ap length (args_of-same _ _ e) ∙ length-map ys arg_tree

pub same_at : (xs ys : List Arg) (i : ℕ) (a b : Arg) → i < length xs → i < length ys → args_tree xs ≡ args_tree ys
    → a ≡ get_or xs i a → b ≡ get_or ys i b → arg_tree a ≡ arg_tree b
same_at xs ys i a b h k e p q =
    let same : map arg_tree xs ≡ map arg_tree ys = args_of-same _ _ e in
    ap arg_tree p ∙ sym (get_or-map arg_tree xs i a (arg_tree b) h)
    ∙ ap (λ zs. get_or zs i (arg_tree b)) same ∙ get_or-map arg_tree ys i b (arg_tree b) k ∙ ap arg_tree (sym q)

abbrev pub shifted_arg : ℕ → ℕ → ℕ × Tree → ℕ × Tree
shifted_arg cut by a = (a.0, shifted (cut + a.0) by a.1)

pub all_shifted : (cut by : ℕ) (xs : List (ℕ × Tree)) → shifted_args cut by (args_of xs) ≡ args_of (map (shifted_arg cut by) xs)
all_shifted cut by [] = refl
all_shifted cut by (a ∷ xs) = ap (arg a.0 (shifted (cut + a.0) by a.1)) (all_shifted cut by xs)

abbrev pub put_in_arg : ℕ → Tree → ℕ × Tree → ℕ × Tree
put_in_arg at u a = (a.0, put_in (at + a.0) (shifted 0 a.0 u) a.1)

pub all_put_in : (at : ℕ) (u : Tree) (xs : List (ℕ × Tree)) → put_in_args at u (args_of xs) ≡ args_of (map (put_in_arg at u) xs)
all_put_in at u [] = refl
all_put_in at u (a ∷ xs) = ap (arg a.0 (put_in (at + a.0) (shifted 0 a.0 u) a.1)) (all_put_in at u xs)

-- the same at the end of a loop over the arguments
pub done_nodes : (args : List Arg) (i : ℕ) → length args ≤ i → sum_by arg_size (map arg_tree (take i args)) ≡ arg_nodes (args_tree args)
done_nodes args i h = rw (take_all i args h) (sym (all_nodes (map arg_tree args)))

pub done_shifted : (cut by : ℕ) (all args : List Arg) (i : ℕ) → length args ≤ i
    → map arg_tree all ≡ map (shifted_arg cut by) (map arg_tree (take i args)) → args_tree all ≡ shifted_args cut by (args_tree args)
done_shifted cut by all args i h e =
    ap args_of (e ∙ ap (λ xs. map (shifted_arg cut by) (map arg_tree xs)) (take_all i args h)) ∙ sym (all_shifted cut by (map arg_tree args))

pub done_put_in : (at : ℕ) (u : Tree) (all args : List Arg) (i : ℕ) → length args ≤ i
    → map arg_tree all ≡ map (put_in_arg at u) (map arg_tree (take i args)) → args_tree all ≡ put_in_args at u (args_tree args)
done_put_in at u all args i h e =
    ap args_of (e ∙ ap (λ xs. map (put_in_arg at u) (map arg_tree xs)) (take_all i args h)) ∙ sym (all_put_in at u (map arg_tree args))

abbrev pub arg_free : ℕ × Tree → ℕ
arg_free a = free a.1 - a.0

pub free_append : (xs : List (ℕ × Tree)) (a : ℕ × Tree) → free_args (args_of (xs ++ a ∷ [])) ≡ max (free_args (args_of xs)) (arg_free a)
free_append [] a = omega arith
free_append (x ∷ xs) a = omega (arith, free_append xs a)

pub done_free : (args : List Arg) (i b : ℕ) → length args ≤ i → Bounds b (free_args (args_of (map arg_tree (take i args)))) → Bounds b (free_args (args_tree args))
done_free args i b h k = rw (take_all i args h) at k

pub more_free : (args : List Arg) (i : ℕ) (a : Arg) → i < length args → a ≡ get_or args i a
    → free_args (args_of (map arg_tree (take (i + 1) args))) ≡ max (free_args (args_of (map arg_tree (take i args)))) (arg_free (arg_tree a))
more_free args i a h e =
    ap (λ xs. free_args (args_of (map arg_tree xs))) (take_more args i a h)
    ∙ (λ k. free_args (args_of (map arg_tree (take i args ++ sym e k ∷ []))))
    ∙ ap (λ ys. free_args (args_of ys)) (map-append arg_tree (take i args) (a ∷ []))
    ∙ free_append (map arg_tree (take i args)) (arg_tree a)

pub bounds_max : (m b r f g : ℕ) → r ≡ max m b → Bounds m f → Bounds b g → Bounds r (max f g)
bounds_max m b r f g e h k lt =
    let p : f ≤ m = h (omega (arith, e)) in
    let q : g ≤ b = k (omega (arith, e)) in
    omega (arith, e, p, q)
