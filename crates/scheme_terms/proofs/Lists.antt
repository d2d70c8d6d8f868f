-- What is done to lists of arguments is done to each of them.
use Rattle.std.proofs.Common.{◌≡◌, ℕ, ◌+◌, ◌<◌, ◌≤◌, get_or, List, [], ◌∷◌, length, take, map, refl, ap, ◌∙◌, sym, Option, Some, None, option_map, unwrap_or, slice_get}
use Rattle.std.proofs.lemmas.Option.{slice_get-map}
use Rattle.scheme_terms.specs.declared.scheme.Inst.{Inst}
use Rattle.std.proofs.lemmas.List.{take_all}
use Rattle.std.proofs.Common.{arith}
use Rattle.std.proofs.lemmas.Bool.Decides.{nat_tests}
use Rattle.binding_terms.specs.Tree.{Tree, var, arg, nodes, arg_nodes, raised, shifted}
use Rattle.binding_terms.proofs.Substitutions.{shifted_is_filled}
use Rattle.binding_terms.specs.Falls.{nodes_at}
use Rattle.binding_terms.specs.Substitution.{filled, filled_args, under}
use Rattle.binding_terms.specs.View.{args_of, tree, arg_tree, args_tree}
use Rattle.binding_terms.specs.declared.term.Arg.{Arg}
use Rattle.binding_terms.specs.declared.term.Term.{Term}
use Rattle.binding_terms.proofs.Filling.{under_under, shifted_none}
use Rattle.scheme_terms.specs.Forms.{Instance}
use Rattle.scheme_terms.specs.SchemeTree.{SchemeTree, meta, no_values, values}
use Rattle.scheme_terms.specs.Instance.{argument_or_root, value_of, instance_of, instances_of, parts_instance}
use Rattle.scheme_terms.specs.View.{instance, scheme, parts_of, scheme_part, scheme_parts}
use Rattle.scheme_terms.specs.declared.scheme.Scheme.{Scheme}
use Rattle.scheme_terms.specs.declared.scheme.SArg.{SArg}

abbrev pub filled_arg : (ℕ → ℕ → Tree) → ℕ × Tree → ℕ × Tree
filled_arg f a = (a.0, filled (f a.0) a.1)

all_filled : (depth : ℕ) (f : ℕ → Tree) (xs : List (ℕ × Tree)) →
    filled_args (under depth f) (args_of xs) ≡ args_of (map (filled_arg (λ n. under (depth + n) f)) xs)
all_filled depth f [] = refl
all_filled depth f (a ∷ xs) =
    ap (λ g. arg a.0 (filled g a.1) (filled_args (under depth f) (args_of xs))) (under_under depth a.0 f)
    ∙ ap (arg a.0 (filled (under (depth + a.0) f) a.1)) (all_filled depth f xs)

pub done_filled : (depth : ℕ) (f : ℕ → Tree) (all args : List Arg) (i : ℕ) → length args ≤ i
    → map arg_tree all ≡ map (filled_arg (λ n. under (depth + n) f)) (map arg_tree (take i args))
    → args_tree all ≡ filled_args (under depth f) (args_tree args)
done_filled depth f all args i h e =
    ap args_of (e ∙ ap (λ xs. map (filled_arg (λ n. under (depth + n) f)) (map arg_tree xs)) (take_all i args h))
    ∙ sym (all_filled depth f (map arg_tree args))

all_instances : (inst : Instance) (locals : ℕ) (ss : List SchemeTree) → instances_of inst locals (values ss) ≡ map (instance_of inst locals) ss
all_instances inst locals [] = refl
all_instances inst locals (s ∷ ss) = ap (λ ts. instance_of inst locals s ∷ ts) (all_instances inst locals ss)

pub done_instances : (inst : Instance) (locals : ℕ) (all : List Term) (args : List Scheme) (i : ℕ) → length args ≤ i
    → map tree all ≡ map (instance_of inst locals) (map scheme (take i args)) → map tree all ≡ instances_of inst locals (values (map scheme args))
done_instances inst locals all args i h e =
    e ∙ ap (λ xs. map (instance_of inst locals) (map scheme xs)) (take_all i args h) ∙ sym (all_instances inst locals (map scheme args))

abbrev pub part_instance : Instance → ℕ → ℕ × SchemeTree → ℕ × Tree
part_instance inst locals a = (a.0, instance_of inst (locals + a.0) a.1)

all_parts : (inst : Instance) (locals : ℕ) (xs : List (ℕ × SchemeTree)) →
    parts_instance inst locals (parts_of xs) ≡ args_of (map (part_instance inst locals) xs)
all_parts inst locals [] = refl
all_parts inst locals (a ∷ xs) = ap (arg a.0 (instance_of inst (locals + a.0) a.1)) (all_parts inst locals xs)

pub done_parts : (inst : Instance) (locals : ℕ) (all : List Arg) (parts : List SArg) (i : ℕ) → length parts ≤ i
    → map arg_tree all ≡ map (part_instance inst locals) (map scheme_part (take i parts))
    → args_tree all ≡ parts_instance inst locals (scheme_parts parts)
done_parts inst locals all parts i h e =
    ap args_of (e ∙ ap (λ xs. map (part_instance inst locals) (map scheme_part xs)) (take_all i parts h))
    ∙ sym (all_parts inst locals (map scheme_part parts))

-- the value of a metavariable, as it is stored
abbrev pub seen : Option (Option Term) → Tree
seen None = var 0
seen (Some None) = var 0
seen (Some (Some t)) = tree t

seen_is : (o : Option (Option Term)) → unwrap_or (unwrap_or (option_map (option_map tree) o) None) (var 0) ≡ seen o
seen_is None = refl
seen_is (Some None) = refl
seen_is (Some (Some t)) = refl

pub value_seen : (inst : Inst) (m : ℕ) → value_of (instance inst) m ≡ seen (slice_get inst.metas m)
value_seen inst m = rw slice_get-map (seen_is (slice_get inst.metas m))

-- a part is no larger than all of them
pub smaller : (parts : List Arg) (i : ℕ) (a : Arg) → i < length parts → a ≡ get_or parts i a → nodes (tree a.body) ≤ arg_nodes (args_tree parts)
smaller parts i a h e = nodes_at parts i a h e

root_alone : (locals i : ℕ) → var (raised 0 locals i) ≡ argument_or_root locals [] i
root_alone locals i = grind (arith, nat_tests)

-- a value without arguments is raised
pub without_arguments : (args : List Term) (locals : ℕ) (t : Tree) → length args ≡ 0 →
    shifted 0 locals t ≡ filled (argument_or_root locals (map tree args)) t
without_arguments [] locals t h = shifted_is_filled 0 locals t ∙ ap (λ f. filled f t) (λ k i. root_alone locals i k)
without_arguments (a ∷ args) locals t h = absurd (let no : ⊥ = omega arith in no)

-- the instance of a metavariable alone is its value
pub instance_meta : (inst : Instance) (m : ℕ) → instance_of inst 0 (meta m no_values) ≡ value_of inst m
instance_meta inst m = sym (without_arguments [] 0 (value_of inst m) refl) ∙ shifted_none 0 (value_of inst m)
