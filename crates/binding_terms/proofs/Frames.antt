-- Reading a list from its end.
use Rattle.std.proofs.Common.{◌≡◌, ℕ, zero, suc, ◌-◌, ◌<◌, ◌≤◌, List, [], ◌∷◌, ◌++◌, length, get_or, map, reverse, slice_get, slice_index, Some, None, refl, ap, ◌∙◌, sym, arith}
use Rattle.std.proofs.lemmas.List.{get_or-reverse, get_or-map, length-map, length-reverse}
use Rattle.std.proofs.lemmas.Option.{slice_get_past, slice_get-get_or}
use Rattle.std.proofs.Common.{rules, Bor, IsTrue, ◌↔◌, nat_eq, drop, true≢false, Bool, false}
use Rattle.std.proofs.lemmas.List.{length-drop}
use Rattle.std.proofs.lemmas.Bool.Decides.{nat_tests}
use Rattle.binding_terms.specs.Tree.{Tree, con, Args}
use Rattle.binding_terms.specs.View.{tree, args_tree}
use Rattle.binding_terms.specs.Signature.{Signature, slots, binders}
use Rattle.binding_terms.specs.Scope.{bound, IsTerm, AreParts}
use Rattle.binding_terms.specs.Frames.{scope_of}
use Rattle.binding_terms.specs.declared.grammar.Item.{Item}
use Rattle.binding_terms.specs.declared.grammar.Prod.{Prod}
use Rattle.binding_terms.specs.declared.grammar.ProdId.{ProdId}
use Rattle.binding_terms.specs.declared.term.Arg.{Arg}
use Rattle.binding_terms.specs.declared.term.Term.TheVariants.{Con}
use Rattle.binding_terms.specs.declared.scope.Frames.{Frames, Under, the_lemmas}
use Rattle.binding_terms.proofs.Lists.{append_beyond, append_within}

pub get_from_end : {X : Type 0} (f : X → ℕ) (xs : List X) (i : ℕ) (d : X) → i < length xs
    → slice_get (reverse (map f xs)) i ≡ Some (f (get_or xs (length xs - 1 - i) d))
get_from_end f xs i d h =
    let within : i < length (map f xs) = rw length-map h in
    let whole : i < length (reverse (map f xs)) = rw (length-reverse, length-map) h in
    let back : length xs - 1 - i < length xs = omega arith in
    slice_get-get_or (reverse (map f xs)) i (f d) whole
    ∙ ap Some (get_or-reverse (map f xs) i (f d) within ∙ rw length-map (get_or-map f xs (length xs - 1 - i) d (f d) back))

-- a variable of the innermost slot, and one outside it
pub within : (bs binds scope : List ℕ) (i : ℕ) → i < length binds → slice_get (bound bs binds ++ scope) i ≡ slice_get (bound bs binds) i
within bs binds scope i h = append_within (bound bs binds) scope i (rw (length-reverse, length-map) h)

pub beyond : (bs binds scope : List ℕ) (i : ℕ) → length binds ≤ i → slice_get (bound bs binds ++ scope) i ≡ slice_get scope (i - length binds)
beyond bs binds scope i h =
    let same : length (bound bs binds) ≡ length binds = length-reverse (map (slice_index bs) binds) ∙ length-map binds (slice_index bs) in
    append_beyond (bound bs binds) scope i (rw same h) ∙ ap (λ n. slice_get scope (i - n)) same

pub scope_of-Under : (items : Bor (List Item)) (binds : Bor (List ℕ)) (outer : Bor Frames) →
    scope_of (Under items binds outer) ≡ bound (binders items.now) binds.now ++ scope_of outer.now
scope_of-Under items binds outer = search (rules, the_lemmas)

pub tree-Con : (p : ProdId) (args : Args) → tree (Con p args) ≡ con p.0 args
tree-Con p args = refl

module _ (sig : Signature) (scope : List ℕ) (c p : ℕ) (xs : Args) where
  pub con_here : (prod : Prod) → slice_get sig.prods p ≡ Some prod → prod.cat.0 ≡ c →
      IsTerm sig scope c (con p xs) ↔ AreParts sig scope (binders prod.items) (slots prod.items) xs
  con_here prod e k = (λ h. (rw e at h).1, λ h. rw e (k, h))

  pub con_other : (prod : Prod) → slice_get sig.prods p ≡ Some prod → (prod.cat.0 ≡ c → ⊥) → IsTerm sig scope c (con p xs) → ⊥
  con_other prod e k h = k (rw e at h).0

  pub con_none : slice_get sig.prods p ≡ None → IsTerm sig scope c (con p xs) → ⊥
  con_none e h = rw e at h

pub parts_end : (sig : Signature) (scope bs : List ℕ) (args : List Arg) (next : ℕ) → next ≤ length args →
    IsTrue (nat_eq next (length args)) ↔ AreParts sig scope bs [] (args_tree (drop next args))
parts_end sig scope bs args next h = left (drop next args) (length-drop next args)
  where
    left : (rest : List Arg) → length rest ≡ length args - next → IsTrue (nat_eq next (length args)) ↔ AreParts sig scope bs [] (args_tree rest)
    left [] e = let same : next ≡ length args = omega arith in (λ _. tt, λ _. grind (arith, nat_tests))
    left (a ∷ rest) e =
        let other : next ≡ length args → ⊥ = λ k. omega arith in
        (λ t. let same : next ≡ length args = grind (arith, nat_tests) in absurd (other same), λ k. absurd k)

module _ (sig : Signature) (scope : List ℕ) (c : ℕ) (r : Bool) (t : Tree) (p : ℕ) (xs : Args) (is : t ≡ con p xs) where
  pub term_here : (prod : Prod) (items : List Item) → slice_get sig.prods p ≡ Some prod → prod.cat.0 ≡ c → items ≡ prod.items
      → (IsTrue r ↔ AreParts sig scope (binders items) (slots items) xs) → IsTrue r ↔ IsTerm sig scope c t
  term_here prod items e k same parts =
      let here = con_here sig scope c p xs prod e k in
      rw is (λ h. here.1 ((rw same at parts).0 h), λ h. (rw same at parts).1 (here.0 h))

  pub term_other : (prod : Prod) → slice_get sig.prods p ≡ Some prod → (prod.cat.0 ≡ c → ⊥) → r ≡ false → IsTrue r ↔ IsTerm sig scope c t
  term_other prod e k differs = rw (is, differs) (λ h. absurd (true≢false (sym h)), λ h. absurd (con_other sig scope c p xs prod e k h))

  pub term_none : slice_get sig.prods p ≡ None → IsTrue false ↔ IsTerm sig scope c t
  term_none e = rw is (λ h. absurd (true≢false (sym h)), λ h. absurd (con_none sig scope c p xs e h))
