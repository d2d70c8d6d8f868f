-- A block after one more of its cases.
use Rattle.std.proofs.Common.{◌≡◌, ◌<◌, ◌+◌, ◌-◌, ℕ, zero, suc, max, List, [], ◌∷◌, ◌++◌, length, take, drop, map, reverse, Option, None, option_map, refl, ap, ◌∙◌, sym, append_assoc, length-append, arith}
use Rattle.std.proofs.lemmas.List.{reverse-append, length-map, length-replicate, replicate-append-replicate}
use Rattle.proof_trees.specs.Here as trees
use Rattle.proof_kernel.specs.Moves.{case_ended}
use Rattle.proof_kernel.specs.View.{held, choice, opened}
use Rattle.proof_kernel.specs.declared.standing.Opened.{Opened}

-- the item at a place, between those before and those after it
parted : {A : Type 0} (xs : List A) (i : ℕ) → i < length xs → (x : A) × (drop i xs ≡ x ∷ drop (suc i) xs) × (take (suc i) xs ≡ take i xs ++ (x ∷ []))
parted [] i h = absurd (let no : ⊥ = omega arith in no)
parted (x ∷ xs) zero h = (x, refl, refl)
parted (x ∷ xs) (suc i) h =
    let rest = parted xs i (omega arith) in
    (rest.0, rest.1, ap (λ ys. x ∷ ys) rest.2)

-- numbers of nothing after numbers of nothing
more_nothing : {A : Type 0} (hs : List (Option A)) (t n : ℕ) →
    (hs ++ trees.nones t) ++ trees.nones (n - length (hs ++ trees.nones {A = A} t)) ≡ hs ++ trees.nones (max t (n - length hs))
more_nothing hs t n =
    let long : length (hs ++ trees.nones t) ≡ length hs + t = length-append hs (trees.nones t) ∙ ap (λ k. length hs + k) (length-replicate t None) in
    let total : t + (n - length (hs ++ trees.nones t)) ≡ max t (n - length hs) = omega (arith, long) in
    append_assoc hs (trees.nones t) (trees.nones (n - length (hs ++ trees.nones t))) ∙ ap (λ xs. hs ++ xs) (replicate-append-replicate t (n - length (hs ++ trees.nones t)) None ∙ ap trees.nones total)

-- around the next case so many numbers more are of nothing, one choice less is due, and one more had its case
pub ended_case : (o : Opened) (n t : ℕ) → o.done < length o.head.named → t ≡ max o.taken (n - length o.before.held) →
    opened (record o { taken = t; done = suc o.done }) ≡ case_ended (opened o) (opened o).due n
ended_case o n t more is =
    let at = parted o.head.named o.done more in
    let due : (opened o).due ≡ choice at.0 ∷ map choice (drop (suc o.done) o.head.named) = ap (map choice) at.1 in
    let had : map choice (reverse (take (suc o.done) o.head.named)) ≡ choice at.0 ∷ (opened o).had =
    ap (λ xs. map choice (reverse xs)) at.2 ∙ ap (map choice) (reverse-append (take o.done o.head.named) (at.0 ∷ [])) in
    let long : length (map (option_map held) o.before.held) ≡ length o.before.held = length-map o.before.held (option_map held) in
    let own : trees.nones t ≡ trees.nones (max o.taken (n - length (map (option_map held) o.before.held))) =
    ap trees.nones (is ∙ ap (λ k. max o.taken (n - k)) (sym long)) in
    let helds = ap (λ xs. map (option_map held) o.before.held ++ xs) own ∙ sym (more_nothing (map (option_map held) o.before.held) o.taken n) in
    rw due (λ i. record (opened o) {
      around = record (opened o).around { held = helds i };
      due = map choice (drop (suc o.done) o.head.named);
      had = had i;
    })
