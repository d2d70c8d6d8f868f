-- What is in scope, while it grows by several derivations.
use Rattle.std.proofs.Common.{◌≡◌, ◌+◌, ◌-◌, ℕ, List, [], ◌∷◌, ◌++◌, length, take, map, Option, Some, None, option_map, Result, Ok, Err, OnErr, ap, ◌∙◌, sym, append_assoc, length-append, arith}
use Rattle.std.proofs.Math.Seq.{take-append_seam}
use Rattle.std.proofs.lemmas.List.{map-append, length-map, take-map, length-replicate}
use Rattle.std.proofs.lemmas.Grind.{replicate_next}
use Rattle.rule_schemes.specs.Rules.{JudgmentScheme}
use Rattle.proof_trees.specs.Here as trees
use Rattle.proof_trees.specs.Here.{holding, unrelated, nones}
use Rattle.proof_kernel.specs.Growth.{HasGrown}
use Rattle.rule_schemes.specs.View.{judgment_scheme}
use Rattle.proof_trees.specs.Standings.{after_opened}
use Rattle.proof_kernel.specs.View.{held, here, opened}
use Rattle.proof_kernel.specs.declared.standing.Opened.{Opened}
use Rattle.proof_kernel.specs.declared.here.Here.{Here}
use Rattle.proof_kernel.specs.declared.here.Held.{Held}

pub on_err : {T E : Type 0} (r : Result T E) (P : Type 0) → P → OnErr r P
on_err (Ok x) P h = tt
on_err (Err e) P h = h

pub holding_more : (h : trees.Here) (xs ys : List (Option trees.Held)) → holding (holding h xs) ys ≡ holding h (xs ++ ys)
holding_more h xs ys = ap (λ zs. record h { held = zs }) (append_assoc h.held xs ys)

abbrev pub all_unrelated : trees.Here → List JudgmentScheme → List (Option trees.Held)
all_unrelated h js = map (λ j. Some (unrelated h j)) js

pub one_form_more : (old now new : trees.Here) (js ks : List JudgmentScheme) (j : JudgmentScheme) → now ≡ holding old (all_unrelated old js) →
    new ≡ holding now (Some (unrelated now j) ∷ []) → ks ≡ js ++ (j ∷ []) → new ≡ holding old (all_unrelated old ks)
one_form_more old now new js ks j before after more =
    after ∙ ap (λ h. holding h (Some (unrelated h j) ∷ [])) before ∙ holding_more old (all_unrelated old js) (Some (unrelated old j) ∷ [])
    ∙ ap (holding old) (sym (map-append (λ k. Some (unrelated old k)) js (j ∷ [])) ∙ ap (all_unrelated old) (sym more))

pub one_nothing_more : (h : Here) (old : trees.Here) (hs : List (Option Held)) (n : ℕ) → hs ≡ h.held ++ (None ∷ []) →
    here h ≡ holding old (nones n) → here (record h { held = hs }) ≡ holding old (nones (n + 1))
one_nothing_more h old hs n more before =
    ap (λ xs. here (record h { held = xs })) more
    ∙ ap (λ xs. record (here h) { held = xs }) (map-append (option_map held) h.held (None ∷ []))
    ∙ ap (λ x. holding x (None ∷ [])) before ∙ holding_more old (nones n) (None ∷ []) ∙ ap (holding old) (sym (replicate_next n None))

pub grown_after : (old now new : trees.Here) (xs : List (Option trees.Held)) → now ≡ holding old xs → HasGrown now new → HasGrown old new
grown_after old now new xs before grown =
    (xs ++ grown.0, grown.1 ∙ ap (λ h. holding h grown.0) before ∙ holding_more old xs grown.0)

pub shortened : (old now : Here) → HasGrown (here old) (here now) → here (record now { held = take (length old.held) now.held }) ≡ here old
shortened old now grown =
    let same : map (option_map held) now.held ≡ map (option_map held) old.held ++ grown.0 = ap (λ h. h.held) grown.1 in
    let front : map (option_map held) (take (length old.held) now.held) ≡ map (option_map held) old.held =
    sym (take-map (option_map held) (length old.held) now.held) ∙ ap (take (length old.held)) same
    ∙ ap (λ n. take n (map (option_map held) old.held ++ grown.0)) (sym (length-map old.held (option_map held)))
    ∙ take-append_seam (map (option_map held) old.held) grown.0 in
    let one : here (record now { held = take (length old.held) now.held }) ≡ record (here now) { held = (here old).held } =
    λ i. record (here now) { held = front i } in
    let other : record (here now) { held = (here old).held } ≡ here old = λ i. record (grown.1 i) { held = (here old).held } in
    one ∙ other

-- before a block, its forms with what its cases numbered are what comes in scope at its end
pub given_forms : (o : Opened) (n : ℕ) → n ≡ o.taken - length o.head.forms →
    holding (here o.before) (all_unrelated (here o.before) (map judgment_scheme o.head.forms) ++ nones n) ≡ after_opened (opened o)
given_forms o n is =
    let hs = (here o.before).held in
    let long : length (hs ++ nones o.taken) ≡ length hs + o.taken = length-append hs (nones o.taken) ∙ ap (λ k. length hs + k) (length-replicate o.taken None) in
    let forms : length (map judgment_scheme o.head.forms) ≡ length o.head.forms = length-map o.head.forms judgment_scheme in
    let same : n ≡ length (hs ++ nones o.taken) - (length hs + length (map judgment_scheme o.head.forms)) = omega (arith, is, long, forms) in
    ap (λ k. holding (here o.before) (all_unrelated (here o.before) (map judgment_scheme o.head.forms) ++ nones k)) same

pub same_opened : (o : Opened) (b : Here) → here b ≡ here o.before → opened (record o { before = b }) ≡ opened o
same_opened o b same = λ i. record (opened o) {
  before = same i;
  around = record {
    scope = (same i).scope;
    held = (same i).held ++ nones o.taken;
    targets = (same i).targets;
    goal = (opened o).around.goal;
  };
}
