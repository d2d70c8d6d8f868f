use Rattle.std.proofs.Common.{◌≡◌, ◌+◌, ◌<◌, ◌++◌, ◌∷◌, ℕ, List, [], Option, Some, None, MatchOption, length, map, take, drop, reverse, append_assoc, ap, sym, ◌∙◌, arith}
use Rattle.std.proofs.lemmas.List.{map-append, length-append, length-take-le, take_at, take-take}
use Rattle.pattern_unify.specs.Equations.{equation}
use Rattle.pattern_unify.proofs.rows.in_place.Goals as goal

popped : {A : Type 0} (o : Option A) (old new eqs : List A) (place : ℕ) → old ≡ take (place + 1) eqs → place < length eqs →
    MatchOption o ((old ≡ []) × (new ≡ [])) (λ last. old ≡ new ++ last ∷ []) → new ≡ take place eqs
popped None old new eqs place is below h =
    let long = sym (length-take-le (place + 1) eqs (omega (arith, below))) ∙ ap length (sym is ∙ h.0) in absurd (let no : ⊥ = omega (arith, long) in no)
popped (Some last) old new eqs place is below h =
    let long = sym (length-append new (last ∷ [])) ∙ ap length (sym h ∙ is) ∙ length-take-le (place + 1) eqs (omega (arith, below)) in
    sym (take_at new (last ∷ []) place (omega (arith, long))) ∙ ap (take place) (sym h ∙ is) ∙ take-take place (place + 1) eqs (omega arith)

mapped : {A B : Type 0} (f : A → B) (xs ys zs : List A) → map f ((xs ++ ys) ++ zs) ≡ map f xs ++ (map f ys ++ map f zs)
mapped f xs ys zs =
    map-append f (xs ++ ys) zs ∙ ap (λ l. l ++ map f zs) (map-append f xs ys) ∙ append_assoc (map f xs) (map f ys) (map f zs)

pub returns : goal.returns
returns c =
    let kept = popped c.pop.result c.take_from.new.eqs c.pop.new.self c.args.eqs c.args.place c.in_ok-rest.ensures.0 c.requires c.pop.ensures in
    ap (map equation) (c.in_ok-put_back.ensures ∙ ap (λ l. l ++ reverse c.in_ok-rest.rest) (c.in_ok-append.ensures ∙ ap (λ l. l ++ c.args.more) kept)
    ∙ ap (λ l. (take c.args.place c.args.eqs ++ c.args.more) ++ l) c.in_ok-rest.ensures.1)
    ∙ mapped equation (take c.args.place c.args.eqs) c.args.more (drop (c.args.place + 1) c.args.eqs)
