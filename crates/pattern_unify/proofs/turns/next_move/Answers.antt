use Rattle.std.proofs.Common.{ℕ, zero, suc, List, [], refl, ◌≡◌, map, take, drop, length, option_map, ap, sym, ◌∙◌, subst, ◌<◌, ◌+◌, ◌++◌, ◌∷◌, arith}
use Rattle.std.proofs.lemmas.List.{length-map}
use Rattle.binding_terms.proofs.Lists.{mapped_around}
use Rattle.scheme_terms.specs.View.{names}
use Rattle.pattern_unify.specs.Equations.{equation}
use Rattle.pattern_unify.specs.Chosen.{chosen, IsFirst}
use Rattle.pattern_unify.proofs.turns.next_move.Goals as goal

taken : {A : Type 0} (n : ℕ) (xs : List A) → n < length xs → length (take n xs) ≡ n
taken zero xs h = refl
taken (suc n) [] h = absurd (let no : ⊥ = omega (arith, h) in no)
taken (suc n) (x ∷ xs) h = ap suc (taken n xs (omega (arith, h)))

pub returns-in-Some : goal.returns-in-Some
returns-in-Some c =
    record {
      before = map equation (take c.loop-place.place c.args.eqs.now);
      e = equation c.index-eqs-place.result;
      rest = map equation (drop (c.loop-place.place + 1) c.args.eqs.now);
      at = mapped_around equation c.args.eqs.now c.loop-place.place c.index-eqs-place.result c.loop-place-test.true
          ∙ ap (λ x. map equation (take c.loop-place.place c.args.eqs.now) ++ (equation x ∷ map equation (drop (c.loop-place.place + 1) c.args.eqs.now))) (sym c.index-eqs-place.is);
      count = length-map (take c.loop-place.place c.args.eqs.now) equation ∙ taken c.loop-place.place c.args.eqs.now c.loop-place-test.true;
      rests = c.loop-place.invariant;
      first = subst (λ o. IsFirst (names c.args.scope.now) (equation c.index-eqs-place.result) (option_map chosen o)) c.in-Some.is c.in_ok-row.ensures;
    }
