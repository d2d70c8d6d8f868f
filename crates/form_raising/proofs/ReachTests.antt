-- Each signature has a test of reach.
use Rattle.std.proofs.Common.{refl, ◌≡◌, ◌↔◌, ◌⊎◌, ℕ, zero, suc, ◌<◌, ◌≤◌, Bool, true, false, not, IsTrue, nat_lt, if◌then◌else◌, Option, None, Some, MatchOption, List, [], ◌∷◌, length, set, replicate, slice_get, is_some, option_map, unwrap_or, inl, inr, ap, sym, ◌∙◌, subst, arith}
use Rattle.std.proofs.lemmas.Bool.{cases_lt}
use Rattle.std.proofs.lemmas.Bool.Decides.{nat_tests}
use Rattle.std.proofs.lemmas.List.{length-set}
use Rattle.std.proofs.lemmas.List.Sums.{count_by-le-length}
use Rattle.std.proofs.lemmas.Option.{slice_get_within}
use Rattle.std.specs.List.{AllByRecursion, count_by}
use Rattle.binding_terms.specs.Numbered.{AnyByRecursion}
use Rattle.binding_terms.specs.Reach.{Follows, IsClosed, IsColumn, IsMarked}
use Rattle.binding_terms.specs.Signature.{Signature, Place, HasVariable, Reaches, Fits, slots}
use Rattle.binding_terms.specs.declared.grammar.Cat.{Cat}
use Rattle.binding_terms.specs.declared.grammar.Prod.{Prod}
use Rattle.binding_terms.proofs.Lists.{match_within, option_case, some_within}
use Rattle.binding_terms.proofs.Reaching.{IsMarked-stays, Reaches-HasVariable, Reaches-marked, cats_in_range, first_mark, next_sound, unmarked_falls}
use Rattle.form_raising.specs.ReachTest.{ReachIsTested, is_marked, has_mark, next_mark, with_mark, marked_on, has_variable, reaching, reach_of}

-- the test of a mark
pub marked_is : (marks : List Bool) (c : ℕ) → IsTrue (is_marked marks c) ↔ IsMarked marks c
marked_is marks c = at (slice_get marks c)
  where
    at : (o : Option Bool) → IsTrue (unwrap_or o false) ↔ (o ≡ Some true)
    at None = (λ e. cc, λ e. cc)
    at (Some b) = (λ e. ap Some e, λ e. cc)

-- a place without a mark
unmarked_is : (marks : List Bool) (c : ℕ) → c < length marks → is_marked marks c ≡ false → slice_get marks c ≡ Some false
unmarked_is marks c within e =
    let found = some_within marks c within in
    let same : unwrap_or (slice_get marks c) false ≡ found.0 = ap (λ o. unwrap_or o false) found.1 in
    found.1 ∙ ap Some (sym same ∙ e)

-- the test of marked slots
slots_are : (marks : List Bool) (ss : List Place) → IsTrue (has_mark marks ss) ↔ AnyByRecursion (λ s. IsMarked marks s.cat) ss
slots_are marks [] = (λ e. let no : false ≡ true = e in absurd (let k : ⊥ = cc in k), λ h. absurd h)
slots_are marks (s ∷ ss) = at (slots_are marks ss) (is_marked marks s.cat) refl
  where
    at : IsTrue (has_mark marks ss) ↔ AnyByRecursion (λ s. IsMarked marks s.cat) ss → (b : Bool) → is_marked marks s.cat ≡ b →
        IsTrue (if b then true else has_mark marks ss) ↔ (IsMarked marks s.cat ⊎ AnyByRecursion (λ s. IsMarked marks s.cat) ss)
    at more true e = (λ _. inl ((marked_is marks s.cat).0 e), λ _. refl)
    at more false e = (
      λ h. inr (more.0 h),
      λ h. elim h [ inl m ↦ absurd (let n : is_marked marks s.cat ≡ true = (marked_is marks s.cat).1 m in let k : ⊥ = cc in k) | inr r ↦ more.1 r ],
    )

-- the next category, or none where the marks are closed
next_is : (marks : List Bool) (prods : List Prod) → AllByRecursion (λ p. p.cat.0 < length marks) prods →
    MatchOption (next_mark marks prods) (IsClosed marks prods) (λ c. (slice_get marks c ≡ Some false) × Follows marks prods c)
next_is marks [] h = tt
next_is marks (p ∷ ps) h = at (next_is marks ps h.1) (is_marked marks p.cat.0) (has_mark marks (slots p.items)) refl refl
  where
    rest : MatchOption (next_mark marks ps) (IsClosed marks ps) (λ c. (slice_get marks c ≡ Some false) × Follows marks ps c) →
        (AnyByRecursion (λ s. IsMarked marks s.cat) (slots p.items) → IsMarked marks p.cat.0) →
        MatchOption (next_mark marks ps) (IsClosed marks (p ∷ ps)) (λ c. (slice_get marks c ≡ Some false) × Follows marks (p ∷ ps) c)
    rest later here = option_case (next_mark marks ps) (λ closed. (here, closed)) (λ c f. (f.0, inr f.1)) later

    at : MatchOption (next_mark marks ps) (IsClosed marks ps) (λ c. (slice_get marks c ≡ Some false) × Follows marks ps c) → (m s : Bool) → is_marked marks p.cat.0 ≡ m → has_mark marks (slots p.items) ≡ s →
        MatchOption (if (if m then false else s) then Some p.cat.0 else next_mark marks ps) (IsClosed marks (p ∷ ps))
        (λ c. (slice_get marks c ≡ Some false) × Follows marks (p ∷ ps) c)
    at later true s e f = rest later (λ _. (marked_is marks p.cat.0).0 e)
    at later false true e f = (unmarked_is marks p.cat.0 h.0 e, inl (refl, (slots_are marks (slots p.items)).0 f))
    at later false false e f =
        rest later (λ any. absurd (let n : has_mark marks (slots p.items) ≡ true = (slots_are marks (slots p.items)).1 any in let k : ⊥ = cc in k))

-- where nothing follows the marks stay
stays : (n : ℕ) (prods : List Prod) (marks : List Bool) → next_mark marks prods ≡ None → marked_on n prods marks ≡ marks
stays zero prods marks e = refl
stays (suc n) prods marks e = ap (λ o. marked_on n prods (with_mark marks o)) e ∙ stays n prods marks e

-- marks of categories that reach the one, which has its own
record AreSound (sig : Signature) (to : ℕ) (marks : List Bool) : Type 0 where
  long : length marks ≡ length sig.cats
  start : HasVariable sig to → IsMarked marks to
  sound : (from : ℕ) → IsMarked marks from → Reaches sig from to

column_of : (sig : Signature) (to : ℕ) (marks : List Bool) → AreSound sig to marks → IsClosed marks sig.prods → IsColumn sig to marks
column_of sig to marks good closed from = (good.sound from, λ way. Reaches-marked sig marks closed way good.start)

one_more : (sig : Signature) (to : ℕ) (marks : List Bool) (c : ℕ) → AreSound sig to marks → slice_get marks c ≡ Some false → Follows marks sig.prods c →
    AreSound sig to (set marks c true)
one_more sig to marks c good unmarked follows =
    let within = slice_get_within marks c false unmarked in
    record {
      long = length-set marks c true ∙ good.long;
      start = λ has. IsMarked-stays marks c to within (good.start has);
      sound = next_sound sig to marks c within follows good.sound;
    }

-- after as many turns as there are categories without a mark the marks are a column
closed_or_next : (sig : Signature) → Fits sig → (to : ℕ) (marks : List Bool) → AreSound sig to marks →
    MatchOption (next_mark marks sig.prods) (IsClosed marks sig.prods) (λ c. (slice_get marks c ≡ Some false) × Follows marks sig.prods c)
closed_or_next sig fits to marks good = next_is marks sig.prods (cats_in_range sig (length marks) good.long sig.prods fits.prods)

ends : (sig : Signature) → Fits sig → (to n : ℕ) (marks : List Bool) → AreSound sig to marks → count_by not marks ≤ n → IsColumn sig to (marked_on n sig.prods marks)
ends sig fits to zero marks good few = at (next_mark marks sig.prods) (closed_or_next sig fits to marks good)
  where
    at : (o : Option ℕ) → MatchOption o (IsClosed marks sig.prods) (λ c. (slice_get marks c ≡ Some false) × Follows marks sig.prods c) → IsColumn sig to marks
    at None closed = column_of sig to marks good closed
    at (Some c) f = absurd (let falls = unmarked_falls marks c f.0 in omega (arith, falls, few))
ends sig fits to (suc n) marks good few = at (ends sig fits to n) (next_mark marks sig.prods) refl (closed_or_next sig fits to marks good)
  where
    at : ((more : List Bool) → AreSound sig to more → count_by not more ≤ n → IsColumn sig to (marked_on n sig.prods more)) → (o : Option ℕ) →
        next_mark marks sig.prods ≡ o → MatchOption o (IsClosed marks sig.prods) (λ c. (slice_get marks c ≡ Some false) × Follows marks sig.prods c) →
        IsColumn sig to (marked_on n sig.prods (with_mark marks (next_mark marks sig.prods)))
    at next None e closed = subst (IsColumn sig to) (sym (stays (suc n) sig.prods marks e)) (column_of sig to marks good closed)
    at next (Some c) e f =
        let falls = unmarked_falls marks c f.0 in
        subst (λ o. IsColumn sig to (marked_on n sig.prods (with_mark marks o))) (sym e)
        (next (set marks c true) (one_more sig to marks c good f.0 f.1) (omega (arith, falls, few)))

variable_is : (sig : Signature) (c : ℕ) → has_variable sig c ≡ true ↔ HasVariable sig c
variable_is sig c = at (slice_get sig.cats c)
  where
    at : (o : Option Cat) → (unwrap_or (option_map (λ cat. is_some cat.var) o) false ≡ true) ↔ MatchOption o ⊥ (λ cat. IsTrue (is_some cat.var))
    at None = (λ e. let k : ⊥ = cc in k, λ h. absurd h)
    at (Some cat) = (λ e. e, λ e. e)

reaching_is : (sig : Signature) → Fits sig → (to : ℕ) → to < length sig.cats → IsColumn sig to (reaching sig to)
reaching_is sig fits to within =
    let marks = set (replicate (length sig.cats) false) to (has_variable sig to) in
    let first = first_mark sig to (replicate (length sig.cats) false) (has_variable sig to) refl within (variable_is sig to) in
    let few = count_by-le-length not (set (replicate (length sig.cats) false) to (has_variable sig to)) in
    ends sig fits to (length sig.cats) (set (replicate (length sig.cats) false) to (has_variable sig to))
    (record { long = first.0; start = first.1; sound = first.2 }) (omega (arith, few, first.0))

-- the test of reach of a signature
pub reach_tests : ReachIsTested
unfolding reach_of
reach_tests sig fits c v = at (cases_lt v (length sig.cats))
  where
    at : (v < length sig.cats) ⊎ (length sig.cats ≤ v) → IsTrue (if nat_lt v (length sig.cats) then is_marked (reaching sig v) c else false) ↔ Reaches sig c v
    at (inl within) =
        let test : nat_lt v (length sig.cats) ≡ true = grind (arith, nat_tests) in
        let marked = marked_is (reaching sig v) c in
        let column = reaching_is sig fits v within c in
        subst (λ b. IsTrue (if b then is_marked (reaching sig v) c else false) ↔ Reaches sig c v) (sym test)
        (λ e. column.0 (marked.0 e), λ way. marked.1 (column.1 way))
    at (inr past) =
        let test : nat_lt v (length sig.cats) ≡ false = grind (arith, nat_tests) in
        subst (λ b. IsTrue (if b then is_marked (reaching sig v) c else false) ↔ Reaches sig c v) (sym test)
        (λ e. absurd (let k : ⊥ = cc in k), λ way. absurd (let no : ⊥ = omega (arith, past, match_within sig.cats v _ (Reaches-HasVariable way)) in no))
