-- The first readings of the arguments of a metavariable.
use Rattle.std.proofs.Common.{◌≡◌, ℕ, ◌+◌, ◌-◌, ◌<◌, ◌≤◌, List, [], ◌∷◌, ◌++◌, length, inl, inr, refl, ap, ◌∙◌, sym, subst, arith, length-append, slice_range}
use Rattle.binding_terms.specs.Signature.{Signature}
use Rattle.binding_terms.proofs.Lists.{same_fronts}
use Rattle.scheme_terms.specs.SchemeTree.{SchemeTree, meta, Values, no_values, value}
use Rattle.scheme_terms.specs.declared.scheme.MetaDecl.{MetaDecl}
use Rattle.rule_schemes.specs.Reading.{Token, punctuation, Variable, ReadsBrackets, no_brackets, brackets, ReadsArguments, one_more, last_one}
use Rattle.rule_schemes.specs.Said.{Way, way, Ways, no_ways, then_way, IsBefore, way_of_term, bracket_lengths, ways_of_brackets, argument_lengths, ways_of_arguments}
use Rattle.ordered_readings.specs.AnswerView.{with_first, slot_place, count, IsRow}
use Rattle.ordered_readings.specs.Names.{NamesApart}
use Rattle.ordered_readings.specs.Cells.{ReadsTermAt, ReadsBracketsAt, ReadsArgumentsAt, TakesFirst, TakesFewer}
use Rattle.ordered_readings.specs.FirstTwo.{AreFirst}
use Rattle.ordered_readings.proofs.FirstTwo.{first_one}
use Rattle.ordered_readings.proofs.Comparing.{comma_is_no_bracket}
use Rattle.ordered_readings.proofs.PairLemmas.{HasParts, ReadsBehind}
use Rattle.ordered_readings.proofs.SamePlace.{argument_law}
use Rattle.ordered_readings.proofs.Transitive.{before_transitive}
use Rattle.form_cells.specs.Cells.{GoesOn}
use Rattle.form_cells.proofs.Ranges.{range_length, range_two}
use Rattle.form_cells.proofs.Joining.{AreOrdered, IsJoined, IsProductOf, lengths_first, product_first, same_first, no_first}

module _ {sig : Signature} {metas : List MetaDecl} where
  mutual
    bracket_row : {vars : List Variable} {ps : List ℕ} {ts : List Token} {vs : Values} → (r : ReadsBrackets sig metas vars ps ts vs)
        → length (bracket_lengths r) ≡ count (ways_of_brackets r)
    bracket_row no_brackets = refl
    bracket_row (brackets e r) = argument_row r

    argument_row : {vars : List Variable} {ps : List ℕ} {ts : List Token} {vs : Values} → (r : ReadsArguments sig metas vars ps ts vs)
        → length (argument_lengths r) ≡ count (ways_of_arguments r)
    argument_row (one_more e t r) = omega (arith, argument_row r)
    argument_row (last_one e t r) = omega (arith, bracket_row r)

module _ (sig : Signature) (metas : List MetaDecl) where
  -- an argument and what follows it
  abbrev IsParted : List Variable → (p : ℕ) → (params : List ℕ) → (m : ℕ) → List Token → Way → SchemeTree → Type 0
  IsParted vars p params m ts w s =
      (begins : List Token) × (other : List Token) × (v : Way) × (a : SchemeTree) × (ls : List ℕ) × (ws : Ways) × (b : SchemeTree)
      × ReadsTermAt sig metas vars p begins v a × GoesOn sig metas vars params m other (way 1 ls ws) b × (ts ≡ begins ++ other)
      × (w ≡ way 1 (length begins ∷ ls) (then_way v ws)) × (s ≡ with_first 0 a b)

  moved : (vars : List Variable) (q p : ℕ) (qs params : List ℕ) (m : ℕ) (ts : List Token) (w : Way) (s : SchemeTree) → q ≡ p → qs ≡ params
      → IsParted vars q qs m ts w s → IsParted vars p params m ts w s
  moved vars q p qs params m ts w s e f h = subst (λ ks. IsParted vars p ks m ts w s) f (subst (λ k. IsParted vars k qs m ts w s) e h)

  parted : {vars : List Variable} {ps : List ℕ} {ts : List Token} {vs : Values} (p : ℕ) (params : List ℕ) (m : ℕ) → (r : ReadsArguments sig metas vars ps ts vs)
      → ps ≡ p ∷ params → IsParted vars p params m ts (way 1 (argument_lengths r) (ways_of_arguments r)) (meta m vs)
  parted {vars = vars} {ts = ts} p params m (one_more {p = q} {params = qs} {first = begins} {rest = rest} {s = a} {vs = us} split t r) e =
      let head : q ≡ p = cc in
      let tail : qs ≡ params = cc in
      moved vars q p qs params m ts _ _ head tail
      (begins, punctuation 44 ∷ rest, way_of_term t, a, argument_lengths r, ways_of_arguments r, meta m us, (t, refl), inl (rest, refl, (us, r, refl, refl)), split, refl, refl)
  parted {vars = vars} {ts = ts} p params m (last_one {p = q} {params = qs} {first = begins} {rest = rest} {s = a} {vs = us} split t r) e =
      let head : q ≡ p = cc in
      let tail : qs ≡ params = cc in
      moved vars q p qs params m ts _ _ head tail
      (begins, punctuation 93 ∷ rest, way_of_term t, a, bracket_lengths r, ways_of_brackets r, meta m us, (t, refl), inr (rest, refl, (us, r, refl, refl)), split, refl, refl)

module _ (sig : Signature) (metas : List MetaDecl) (vars : List Variable) (p : ℕ) (params : List ℕ) (m : ℕ) where
  abbrev Arguments : List Token → Way → SchemeTree → Type 0
  Arguments ts = ReadsArgumentsAt sig metas vars (p ∷ params) m ts

  arguments_ordered : (ts : List Token) → NamesApart metas → AreOrdered (ReadsArgumentsAt sig metas vars (p ∷ params) m ts)
  arguments_ordered ts apart v w s t g h = argument_law sig metas vars (p ∷ params) m ts v w s t apart g h

  behind_parts : (other : List Token) (w : Way) (s : SchemeTree) → GoesOn sig metas vars params m other w s → HasParts s
  behind_parts other w s (inl h) = subst HasParts (sym h.2.3) tt
  behind_parts other w s (inr h) = subst HasParts (sym h.2.3) tt

  behind_row : (other : List Token) (w : Way) (s : SchemeTree) → GoesOn sig metas vars params m other w s → IsRow w
  behind_row other w s (inl h) = subst IsRow (sym h.2.2) (argument_row h.2.1)
  behind_row other w s (inr h) = subst IsRow (sym h.2.2) (bracket_row h.2.1)

  module _ (first other : List Token) where
    abbrev Whole : Way → SchemeTree → Type 0
    Whole w s = ReadsArgumentsAt sig metas vars (p ∷ params) m (first ++ other) w s × TakesFirst (length first) w

    abbrev Pair : Way → SchemeTree → Type 0
    Pair = ReadsBehind (length first) 0 (ReadsTermAt sig metas vars p first) (GoesOn sig metas vars params m other)

    whole : (w : Way) (s : SchemeTree) → Pair w s → Whole w s
    whole w s (v, a, u, b, t, g, e, f) = elim g [ inl k ↦ more k | inr k ↦ last k ]
      where
        more : (rest : List Token) × (other ≡ punctuation 44 ∷ rest) × ReadsArgumentsAt sig metas vars params m rest u b → Whole w s
        more (rest, split, (vs, r, at, is)) =
            let place : w ≡ way 1 (length first ∷ argument_lengths r) (then_way (way_of_term t.0) (ways_of_arguments r)) =
            e ∙ ap (λ x. slot_place (length first) x u) (sym t.1) ∙ ap (slot_place (length first) (way_of_term t.0)) at in
            ((value a vs, one_more (ap (λ x. first ++ x) split) t.0 r, place, f ∙ ap (with_first 0 a) is), subst (TakesFirst (length first)) (sym place) refl)

        last : (rest : List Token) × (other ≡ punctuation 93 ∷ rest) × ReadsBracketsAt sig metas vars params m rest u b → Whole w s
        last (rest, split, (vs, r, at, is)) =
            let place : w ≡ way 1 (length first ∷ bracket_lengths r) (then_way (way_of_term t.0) (ways_of_brackets r)) =
            e ∙ ap (λ x. slot_place (length first) x u) (sym t.1) ∙ ap (slot_place (length first) (way_of_term t.0)) at in
            ((value a vs, last_one (ap (λ x. first ++ x) split) t.0 r, place, f ∙ ap (with_first 0 a) is), subst (TakesFirst (length first)) (sym place) refl)

    apart_again : (w : Way) (s : SchemeTree) → Whole w s → Pair w s
    apart_again w s ((vs, r, place, says), takes) =
        let (begins, rest, v, a, ls, ws, b, t, g, split, at, is) = parted sig metas p params m r refl in
        let here : w ≡ way 1 (length begins ∷ ls) (then_way v ws) = place ∙ at in
        let long : length begins ≡ length first = subst (TakesFirst (length first)) here takes in
        let same = same_fronts begins first rest other (sym split) long in (
          v,
          a,
          way 1 ls ws,
          b,
          subst (λ o. ReadsTermAt sig metas vars p o v a) same.0 t,
          subst (λ o. GoesOn sig metas vars params m o (way 1 ls ws) b) same.1 g,
          here ∙ ap (λ n. way 1 (n ∷ ls) (then_way v ws)) long,
          says ∙ is,
        )

    -- an argument of that length, and what follows it
    pub argument_product : NamesApart metas → (xs ys zs : List (Way × SchemeTree)) → AreFirst IsBefore (ReadsTermAt sig metas vars p first) xs
        → AreFirst IsBefore (GoesOn sig metas vars params m other) ys → IsProductOf (length first) 0 xs ys zs
        → AreFirst IsBefore (λ w s. ReadsArgumentsAt sig metas vars (p ∷ params) m (first ++ other) w s × TakesFirst (length first) w) zs
    argument_product apart xs ys zs f g h =
        product_first (length first) 0 (ReadsTermAt sig metas vars p first) (GoesOn sig metas vars params m other) Whole (Arguments (first ++ other))
        (behind_parts other) (behind_row other) (arguments_ordered (first ++ other) apart) (λ w s k. k.0) (λ w s. (whole w s, apart_again w s)) xs ys zs f g h

    pub nothing_follows : ((w : Way) (s : SchemeTree) → GoesOn sig metas vars params m other w s → ⊥)
        → AreFirst IsBefore (λ w s. ReadsArgumentsAt sig metas vars (p ∷ params) m (first ++ other) w s × TakesFirst (length first) w) []
    nothing_follows none = no_first Whole (λ w s h. (let r = apart_again w s h in none r.2 r.3 r.5))

  takes_no_fewer : (w : Way) → TakesFewer 0 w → ⊥
  takes_no_fewer (way a [] ws) h = h
  takes_no_fewer (way a (l ∷ ls) ws) h = omega (arith, h)

  pub no_length : (ts : List Token) → AreFirst IsBefore (λ w s. ReadsArgumentsAt sig metas vars (p ∷ params) m ts w s × TakesFewer 0 w) []
  no_length ts = no_first _ (λ w s h. takes_no_fewer w h.1)

  goes_on : (other : List Token) (w : Way) (s : SchemeTree) → GoesOn sig metas vars params m other w s → 0 < length other
  goes_on other w s (inl h) = let l = ap length h.1 in omega (arith, l)
  goes_on other w s (inr h) = let l = ap length h.1 in omega (arith, l)

  -- the argument takes fewer than all tokens
  pub all_lengths : (ts : List Token) (n : ℕ) (xs : List (Way × SchemeTree)) → length ts ≤ n
      → AreFirst IsBefore (λ w s. ReadsArgumentsAt sig metas vars (p ∷ params) m ts w s × TakesFewer n w) xs
      → AreFirst IsBefore (ReadsArgumentsAt sig metas vars (p ∷ params) m ts) xs
  all_lengths ts n xs le f = same_first _ (Arguments ts) xs (λ w s. (λ h. h.0, λ h. (h, fewer w s h))) f
    where
      fewer : (w : Way) (s : SchemeTree) → ReadsArgumentsAt sig metas vars (p ∷ params) m ts w s → TakesFewer n w
      fewer w s (vs, r, place, says) =
          let (begins, rest, v, a, ls, ws, b, t, g, split, at, is) = parted sig metas p params m r refl in
          let some = goes_on rest (way 1 ls ws) b g in
          let l = ap length split in
          let lt : length begins < n = omega (arith, some, l, length-append begins rest) in
          subst (TakesFewer n) (sym (place ∙ at)) lt

module _ (sig : Signature) (metas : List MetaDecl) (vars : List Variable) (m : ℕ) where
  -- no argument where no parameter is left
  pub no_arguments : (ts : List Token) → AreFirst IsBefore (ReadsArgumentsAt sig metas vars [] m ts) []
  no_arguments ts = no_first _ (λ w s h. none h.1 refl)
    where
      none : {ps : List ℕ} {us : List Token} {vs : Values} → ReadsArguments sig metas vars ps us vs → ps ≡ [] → ⊥
      none (one_more e t r) f = absurd (cc)
      none (last_one e t r) f = absurd (cc)

  brackets_end : {ps : List ℕ} {us : List Token} {vs : Values} (r : ReadsBrackets sig metas vars ps us vs) → ps ≡ []
      → (us ≡ []) × (bracket_lengths r ≡ []) × (ways_of_brackets r ≡ no_ways) × (vs ≡ no_values)
  brackets_end no_brackets f = (refl, refl, refl, refl)
  brackets_end (brackets e (one_more g t r)) f = absurd (cc)
  brackets_end (brackets e (last_one g t r)) f = absurd (cc)

  pub no_brackets_read : AreFirst IsBefore (ReadsBracketsAt sig metas vars [] m []) ((way 1 [] no_ways, meta m no_values) ∷ [])
  no_brackets_read = first_one IsBefore before_transitive (ReadsBracketsAt sig metas vars [] m []) (way 1 [] no_ways) (meta m no_values) (no_values, no_brackets, refl, refl) only
    where
      only : (w : Way) (s : SchemeTree) → ReadsBracketsAt sig metas vars [] m [] w s → (way 1 [] no_ways ≡ w) × (meta m no_values ≡ s)
      only w s (vs, r, place, says) =
          let e = brackets_end r refl in
          (sym (place ∙ ap (λ ls. way 1 ls (ways_of_brackets r)) e.1 ∙ ap (way 1 []) e.2), sym (says ∙ ap (meta m) e.3))

  pub brackets_of_none : (ts : List Token) → (ts ≡ [] → ⊥) → AreFirst IsBefore (ReadsBracketsAt sig metas vars [] m ts) []
  brackets_of_none ts some = no_first _ (λ w s h. some (brackets_end h.1 refl).0)

  opened : {ps : List ℕ} {us : List Token} {vs : Values} (r : ReadsBrackets sig metas vars ps us vs) → (ps ≡ [] → ⊥)
      → (rest : List Token) × (us ≡ punctuation 91 ∷ rest) × (q : ReadsArguments sig metas vars ps rest vs) × (bracket_lengths r ≡ argument_lengths q)
      × (ways_of_brackets r ≡ ways_of_arguments q)
  opened no_brackets some = absurd (some refl)
  opened (brackets {rest = rest} e r) some = (rest, e, r, refl, refl)

  pub no_bracket : (ps : List ℕ) (ts : List Token) → (ps ≡ [] → ⊥) → ((rest : List Token) → ts ≡ punctuation 91 ∷ rest → ⊥)
      → AreFirst IsBefore (ReadsBracketsAt sig metas vars ps m ts) []
  no_bracket ps ts some none = no_first _ (λ w s h. (let o = opened h.1 some in none o.0 o.1))

  pub brackets_read : (ps : List ℕ) (ts rest : List Token) (xs : List (Way × SchemeTree)) → (ps ≡ [] → ⊥) → ts ≡ punctuation 91 ∷ rest
      → AreFirst IsBefore (ReadsArgumentsAt sig metas vars ps m rest) xs → AreFirst IsBefore (ReadsBracketsAt sig metas vars ps m ts) xs
  brackets_read ps ts rest xs some is f = same_first (ReadsArgumentsAt sig metas vars ps m rest) (ReadsBracketsAt sig metas vars ps m ts) xs (λ w s. (there w s, back w s)) f
    where
      there : (w : Way) (s : SchemeTree) → ReadsArgumentsAt sig metas vars ps m rest w s → ReadsBracketsAt sig metas vars ps m ts w s
      there w s (vs, r, place, says) = (vs, brackets is r, place, says)

      back : (w : Way) (s : SchemeTree) → ReadsBracketsAt sig metas vars ps m ts w s → ReadsArgumentsAt sig metas vars ps m rest w s
      back w s (vs, r, place, says) =
          let o = opened r some in
          let two : punctuation 91 ∷ o.0 ≡ punctuation 91 ∷ rest = sym o.1 ∙ is in
          let same : o.0 ≡ rest = cc in
          subst (λ us. ReadsArgumentsAt sig metas vars ps m us w s) same
          (vs, o.2, place ∙ ap (λ ls. way 1 ls (ways_of_brackets r)) o.3 ∙ ap (way 1 (argument_lengths o.2)) o.4, says)

-- what follows an argument
module _ (sig : Signature) (metas : List MetaDecl) (vars : List Variable) (params : List ℕ) (m : ℕ) (ts : List Token) where
  pub comma_behind : (rest : List Token) (xs : List (Way × SchemeTree)) → ts ≡ punctuation 44 ∷ rest → AreFirst IsBefore (ReadsArgumentsAt sig metas vars params m rest) xs
      → AreFirst IsBefore (GoesOn sig metas vars params m ts) xs
  comma_behind rest xs is f = same_first (ReadsArgumentsAt sig metas vars params m rest) (GoesOn sig metas vars params m ts) xs (λ w s. (λ r. inl (rest, is, r), back w s)) f
    where
      back : (w : Way) (s : SchemeTree) → GoesOn sig metas vars params m ts w s → ReadsArgumentsAt sig metas vars params m rest w s
      back w s (inl h) =
          let two : punctuation 44 ∷ h.0 ≡ punctuation 44 ∷ rest = sym h.1 ∙ is in
          let same : h.0 ≡ rest = cc in
          subst (λ us. ReadsArgumentsAt sig metas vars params m us w s) same h.2
      back w s (inr h) = absurd (comma_is_no_bracket rest h.0 (sym is ∙ h.1))

  pub bracket_behind : (rest : List Token) (xs : List (Way × SchemeTree)) → ts ≡ punctuation 93 ∷ rest → AreFirst IsBefore (ReadsBracketsAt sig metas vars params m rest) xs
      → AreFirst IsBefore (GoesOn sig metas vars params m ts) xs
  bracket_behind rest xs is f = same_first (ReadsBracketsAt sig metas vars params m rest) (GoesOn sig metas vars params m ts) xs (λ w s. (λ r. inr (rest, is, r), back w s)) f
    where
      back : (w : Way) (s : SchemeTree) → GoesOn sig metas vars params m ts w s → ReadsBracketsAt sig metas vars params m rest w s
      back w s (inl h) = absurd (comma_is_no_bracket h.0 rest (sym h.1 ∙ is))
      back w s (inr h) =
          let two : punctuation 93 ∷ h.0 ≡ punctuation 93 ∷ rest = sym h.1 ∙ is in
          let same : h.0 ≡ rest = cc in
          subst (λ us. ReadsBracketsAt sig metas vars params m us w s) same h.2

  pub nothing_behind : ((rest : List Token) → ts ≡ punctuation 44 ∷ rest → ⊥) → ((rest : List Token) → ts ≡ punctuation 93 ∷ rest → ⊥)
      → AreFirst IsBefore (GoesOn sig metas vars params m ts) []
  nothing_behind comma bracket = no_first _ (λ w s h. elim h [ inl k ↦ comma k.0 k.1 | inr k ↦ bracket k.0 k.1 ])

module _ (sig : Signature) (metas : List MetaDecl) (vars : List Variable) (p : ℕ) (params : List ℕ) (m : ℕ) (ts : List Token) (n end to : ℕ)
    (le : n ≤ end) (lt : end < to) (within : to ≤ length ts)
  where
    pub argument_in_range : NamesApart metas → (xs ys zs : List (Way × SchemeTree)) → AreFirst IsBefore (ReadsTermAt sig metas vars p (slice_range ts n end)) xs
        → AreFirst IsBefore (GoesOn sig metas vars params m (slice_range ts end to)) ys → IsProductOf (end - n) 0 xs ys zs
        → AreFirst IsBefore (λ w s. ReadsArgumentsAt sig metas vars (p ∷ params) m (slice_range ts n to) w s × TakesFirst (end - n) w) zs
    argument_in_range apart xs ys zs f g h =
        let inside : end ≤ to = omega arith in
        let long : length (slice_range ts n end) ≡ end - n = range_length ts n end le (omega arith) in
        let two = range_two ts n end to le inside within in
        subst (λ us. AreFirst IsBefore (λ w s. ReadsArgumentsAt sig metas vars (p ∷ params) m us w s × TakesFirst (end - n) w) zs) (sym two)
        (subst (λ k. AreFirst IsBefore (λ w s. ReadsArgumentsAt sig metas vars (p ∷ params) m (slice_range ts n end ++ slice_range ts end to) w s × TakesFirst k w) zs) long
        (argument_product sig metas vars p params m (slice_range ts n end) (slice_range ts end to) apart xs ys zs f g (subst (λ k. IsProductOf k 0 xs ys zs) (sym long) h)))

    pub no_argument : ((w : Way) (s : SchemeTree) → GoesOn sig metas vars params m (slice_range ts end to) w s → ⊥)
        → AreFirst IsBefore (λ w s. ReadsArgumentsAt sig metas vars (p ∷ params) m (slice_range ts n to) w s × TakesFirst (end - n) w) []
    no_argument none =
        let inside : end ≤ to = omega arith in
        let long : length (slice_range ts n end) ≡ end - n = range_length ts n end le (omega arith) in
        let two = range_two ts n end to le inside within in
        subst (λ us. AreFirst IsBefore (λ w s. ReadsArgumentsAt sig metas vars (p ∷ params) m us w s × TakesFirst (end - n) w) []) (sym two)
        (subst (λ k. AreFirst IsBefore (λ w s. ReadsArgumentsAt sig metas vars (p ∷ params) m (slice_range ts n end ++ slice_range ts end to) w s × TakesFirst k w) []) long
        (nothing_follows sig metas vars p params m (slice_range ts n end) (slice_range ts end to) none))

-- one more length of the argument
pub arguments_more : (sig : Signature) (metas : List MetaDecl) (vars : List Variable) (params : List ℕ) (m : ℕ) (ts : List Token) → NamesApart metas → (n k : ℕ) → n + 1 ≡ k
    → (xs ys zs : List (Way × SchemeTree)) → AreFirst IsBefore (λ w s. ReadsArgumentsAt sig metas vars params m ts w s × TakesFewer n w) xs
    → AreFirst IsBefore (λ w s. ReadsArgumentsAt sig metas vars params m ts w s × TakesFirst n w) ys → IsJoined xs ys zs
    → AreFirst IsBefore (λ w s. ReadsArgumentsAt sig metas vars params m ts w s × TakesFewer k w) zs
arguments_more sig metas vars params m ts apart n k e xs ys zs f g h =
    subst (λ j. AreFirst IsBefore (λ w s. ReadsArgumentsAt sig metas vars params m ts w s × TakesFewer j w) zs) e
    (lengths_first (ReadsArgumentsAt sig metas vars params m ts) n xs ys zs (λ v w s t a b. argument_law sig metas vars params m ts v w s t apart a b) f g h)
