-- The value of a metavariable is of its category where a scheme with a strict occurrence of it becomes one of its category.
use Rattle.std.proofs.Common.{◌≡◌, ◌⊎◌, ℕ, zero, suc, ◌+◌, ◌-◌, ◌<◌, ◌≤◌, nat_lt, if◌then◌else◌, List, [], ◌∷◌, ◌++◌, length, map, reverse, get_or, Some, slice_get, inl, inr, refl, ap, ◌∙◌, sym, subst, append_assoc, length-append, arith}
use Rattle.std.proofs.lemmas.Bool.{cases_lt}
use Rattle.std.proofs.lemmas.Bool.Decides.{nat_tests}
use Rattle.std.proofs.lemmas.List.{length-reverse, get_or-reverse}
use Rattle.std.proofs.lemmas.Option.{slice_get_within, slice_get-get_or}
use Rattle.binding_terms.specs.Signature.{Signature, Place, slots, binders}
use Rattle.binding_terms.specs.Scope.{bound}
use Rattle.binding_terms.specs.Tree.{raised}
use Rattle.binding_terms.proofs.Lists.{append_within, append_beyond, match_some, match_from, match_at}
use Rattle.scheme_terms.specs.SchemeTree.{SchemeTree, meta, known, local, con, Values, no_values, value, Parts, no_parts, part, under, filled, filled_values, filled_parts, AreDistinctLocals, StrictIn, StrictInParts}
use Rattle.scheme_terms.specs.Forms.{Names}
use Rattle.scheme_terms.specs.SchemeScope.{IsScheme, AreValues, AreSchemeParts, params_scope}
use Rattle.scheme_terms.specs.Demands.{numbers}
use Rattle.scheme_terms.specs.declared.scheme.MetaDecl.{MetaDecl}
use Rattle.scheme_terms.proofs.Lowering.{renaming, renaming_at, renaming_past, arguments_rename}
use Rattle.scheme_terms.proofs.Makings.{Making}
use Rattle.scheme_terms.proofs.SchemeFacts.{length_bound}
use Rattle.scheme_terms.proofs.SchemeFilling.{under_at, under_past}

-- what a renamed variable is in the second scope, the variable is in the first
abbrev pub Reflects : (ℕ → ℕ) → (from to : List ℕ) → Type 0
Reflects r from to = (i c : ℕ) → slice_get to (r i) ≡ Some c → slice_get from i ≡ Some c

abbrev lifted : ℕ → (ℕ → ℕ) → ℕ → ℕ
lifted n r i = if nat_lt i n then i else r (i - n) + n

lifted_at : (n : ℕ) (r : ℕ → ℕ) (i : ℕ) → i < n → lifted n r i ≡ i
lifted_at n r i h = grind (arith, nat_tests)

lifted_past : (n : ℕ) (r : ℕ → ℕ) (i : ℕ) → n ≤ i → lifted n r i ≡ r (i - n) + n
lifted_past n r i h = grind (arith, nat_tests)

under_renaming : (n : ℕ) (r : ℕ → ℕ) → under n (λ i. local (r i)) ≡ (λ i. local (lifted n r i))
under_renaming n r = λ k i. at i (cases_lt i n) k
  where
    at : (i : ℕ) → (i < n) ⊎ (n ≤ i) → under n (λ i. local (r i)) i ≡ local (lifted n r i)
    at i (inl h) = under_at n (λ j. local (r j)) i h ∙ ap local (sym (lifted_at n r i h))
    at i (inr h) =
        let e : raised 0 n (r (i - n)) ≡ r (i - n) + n = grind (arith, nat_tests) in
        under_past n (λ j. local (r j)) i h ∙ ap local (e ∙ sym (lifted_past n r i h))

lifted_reflects : (r : ℕ → ℕ) (from to new : List ℕ) (n : ℕ) → length new ≡ n → Reflects r from to → Reflects (lifted n r) (new ++ from) (new ++ to)
lifted_reflects r from to new n long h i c e = at (cases_lt i n)
  where
    at : (i < n) ⊎ (n ≤ i) → slice_get (new ++ from) i ≡ Some c
    at (inl near) =
        append_within new from i (omega (arith, long)) ∙ sym (append_within new to i (omega (arith, long)))
        ∙ ap (slice_get (new ++ to)) (sym (lifted_at n r i near)) ∙ e
    at (inr far) =
        let there : slice_get to (r (i - n)) ≡ Some c =
        ap (slice_get to) (let k : r (i - n) ≡ r (i - n) + n - length new = omega (arith, long) in k)
        ∙ sym (append_beyond new to (r (i - n) + n) (omega (arith, long)))
        ∙ ap (slice_get (new ++ to)) (sym (lifted_past n r i far)) ∙ e in
        append_beyond new from i (omega (arith, long)) ∙ ap (slice_get from) (let k : i - length new ≡ i - n = omega (arith, long) in k)
        ∙ h (i - n) c there

module _ (sig : Signature) (names : Names) where
  mutual
    pub renamed_is_scheme : (r : ℕ → ℕ) (from to : List ℕ) → Reflects r from to → (c : ℕ) (s : SchemeTree) →
        IsScheme sig names to c (filled (λ i. local (r i)) s) → IsScheme sig names from c s
    renamed_is_scheme r from to h c (meta m vs) is =
        let found = match_some (slice_get names.metas m) _ is in
        match_from (slice_get names.metas m) (λ decl. (decl.cat.0 ≡ c) × AreValues sig names from (map (λ p. p.0) decl.params) vs) found.0 found.1
        (found.2.0, renamed_are_values r from to h (map (λ p. p.0) found.0.params) vs found.2.1)
    renamed_is_scheme r from to h c (known k) is = is
    renamed_is_scheme r from to h c (local i) is = h i c is
    renamed_is_scheme r from to h c (con p xs) is =
        let found = match_some (slice_get sig.prods p) _ is in
        match_from (slice_get sig.prods p) (λ prod. (prod.cat.0 ≡ c) × AreSchemeParts sig names from (binders prod.items) (slots prod.items) xs) found.0 found.1
        (found.2.0, renamed_are_parts r from to h (binders found.0.items) (slots found.0.items) xs found.2.1)

    renamed_are_values : (r : ℕ → ℕ) (from to : List ℕ) → Reflects r from to → (cs : List ℕ) (vs : Values) →
        AreValues sig names to cs (filled_values (λ i. local (r i)) vs) → AreValues sig names from cs vs
    renamed_are_values r from to h [] no_values is = tt
    renamed_are_values r from to h [] (value s vs) is = absurd is
    renamed_are_values r from to h (c ∷ cs) no_values is = absurd is
    renamed_are_values r from to h (c ∷ cs) (value s vs) is = (renamed_is_scheme r from to h c s is.0, renamed_are_values r from to h cs vs is.1)

    renamed_are_parts : (r : ℕ → ℕ) (from to : List ℕ) → Reflects r from to → (bs : List ℕ) (ss : List Place) (xs : Parts) →
        AreSchemeParts sig names to bs ss (filled_parts (λ i. local (r i)) xs) → AreSchemeParts sig names from bs ss xs
    renamed_are_parts r from to h bs [] no_parts is = tt
    renamed_are_parts r from to h bs [] (part n s xs) is = absurd is
    renamed_are_parts r from to h bs (at ∷ ss) no_parts is = absurd is
    renamed_are_parts r from to h bs (at ∷ ss) (part n s xs) is = (
      is.0,
      renamed_is_scheme (lifted n r) (bound bs at.binds ++ from) (bound bs at.binds ++ to)
          (lifted_reflects r from to (bound bs at.binds) n (length_bound bs at.binds ∙ sym is.0) h) at.cat s
          (subst (λ f. IsScheme sig names (bound bs at.binds ++ to) at.cat (filled f s)) (under_renaming n r) is.1),
      renamed_are_parts r from to h bs ss xs is.2,
    )

-- the arguments of a strict occurrence are of the categories of the parameters
length_numbers : (sig : Signature) (names : Names) (ls ps : List ℕ) (vs : Values) → AreDistinctLocals vs → AreValues sig names ls ps vs → length (numbers vs) ≡ length ps
length_numbers sig names ls [] no_values h is = refl
length_numbers sig names ls [] (value s vs) h is = absurd is
length_numbers sig names ls (c ∷ cs) no_values h is = absurd is
length_numbers sig names ls (c ∷ cs) (value (local i) vs) h is = ap suc (length_numbers sig names ls cs vs h.1 is.1)
length_numbers sig names ls (c ∷ cs) (value (meta m ws) vs) h is = absurd h
length_numbers sig names ls (c ∷ cs) (value (known l) vs) h is = absurd h
length_numbers sig names ls (c ∷ cs) (value (con p xs) vs) h is = absurd h

argument_typed : (sig : Signature) (names : Names) (ls ps : List ℕ) (vs : Values) → AreDistinctLocals vs → AreValues sig names ls ps vs →
    (k : ℕ) → k < length ps → slice_get ls (get_or (numbers vs) k 0) ≡ slice_get ps k
argument_typed sig names ls [] vs h is k below = absurd (let no : ⊥ = omega arith in no)
argument_typed sig names ls (c ∷ cs) no_values h is k below = absurd is
argument_typed sig names ls (c ∷ cs) (value (local i) vs) h is zero below = is.0
argument_typed sig names ls (c ∷ cs) (value (local i) vs) h is (suc k) below = argument_typed sig names ls cs vs h.1 is.1 k (omega arith)
argument_typed sig names ls (c ∷ cs) (value (meta m ws) vs) h is k below = absurd h
argument_typed sig names ls (c ∷ cs) (value (known l) vs) h is k below = absurd h
argument_typed sig names ls (c ∷ cs) (value (con p xs) vs) h is k below = absurd h

reversed_at : (ps : List ℕ) (i : ℕ) → i < length ps → slice_get (reverse ps) i ≡ slice_get ps (length ps - 1 - i)
reversed_at ps i h =
    slice_get-get_or (reverse ps) i 0 (rw length-reverse h) ∙ ap Some (get_or-reverse ps i 0 h)
    ∙ sym (slice_get-get_or ps (length ps - 1 - i) 0 (omega arith))

module _ (outer beyond : List ℕ) (wide : (i c : ℕ) → slice_get outer i ≡ Some c → slice_get beyond i ≡ Some c) where
  arguments_reflect : (ls is ps : List ℕ) → length is ≡ length ps → ((k : ℕ) → k < length ps → slice_get ls (get_or is k 0) ≡ slice_get ps k) →
      Reflects (renaming (length ls) is) (reverse ps ++ beyond) (ls ++ outer)
  arguments_reflect ls is ps long typed i c e = at (cases_lt i (length is))
    where
      reversed : length (reverse ps) ≡ length ps
      reversed = length-reverse ps

      at : (i < length is) ⊎ (length is ≤ i) → slice_get (reverse ps ++ beyond) i ≡ Some c
      at (inl near) =
          let k : ℕ = length is - 1 - i in
          let last : k < length ps = omega (arith, long) in
          let param : slice_get ps k ≡ Some (get_or ps k 0) = slice_get-get_or ps k 0 last in
          let here : slice_get ls (get_or is k 0) ≡ Some (get_or ps k 0) = typed k last ∙ param in
          let within : get_or is k 0 < length ls = slice_get_within ls (get_or is k 0) (get_or ps k 0) here in
          append_within (reverse ps) beyond i (omega (arith, long, reversed))
          ∙ reversed_at ps i (omega (arith, long)) ∙ ap (λ n. slice_get ps (n - 1 - i)) (sym long)
          ∙ sym (typed k last) ∙ sym (append_within ls outer (get_or is k 0) within)
          ∙ ap (slice_get (ls ++ outer)) (sym (renaming_at (length ls) is i near)) ∙ e
      at (inr far) =
          append_beyond (reverse ps) beyond i (omega (arith, long, reversed))
          ∙ wide (i - length (reverse ps)) c
          (ap (slice_get outer) (let k : i - length (reverse ps) ≡ i - length is + length ls - length ls = omega (arith, long, reversed) in k)
          ∙ sym (append_beyond ls outer (i - length is + length ls) (omega arith))
          ∙ ap (slice_get (ls ++ outer)) (sym (renaming_past (length ls) is i far)) ∙ e)

  module _ (sig : Signature) (names other : Names) (made : Making) (m : ℕ) (decl : MetaDecl) (named : slice_get names.metas m ≡ Some decl) where
    strict_value : (ls : List ℕ) (c : ℕ) (vs : Values) → AreDistinctLocals vs → IsScheme sig names ls c (meta m vs) →
        IsScheme sig other (ls ++ outer) c (made.make (length ls) (meta m vs)) → IsScheme sig other (params_scope decl ++ beyond) decl.cat.0 (made.stands_for m)
    strict_value ls c vs distinct is becomes =
        let own = match_at (slice_get names.metas m) (λ d. (d.cat.0 ≡ c) × AreValues sig names ls (map (λ p. p.0) d.params) vs) decl named is in
        let shape : made.make (length ls) (meta m vs) ≡ filled (λ i. local (renaming (length ls) (numbers vs) i)) (made.stands_for m) =
        made.of_meta (length ls) m vs distinct ∙ ap (λ f. filled f (made.stands_for m)) (λ k i. arguments_rename (length ls) (numbers vs) i k) in
        renamed_is_scheme sig other (renaming (length ls) (numbers vs)) (params_scope decl ++ beyond) (ls ++ outer)
        (arguments_reflect ls (numbers vs) (map (λ p. p.0) decl.params) (length_numbers sig names ls (map (λ p. p.0) decl.params) vs distinct own.1)
        (argument_typed sig names ls (map (λ p. p.0) decl.params) vs distinct own.1))
        decl.cat.0 (made.stands_for m)
        (subst (λ k. IsScheme sig other (ls ++ outer) k (filled (λ i. local (renaming (length ls) (numbers vs) i)) (made.stands_for m))) (sym own.0)
        (subst (IsScheme sig other (ls ++ outer) c) shape becomes))

    mutual
      pub strict_is_scheme : (ls : List ℕ) (c : ℕ) (s : SchemeTree) → StrictIn m s → IsScheme sig names ls c s →
          IsScheme sig other (ls ++ outer) c (made.make (length ls) s) → IsScheme sig other (params_scope decl ++ beyond) decl.cat.0 (made.stands_for m)
      strict_is_scheme ls c (meta n vs) strict is becomes =
          strict_value ls c vs strict.1 (subst (λ k. IsScheme sig names ls c (meta k vs)) strict.0 is)
          (subst (λ k. IsScheme sig other (ls ++ outer) c (made.make (length ls) (meta k vs))) strict.0 becomes)
      strict_is_scheme ls c (known k) strict is becomes = absurd strict
      strict_is_scheme ls c (local i) strict is becomes = absurd strict
      strict_is_scheme ls c (con p xs) strict is becomes =
          let found = match_some (slice_get sig.prods p) _ is in
          let there = match_at (slice_get sig.prods p) _ found.0 found.1 (subst (IsScheme sig other (ls ++ outer) c) (made.of_con (length ls) p xs) becomes) in
          strict_are_parts ls (binders found.0.items) (slots found.0.items) xs strict found.2.1 there.1

      strict_are_parts : (ls bs : List ℕ) (ss : List Place) (xs : Parts) → StrictInParts m xs → AreSchemeParts sig names ls bs ss xs →
          AreSchemeParts sig other (ls ++ outer) bs ss (made.make_parts (length ls) xs) → IsScheme sig other (params_scope decl ++ beyond) decl.cat.0 (made.stands_for m)
      strict_are_parts ls bs ss no_parts strict is becomes = absurd strict
      strict_are_parts ls bs [] (part n s xs) strict is becomes = absurd is
      strict_are_parts ls bs (at ∷ ss) (part n s xs) (inl strict) is becomes =
          let there = subst (AreSchemeParts sig other (ls ++ outer) bs (at ∷ ss)) (made.of_part (length ls) n s xs) becomes in
          let deep : length ls + n ≡ length (bound bs at.binds ++ ls) = omega (arith, length-append (bound bs at.binds) ls, length_bound bs at.binds, is.0) in
          strict_is_scheme (bound bs at.binds ++ ls) at.cat s strict is.1
          (subst (λ sc. IsScheme sig other sc at.cat (made.make (length (bound bs at.binds ++ ls)) s)) (sym (append_assoc (bound bs at.binds) ls outer))
          (subst (λ d. IsScheme sig other (bound bs at.binds ++ (ls ++ outer)) at.cat (made.make d s)) deep there.1))
      strict_are_parts ls bs (at ∷ ss) (part n s xs) (inr strict) is becomes =
          let there = subst (AreSchemeParts sig other (ls ++ outer) bs (at ∷ ss)) (made.of_part (length ls) n s xs) becomes in
          strict_are_parts ls bs ss xs strict is.2 there.2
