-- A production has one assumption rule: where two rules are of one, and what a rule more adds.
use Rattle.std.proofs.Common.{◌≡◌, ◌≢◌, ◌⊎◌, ℕ, zero, suc, List, [], ◌∷◌, ◌++◌, ◌∙◌, inl, inr, refl, ap, subst, sym}
use Rattle.std.specs.Prelude.{slice_get, MatchOption}
use Rattle.std.proofs.lemmas.List.{append-nil, append_assoc}
use Rattle.std.specs.List.{AllByRecursion}
use Rattle.binding_terms.specs.Numbered.{AnyByRecursion, AreDifferent}
use Rattle.binding_terms.proofs.Lists.{any_front, any_back, any_split, all_append}
use Rattle.scheme_terms.specs.Forms.{SchemeEntry}
use Rattle.scheme_terms.specs.declared.scheme.Root.{Root}
use Rattle.scheme_terms.specs.declared.scheme.Root.TheVariants.{Closed, Empty, Whole}
use Rattle.rule_schemes.specs.Rules.{Rule, assumed_by, assumed}
use Rattle.rule_schemes.specs.Refused.{AssumeAlike}

-- the number stands in the list
abbrev Has : ℕ → List ℕ → Type 0
Has n ns = AnyByRecursion (λ p. p ≡ n) ns

abbrev of_rule : Rule → List ℕ
of_rule r = assumed_by r.conclusion.context.root r.conclusion.context.entries

none_shared : (ps : List ℕ) → AnyByRecursion (λ p. AnyByRecursion (λ q. p ≡ q) []) ps → ⊥
none_shared [] h = h
none_shared (p ∷ ps) (inl h) = h
none_shared (p ∷ ps) (inr h) = none_shared ps h

one_shared : (n : ℕ) (ps : List ℕ) → AnyByRecursion (λ p. AnyByRecursion (λ q. p ≡ q) (n ∷ [])) ps → Has n ps
one_shared n [] h = h
one_shared n (p ∷ ps) (inl (inl e)) = inl e
one_shared n (p ∷ ps) (inl (inr h)) = absurd h
one_shared n (p ∷ ps) (inr h) = inr (one_shared n ps h)

shares_one : (n : ℕ) (ps : List ℕ) → Has n ps → AnyByRecursion (λ p. AnyByRecursion (λ q. p ≡ q) (n ∷ [])) ps
shares_one n [] h = h
shares_one n (p ∷ ps) (inl e) = inl (inl e)
shares_one n (p ∷ ps) (inr h) = inr (shares_one n ps h)

-- the one production that both have
shared : (root : Root) (es : List SchemeEntry) (ps : List ℕ) → AnyByRecursion (λ p. AnyByRecursion (λ q. p ≡ q) (assumed_by root es)) ps
    → (n : ℕ) × (assumed_by root es ≡ n ∷ []) × Has n ps
shared Closed es ps h = absurd (none_shared ps h)
shared (Empty c) es ps h = absurd (none_shared ps h)
shared (Whole c) [] ps h = absurd (none_shared ps h)
shared (Whole c) (e ∷ []) ps h = (e.prod, refl, one_shared e.prod ps h)
shared (Whole c) (e ∷ (f ∷ es)) ps h = absurd (none_shared ps h)

alike_one : (s r : Rule) → AssumeAlike s r → (n : ℕ) × (of_rule r ≡ n ∷ []) × Has n (of_rule s)
alike_one s r h = shared r.conclusion.context.root r.conclusion.context.entries (of_rule s) h

one_alike : (s r : Rule) (n : ℕ) → of_rule r ≡ n ∷ [] → Has n (of_rule s) → AssumeAlike s r
one_alike s r n e h = subst (λ (qs : List ℕ). AnyByRecursion (λ p. AnyByRecursion (λ q. p ≡ q) qs) (of_rule s)) (sym e) (shares_one n (of_rule s) h)

not_in : (n m : ℕ) (ns : List ℕ) → m ≡ n → AllByRecursion (λ k. m ≢ k) ns → Has n ns → ⊥
not_in n m [] e all h = h
not_in n m (k ∷ ks) e all (inl h) = all.0 (e ∙ sym h)
not_in n m (k ∷ ks) e all (inr h) = not_in n m ks e all.1 h

back_of : (P : ℕ → Type 0) (xs ys : List ℕ) → AllByRecursion P (xs ++ ys) → AllByRecursion P ys
back_of P [] ys all = all
back_of P (x ∷ xs) ys all = back_of P xs ys all.1

different_back : (xs ys : List ℕ) → AreDifferent (xs ++ ys) → AreDifferent ys
different_back [] ys h = h
different_back (x ∷ xs) ys h = different_back xs ys h.1

different_apart : (n : ℕ) (xs ys : List ℕ) → AreDifferent (xs ++ ys) → Has n xs → Has n ys → ⊥
different_apart n [] ys h in_front in_back = in_front
different_apart n (x ∷ xs) ys h (inl e) in_back = not_in n x ys e (back_of (λ k. x ≢ k) xs ys h.0) in_back
different_apart n (x ∷ xs) ys h (inr in_front) in_back = different_apart n xs ys h.1 in_front in_back

assumed_at : (rs : List Rule) (q n : ℕ) → MatchOption (slice_get rs q) ⊥ (λ s. Has n (of_rule s)) → Has n (assumed rs)
assumed_at [] q n h = absurd h
assumed_at (s ∷ rs) zero n h = any_front (λ p. p ≡ n) (of_rule s) (assumed rs) h
assumed_at (s ∷ rs) (suc q) n h = any_back (λ p. p ≡ n) (of_rule s) (assumed rs) (assumed_at rs q n h)

has_at : (rs : List Rule) (r : Rule) (q n : ℕ) → of_rule r ≡ n ∷ [] → MatchOption (slice_get rs q) ⊥ (λ s. AssumeAlike s r) → MatchOption (slice_get rs q) ⊥ (λ s. Has n (of_rule s))
has_at [] r q n e h = h
has_at (s ∷ rs) r zero n e h =
    let one = alike_one s r h in
    let same : one.0 ≡ n = (let k : one.0 ∷ [] ≡ n ∷ [] = sym one.1 ∙ e in cc) in
    subst (λ k. Has k (of_rule s)) same one.2
has_at (s ∷ rs) r (suc q) n e h = has_at rs r q n e h

-- only one rule of the system is an assumption rule of the same production
pub alike_once : (rs : List Rule) (r : Rule) (q p : ℕ) → AreDifferent (assumed rs) → MatchOption (slice_get rs q) ⊥ (λ s. AssumeAlike s r)
    → MatchOption (slice_get rs p) ⊥ (λ s. AssumeAlike s r) → q ≡ p
alike_once [] r q p different h k = absurd h
alike_once (s ∷ rs) r zero zero different h k = refl
alike_once (s ∷ rs) r zero (suc p) different h k =
    let one = alike_one s r h in
    absurd (different_apart one.0 (of_rule s) (assumed rs) different one.2 (assumed_at rs p one.0 (has_at rs r p one.0 one.1 k)))
alike_once (s ∷ rs) r (suc q) zero different h k =
    let one = alike_one s r k in
    absurd (different_apart one.0 (of_rule s) (assumed rs) different one.2 (assumed_at rs q one.0 (has_at rs r q one.0 one.1 h)))
alike_once (s ∷ rs) r (suc q) (suc p) different h k = ap suc (alike_once rs r q p (different_back (of_rule s) (assumed rs) different) h k)

-- none of the rules is one where none is alike
pub not_alike_at : (rs : List Rule) (r : Rule) (q : ℕ) → AllByRecursion (λ s. AssumeAlike s r → ⊥) rs → MatchOption (slice_get rs q) ⊥ (λ s. AssumeAlike s r) → ⊥
not_alike_at [] r q none h = h
not_alike_at (s ∷ rs) r zero none h = none.0 h
not_alike_at (s ∷ rs) r (suc q) none h = not_alike_at rs r q none.1 h

assumed_with : (rs : List Rule) (r : Rule) → assumed (rs ++ r ∷ []) ≡ assumed rs ++ of_rule r
assumed_with [] r = append-nil (of_rule r)
assumed_with (s ∷ rs) r = ap (λ ps. of_rule s ++ ps) (assumed_with rs r) ∙ sym (append_assoc (of_rule s) (assumed rs) (of_rule r))

absent : (rs : List Rule) (r : Rule) (n : ℕ) → of_rule r ≡ n ∷ [] → AllByRecursion (λ s. AssumeAlike s r → ⊥) rs → Has n (assumed rs) → ⊥
absent [] r n e none h = h
absent (s ∷ rs) r n e none h = at (any_split (λ p. p ≡ n) (of_rule s) (assumed rs) h) (λ there. absent rs r n e none.1 there)
  where
    at : Has n (of_rule s) ⊎ Has n (assumed rs) → (Has n (assumed rs) → ⊥) → ⊥
    at (inl here) never = none.0 (one_alike s r n e here)
    at (inr there) never = never there

absent_all : (n : ℕ) (xs : List ℕ) → (Has n xs → ⊥) → AllByRecursion (λ k. k ≢ n) xs
absent_all n [] h = tt
absent_all n (x ∷ xs) h = (λ e. h (inl e), absent_all n xs (λ k. h (inr k)))

different_push : (n : ℕ) (xs : List ℕ) → AllByRecursion (λ k. k ≢ n) xs → AreDifferent xs → AreDifferent (xs ++ n ∷ [])
different_push n [] absent_here h = (tt, tt)
different_push n (x ∷ xs) absent_here h = (all_append (λ m. x ≢ m) xs (n ∷ []) h.0 (absent_here.0, tt), different_push n xs absent_here.1 h.1)

different_with : (root : Root) (es : List SchemeEntry) (xs : List ℕ) → AreDifferent xs → ((n : ℕ) → assumed_by root es ≡ n ∷ [] → Has n xs → ⊥) → AreDifferent (xs ++ assumed_by root es)
different_with Closed es xs h none = subst AreDifferent (sym (append-nil xs)) h
different_with (Empty c) es xs h none = subst AreDifferent (sym (append-nil xs)) h
different_with (Whole c) [] xs h none = subst AreDifferent (sym (append-nil xs)) h
different_with (Whole c) (e ∷ []) xs h none = different_push e.prod xs (absent_all e.prod xs (none e.prod refl)) h
different_with (Whole c) (e ∷ (f ∷ es)) xs h none = subst AreDifferent (sym (append-nil xs)) h

-- with a rule more that is alike to none
pub different_with_rule : (rs : List Rule) (r : Rule) → AreDifferent (assumed rs) → AllByRecursion (λ s. AssumeAlike s r → ⊥) rs → AreDifferent (assumed (rs ++ r ∷ []))
different_with_rule rs r different none =
    subst AreDifferent (sym (assumed_with rs r))
    (different_with r.conclusion.context.root r.conclusion.context.entries (assumed rs) different (λ n e has. absent rs r n e none has))
