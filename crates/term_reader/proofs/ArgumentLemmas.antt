-- Splits of the arguments of a metavariable.
use Rattle.std.proofs.Common.{◌≡◌, ◌↔◌, ℕ, ◌+◌, ◌<◌, ◌≤◌, List, [], ◌∷◌, length, drop, inl, inr, refl, ap, ◌∙◌, sym, subst, get_or, arith, Some, slice_get, Bool, IsTrue, if◌then◌else◌}
use Rattle.std.proofs.lemmas.List.{drop_more, drop_all}
use Rattle.binding_terms.specs.declared.grammar.CatId.{CatId}
use Rattle.rule_schemes.specs.Reading.{Token, Variable, punctuation}
use Rattle.term_reader.specs.Splitting.{SlotRange, Divided, IsHead, AreArguments, GoesOn, AreSplits}
use Rattle.term_reader.proofs.SplitLemmas.{no_splits, same_splits, one_split}

-- a category that no list has
abbrev pub no_category : CatId
no_category = record { 0 = 0 }

-- a bracket is no comma
other_code : Some (punctuation 93) ≡ Some (punctuation 44) → ⊥
other_code e =
    let same : punctuation 93 ≡ punctuation 44 = cc in
    let code : 93 ≡ 44 = ap (λ (t : Token). get_or t.1 0 0) same in
    omega (arith, code)

module _ (Stand : SlotRange → Type 0) (ts : List Token) (to : ℕ) where
  -- the arguments from one on begin with it
  pub argument_head : (params : List CatId) (at n : ℕ) (all : List Divided) → at < length params
      → AreSplits Stand (IsHead (get_or params at no_category) [] n n to (GoesOn ts to (drop (at + 1) params))) all → AreSplits Stand (AreArguments ts to (drop at params) n) all
  argument_head params at n all lt s =
      let c = get_or params at no_category in
      subst (λ cs. AreSplits Stand (AreArguments ts to cs n) all) (sym (drop_more params at no_category lt))
      (same_splits Stand (IsHead c [] n n to (GoesOn ts to (drop (at + 1) params))) (AreArguments ts to (c ∷ drop (at + 1) params) n) all (λ vs ps. ((λ h. h), (λ h. h))) s)

  -- after the last argument
  pub last_bracket : (params : List CatId) (at k : ℕ) (b : Bool) (all : List Divided) → length params ≤ at
      → (IsTrue b ↔ ((slice_get ts k ≡ Some (punctuation 93)) × (k + 1 ≡ to))) → all ≡ (if b then ([], []) ∷ [] else [])
      → AreSplits Stand (GoesOn ts to (drop at params) k) all
  last_bracket params at k b all past holds e =
      subst (λ cs. AreSplits Stand (GoesOn ts to cs k) all) (sym (drop_all at params past))
      (one_split Stand (GoesOn ts to [] k) b all (λ t. (let h = holds.0 t in (h.0, h.1, refl, refl))) (λ vs ps g. (holds.1 (g.0, g.1), g.2, g.3)) e)

  -- a comma and the next argument
  pub next_after_comma : (params : List CatId) (k : ℕ) (all : List Divided) → slice_get ts k ≡ Some (punctuation 44)
      → AreSplits Stand (AreArguments ts to params (k + 1)) all → AreSplits Stand (GoesOn ts to params k) all
  next_after_comma [] k all e s =
      same_splits Stand (AreArguments ts to [] (k + 1)) (GoesOn ts to [] k) all
      (λ vs ps. ((λ h. absurd h), (λ g. absurd (other_code (sym g.0 ∙ e))))) s
  next_after_comma (c ∷ params) k all e s =
      same_splits Stand (AreArguments ts to (c ∷ params) (k + 1)) (GoesOn ts to (c ∷ params) k) all (λ vs ps. ((λ h. inl (e, h)), (λ g. back vs ps g))) s
    where
      back : (vs : List Variable) (ps : List SlotRange) → GoesOn ts to (c ∷ params) k vs ps → AreArguments ts to (c ∷ params) (k + 1) vs ps
      back vs ps (inl g) = g.1
      back vs ps (inr g) = absurd (other_code (sym g.0 ∙ e))

  -- brackets that close and open, and the next argument
  pub next_after_bracket : (c : CatId) (params : List CatId) (k : ℕ) (all : List Divided) → slice_get ts k ≡ Some (punctuation 93) → k + 1 < to
      → slice_get ts (k + 1) ≡ Some (punctuation 91)
      → AreSplits Stand (AreArguments ts to (c ∷ params) (k + 1 + 1)) all → AreSplits Stand (GoesOn ts to (c ∷ params) k) all
  next_after_bracket c params k all e lt f s =
      same_splits Stand (AreArguments ts to (c ∷ params) (k + 1 + 1)) (GoesOn ts to (c ∷ params) k) all (λ vs ps. ((λ h. inr (e, lt, f, h)), (λ g. back vs ps g))) s
    where
      back : (vs : List Variable) (ps : List SlotRange) → GoesOn ts to (c ∷ params) k vs ps → AreArguments ts to (c ∷ params) (k + 1 + 1) vs ps
      back vs ps (inl g) = absurd (other_code (sym e ∙ g.0))
      back vs ps (inr g) = g.3

  -- what goes on in no way
  pub nothing_after : (c : CatId) (params : List CatId) (k : ℕ) → (slice_get ts k ≡ Some (punctuation 44) → ⊥)
      → (slice_get ts k ≡ Some (punctuation 93) → k + 1 < to → slice_get ts (k + 1) ≡ Some (punctuation 91) → ⊥) → AreSplits Stand (GoesOn ts to (c ∷ params) k) []
  nothing_after c params k no_comma no_bracket = no_splits Stand (GoesOn ts to (c ∷ params) k) none
    where
      none : (vs : List Variable) (ps : List SlotRange) → GoesOn ts to (c ∷ params) k vs ps → ⊥
      none vs ps (inl g) = no_comma g.0
      none vs ps (inr g) = no_bracket g.0 g.1 g.2

  pub some_params : (params : List CatId) (at : ℕ) (P : List CatId → Type 0) → at < length params → ((c : CatId) (cs : List CatId) → P (c ∷ cs)) → P (drop at params)
  some_params params at P lt h = subst P (sym (drop_more params at no_category lt)) (h (get_or params at no_category) (drop (at + 1) params))
