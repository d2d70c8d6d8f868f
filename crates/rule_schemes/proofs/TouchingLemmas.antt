-- Where a judgment may stand under a context: exactly where nothing that counts for it touches the context.
use Rattle.std.proofs.Common.{◌≡◌, ◌⊎◌, ◌<◌, ℕ, Bool, true, false, IsTrue, true≢false, List, [], ◌∷◌, length, inl, inr, refl, sym, subst, ap, ◌∙◌}
use Rattle.std.specs.Prelude.{not, slice_get, MatchOption, Option, Some, None}
use Rattle.std.specs.List.{AllByRecursion}
use Rattle.binding_terms.specs.Numbered.{AnyByRecursion}
use Rattle.binding_terms.specs.Signature.{Signature, Place, slots, binders, Reaches}
use Rattle.binding_terms.specs.declared.grammar.Prod.{Prod}
use Rattle.binding_terms.proofs.Lists.{any_split, any_front, any_back}
use Rattle.scheme_terms.specs.declared.scheme.MetaDecl.{MetaDecl}
use Rattle.binding_terms.specs.declared.grammar.CatId.{CatId}
use Rattle.scheme_terms.specs.declared.scheme.Root.{Root}
use Rattle.scheme_terms.specs.declared.scheme.Root.TheVariants.{Closed, Whole}
use Rattle.rule_schemes.specs.declared.rule.Judgment.{Judgment}
use Rattle.rule_schemes.specs.Rules.{Rule, JudgmentScheme, Theory, Below, IsOfRule, Binds, MayStand, MayStandUnder}
use Rattle.rule_schemes.specs.Refused.{with_rule}
use Rattle.rule_schemes.specs.Touching.{Touches, HasTouchingSlot, HasTouchingName, IsMarkedIn, HasJudgments, AreKept, RulesTouch, JudgmentTouches, TouchesWith}
use Rattle.rule_schemes.proofs.BelowLemmas.{Below-split, Below-joined, BelowWith}

-- a category that reaches a variable which contexts bind
pub touch : (sig : Signature) (c k v : ℕ) → Binds sig c v → Reaches sig k v → Touches sig c k
touch sig c k v binds reaches = record { bound = go sig.prods binds }
  where
    bs : (ns : List ℕ) → AnyByRecursion (λ b. b ≡ v) ns → AnyByRecursion (Reaches sig k) ns
    bs [] h = h
    bs (n ∷ ns) (inl e) = inl (subst (Reaches sig k) (sym e) reaches)
    bs (n ∷ ns) (inr h) = inr (bs ns h)

    go : (ps : List Prod) → AnyByRecursion (λ p. (p.cat.0 ≡ c) × AnyByRecursion (λ b. b ≡ v) (binders p.items)) ps
        → AnyByRecursion (λ p. (p.cat.0 ≡ c) × AnyByRecursion (Reaches sig k) (binders p.items)) ps
    go [] h = h
    go (p ∷ ps) (inl h) = inl (h.0, bs (binders p.items) h.1)
    go (p ∷ ps) (inr h) = inr (go ps h)

pub untouch : (sig : Signature) (c k : ℕ) → Touches sig c k → (v : ℕ) × Binds sig c v × Reaches sig k v
untouch sig c k t = go sig.prods t.bound
  where
    bs : (ns : List ℕ) → AnyByRecursion (Reaches sig k) ns → (v : ℕ) × AnyByRecursion (λ b. b ≡ v) ns × Reaches sig k v
    bs [] h = absurd h
    bs (n ∷ ns) (inl r) = (n, inl refl, r)
    bs (n ∷ ns) (inr h) = (let got = bs ns h in (got.0, inr got.1, got.2))

    go : (ps : List Prod) → AnyByRecursion (λ p. (p.cat.0 ≡ c) × AnyByRecursion (Reaches sig k) (binders p.items)) ps
        → (v : ℕ) × AnyByRecursion (λ p. (p.cat.0 ≡ c) × AnyByRecursion (λ b. b ≡ v) (binders p.items)) ps × Reaches sig k v
    go [] h = absurd h
    go (p ∷ ps) (inl h) = (let got = bs (binders p.items) h.1 in (got.0, inl (h.0, got.1), got.2))
    go (p ∷ ps) (inr h) = (let got = go ps h in (got.0, inr got.1, got.2))

-- the metavariables of a rule of the category
named : (sig : Signature) (c k : ℕ) → Touches sig c k → (ms : List MetaDecl) → AnyByRecursion (λ m. m.cat.0 ≡ k) ms → HasTouchingName sig c ms
named sig c k t [] h = h
named sig c k t (m ∷ ms) (inl e) = inl (subst (Touches sig c) (sym e) t)
named sig c k t (m ∷ ms) (inr h) = inr (named sig c k t ms h)

of_name : (sig : Signature) (c : ℕ) (ms : List MetaDecl) → HasTouchingName sig c ms → (k : ℕ) × Touches sig c k × AnyByRecursion (λ m. m.cat.0 ≡ k) ms
of_name sig c [] h = absurd h
of_name sig c (m ∷ ms) (inl t) = (m.cat.0, t, inl refl)
of_name sig c (m ∷ ms) (inr h) = (let got = of_name sig c ms h in (got.0, got.1, inr got.2))

in_slots : (sig : Signature) (c k : ℕ) → Touches sig c k → (ss : List Place) → AnyByRecursion (λ s. s.cat ≡ k) ss → AnyByRecursion (λ s. Touches sig c s.cat) ss
in_slots sig c k t [] h = h
in_slots sig c k t (s ∷ ss) (inl e) = inl (subst (Touches sig c) (sym e) t)
in_slots sig c k t (s ∷ ss) (inr h) = inr (in_slots sig c k t ss h)

of_slots : (sig : Signature) (c : ℕ) (ss : List Place) → AnyByRecursion (λ s. Touches sig c s.cat) ss → (k : ℕ) × Touches sig c k × AnyByRecursion (λ s. s.cat ≡ k) ss
of_slots sig c [] h = absurd h
of_slots sig c (s ∷ ss) (inl t) = (s.cat, t, inl refl)
of_slots sig c (s ∷ ss) (inr h) = (let got = of_slots sig c ss h in (got.0, got.1, inr got.2))

form_counts : (sig : Signature) (c k : ℕ) → Touches sig c k → (o : Option Judgment) → MatchOption o ⊥ (λ form. AnyByRecursion (λ s. s.cat ≡ k) (slots form.items))
    → MatchOption o ⊥ (λ form. HasTouchingSlot sig c form.items)
form_counts sig c k t None h = h
form_counts sig c k t (Some form) h = in_slots sig c k t (slots form.items) h

of_form : (sig : Signature) (c : ℕ) (o : Option Judgment) → MatchOption o ⊥ (λ form. HasTouchingSlot sig c form.items)
    → (k : ℕ) × Touches sig c k × MatchOption o ⊥ (λ form. AnyByRecursion (λ s. s.cat ≡ k) (slots form.items))
of_form sig c None h = absurd h
of_form sig c (Some form) h = of_slots sig c (slots form.items) h

module _ (th : Theory) (rows : List (List Bool)) (kept : AreKept th rows) (c : ℕ) where
  abbrev n : ℕ
  n = length th.judgments

  rule_of_below : (j k l : ℕ) → j < n → Below th.rules j k → Touches th.sig c l → (rs : List Rule) → AllByRecursion (HasJudgments n) rs → IsOfRule rs k l → RulesTouch th.sig rs rows c j
  rule_of_below j k l within below t [] range h = h
  rule_of_below j k l within below t (r ∷ rs) range (inl h) =
      inl ((kept.below j r.conclusion.judgment within range.0.conclusion).1 (subst (Below th.rules j) (sym h.0) below), named th.sig c l t r.metas h.1)
  rule_of_below j k l within below t (r ∷ rs) range (inr h) = inr (rule_of_below j k l within below t rs range.1 h)

  rules_count : (j k l : ℕ) → j < n → Below th.rules j k → Touches th.sig c l → IsOfRule th.rules k l → RulesTouch th.sig th.rules rows c j
  rules_count j k l within below t h = rule_of_below j k l within below t th.rules kept.in_range h

  of_rules : (j : ℕ) → j < n → (rs : List Rule) → AllByRecursion (HasJudgments n) rs → RulesTouch th.sig rs rows c j
      → (k l : ℕ) × Below th.rules j k × Touches th.sig c l × IsOfRule rs k l
  of_rules j within [] range h = absurd h
  of_rules j within (r ∷ rs) range (inl h) =
      let got = of_name th.sig c r.metas h.1 in
      (r.conclusion.judgment, got.0, (kept.below j r.conclusion.judgment within range.0.conclusion).0 h.0, got.1, inl (refl, got.2))
  of_rules j within (r ∷ rs) range (inr h) = (let got = of_rules j within rs range.1 h in (got.0, got.1, got.2, got.3, inr got.4))

  -- nothing touches the context where the judgment may stand under it
  pub stands_untouched : (j : ℕ) → j < n → (JudgmentTouches th rows c j → ⊥) → MayStandUnder th c j
  stands_untouched j within none k v (inl form) binds reaches =
      none (inl (form_counts th.sig c k (touch th.sig c k v binds reaches) (slice_get th.judgments j) form))
  stands_untouched j within none k v (inr counts) binds reaches =
      none (inr (rules_count j counts.0 k within counts.1 (touch th.sig c k v binds reaches) counts.2))

  pub touched_stands_not : (j : ℕ) → j < n → JudgmentTouches th rows c j → MayStandUnder th c j → ⊥
  touched_stands_not j within (inl form) may =
      let got = of_form th.sig c (slice_get th.judgments j) form in
      let seen = untouch th.sig c got.0 got.1 in
      may got.0 seen.0 (inl got.2) seen.1 seen.2
  touched_stands_not j within (inr rules) may =
      let got = of_rules j within th.rules kept.in_range rules in
      let seen = untouch th.sig c got.1 got.3 in
      may got.1 seen.0 (inr (got.0, got.2, got.4)) seen.1 seen.2

  -- the same with one rule more
  module _ (r : Rule) (range : HasJudgments n r) where
    abbrev more : Theory
    more = with_rule th r

    marked : (j k : ℕ) → j < n → Below th.rules j k → r.conclusion.judgment ≡ k → IsMarkedIn rows j r.conclusion.judgment
    marked j k within below e = (kept.below j r.conclusion.judgment within range.conclusion).1 (subst (Below th.rules j) (sym e) below)

    below_premises : (k l : ℕ) → Touches th.sig c l → IsOfRule th.rules k l → (ps : List JudgmentScheme) → AllByRecursion (λ p. p.judgment < n) ps
        → AnyByRecursion (λ p. Below th.rules p.judgment k) ps → AnyByRecursion (λ p. RulesTouch th.sig th.rules rows c p.judgment) ps
    below_premises k l t is [] all any = any
    below_premises k l t is (p ∷ ps) all (inl below) = inl (rules_count p.judgment k l all.0 below t is)
    below_premises k l t is (p ∷ ps) all (inr any) = inr (below_premises k l t is ps all.1 any)

    counted : (j k l : ℕ) → j < n → Touches th.sig c l → BelowWith th.rules r j k → IsOfRule th.rules k l ⊎ IsOfRule (r ∷ []) k l → TouchesWith th r rows c j
    counted j k l within t (inl old) (inl is) = inl (inr (rules_count j k l within old t is))
    counted j k l within t (inl old) (inr (inl is)) = inr (marked j k within old is.0, inl (named th.sig c l t r.metas is.1))
    counted j k l within t (inl old) (inr (inr is)) = absurd is
    counted j k l within t (inr new) (inl is) =
        inr (marked j r.conclusion.judgment within new.0 refl, inr (below_premises k l t is r.premises range.premises new.1))
    counted j k l within t (inr new) (inr (inl is)) = inr (marked j r.conclusion.judgment within new.0 refl, inl (named th.sig c l t r.metas is.1))
    counted j k l within t (inr new) (inr (inr is)) = absurd is

    pub stands_untouched_with : (j : ℕ) → j < n → (TouchesWith th r rows c j → ⊥) → MayStandUnder more c j
    stands_untouched_with j within none k v (inl form) binds reaches =
        none (inl (inl (form_counts th.sig c k (touch th.sig c k v binds reaches) (slice_get th.judgments j) form)))
    stands_untouched_with j within none k v (inr counts) binds reaches =
        none (counted j counts.0 k within (touch th.sig c k v binds reaches) (Below-split th.rules r counts.1)
        (any_split (λ s. (s.conclusion.judgment ≡ counts.0) × AnyByRecursion (λ m. m.cat.0 ≡ k) s.metas) th.rules (r ∷ []) counts.2))

    abbrev Counted : ℕ → Type 0
    Counted j = (k l : ℕ) × Below more.rules j k × Touches th.sig c l × IsOfRule more.rules k l

    from_old : (j k l : ℕ) → BelowWith th.rules r j k → Touches th.sig c l → IsOfRule th.rules k l → Counted j
    from_old j k l below t is =
        (k, l, Below-joined th.rules r j k below, t, any_front (λ s. (s.conclusion.judgment ≡ k) × AnyByRecursion (λ m. m.cat.0 ≡ l) s.metas) th.rules (r ∷ []) is)

    from_premises : (j : ℕ) → j < n → Below th.rules j r.conclusion.judgment → (ps : List JudgmentScheme) → AllByRecursion (λ p. p.judgment < n) ps
        → AnyByRecursion (λ p. RulesTouch th.sig th.rules rows c p.judgment) ps
        → (k l : ℕ) × AnyByRecursion (λ p. Below th.rules p.judgment k) ps × Touches th.sig c l × IsOfRule th.rules k l
    from_premises j within below [] all h = absurd h
    from_premises j within below (p ∷ ps) all (inl h) =
        (let got = of_rules p.judgment all.0 th.rules kept.in_range h in (got.0, got.1, inl got.2, got.3, got.4))
    from_premises j within below (p ∷ ps) all (inr h) =
        (let got = from_premises j within below ps all.1 h in (got.0, got.1, inr got.2, got.3, got.4))

    from_rule : (j : ℕ) → j < n → Below th.rules j r.conclusion.judgment
        → HasTouchingName th.sig c r.metas ⊎ AnyByRecursion (λ p. RulesTouch th.sig th.rules rows c p.judgment) r.premises → Counted j
    from_rule j within below (inl h) =
        let got = of_name th.sig c r.metas h in (
          r.conclusion.judgment,
          got.0,
          Below-joined th.rules r j r.conclusion.judgment (inl below),
          got.1,
          any_back (λ s. (s.conclusion.judgment ≡ r.conclusion.judgment) × AnyByRecursion (λ m. m.cat.0 ≡ got.0) s.metas) th.rules (r ∷ []) (inl (refl, got.2)),
        )
    from_rule j within below (inr h) =
        let got = from_premises j within below r.premises range.premises h in
        from_old j got.0 got.1 (inr (below, got.2)) got.3 got.4

    never : (j : ℕ) → Counted j → MayStandUnder more c j → ⊥
    never j got may =
        let seen = untouch th.sig c got.1 got.3 in
        may got.1 seen.0 (inr (got.0, got.2, got.4)) seen.1 seen.2

    pub touched_stands_not_with : (j : ℕ) → j < n → TouchesWith th r rows c j → MayStandUnder more c j → ⊥
    touched_stands_not_with j within (inl (inl form)) may =
        let got = of_form th.sig c (slice_get th.judgments j) form in
        let seen = untouch th.sig c got.0 got.1 in
        may got.0 seen.0 (inl got.2) seen.1 seen.2
    touched_stands_not_with j within (inl (inr rules)) may =
        (let got = of_rules j within th.rules kept.in_range rules in never j (from_old j got.0 got.1 (inl got.2) got.3 got.4) may)
    touched_stands_not_with j within (inr rule) may =
        never j (from_rule j within ((kept.below j r.conclusion.judgment within range.conclusion).0 rule.0) rule.1) may

-- a test that is turned around
pub turned : (b : Bool) (T M : Type 0) → (IsTrue b → T) × (T → IsTrue b) → ((T → ⊥) → M) → (T → M → ⊥) → (IsTrue (not b) → M) × (M → IsTrue (not b))
turned true T M test may never = (λ no. absurd (true≢false (sym no)), λ m. absurd (never (test.0 refl) m))
turned false T M test may never = (λ yes. may (λ t. absurd (true≢false (sym (test.1 t)))), λ m. refl)

pub under_whole : (th : Theory) (root form : Root) (context : CatId) (j : ℕ) → root ≡ Whole context → form ≡ Closed → MayStand th root form j ≡ MayStandUnder th context.0 j
under_whole th root form context j e f = ap (λ x. MayStand th x form j) e ∙ ap (λ y. MayStand th (Whole context) y j) f
