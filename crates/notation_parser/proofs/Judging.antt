-- The readings of judgments by their forms, with and without a context, each judgment before all that follow it.
use Rattle.std.proofs.Common.{◌≡◌, ◌⊎◌, ◌↔◌, ◌==◌, ℕ, ◌+◌, ◌<◌, ◌≤◌, List, [], length, map, inl, inr, refl, ap, ◌∙◌, sym, subst, arith, Some, None, slice_get}
use Rattle.std.specs.Prelude.{count_by}
use Rattle.std.proofs.lemmas.Bool.{cases_lt}
use Rattle.std.proofs.lemmas.Option.{slice_get_within}
use Rattle.binding_terms.specs.Signature.{Signature, slots}
use Rattle.binding_terms.specs.declared.grammar.CatId.{CatId}
use Rattle.scheme_terms.specs.SchemeTree.{SchemeTree, con}
use Rattle.scheme_terms.specs.Forms.{KnownVariable}
use Rattle.scheme_terms.specs.declared.scheme.MetaDecl.{MetaDecl}
use Rattle.rule_schemes.specs.Reading.{Token, Variable, ReadingScope, known_words, bare, ReadsJudgment, without_context, with_context}
use Rattle.rule_schemes.specs.Rules.{JudgmentScheme}
use Rattle.rule_schemes.specs.Said.{a_judgment, Way, way, Ways, no_ways, IsBefore, form_lengths, ways_of_form, way_of_context, way_of_judgment}
use Rattle.rule_schemes.specs.declared.rule.Judgment.{Judgment}
use Rattle.term_reader.specs.Firsts.{listed, AreFirst, IsFull}
use Rattle.term_reader.specs.Splitting.{IsMapped}
use Rattle.term_reader.specs.declared.firsts.Firsts.{Firsts}
use Rattle.term_reader.proofs.Finding.{AreFirst-same, AreFirst-map, AreFirst-full}
use Rattle.notation_parser.specs.Forms.{IsFormOf, closed_judgment, judgment_of, closed_form, judged, IsOpenForm, IsReadAs, IsReadAsAny}
use Rattle.notation_parser.specs.Ordered.{WrittenForm}
use Rattle.notation_parser.specs.View.{outcome}
use Rattle.notation_parser.specs.declared.outcomes.Outcome.{Outcome}
use Rattle.notation_parser.proofs.FormCases.{shaped, none_of_none, ReadsFormAt, form_items, made_form, by_items}

-- where no context is read
abbrev nowhere : Way
nowhere = way 0 [] no_ways

module _ (sig : Signature) (js : List Judgment) (scope : ReadingScope) (metas : List MetaDecl) (ts : List Token) where
  -- the readings by a judgment without a context are the products of its form
  pub closed_read : (k : ℕ) (j : Judgment) (vars : List Variable) (ss : List SchemeTree) → slice_get js k ≡ Some j → j.ctx ≡ None → vars ≡ known_words sig 0 scope.names.knowns
      → AreFirst IsBefore (IsFormOf sig metas vars k j.items ts) ss → AreFirst IsBefore (IsReadAs sig js scope metas k ts) (map closed_form ss)
  closed_read k j vars ss here closed are f =
      AreFirst-same IsBefore _ (IsReadAs sig js scope metas k ts) (map closed_form ss) (λ w x. (there w x, back w x))
      (AreFirst-map IsBefore IsBefore (λ w. w) closed_form (IsFormOf sig metas vars k j.items ts) ss (λ l m b. b) (λ l m a b g h e. apart l m a b g h e) f)
    where
      apart : (l m : Way) (a b : SchemeTree) → IsFormOf sig metas vars k j.items ts l a → IsFormOf sig metas vars k j.items ts m b → closed_form a ≡ closed_form b → a ≡ b
      apart l m a b f g e =
          let fa = f.1 in
          let ga = g.1 in
          let form : a_judgment (judgment_of a) ≡ a_judgment (judgment_of b) = ap (λ (y : WrittenForm). y.0) e in
          let same : judgment_of a ≡ judgment_of b = cc in
          let both : closed_judgment k (bare fa.0) ≡ closed_judgment k (bare ga.0) = sym (ap judgment_of fa.4) ∙ same ∙ ap judgment_of ga.4 in
          let args : bare fa.0 ≡ bare ga.0 = ap (λ (i : JudgmentScheme). i.args) both in
          fa.4 ∙ ap (con k) (by_items (fa.6).0 ∙ ap (shaped j.items) args ∙ sym (by_items (ga.6).0)) ∙ sym ga.4

      there : (w : Way) (x : WrittenForm) → IsMapped (λ w. w) closed_form (IsFormOf sig metas vars k j.items ts) w x → IsReadAs sig js scope metas k ts w x
      there w x h =
          let found = h.4 in
          let made = found.1 in
          let form = made_form sig metas None [] nowhere found.0 (none_of_none j.items) made.6 in
          let read : ReadsFormAt sig metas (known_words sig 0 scope.names.knowns) None [] nowhere j.items ts made.1 made.2 (bare made.0) =
          subst (λ vs. ReadsFormAt sig metas vs None [] nowhere j.items ts made.1 made.2 (bare made.0)) are form in
          let place : way k (form_lengths read.0) (ways_of_form nowhere read.0) ≡ w =
          ap (λ ls. way k ls (ways_of_form nowhere read.0)) read.1 ∙ ap (way k made.1) read.2 ∙ sym made.3 ∙ sym h.2 in
          (closed_judgment k (bare made.0), [], h.3 ∙ ap closed_form made.4, refl, (without_context here closed read.0, place))

      back : (w : Way) (x : WrittenForm) → IsReadAs sig js scope metas k ts w x → IsMapped (λ w. w) closed_form (IsFormOf sig metas vars k j.items ts) w x
      back w x h = go (h.4).0 h.3 h.2 (h.4).1
        where
          go : {i : JudgmentScheme} {ks : List KnownVariable} → (r : ReadsJudgment sig js scope metas ts i ks) → i.judgment ≡ k → x ≡ (a_judgment i, ks) → way_of_judgment r ≡ w
              → IsMapped (λ w. w) closed_form (IsFormOf sig metas vars k j.items ts) w x
          go (without_context {k = l} {j = other} {ss = ss} found none r) number is place =
              let two : Some other ≡ Some j = sym found ∙ ap (slice_get js) number ∙ here in
              let which : other ≡ j = cc in
              let read : ReadsFormAt sig metas vars None [] nowhere j.items ts (form_lengths r) (ways_of_form nowhere r) ss =
              subst (λ (i : Judgment). ReadsFormAt sig metas vars None [] nowhere i.items ts (form_lengths r) (ways_of_form nowhere r) ss) which
              (subst (λ vs. ReadsFormAt sig metas vs None [] nowhere other.items ts (form_lengths r) (ways_of_form nowhere r) ss) (sym are) (r, refl, refl)) in
              let items = form_items sig metas None [] nowhere read.0 (none_of_none j.items) in
              let at : w ≡ way k (form_lengths read.0) (ways_of_form nowhere read.0) =
              sym place ∙ ap (λ m. way m (form_lengths r) (ways_of_form nowhere r)) number ∙ ap (λ ls. way k ls (ways_of_form nowhere r)) (sym read.1)
              ∙ ap (way k (form_lengths read.0)) (sym read.2) in
              let says : x ≡ closed_form (con k items.0) =
              is ∙ ap (λ m. (a_judgment (closed_judgment m ss), [])) number ∙ ap (λ us. (a_judgment (closed_judgment k us), [])) items.1 in
              (w, con k items.0, refl, says, (items.3, (items.0, form_lengths read.0, ways_of_form nowhere read.0, at, refl, [], items.2)))
          go (with_context {k = l} {j = other} {id = id} found assumes only ctx r) number is place =
              let two : Some other ≡ Some j = sym found ∙ ap (slice_get js) number ∙ here in
              let which : other ≡ j = cc in
              let never : Some id ≡ None = sym assumes ∙ ap (λ (i : Judgment). i.ctx) which ∙ closed in
              absurd (cc)

  -- the readings by a judgment with a context are those of its form
  pub open_read : (k : ℕ) (j : Judgment) (c : CatId) → slice_get js k ≡ Some j → j.ctx ≡ Some c → count_by (λ s. s.cat == c.0) (slots j.items) ≡ 1 → (w : Way) (x : WrittenForm)
      → IsOpenForm sig scope metas c k j.items ts w x ↔ IsReadAs sig js scope metas k ts w x
  open_read k j c here assumes once w x = (there, back)
    where
      there : IsOpenForm sig scope metas c k j.items ts w x → IsReadAs sig js scope metas k ts w x
      there h =
          let r = (h.7).0 in
          let context = h.6 in
          let place : way k (form_lengths r) (ways_of_form (way_of_context context.0) r) ≡ w =
          ap (λ v. way k (form_lengths r) (ways_of_form v r)) context.1 ∙ sym (h.7).1 in
          (record { judgment = k; context = h.2.0; args = h.4 }, h.2.1, h.5, refl, (with_context here assumes once context.0 r, place))

      back : IsReadAs sig js scope metas k ts w x → IsOpenForm sig scope metas c k j.items ts w x
      back h = go (h.4).0 h.3 h.2 (h.4).1
        where
          go : {i : JudgmentScheme} {ks : List KnownVariable} → (r : ReadsJudgment sig js scope metas ts i ks) → i.judgment ≡ k → x ≡ (a_judgment i, ks) → way_of_judgment r ≡ w
              → IsOpenForm sig scope metas c k j.items ts w x
          go (without_context {k = l} {j = other} found none r) number is place =
              let two : Some other ≡ Some j = sym found ∙ ap (slice_get js) number ∙ here in
              let which : other ≡ j = cc in
              let never : Some c ≡ None = sym assumes ∙ sym (ap (λ (i : Judgment). i.ctx) which) ∙ none in
              absurd (cc)
          go (with_context {k = l} {j = other} {id = id} {front = front} {ctx = ctx} {vars = vars} {written = ks} {ss = ss} found takes only context r) number is place =
              let two : Some other ≡ Some j = sym found ∙ ap (slice_get js) number ∙ here in
              let which : other ≡ j = cc in
              let cats : Some id ≡ Some c = sym takes ∙ ap (λ (i : Judgment). i.ctx) which ∙ assumes in
              let cat : id ≡ c = cc in
              let says : x ≡ judged k (ctx, ks) ss = is ∙ ap (λ m. judged m (ctx, ks) ss) number in
              let at : w ≡ way k (form_lengths r) (ways_of_form (way_of_context context) r) =
              sym place ∙ ap (λ m. way m (form_lengths r) (ways_of_form (way_of_context context) r)) number in
              let there : IsOpenForm sig scope metas id k other.items ts w x =
              (way_of_context context, front, (ctx, ks), vars, ss, says, (context, refl), (r, at)) in
              subst (λ d. IsOpenForm sig scope metas d k j.items ts w x) cat (subst (λ (i : Judgment). IsOpenForm sig scope metas id k i.items ts w x) which there)

  -- a judgment whose form has not one slot of its context is not read
  pub none_read : (k : ℕ) (j : Judgment) (c : CatId) → slice_get js k ≡ Some j → j.ctx ≡ Some c → (count_by (λ s. s.cat == c.0) (slots j.items) ≡ 1 → ⊥) → (w : Way) (x : WrittenForm)
      → IsReadAs sig js scope metas k ts w x → ⊥
  none_read k j c here assumes several w x h = go (h.4).0 h.3
    where
      go : {i : JudgmentScheme} {ks : List KnownVariable} → ReadsJudgment sig js scope metas ts i ks → i.judgment ≡ k → ⊥
      go (without_context {k = l} {j = other} found none r) number =
          let two : Some other ≡ Some j = sym found ∙ ap (slice_get js) number ∙ here in
          let which : other ≡ j = cc in
          let never : Some c ≡ None = sym assumes ∙ sym (ap (λ (i : Judgment). i.ctx) which) ∙ none in
          absurd (cc)
      go (with_context {k = l} {j = other} {id = id} found takes only context r) number =
          let two : Some other ≡ Some j = sym found ∙ ap (slice_get js) number ∙ here in
          let which : other ≡ j = cc in
          let cats : Some id ≡ Some c = sym takes ∙ ap (λ (i : Judgment). i.ctx) which ∙ assumes in
          let cat : id ≡ c = cc in
          several (subst (λ (d : CatId). count_by (λ s. s.cat == d.0) (slots j.items) ≡ 1) cat (subst (λ (i : Judgment). count_by (λ s. s.cat == id.0) (slots i.items) ≡ 1) which only))

  -- by a judgment below that number
  abbrev pub IsReadBelow : ℕ → Way → WrittenForm → Type 0
  IsReadBelow n w x = (k : ℕ) × (k < n) × IsReadAs sig js scope metas k ts w x

  pub one_judgment_more : (n : ℕ) (w : Way) (x : WrittenForm) → (IsReadBelow n w x ⊎ IsReadAs sig js scope metas n ts w x) ↔ IsReadBelow (n + 1) w x
  one_judgment_more n w x = (there, λ h. back h (cases_lt h.0 n))
    where
      there : IsReadBelow n w x ⊎ IsReadAs sig js scope metas n ts w x → IsReadBelow (n + 1) w x
      there (inl h) = (h.0, omega (arith, h.1), h.2)
      there (inr h) = (n, omega arith, h)

      back : (h : IsReadBelow (n + 1) w x) → (h.0 < n) ⊎ (n ≤ h.0) → IsReadBelow n w x ⊎ IsReadAs sig js scope metas n ts w x
      back h (inl lt) = inl (h.0, lt, h.2)
      back h (inr le) = let same : h.0 ≡ n = omega (arith, h.1) in inr (subst (λ k. IsReadAs sig js scope metas k ts w x) same h.2)

  number_within : {i : JudgmentScheme} {ks : List KnownVariable} → ReadsJudgment sig js scope metas ts i ks → i.judgment < length js
  number_within (without_context {k = k} {j = j} found none r) = slice_get_within js k j found
  number_within (with_context {k = k} {j = j} found assumes once context r) = slice_get_within js k j found

  pub all_judgments : (n : ℕ) (w : Way) (x : WrittenForm) → length js ≤ n → IsReadBelow n w x ↔ IsReadAsAny sig js scope metas ts w x
  all_judgments n w x h = (λ k. (k.0, k.2), λ k. (k.0, (let lt = number_within (k.1.4).0 in let same = k.1.3 in omega arith), k.1))

  place_of : {i : JudgmentScheme} {ks : List KnownVariable} → (r : ReadsJudgment sig js scope metas ts i ks) → (ls : List ℕ) × (ws : Ways) × (way_of_judgment r ≡ way i.judgment ls ws)
  place_of (without_context found none r) = (form_lengths r, ways_of_form nowhere r, refl)
  place_of (with_context found assumes once context r) = (form_lengths r, ways_of_form (way_of_context context) r, refl)

  -- what is read by an earlier judgment stands first
  judgments_apart : (m n : ℕ) → m < n → (k l : Way) (a x : WrittenForm) → IsReadAs sig js scope metas m ts k a → IsReadAs sig js scope metas n ts l x → IsBefore k l
  judgments_apart m n lt k l a x f g =
      let p = place_of (f.4).0 in
      let q = place_of (g.4).0 in
      let left : way m p.0 p.1 ≡ k = ap (λ i. way i p.0 p.1) (sym f.3) ∙ sym p.2 ∙ (f.4).1 in
      let right : way n q.0 q.1 ≡ l = ap (λ i. way i q.0 q.1) (sym g.3) ∙ sym q.2 ∙ (g.4).1 in
      subst (λ v. IsBefore v l) left (subst (IsBefore (way m p.0 p.1)) right (inl lt))

  pub judgments_in_order : (n : ℕ) (k l : Way) (a x : WrittenForm) → IsReadBelow n k a → IsReadAs sig js scope metas n ts l x → IsBefore k l
  judgments_in_order n k l a x f g = judgments_apart f.0 n f.1 k l a x f.2 g

  -- two readings by the first judgments are the first two
  pub judgments_enough : (n : ℕ) (found : Firsts Outcome) → IsFull found → AreFirst IsBefore (IsReadBelow n) (listed outcome found)
      → AreFirst IsBefore (IsReadAsAny sig js scope metas ts) (listed outcome found)
  judgments_enough n found full f =
      AreFirst-same IsBefore _ (IsReadAsAny sig js scope metas ts) _ (λ w x. (either w x, λ h. which w x h (cases_lt h.0 n)))
      (AreFirst-full IsBefore outcome (IsReadBelow n) (λ w x. (k : ℕ) × (n ≤ k) × IsReadAs sig js scope metas k ts w x) found full
      (λ k l a x h i. (let lt : h.0 < i.0 = omega (arith, h.1, i.1) in judgments_apart h.0 i.0 lt k l a x h.2 i.2)) f)
    where
      either : (w : Way) (x : WrittenForm) → IsReadBelow n w x ⊎ ((k : ℕ) × (n ≤ k) × IsReadAs sig js scope metas k ts w x) → IsReadAsAny sig js scope metas ts w x
      either w x (inl h) = (h.0, h.2)
      either w x (inr h) = (h.0, h.2)

      which : (w : Way) (x : WrittenForm) (h : IsReadAsAny sig js scope metas ts w x) → (h.0 < n) ⊎ (n ≤ h.0)
          → IsReadBelow n w x ⊎ ((k : ℕ) × (n ≤ k) × IsReadAs sig js scope metas k ts w x)
      which w x h (inl lt) = inl (h.0, lt, h.1)
      which w x h (inr ge) = inr (h.0, ge, h.1)
