-- Two readings of the same tokens as what is wanted: one is before the other, or both are at one place and write the same.
use Rattle.std.proofs.Common.{◌≡◌, ◌≢◌, ◌==◌, cond, ℕ, ◌+◌, List, [], ◌∷◌, length, inl, inr, refl, ap, ◌∙◌, sym, subst, arith, Option, Some, None, slice_get}
use Rattle.std.specs.Prelude.{count_by}
use Rattle.std.proofs.lemmas.Bool.{ne_eqb}
use Rattle.std.proofs.lemmas.List.Sums.{sum_by-cons, count_by-le-length}
use Rattle.binding_terms.specs.Signature.{Signature, Place, slots}
use Rattle.binding_terms.specs.declared.grammar.CatId.{CatId}
use Rattle.binding_terms.specs.declared.grammar.Item.{Item}
use Rattle.binding_terms.specs.declared.grammar.Item.TheVariants.{Slot}
use Rattle.binding_terms.proofs.Lists.{same_fronts}
use Rattle.scheme_terms.specs.SchemeTree.{SchemeTree}
use Rattle.scheme_terms.specs.Forms.{SchemeContext, KnownVariable}
use Rattle.scheme_terms.specs.declared.scheme.MetaDecl.{MetaDecl}
use Rattle.scheme_terms.specs.declared.scheme.Root.TheVariants.{Closed}
use Rattle.rule_schemes.specs.Reading.{Token, Variable, ReadingScope, ReadsForm, form_end, form_terminal, form_context, form_slot, ReadsContext, ReadsJudgment, without_context, with_context}
use Rattle.rule_schemes.specs.Rules.{JudgmentScheme}
use Rattle.rule_schemes.specs.Said.{Want, Written, a_term, a_judgment, a_context, ReadsWanted, reads_term, reads_judgment, reads_context, Way, way, no_ways, IsBefore, way_of_term, way_of_context, form_lengths, ways_of_form, way_of_judgment, way_of_wanted}
use Rattle.rule_schemes.specs.declared.rule.Judgment.{Judgment}
use Rattle.ordered_readings.specs.Names.{NamesApart}
use Rattle.ordered_readings.proofs.Comparing.{Compared, SlotsCompared, alternative_tells, length_tells, no_slots, terms_compare}
use Rattle.ordered_readings.proofs.SamePlace.{alternative, lengths, inner, same_terms}
use Rattle.form_readings.specs.Forms.{KnownsApart}
use Rattle.form_readings.specs.Laws.{WantedLaw}
use Rattle.form_readings.proofs.ContextOrder.{contexts_compare, same_contexts, first_length, first_way}

one_counted : (c : ℕ) (s : Place) (ss : List Place) → count_by (λ t. t.cat == c) (s ∷ ss) ≡ cond (s.cat == c) 1 0 + count_by (λ t. t.cat == c) ss
one_counted c s ss = sum_by-cons (λ (t : Place). cond (t.cat == c) 1 0) s ss

one_of_none : (c : ℕ) → count_by (λ (s : Place). s.cat == c) [] ≡ 1 → ⊥
one_of_none c e = let few = count_by-le-length (λ (s : Place). s.cat == c) [] in omega (arith, few, e)

one_behind : (c : ℕ) (s : Place) (ss : List Place) → count_by (λ t. t.cat == c) (s ∷ ss) ≡ 1 → s.cat ≢ c → count_by (λ t. t.cat == c) ss ≡ 1
one_behind c s ss e other =
    let none : 0 + count_by (λ t. t.cat == c) ss ≡ 1 =
    ap (λ t. cond t 1 0 + count_by (λ t. t.cat == c) ss) (sym (ne_eqb s.cat c other)) ∙ sym (one_counted c s ss) ∙ e in
    omega (arith, none)

other_cat : (i j : CatId) → Some i ≢ Some j → j.0 ≢ i.0
other_cat i j h e = h (ap (λ n. Some (record { 0 = n })) (sym e))

other_slot : (ctx dtx : Option CatId) (i j : CatId) (bs ds : List ℕ) (items jtems : List Item) → ctx ≡ dtx → Slot i bs ∷ items ≡ Slot j ds ∷ jtems → ctx ≡ Some i → dtx ≢ Some j → ⊥
other_slot ctx dtx i j bs ds items jtems e f g h =
    let head : Slot i bs ≡ Slot j ds = cc in
    let cat : i ≡ j = cc in
    h (sym e ∙ g ∙ ap Some cat)

module _ {sig : Signature} {metas : List MetaDecl} where
  forms_compare : {vars us : List Variable} {ctx dtx : Option CatId} {front begin : List Token} {items jtems : List Item} {ts rs : List Token} {ss zs : List SchemeTree} (v w : Way)
      → (front ≡ begin → Compared IsBefore v w)
      → (r : ReadsForm sig metas vars ctx front items ts ss) (q : ReadsForm sig metas us dtx begin jtems rs zs) → ctx ≡ dtx → items ≡ jtems → ts ≡ rs
      → SlotsCompared (form_lengths r) (ways_of_form v r) (form_lengths q) (ways_of_form w q)
  forms_compare v w h form_end form_end c d e = no_slots
  forms_compare v w h form_end (form_terminal g q) c d e = absurd (cc)
  forms_compare v w h form_end (form_context g s q) c d e = absurd (cc)
  forms_compare v w h form_end (form_slot g s k t q) c d e = absurd (cc)
  forms_compare v w h (form_terminal f r) form_end c d e = absurd (cc)
  forms_compare v w h (form_terminal {items = is} {tokens = before} f r) (form_terminal {items = js} {tokens = after} g q) c d e =
      let items_same : is ≡ js = cc in
      let tokens_same : before ≡ after = cc in
      forms_compare v w h r q c items_same tokens_same
  forms_compare v w h (form_terminal f r) (form_context g s q) c d e = absurd (cc)
  forms_compare v w h (form_terminal f r) (form_slot g s k t q) c d e = absurd (cc)
  forms_compare v w h (form_context f s r) form_end c d e = absurd (cc)
  forms_compare v w h (form_context f s r) (form_terminal g q) c d e = absurd (cc)
  forms_compare {front = front} {begin = begin} v w h (form_context {items = is} {rest = rest} f s r) (form_context {items = js} {rest = other} g t q) c d e =
      let items_same : is ≡ js = cc in
      length_tells (length front) (length begin) v w (form_lengths r) (form_lengths q) (ways_of_form v r) (ways_of_form w q)
      (λ l. (let same = same_fronts front begin rest other (sym s ∙ e ∙ t) l in (h same.0, forms_compare v w h r q c items_same same.1)))
  forms_compare {ctx = ctx} {dtx = dtx} v w h (form_context {id = i} {binds = bs} {items = is} f s r) (form_slot {id = j} {binds = ds} {items = js} g t k u q) c d e =
      absurd (other_slot ctx dtx i j bs ds is js c d f g)
  forms_compare v w h (form_slot f s k t r) form_end c d e = absurd (cc)
  forms_compare v w h (form_slot f s k t r) (form_terminal g q) c d e = absurd (cc)
  forms_compare {ctx = ctx} {dtx = dtx} v w h (form_slot {id = i} {binds = bs} {items = is} f s k t r) (form_context {id = j} {binds = ds} {items = js} g x q) c d e =
      absurd (other_slot dtx ctx j i ds bs js is (sym c) (sym d) g f)
  forms_compare v w h (form_slot {items = is} {first = first} {rest = rest} f s k t r) (form_slot {items = js} {first = begins} {rest = other} g x l u q) c d e =
      let items_same : is ≡ js = cc in
      length_tells (length first) (length begins) (way_of_term t) (way_of_term u) (form_lengths r) (form_lengths q) (ways_of_form v r) (ways_of_form w q)
      (λ long. (let same = same_fronts first begins rest other (sym s ∙ e ∙ x) long in (terms_compare t u same.0, forms_compare v w h r q c items_same same.1)))

  -- where there is one slot of the context, it takes the same tokens at the same place
  same_front : (id jd : CatId) {vars us : List Variable} {front begin : List Token} {items jtems : List Item} {ts rs : List Token} {ss zs : List SchemeTree} (v w : Way)
      → (r : ReadsForm sig metas vars (Some id) front items ts ss) (q : ReadsForm sig metas us (Some jd) begin jtems rs zs) → id ≡ jd → items ≡ jtems → ts ≡ rs
      → count_by (λ s. s.cat == id.0) (slots items) ≡ 1 → form_lengths r ≡ form_lengths q → ways_of_form v r ≡ ways_of_form w q → (front ≡ begin) × (v ≡ w)
  same_front id jd v w form_end q c d e one l x = absurd (one_of_none id.0 one)
  same_front id jd v w (form_terminal f r) form_end c d e one l x = absurd (cc)
  same_front id jd v w (form_terminal {items = is} {tokens = before} f r) (form_terminal {items = js} {tokens = after} g q) c d e one l x =
      let items_same : is ≡ js = cc in
      let tokens_same : before ≡ after = cc in
      same_front id jd v w r q c items_same tokens_same one l x
  same_front id jd v w (form_terminal f r) (form_context g s q) c d e one l x = absurd (cc)
  same_front id jd v w (form_terminal f r) (form_slot g s k t q) c d e one l x = absurd (cc)
  same_front id jd v w (form_context f s r) form_end c d e one l x = absurd (cc)
  same_front id jd v w (form_context f s r) (form_terminal g q) c d e one l x = absurd (cc)
  same_front id jd {front = front} {begin = begin} v w (form_context {rest = rest} f s r) (form_context {rest = other} g t q) c d e one l x =
      let long = first_length (length front) (length begin) (form_lengths r) (form_lengths q) l in
      ((same_fronts front begin rest other (sym s ∙ e ∙ t) long.0).0, (first_way v w (ways_of_form v r) (ways_of_form w q) x).0)
  same_front id jd v w (form_context {id = i} {binds = bs} {items = is} f s r) (form_slot {id = j} {binds = ds} {items = js} g t k u q) c d e one l x =
      absurd (other_slot (Some id) (Some jd) i j bs ds is js (ap Some c) d f g)
  same_front id jd v w (form_slot f s k t r) form_end c d e one l x = absurd (cc)
  same_front id jd v w (form_slot f s k t r) (form_terminal g q) c d e one l x = absurd (cc)
  same_front id jd v w (form_slot {id = i} {binds = bs} {items = is} f s k t r) (form_context {id = j} {binds = ds} {items = js} g y q) c d e one l x =
      absurd (other_slot (Some jd) (Some id) j i ds bs js is (ap Some (sym c)) (sym d) g f)
  same_front id jd v w (form_slot {id = i} {binds = bs} {items = is} {first = first} {rest = rest} f s k t r) (form_slot {items = js} {first = begins} {rest = other} g y m u q) c d e one l x =
      let items_same : is ≡ js = cc in
      let long = first_length (length first) (length begins) (form_lengths r) (form_lengths q) l in
      let ways = first_way (way_of_term t) (way_of_term u) (ways_of_form v r) (ways_of_form w q) x in
      let split = same_fronts first begins rest other (sym s ∙ e ∙ y) long.0 in
      same_front id jd v w r q c items_same split.1 (one_behind id.0 (record { cat = i.0; binds = bs }) (slots is) one (other_cat id i f)) long.1 ways.1

  module _ (names : NamesApart metas) where
    same_forms : {vars us : List Variable} {ctx dtx : Option CatId} {front begin : List Token} {items jtems : List Item} {ts rs : List Token} {ss zs : List SchemeTree} (v w : Way)
        → (r : ReadsForm sig metas vars ctx front items ts ss) (q : ReadsForm sig metas us dtx begin jtems rs zs) → vars ≡ us → ctx ≡ dtx → items ≡ jtems → ts ≡ rs
        → form_lengths r ≡ form_lengths q → ways_of_form v r ≡ ways_of_form w q → ss ≡ zs
    same_forms v w form_end form_end o c d e l x = refl
    same_forms v w form_end (form_terminal g q) o c d e l x = absurd (cc)
    same_forms v w form_end (form_context g s q) o c d e l x = absurd (cc)
    same_forms v w form_end (form_slot g s k t q) o c d e l x = absurd (cc)
    same_forms v w (form_terminal f r) form_end o c d e l x = absurd (cc)
    same_forms v w (form_terminal {items = is} {tokens = before} f r) (form_terminal {items = js} {tokens = after} g q) o c d e l x =
        let items_same : is ≡ js = cc in
        let tokens_same : before ≡ after = cc in
        same_forms v w r q o c items_same tokens_same l x
    same_forms v w (form_terminal f r) (form_context g s q) o c d e l x = absurd (cc)
    same_forms v w (form_terminal f r) (form_slot g s k t q) o c d e l x = absurd (cc)
    same_forms v w (form_context f s r) form_end o c d e l x = absurd (cc)
    same_forms v w (form_context f s r) (form_terminal g q) o c d e l x = absurd (cc)
    same_forms {front = front} {begin = begin} v w (form_context {items = is} {rest = rest} f s r) (form_context {items = js} {rest = other} g t q) o c d e l x =
        let items_same : is ≡ js = cc in
        let long = first_length (length front) (length begin) (form_lengths r) (form_lengths q) l in
        same_forms v w r q o c items_same (same_fronts front begin rest other (sym s ∙ e ∙ t) long.0).1 long.1 (first_way v w (ways_of_form v r) (ways_of_form w q) x).1
    same_forms {ctx = ctx} {dtx = dtx} v w (form_context {id = i} {binds = bs} {items = is} f s r) (form_slot {id = j} {binds = ds} {items = js} g t k u q) o c d e l x =
        absurd (other_slot ctx dtx i j bs ds is js c d f g)
    same_forms v w (form_slot f s k t r) form_end o c d e l x = absurd (cc)
    same_forms v w (form_slot f s k t r) (form_terminal g q) o c d e l x = absurd (cc)
    same_forms {ctx = ctx} {dtx = dtx} v w (form_slot {id = i} {binds = bs} {items = is} f s k t r) (form_context {id = j} {binds = ds} {items = js} g y q) o c d e l x =
        absurd (other_slot dtx ctx j i ds bs js is (sym c) (sym d) g f)
    same_forms v w (form_slot {id = i} {binds = bs} {items = is} {first = first} {rest = rest} {s = a} {ss = ss} f s k t r) (form_slot {id = j} {binds = ds} {items = js} {first = begins} {rest = other} {s = z} {ss = zs} g y m u q) o c d e l x =
        let head : Slot i bs ≡ Slot j ds = cc in
        let items_same : is ≡ js = cc in
        let cat : i ≡ j = cc in
        let long = first_length (length first) (length begins) (form_lengths r) (form_lengths q) l in
        let ways = first_way (way_of_term t) (way_of_term u) (ways_of_form v r) (ways_of_form w q) x in
        let split = same_fronts first begins rest other (sym s ∙ e ∙ y) long.0 in
        ap (λ n. n ∷ ss) (same_terms names t u o (ap (λ n. n.0) cat) split.0 ways.0) ∙ ap (λ n. z ∷ n) (same_forms v w r q o c items_same split.1 long.1 ways.1)

same_judgment_of : (js : List Judgment) (k l : ℕ) (j i : Judgment) → k ≡ l → slice_get js k ≡ Some j → slice_get js l ≡ Some i → j ≡ i
same_judgment_of js k l j i e f g = let both : Some j ≡ Some i = sym f ∙ ap (slice_get js) e ∙ g in cc

with_and_without : (js : List Judgment) (k l : ℕ) (j i : Judgment) (id : CatId) → k ≡ l → slice_get js k ≡ Some j → slice_get js l ≡ Some i → j.ctx ≡ None → i.ctx ≡ Some id → ⊥
with_and_without js k l j i id e f g none some =
    let never : None ≡ Some id = sym none ∙ ap (λ (x : Judgment). x.ctx) (same_judgment_of js k l j i e f g) ∙ some in cc

same_assumed : (j i : Judgment) (a b : CatId) → j ≡ i → j.ctx ≡ Some a → i.ctx ≡ Some b → a ≡ b
same_assumed j i a b e f g = let both : Some a ≡ Some b = sym f ∙ ap (λ (x : Judgment). x.ctx) e ∙ g in cc

abbrev judgment_of : ℕ → SchemeContext → List SchemeTree → JudgmentScheme
judgment_of k ctx ss = record { judgment = k; context = ctx; args = ss }

same_scheme : (k l : ℕ) (a b : SchemeContext) (ss zs : List SchemeTree) → k ≡ l → a ≡ b → ss ≡ zs → judgment_of k a ss ≡ judgment_of l b zs
same_scheme k l a b ss zs e f g = ap (λ n. judgment_of n a ss) e ∙ ap (λ x. judgment_of l x ss) f ∙ ap (judgment_of l b) g

abbrev outside : Way
outside = way 0 [] no_ways

module _ {sig : Signature} {scope : ReadingScope} {metas : List MetaDecl} where
  of_categories_compare : {c d : ℕ} {ts rs : List Token} {a b : SchemeContext} {vs us : List Variable} {ks ls : List KnownVariable} → c ≡ d
      → (r : ReadsContext sig scope metas c ts a vs ks) (q : ReadsContext sig scope metas d rs b us ls) → ts ≡ rs → Compared IsBefore (way_of_context r) (way_of_context q)
  of_categories_compare {rs = rs} {b = b} {us = us} {ls = ls} e r q f =
      subst (λ n. (q : ReadsContext sig scope metas n rs b us ls) → Compared IsBefore (way_of_context r) (way_of_context q)) e (λ q. contexts_compare r q f) q

  module _ (names : NamesApart metas) (apart : KnownsApart scope.names.knowns) where
    same_of_categories : {c d : ℕ} {ts rs : List Token} {a b : SchemeContext} {vs us : List Variable} {ks ls : List KnownVariable} → c ≡ d
        → (r : ReadsContext sig scope metas c ts a vs ks) (q : ReadsContext sig scope metas d rs b us ls) → ts ≡ rs → way_of_context r ≡ way_of_context q
        → (a ≡ b) × (vs ≡ us) × (ks ≡ ls)
    same_of_categories {rs = rs} {a = a} {b = b} {vs = vs} {us = us} {ks = ks} {ls = ls} e r q f w =
        subst (λ n. (q : ReadsContext sig scope metas n rs b us ls) → way_of_context r ≡ way_of_context q → (a ≡ b) × (vs ≡ us) × (ks ≡ ls)) e
        (λ q w. same_contexts names apart r q f w) q w

module _ {sig : Signature} {js : List Judgment} {scope : ReadingScope} {metas : List MetaDecl} where
  judgments_compare : {ts rs : List Token} {x y : JudgmentScheme} {ks ls : List KnownVariable}
      → (r : ReadsJudgment sig js scope metas ts x ks) (q : ReadsJudgment sig js scope metas rs y ls) → ts ≡ rs → Compared IsBefore (way_of_judgment r) (way_of_judgment q)
  judgments_compare (without_context {k = k} {j = j} f c r) (without_context {k = l} {j = i} g d q) e =
      alternative_tells k l (form_lengths r) (form_lengths q) (ways_of_form outside r) (ways_of_form outside q)
      (λ h. forms_compare outside outside (λ x. inr (inl refl)) r q refl (ap (λ (x : Judgment). x.items) (same_judgment_of js k l j i h f g)) e)
  judgments_compare (without_context {k = k} {j = j} f c r) (with_context {k = l} {j = i} {id = id} g d one y q) e =
      alternative_tells k l (form_lengths r) (form_lengths q) (ways_of_form outside r) (ways_of_form (way_of_context y) q) (λ h. absurd (with_and_without js k l j i id h f g c d))
  judgments_compare (with_context {k = k} {j = j} {id = id} f c one x r) (without_context {k = l} {j = i} g d q) e =
      alternative_tells k l (form_lengths r) (form_lengths q) (ways_of_form (way_of_context x) r) (ways_of_form outside q) (λ h. absurd (with_and_without js l k i j id (sym h) g f d c))
  judgments_compare (with_context {k = k} {j = j} {id = a} f c one x r) (with_context {k = l} {j = i} {id = b} g d two y q) e =
      alternative_tells k l (form_lengths r) (form_lengths q) (ways_of_form (way_of_context x) r) (ways_of_form (way_of_context y) q)
      (λ h. (let same = same_judgment_of js k l j i h f g in
      let ids = same_assumed j i a b same c d in
      forms_compare (way_of_context x) (way_of_context y) (λ z. of_categories_compare (ap (λ n. n.0) ids) x y z) r q (ap Some ids) (ap (λ (x : Judgment). x.items) same) e))

  wanted_compare : {want other : Want} {ts rs : List Token} {x y : Written} {ks ls : List KnownVariable}
      → (r : ReadsWanted sig js scope metas ts want x ks) (q : ReadsWanted sig js scope metas rs other y ls) → want ≡ other → ts ≡ rs → Compared IsBefore (way_of_wanted r) (way_of_wanted q)
  wanted_compare (reads_term r) (reads_term q) c e = terms_compare r q e
  wanted_compare (reads_term r) (reads_judgment q) c e = absurd (cc)
  wanted_compare (reads_term r) (reads_context q) c e = absurd (cc)
  wanted_compare (reads_judgment r) (reads_term q) c e = absurd (cc)
  wanted_compare (reads_judgment r) (reads_judgment q) c e = judgments_compare r q e
  wanted_compare (reads_judgment r) (reads_context q) c e = absurd (cc)
  wanted_compare (reads_context r) (reads_term q) c e = absurd (cc)
  wanted_compare (reads_context r) (reads_judgment q) c e = absurd (cc)
  wanted_compare (reads_context {c = c} r) (reads_context {c = d} q) w e = let cat : c ≡ d = cc in of_categories_compare cat r q e

  module _ (names : NamesApart metas) (apart : KnownsApart scope.names.knowns) where
    same_judgments : {ts rs : List Token} {x y : JudgmentScheme} {ks ls : List KnownVariable}
        → (r : ReadsJudgment sig js scope metas ts x ks) (q : ReadsJudgment sig js scope metas rs y ls) → ts ≡ rs → way_of_judgment r ≡ way_of_judgment q → (x ≡ y) × (ks ≡ ls)
    same_judgments (without_context {k = k} {j = j} {ss = ss} f c r) (without_context {k = l} {j = i} {ss = zs} g d q) e w =
        let number : k ≡ l = ap alternative w in
        let items = ap (λ (x : Judgment). x.items) (same_judgment_of js k l j i number f g) in
        let closed : SchemeContext = record { root = Closed; entries = [] } in
        (same_scheme k l closed closed ss zs number refl (same_forms names outside outside r q refl refl items e (ap lengths w) (ap inner w)), refl)
    same_judgments (without_context {k = k} {j = j} f c r) (with_context {k = l} {j = i} {id = id} g d one y q) e w =
        absurd (with_and_without js k l j i id (ap alternative w) f g c d)
    same_judgments (with_context {k = k} {j = j} {id = id} f c one x r) (without_context {k = l} {j = i} g d q) e w =
        absurd (with_and_without js l k i j id (sym (ap alternative w)) g f d c)
    same_judgments (with_context {k = k} {j = j} {id = a} {ctx = ctx} {ss = ss} f c one x r) (with_context {k = l} {j = i} {id = b} {ctx = dtx} {ss = zs} g d two y q) e w =
        let number : k ≡ l = ap alternative w in
        let same = same_judgment_of js k l j i number f g in
        let items = ap (λ (x : Judgment). x.items) same in
        let ids = same_assumed j i a b same c d in
        let front = same_front a b (way_of_context x) (way_of_context y) r q ids items e one (ap lengths w) (ap inner w) in
        let context = same_of_categories names apart (ap (λ n. n.0) ids) x y front.0 front.1 in
        let args = same_forms names (way_of_context x) (way_of_context y) r q context.1 (ap Some ids) items e (ap lengths w) (ap inner w) in
        (same_scheme k l ctx dtx ss zs number context.0 args, context.2)

    same_wanted : {want other : Want} {ts rs : List Token} {x y : Written} {ks ls : List KnownVariable}
        → (r : ReadsWanted sig js scope metas ts want x ks) (q : ReadsWanted sig js scope metas rs other y ls) → want ≡ other → ts ≡ rs → way_of_wanted r ≡ way_of_wanted q
        → (x ≡ y) × (ks ≡ ls)
    same_wanted (reads_term {c = c} r) (reads_term {c = d} q) n e w = let cat : c ≡ d = cc in (ap a_term (same_terms names r q refl cat e w), refl)
    same_wanted (reads_term r) (reads_judgment q) n e w = absurd (cc)
    same_wanted (reads_term r) (reads_context q) n e w = absurd (cc)
    same_wanted (reads_judgment r) (reads_term q) n e w = absurd (cc)
    same_wanted (reads_judgment r) (reads_judgment q) n e w = let same = same_judgments r q e w in (ap a_judgment same.0, same.1)
    same_wanted (reads_judgment r) (reads_context q) n e w = absurd (cc)
    same_wanted (reads_context r) (reads_term q) n e w = absurd (cc)
    same_wanted (reads_context r) (reads_judgment q) n e w = absurd (cc)
    same_wanted (reads_context {c = c} r) (reads_context {c = d} q) n e w =
        let cat : c ≡ d = cc in
        let same = same_of_categories names apart cat r q e w in
        (ap a_context same.0, same.2)

pub wanted_law : WantedLaw
wanted_law sig js scope metas want tokens v w x y names apart r q = elim (wanted_compare r.0 q.0 refl refl) [
  | inl d ↦ inl (subst (λ x. IsBefore x w) r.1 (subst (IsBefore (way_of_wanted r.0)) q.1 d))
  | inr h ↦ elim h [
    | inl e ↦ (let same = same_wanted names apart r.0 q.0 refl refl e in inr (inl (sym r.1 ∙ e ∙ q.1, λ i. (same.0 i, same.1 i))))
    | inr d ↦ inr (inr (subst (λ x. IsBefore x v) q.1 (subst (IsBefore (way_of_wanted q.0)) r.1 d)))
  ]
]
