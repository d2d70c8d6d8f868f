-- Two readings of the same tokens at the same place say the same.
use Rattle.std.proofs.Common.{◌≡◌, ◌≢◌, ◌⊎◌, ℕ, zero, suc, ◌+◌, List, [], ◌∷◌, ◌++◌, length, map, inl, inr, refl, ap, ◌∙◌, sym, subst, arith, Some, slice_get}
use Rattle.std.specs.List.{AllByRecursion}
use Rattle.std.proofs.lemmas.List.{append_cancel_right}
use Rattle.binding_terms.specs.Signature.{Signature, binders}
use Rattle.binding_terms.specs.declared.grammar.Item.{Item}
use Rattle.binding_terms.specs.declared.grammar.Item.TheVariants.{Slot}
use Rattle.binding_terms.specs.declared.grammar.Prod.{Prod}
use Rattle.binding_terms.proofs.Lists.{same_fronts}
use Rattle.scheme_terms.specs.SchemeTree.{SchemeTree, meta, con, Values, value, Parts, part}
use Rattle.scheme_terms.specs.declared.scheme.MetaDecl.{MetaDecl}
use Rattle.rule_schemes.specs.Reading.{Token, word, punctuation, Variable, Means, counted, variables_of, slot_variables, ReadsTerm, group, metavariable, variable, production, ReadsBrackets, no_brackets, brackets, ReadsArguments, one_more, last_one, ReadsItems, all_read, terminal, binder, slot}
use Rattle.rule_schemes.specs.Said.{IsBefore, Way, way, Ways, way_of_term, bracket_lengths, ways_of_brackets, argument_lengths, ways_of_arguments, item_lengths, ways_of_items}
use Rattle.ordered_readings.specs.Names.{NamesApart}
use Rattle.ordered_readings.specs.Laws.{OrderLaw, RowLaw, BracketLaw, ArgumentLaw}
use Rattle.ordered_readings.proofs.Comparing.{Compared, SlotsCompared, slots_tell, comma_is_no_bracket, terms_compare, brackets_compare, arguments_compare, items_compare}

abbrev pub alternative : Way → ℕ
alternative (way a ls ws) = a

abbrev pub lengths : Way → List ℕ
lengths (way a ls ws) = ls

abbrev pub inner : Way → Ways
inner (way a ls ws) = ws

no_other_name : (m : MetaDecl) (ms : List MetaDecl) (n : ℕ) (d : MetaDecl) → AllByRecursion (λ x. m.name ≢ x.name) ms → slice_get ms n ≡ Some d → m.name ≡ d.name → ⊥
no_other_name m [] n d h e same = cc
no_other_name m (x ∷ ms) zero d h e same = let one : x ≡ d = cc in absurd (h.0 (same ∙ ap (λ (y : MetaDecl). y.name) (sym one)))
no_other_name m (x ∷ ms) (suc n) d h e same = no_other_name m ms n d h.1 e same

-- a name tells the metavariable
pub name_tells : (ms : List MetaDecl) (m n : ℕ) (d e : MetaDecl) → NamesApart ms → slice_get ms m ≡ Some d → slice_get ms n ≡ Some e → d.name ≡ e.name → (m ≡ n) × (d ≡ e)
name_tells [] m n d e apart f g same = cc
name_tells (x ∷ ms) zero zero d e apart f g same = let both : Some d ≡ Some e = sym f ∙ g in let one : d ≡ e = cc in (refl, one)
name_tells (x ∷ ms) zero (suc n) d e apart f g same =
    let one : x ≡ d = cc in absurd (no_other_name x ms n e apart.0 g (ap (λ (y : MetaDecl). y.name) one ∙ same))
name_tells (x ∷ ms) (suc m) zero d e apart f g same =
    let one : x ≡ e = cc in absurd (no_other_name x ms m d apart.0 f (ap (λ (y : MetaDecl). y.name) one ∙ sym same))
name_tells (x ∷ ms) (suc m) (suc n) d e apart f g same = let r = name_tells ms m n d e apart.1 f g same in (ap suc r.0, r.1)

-- a word means one thing
means_one : (n : ℕ) (vars : List Variable) (w : List ℕ) (c : ℕ) (s t : SchemeTree) → Means n vars w c s → Means n vars w c t → s ≡ t
means_one n [] w c s t h k = absurd h
means_one n (v ∷ vars) w c s t (inl h) (inl k) = h.2 ∙ sym k.2
means_one n (v ∷ vars) w c s t (inl h) (inr k) = absurd (k.0 h.0)
means_one n (v ∷ vars) w c s t (inr h) (inl k) = absurd (h.0 k.0)
means_one n (v ∷ vars) w c s t (inr h) (inr k) = means_one (n + counted v.means) vars w c s t h.1 k.1

means_same : {vars us : List Variable} {c d : ℕ} {s t : SchemeTree} (x y : List ℕ) → vars ≡ us → c ≡ d → x ≡ y → Means 0 vars x c s → Means 0 us y d t → s ≡ t
means_same {vars} {us} {c} {d} {s} {t} x y v k e m n =
    means_one 0 us y d s t (subst (λ z. Means 0 us z d s) e (subst (λ i. Means 0 us x i s) k (subst (λ vs. Means 0 vs x c s) v m))) n

no_comma_here : (us vs : List Token) (first begins ts rs : List Token) → ts ≡ first ++ punctuation 44 ∷ us → rs ≡ begins ++ punctuation 93 ∷ vs → ts ≡ rs → length first ≡ length begins → ⊥
no_comma_here us vs first begins ts rs f g e h =
    comma_is_no_bracket us vs (same_fronts first begins (punctuation 44 ∷ us) (punctuation 93 ∷ vs) (sym f ∙ e ∙ g) h).1

module _ {sig : Signature} {metas : List MetaDecl} where
  -- where the slots are as long, the binders write the same words
  pub same_words : {vars us own owns : List Variable} {words others : List (List ℕ)} {items jtems : List Item} {ts rs : List Token} {xs ys : Parts}
      → (r : ReadsItems sig metas vars own words items ts xs) (q : ReadsItems sig metas us owns others jtems rs ys) → items ≡ jtems → ts ≡ rs
      → item_lengths r ≡ item_lengths q → words ≡ others
  same_words all_read all_read d e l = refl
  same_words all_read (terminal h q) d e l = absurd (cc)
  same_words all_read (binder h q) d e l = absurd (cc)
  same_words all_read (slot g h u q) d e l = absurd (cc)
  same_words (terminal k r) all_read d e l = absurd (cc)
  same_words (terminal {items = is} {tokens = before} k r) (terminal {items = js} {tokens = after} h q) d e l =
      let items_same : is ≡ js = cc in
      let tokens_same : before ≡ after = cc in
      same_words r q items_same tokens_same l
  same_words (terminal k r) (binder h q) d e l = absurd (cc)
  same_words (terminal k r) (slot g h u q) d e l = absurd (cc)
  same_words (binder k r) all_read d e l = absurd (cc)
  same_words (binder k r) (terminal h q) d e l = absurd (cc)
  same_words (binder {words = ws} {w = w} {items = is} {tokens = before} k r) (binder {words = vs} {w = v} {items = js} {tokens = after} h q) d e l =
      let items_same : is ≡ js = cc in
      let tokens_same : before ≡ after = cc in
      let tokens : word w ≡ word v = cc in
      let one : w ≡ v = ap (λ (t : Token). t.1) tokens in
      ap (λ x. x ∷ ws) one ∙ ap (λ xs. v ∷ xs) (same_words r q items_same tokens_same l)
  same_words (binder k r) (slot g h u q) d e l = absurd (cc)
  same_words (slot f k t r) all_read d e l = absurd (cc)
  same_words (slot f k t r) (terminal h q) d e l = absurd (cc)
  same_words (slot f k t r) (binder h q) d e l = absurd (cc)
  same_words (slot {items = is} {first = first} {rest = rest} f k t r) (slot {items = js} {first = begins} {rest = other} g h u q) d e l =
      let items_same : is ≡ js = cc in
      let long : length first ≡ length begins = cc in
      let more : item_lengths r ≡ item_lengths q = cc in
      let same = same_fronts first begins rest other (sym f ∙ e ∙ g) long in
      same_words r q items_same same.1 more

  module _ (apart : NamesApart metas) where
    mutual
      pub same_terms : {vars us : List Variable} {c d : ℕ} {ts rs : List Token} {s t : SchemeTree}
          → (r : ReadsTerm sig metas vars c ts s) (q : ReadsTerm sig metas us d rs t) → vars ≡ us → c ≡ d → ts ≡ rs → way_of_term r ≡ way_of_term q → s ≡ t
      same_terms (group {inner = ins} f r) (group {inner = other} g q) v k e w =
          let both : punctuation 40 ∷ (ins ++ punctuation 41 ∷ []) ≡ punctuation 40 ∷ (other ++ punctuation 41 ∷ []) = sym f ∙ e ∙ g in
          let inside : ins ++ punctuation 41 ∷ [] ≡ other ++ punctuation 41 ∷ [] = cc in
          let place : way_of_term r ≡ way_of_term q = cc in
          same_terms r q v k (append_cancel_right ins other (punctuation 41 ∷ []) inside) place
      same_terms (group f r) (metavariable g m k q) v c e w = let same : 0 ≡ 1 = ap alternative w in absurd (omega (arith, same))
      same_terms (group f r) (variable g m) v c e w = let same : 0 ≡ 2 = ap alternative w in absurd (omega (arith, same))
      same_terms (group f r) (production {p = o} m k q) v c e w = let same : 0 ≡ 3 + o = ap alternative w in absurd (omega (arith, same))
      same_terms (metavariable f m c r) (group g q) v k e w = let same : 1 ≡ 0 = ap alternative w in absurd (omega (arith, same))
      same_terms (metavariable {rest = rest} {m = i} {decl = decl} {vs = xs} f m c r) (metavariable {rest = other} {m = j} {decl = another} {vs = ys} g n k q) v l e w =
          let both : word decl.name ∷ rest ≡ word another.name ∷ other = sym f ∙ e ∙ g in
          let behind : rest ≡ other = cc in
          let first : word decl.name ≡ word another.name = cc in
          let tells = name_tells metas i j decl another apart m n (ap (λ (t : Token). t.1) first) in
          let args = same_brackets r q v (ap (λ (x : MetaDecl). map (λ p. p.0) x.params) tells.1) behind (ap lengths w) (ap inner w) in
          ap (λ x. meta x xs) tells.0 ∙ ap (meta j) args
      same_terms (metavariable f m c r) (variable g n) v k e w = let same : 1 ≡ 2 = ap alternative w in absurd (omega (arith, same))
      same_terms (metavariable f m c r) (production {p = o} n k q) v l e w = let same : 1 ≡ 3 + o = ap alternative w in absurd (omega (arith, same))
      same_terms (variable f m) (group g q) v k e w = let same : 2 ≡ 0 = ap alternative w in absurd (omega (arith, same))
      same_terms (variable f m) (metavariable g n k q) v l e w = let same : 2 ≡ 1 = ap alternative w in absurd (omega (arith, same))
      same_terms (variable {w = x} f m) (variable {w = y} g n) v k e w =
          let both : word x ∷ [] ≡ word y ∷ [] = sym f ∙ e ∙ g in
          let first : word x ≡ word y = cc in
          means_same x y v k (ap (λ (t : Token). t.1) first) m n
      same_terms (variable f m) (production {p = o} n k q) v l e w = let same : 2 ≡ 3 + o = ap alternative w in absurd (omega (arith, same))
      same_terms (production {p = p} m c r) (group g q) v k e w = let same : 3 + p ≡ 0 = ap alternative w in absurd (omega (arith, same))
      same_terms (production {p = p} m c r) (metavariable g n k q) v l e w = let same : 3 + p ≡ 1 = ap alternative w in absurd (omega (arith, same))
      same_terms (production {p = p} m c r) (variable g n) v k e w = let same : 3 + p ≡ 2 = ap alternative w in absurd (omega (arith, same))
      same_terms (production {p = p} {prod = prod} {words = xs} {xs = fronts} m c r) (production {p = o} {prod = other} {words = ys} {xs = bs} n k q) v l e w =
          let more : 3 + p ≡ 3 + o = ap alternative w in
          let number : p ≡ o = omega (arith, more) in
          let both : Some prod ≡ Some other = sym m ∙ ap (slice_get sig.prods) number ∙ n in
          let same : prod ≡ other = cc in
          let items = ap (λ (x : Prod). x.items) same in
          let words = same_words r q items e (ap lengths w) in
          let own = ap (λ is. variables_of xs (binders is)) items ∙ ap (λ ws. variables_of ws (binders other.items)) words in
          ap (λ x. con x fronts) number ∙ ap (con o) (same_items r q v own items e (ap lengths w) (ap inner w))

      pub same_brackets : {vars us : List Variable} {ps os : List ℕ} {ts rs : List Token} {xs ys : Values}
          → (r : ReadsBrackets sig metas vars ps ts xs) (q : ReadsBrackets sig metas us os rs ys) → vars ≡ us → ps ≡ os → ts ≡ rs
          → bracket_lengths r ≡ bracket_lengths q → ways_of_brackets r ≡ ways_of_brackets q → xs ≡ ys
      same_brackets no_brackets no_brackets v p e l w = refl
      same_brackets no_brackets (brackets {rest = rest} g q) v p e l w = let never : [] ≡ punctuation 91 ∷ rest = e ∙ g in cc
      same_brackets (brackets {rest = rest} f r) no_brackets v p e l w = let never : punctuation 91 ∷ rest ≡ [] = sym f ∙ e in cc
      same_brackets (brackets {rest = rest} f r) (brackets {rest = other} g q) v p e l w =
          let both : punctuation 91 ∷ rest ≡ punctuation 91 ∷ other = sym f ∙ e ∙ g in
          let same : rest ≡ other = cc in
          same_arguments r q v p same l w

      pub same_arguments : {vars us : List Variable} {ps os : List ℕ} {ts rs : List Token} {xs ys : Values}
          → (r : ReadsArguments sig metas vars ps ts xs) (q : ReadsArguments sig metas us os rs ys) → vars ≡ us → ps ≡ os → ts ≡ rs
          → argument_lengths r ≡ argument_lengths q → ways_of_arguments r ≡ ways_of_arguments q → xs ≡ ys
      same_arguments (one_more {p = a} {params = ps} {first = first} {rest = rest} {s = s} {vs = xs} f t r) (one_more {p = b} {params = os} {first = begins} {rest = other} {s = z} {vs = ys} g u q) v p e l w =
          let long : length first ≡ length begins = cc in
          let more : argument_lengths r ≡ argument_lengths q = cc in
          let place : way_of_term t ≡ way_of_term u = cc in
          let places : ways_of_arguments r ≡ ways_of_arguments q = cc in
          let cat : a ≡ b = cc in
          let cats : ps ≡ os = cc in
          let same = same_fronts first begins (punctuation 44 ∷ rest) (punctuation 44 ∷ other) (sym f ∙ e ∙ g) long in
          let after : punctuation 44 ∷ rest ≡ punctuation 44 ∷ other = same.1 in
          let others : rest ≡ other = cc in
          ap (λ x. value x xs) (same_terms t u v cat same.0 place) ∙ ap (value z) (same_arguments r q v cats others more places)
      same_arguments (one_more {first = first} {rest = rest} f t r) (last_one {first = begins} {rest = other} g u q) v p e l w =
          let long : length first ≡ length begins = cc in absurd (no_comma_here rest other first begins _ _ f g e long)
      same_arguments (last_one {first = first} {rest = rest} f t r) (one_more {first = begins} {rest = other} g u q) v p e l w =
          let long : length begins ≡ length first = cc in absurd (no_comma_here other rest begins first _ _ g f (sym e) long)
      same_arguments (last_one {p = a} {params = ps} {first = first} {rest = rest} {s = s} {vs = xs} f t r) (last_one {p = b} {params = os} {first = begins} {rest = other} {s = z} {vs = ys} g u q) v p e l w =
          let long : length first ≡ length begins = cc in
          let more : bracket_lengths r ≡ bracket_lengths q = cc in
          let place : way_of_term t ≡ way_of_term u = cc in
          let places : ways_of_brackets r ≡ ways_of_brackets q = cc in
          let cat : a ≡ b = cc in
          let cats : ps ≡ os = cc in
          let same = same_fronts first begins (punctuation 93 ∷ rest) (punctuation 93 ∷ other) (sym f ∙ e ∙ g) long in
          let after : punctuation 93 ∷ rest ≡ punctuation 93 ∷ other = same.1 in
          let others : rest ≡ other = cc in
          ap (λ x. value x xs) (same_terms t u v cat same.0 place) ∙ ap (value z) (same_brackets r q v cats others more places)

      pub same_items : {vars us own owns : List Variable} {words others : List (List ℕ)} {items jtems : List Item} {ts rs : List Token} {xs ys : Parts}
          → (r : ReadsItems sig metas vars own words items ts xs) (q : ReadsItems sig metas us owns others jtems rs ys) → vars ≡ us → own ≡ owns → items ≡ jtems → ts ≡ rs
          → item_lengths r ≡ item_lengths q → ways_of_items r ≡ ways_of_items q → xs ≡ ys
      same_items all_read all_read v o d e l w = refl
      same_items all_read (terminal h q) v o d e l w = absurd (cc)
      same_items all_read (binder h q) v o d e l w = absurd (cc)
      same_items all_read (slot g h u q) v o d e l w = absurd (cc)
      same_items (terminal k r) all_read v o d e l w = absurd (cc)
      same_items (terminal {items = is} {tokens = before} k r) (terminal {items = js} {tokens = after} h q) v o d e l w =
          let items_same : is ≡ js = cc in
          let tokens_same : before ≡ after = cc in
          same_items r q v o items_same tokens_same l w
      same_items (terminal k r) (binder h q) v o d e l w = absurd (cc)
      same_items (terminal k r) (slot g h u q) v o d e l w = absurd (cc)
      same_items (binder k r) all_read v o d e l w = absurd (cc)
      same_items (binder k r) (terminal h q) v o d e l w = absurd (cc)
      same_items (binder {items = is} {tokens = before} k r) (binder {items = js} {tokens = after} h q) v o d e l w =
          let items_same : is ≡ js = cc in
          let tokens_same : before ≡ after = cc in
          same_items r q v o items_same tokens_same l w
      same_items (binder k r) (slot g h u q) v o d e l w = absurd (cc)
      same_items (slot f k t r) all_read v o d e l w = absurd (cc)
      same_items (slot f k t r) (terminal h q) v o d e l w = absurd (cc)
      same_items (slot f k t r) (binder h q) v o d e l w = absurd (cc)
      same_items {vars = vars} {us = us} {own = own} {owns = owns} (slot {c = c} {binds = bs} {items = is} {first = first} {rest = rest} {s = s} {xs = xs} f k t r) (slot {c = d} {binds = ds} {items = js} {first = begins} {rest = other} {s = z} {xs = ys} g h u q) v o i e l w =
          let head : Slot c bs ≡ Slot d ds = cc in
          let items_same : is ≡ js = cc in
          let cat : c ≡ d = cc in
          let list : bs ≡ ds = cc in
          let long : length first ≡ length begins = cc in
          let more : item_lengths r ≡ item_lengths q = cc in
          let place : way_of_term t ≡ way_of_term u = cc in
          let places : ways_of_items r ≡ ways_of_items q = cc in
          let same = same_fronts first begins rest other (sym f ∙ e ∙ g) long in
          let scope : slot_variables own bs ++ vars ≡ slot_variables owns ds ++ us =
          ap (λ x. slot_variables x bs ++ vars) o ∙ ap (λ x. slot_variables owns x ++ vars) list ∙ ap (λ x. slot_variables owns ds ++ x) v in
          ap (λ n. part n s xs) (ap length list) ∙ ap (λ x. part (length ds) x xs) (same_terms t u scope (ap (λ x. x.0) cat) same.0 place)
          ∙ ap (part (length ds) z) (same_items r q v o items_same same.1 more places)

pub order_law : OrderLaw
order_law sig metas vars cat tokens v w s t apart r q = elim (terms_compare r.0 q.0 refl) [
  | inl b ↦ inl (subst (λ x. IsBefore x w) r.1 (subst (IsBefore (way_of_term r.0)) q.1 b))
  | inr h ↦ elim h [
    | inl e ↦ inr (inl (sym r.1 ∙ e ∙ q.1, same_terms apart r.0 q.0 refl refl refl e))
    | inr b ↦ inr (inr (subst (λ x. IsBefore x v) q.1 (subst (IsBefore (way_of_term q.0)) r.1 b)))
  ]
]

-- so for slots whose lengths and places tell what is made of them
module _ {A : Type 0} (a : ℕ) (build : A → SchemeTree) (v w : Way) (s t : SchemeTree) (ls ks : List ℕ) (ws vs : Ways) (xs ys : A)
    (e : v ≡ way a ls ws) (g : w ≡ way a ks vs) (f : s ≡ build xs) (h : t ≡ build ys) (same : ls ≡ ks → ws ≡ vs → xs ≡ ys)
  where
    pub slots_ordered : Compared IsBefore (way a ls ws) (way a ks vs) → IsBefore v w ⊎ (((v ≡ w) × (s ≡ t)) ⊎ IsBefore w v)
    slots_ordered (inl b) = inl (subst (λ x. IsBefore x w) (sym e) (subst (IsBefore (way a ls ws)) (sym g) b))
    slots_ordered (inr (inl one)) = inr (inl (e ∙ one ∙ sym g, f ∙ ap build (same (ap lengths one) (ap inner one)) ∙ sym h))
    slots_ordered (inr (inr b)) = inr (inr (subst (λ x. IsBefore x v) (sym g) (subst (IsBefore (way a ks vs)) (sym e) b)))

pub row_law : RowLaw
row_law sig metas vars own words items a p tokens v w s t apart (xs, r, e, f) (ys, q, g, h) =
    slots_ordered a (con p) v w s t _ _ _ _ xs ys e g f h (λ ls ws. same_items apart r q refl refl refl refl ls ws)
    (slots_tell a (item_lengths r) (item_lengths q) (ways_of_items r) (ways_of_items q) (items_compare r q refl refl))

pub bracket_law : BracketLaw
bracket_law sig metas vars params m tokens v w s t apart (xs, r, e, f) (ys, q, g, h) =
    slots_ordered 1 (meta m) v w s t _ _ _ _ xs ys e g f h (λ ls ws. same_brackets apart r q refl refl refl ls ws)
    (slots_tell 1 (bracket_lengths r) (bracket_lengths q) (ways_of_brackets r) (ways_of_brackets q) (brackets_compare r q refl))

pub argument_law : ArgumentLaw
argument_law sig metas vars params m tokens v w s t apart (xs, r, e, f) (ys, q, g, h) =
    slots_ordered 1 (meta m) v w s t _ _ _ _ xs ys e g f h (λ ls ws. same_arguments apart r q refl refl refl ls ws)
    (slots_tell 1 (argument_lengths r) (argument_lengths q) (ways_of_arguments r) (ways_of_arguments q) (arguments_compare r q refl))
