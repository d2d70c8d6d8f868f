-- The first place in several splits, and what is made of it.
use Rattle.std.proofs.Common.{◌≡◌, ◌⊎◌, ℕ, ◌+◌, ◌<◌, ◌≤◌, List, [], ◌∷◌, ◌++◌, length, map, take, drop, get_or, inl, inr, refl, ap, ◌∙◌, sym, subst, arith, Option, Some, slice_get, slice_range}
use Rattle.std.specs.List.{Contains}
use Rattle.std.proofs.lemmas.List.{map_more}
use Rattle.std.proofs.lemmas.List.Elements.{Contains-push_cases, Contains-append_right, Contains-append_cases}
use Rattle.binding_terms.specs.declared.grammar.Item.{Item}
use Rattle.binding_terms.specs.declared.grammar.ProdId.{ProdId}
use Rattle.scheme_terms.specs.SchemeTree.{SchemeTree, meta, con, values, listed, Parts}
use Rattle.scheme_terms.specs.declared.scheme.MetaDecl.{MetaDecl}
use Rattle.scheme_terms.specs.declared.scheme.MetaId.{MetaId}
use Rattle.rule_schemes.specs.Reading.{word, Variable, bare}
use Rattle.rule_schemes.specs.Said.{Way, way, ComesBefore, IsBefore}
use Rattle.term_reader.specs.Cases.{IsNameOf, IsMade}
use Rattle.term_reader.specs.Ordered.{ReadsBracketsAt}
use Rattle.term_reader.specs.Splitting.{Divided, split, IsSplit, IsBracketed, AreSplits, AreInOrder, AreKnown, Stands, tokens_of, lengths, IsMadeIn}
use Rattle.term_reader.specs.declared.sheet.Sheet.{Sheet}
use Rattle.term_reader.specs.declared.splitting.Split.{Split}
use Rattle.term_reader.specs.declared.reading.Head.TheVariants.{Product, Meta}
use Rattle.term_reader.proofs.Pieces.{numbers}
use Rattle.term_reader.proofs.Ranges.{range_cons}
use Rattle.term_reader.proofs.TermCases.{made_in_splits, made_in_brackets}
use Rattle.term_reader.proofs.TermEnds.{seen}
use Rattle.term_reader.specs.PlaceCases.{IsInSplit, IsInSplits, BindAsMany}
use Rattle.term_reader.specs.FirstPlace.{IsFirstPlace}
use Rattle.term_reader.specs.PlaceView.{place}
use Rattle.term_reader.specs.declared.places.Place.{Place}
use Rattle.term_reader.proofs.Bound.{bound_read, same_bound}
use Rattle.term_reader.proofs.FirstPlaces.{first_same}
use Rattle.binding_terms.proofs.Lists.{all_contained, cons_cases, mapped_around}

order_after : (front rest : List Divided) → AreInOrder (front ++ rest) → AreInOrder rest
order_after [] rest h = h
order_after (d ∷ front) rest h = order_after front rest h.1

module _ (sheet : Sheet) (vars : List Variable) (alternative : ℕ) (wanted : List SchemeTree) where
  abbrev Here : Divided → Way → Parts → Type 0
  Here d = IsInSplit sheet vars alternative d wanted

  abbrev Among : List Divided → Way → Parts → Type 0
  Among all = IsInSplits sheet vars alternative all wanted

  -- one split more in which nothing is found
  pub none_more : (all : List Split) (j : ℕ) (here : Split) → j < length all → here ≡ get_or all j here
      → ((w : Way) (xs : Parts) → Among (map split (take j all)) w xs → ⊥) → ((w : Way) (xs : Parts) → Here (split here) w xs → ⊥)
      → (w : Way) (xs : Parts) → Among (map split (take (j + 1) all)) w xs → ⊥
  none_more all j here lt is none no_here w xs h =
      let front = map split (take j all) in
      let last : map split (take (j + 1) all) ≡ front ++ split here ∷ [] =
      map_more split all j here lt ∙ ap (λ s. map split (take j all) ++ split s ∷ []) (sym is) in
      go (subst (λ ds. Among ds w xs) last h)
    where
      go : Among (map split (take j all) ++ split here ∷ []) w xs → ⊥
      go k = elim (Contains-push_cases (map split (take j all)) (split here) k.0 k.1) [
        | inl c ↦ none w xs (k.0, c, k.2)
        | inr e ↦ no_here w xs (subst (λ d. Here d w xs) (sym e) k.2)
      ]

  -- what is found in a split before which there is nothing
  pub first_among : (front rest : List Divided) (d : Divided) (found : Place) → AreInOrder (front ++ (d ∷ rest))
      → ((w : Way) (xs : Parts) → Among front w xs → ⊥) → IsFirstPlace IsBefore (Here d) place (Some found)
      → IsFirstPlace IsBefore (Among (front ++ (d ∷ rest))) place (Some found)
  first_among front rest d found order none h =
      (h.0, ((d, Contains-append_right front (d ∷ rest) d (0, omega arith, refl), h.1.0), λ l x k. later l x k (Contains-append_cases front (d ∷ rest) k.0 k.1)))
    where
      after : AreInOrder (d ∷ rest)
      after = order_after front (d ∷ rest) order

      shorter : (l : Way) (x : Parts) (k : Among (front ++ (d ∷ rest)) l x) → Contains rest k.0 → IsBefore (place found) l
      shorter l x k c =
          let lengths_before : ComesBefore (lengths d.1) (lengths k.0.1) = all_contained (λ (e : Divided). ComesBefore (lengths d.1) (lengths e.1)) rest k.0 after.0 c in
          let here = h.1.0 in
          let there = k.2 in
          subst (λ w. IsBefore w l) (sym here.1) (subst (IsBefore (way alternative (lengths d.1) here.0)) (sym there.1) (inr (refl, inl lengths_before)))

      later : (l : Way) (x : Parts) (k : Among (front ++ (d ∷ rest)) l x) → Contains front k.0 ⊎ Contains (d ∷ rest) k.0
          → IsBefore (place found) l ⊎ ((place found ≡ l) × (x ≡ h.0))
      later l x k (inl c) = absurd (none l x (k.0, c, k.2))
      later l x k (inr c) = elim (cons_cases d rest k.0 c) [
        | inl e ↦ h.1.1 l x (subst (λ f. Here f l x) (sym e) k.2)
        | inr r ↦ inl (shorter l x k r)
      ]

  pub first_split : (all : List Split) (j : ℕ) (here : Split) (found : Place) → AreInOrder (map split all) → j < length all → here ≡ get_or all j here
      → ((w : Way) (xs : Parts) → Among (map split (take j all)) w xs → ⊥) → IsFirstPlace IsBefore (Here (split here)) place (Some found)
      → IsFirstPlace IsBefore (Among (map split all)) place (Some found)
  first_split all j here found order lt is none h =
      let whole : map split all ≡ map split (take j all) ++ (split here ∷ map split (drop (j + 1) all)) =
      mapped_around split all j here lt ∙ ap (λ s. map split (take j all) ++ (split s ∷ map split (drop (j + 1) all))) (sym is) in
      subst (λ ds. IsFirstPlace IsBefore (Among ds) place (Some found)) (sym whole)
      (first_among (map split (take j all)) (map split (drop (j + 1) all)) (split here) found (subst AreInOrder whole order) none h)

listed_values : (ss : List SchemeTree) → listed (values ss) ≡ ss
listed_values [] = refl
listed_values (s ∷ ss) = ap (λ us. s ∷ us) (listed_values ss)

values_apart : (ss us : List SchemeTree) → values ss ≡ values us → ss ≡ us
values_apart ss us e = sym (listed_values ss) ∙ ap listed e ∙ listed_values us

module _ (sheet : Sheet) (vars : List Variable) (known : AreKnown sheet vars) (n to : ℕ) (within : to ≤ length sheet.tokens.now) where
  -- a metavariable, by the first place in the splits of its brackets
  pub name_first : (m : MetaId) (decl : MetaDecl) (c : ℕ) (all : List Divided) (args : List SchemeTree) (found : Option Place)
      → decl.cat.0 ≡ c → n < to → slice_get (tokens_of sheet) n ≡ Some (word decl.name)
      → AreSplits (Stands sheet) (IsBracketed (tokens_of sheet) to decl.params (n + 1)) all
      → IsFirstPlace IsBefore (IsInSplits sheet vars 1 all args) place found
      → IsFirstPlace IsBefore
      (λ w s. IsNameOf sheet.sig.now sheet.metas.now vars m.0 decl c (slice_range (tokens_of sheet) n to) w s × (s ≡ meta m.0 (values args))) place found
  name_first m decl c all args found cat lt here splits f =
      first_same IsBefore (IsInSplits sheet vars 1 all args) (λ w s. Named w s × (s ≡ meta m.0 (values args))) (meta m.0 (values args)) place found
      (λ w xs h. (there w xs h, refl)) (λ w s q. (q.1, back w s q.0 q.1)) f
    where
      Named : Way → SchemeTree → Type 0
      Named = IsNameOf sheet.sig.now sheet.metas.now vars m.0 decl c (slice_range (tokens_of sheet) n to)

      k : to ≤ length (tokens_of sheet)
      k = seen sheet to within

      next : n + 1 ≤ to
      next = omega arith

      whole : slice_range (tokens_of sheet) n to ≡ word decl.name ∷ slice_range (tokens_of sheet) (n + 1) to
      whole = range_cons (tokens_of sheet) n to (word decl.name) lt k here

      there : (w : Way) (xs : Parts) → IsInSplits sheet vars 1 all args w xs → Named w (meta m.0 (values args))
      there w xs h =
          let inside = h.2 in
          let made : IsMadeIn sheet vars 1 (Meta m) all w (meta m.0 (values args)) =
          (h.0, h.1, (inside.0, xs, inside.1, ap (λ ss. meta m.0 (values ss)) (sym inside.2.1), inside.2.0)) in
          let b = (made_in_brackets sheet vars known (n + 1) to next k m decl.params all w (meta m.0 (values args)) splits).0 made in
          (b.0, b.1, b.2, b.3, b.4, cat, slice_range (tokens_of sheet) (n + 1) to, whole, b.5)

      back : (w : Way) (s : SchemeTree) → Named w s → s ≡ meta m.0 (values args) → (xs : Parts) × IsInSplits sheet vars 1 all args w xs
      back w s h e =
          let two : word decl.name ∷ slice_range (tokens_of sheet) (n + 1) to ≡ word decl.name ∷ h.6 = sym whole ∙ h.7 in
          let rest : h.6 ≡ slice_range (tokens_of sheet) (n + 1) to = cc in
          let made = (made_in_brackets sheet vars known (n + 1) to next k m decl.params all w s splits).1
          (h.0, h.1, h.2, h.3, h.4, subst (λ rs. ReadsBracketsAt sheet.sig.now sheet.metas.now vars (numbers decl.params) rs h.1 h.2 h.0) rest h.8) in
          let inside = made.2 in
          let both : meta m.0 (values (bare inside.1)) ≡ meta m.0 (values args) = sym inside.3 ∙ e in
          let same : values (bare inside.1) ≡ values args = cc in
          (inside.1, (made.0, made.1, (inside.0, inside.2, (inside.4, values_apart (bare inside.1) args same))))

  -- a production, by the first place in the splits of its items
  pub made_first : (p : ProdId) (items : List Item) (all : List Divided) (parts : Parts) (found : Option Place) → n ≤ to → BindAsMany items parts
      → AreSplits (Stands sheet) (IsSplit sheet.sig.now (tokens_of sheet) to items n) all
      → IsFirstPlace IsBefore (IsInSplits sheet vars (3 + p.0) all (bare parts)) place found
      → IsFirstPlace IsBefore
      (λ w s. IsMade sheet.sig.now sheet.metas.now vars (3 + p.0) p.0 items (slice_range (tokens_of sheet) n to) w s × (s ≡ con p.0 parts)) place found
  made_first p items all parts found some bound splits f =
      first_same IsBefore (IsInSplits sheet vars (3 + p.0) all (bare parts)) (λ w s. Made w s × (s ≡ con p.0 parts)) (con p.0 parts) place found
      (λ w xs h. (there w xs h, refl)) (λ w s q. (q.1, back w s q.0 q.1)) f
    where
      Made : Way → SchemeTree → Type 0
      Made = IsMade sheet.sig.now sheet.metas.now vars (3 + p.0) p.0 items (slice_range (tokens_of sheet) n to)

      k : to ≤ length (tokens_of sheet)
      k = seen sheet to within

      there : (w : Way) (xs : Parts) → IsInSplits sheet vars (3 + p.0) all (bare parts) w xs → Made w (con p.0 parts)
      there w xs h =
          let inside = h.2 in
          let in_splits : IsMadeIn sheet vars (3 + p.0) (Product p) all w (con p.0 xs) = (h.0, h.1, (inside.0, xs, inside.1, refl, inside.2.0)) in
          let made : Made w (con p.0 xs) = (made_in_splits sheet vars known n to some k (3 + p.0) p items all w (con p.0 xs) splits).0 in_splits in
          let read = made.6 in
          let own : con p.0 xs ≡ con p.0 made.0 = made.4 in
          let same_parts : xs ≡ made.0 = cc in
          let binds : BindAsMany items xs = subst (BindAsMany items) (sym same_parts) (bound_read read.0) in
          subst (λ ys. Made w (con p.0 ys)) (same_bound items xs parts binds bound inside.2.1) made

      back : (w : Way) (s : SchemeTree) → Made w s → s ≡ con p.0 parts → (xs : Parts) × IsInSplits sheet vars (3 + p.0) all (bare parts) w xs
      back w s h e =
          let made = (made_in_splits sheet vars known n to some k (3 + p.0) p items all w s splits).1 h in
          let inside = made.2 in
          let both : con p.0 inside.1 ≡ con p.0 parts = sym inside.3 ∙ e in
          let same : inside.1 ≡ parts = cc in
          (inside.1, (made.0, made.1, (inside.0, inside.2, (inside.4, ap bare same))))

  -- parts that bind otherwise are not read
  pub none_bound_otherwise : (p : ProdId) (items : List Item) (parts : Parts) → (BindAsMany items parts → ⊥) → (w : Way) (s : SchemeTree)
      → IsMade sheet.sig.now sheet.metas.now vars (3 + p.0) p.0 items (slice_range (tokens_of sheet) n to) w s × (s ≡ con p.0 parts) → ⊥
  none_bound_otherwise p items parts other w s q =
      let made = q.0 in
      let read = made.6 in
      let both : con p.0 made.0 ≡ con p.0 parts = sym made.4 ∙ q.1 in
      let same : made.0 ≡ parts = cc in
      other (subst (BindAsMany items) same (bound_read read.0))
