-- What readings over all candidates say is what the tokens say with their new names.
use Rattle.std.proofs.Common.{◌≡◌, ◌≢◌, ◌⊎◌, ◌↔◌, ℕ, ◌+◌, ◌-◌, ◌<◌, ◌≤◌, Bool, true, IsTrue, List, [], ◌∷◌, ◌++◌, length, map, inl, inr, refl, ap, ◌∙◌, sym, subst, arith, Some, slice_get, length-append}
use Rattle.std.specs.List.{AllByRecursion}
use Rattle.std.proofs.lemmas.Bool.{cases_lt}
use Rattle.std.proofs.lemmas.Option.{slice_get_within}
use Rattle.binding_terms.specs.Numbered.{AllNumbered}
use Rattle.binding_terms.specs.Signature.{Signature}
use Rattle.scheme_terms.specs.Forms.{KnownVariable}
use Rattle.scheme_terms.specs.declared.scheme.MetaDecl.{MetaDecl}
use Rattle.rule_schemes.specs.Reading.{Token, Fresh, not_fresh, fresh_names, fresh_head, ReadingScope}
use Rattle.rule_schemes.specs.NewNames.{IsNewMeta, AreInOrder}
use Rattle.rule_schemes.specs.Said.{Want, Written, Said, ReadsWanted, OccursInSaid, Reads, Way, way_of_wanted}
use Rattle.rule_schemes.specs.declared.rule.Judgment.{Judgment}
use Rattle.notation_parser.specs.Ordered.{ReadsWantedAt}
use Rattle.notation_parser.specs.Renaming.{renamed_written, renamed_known, KeepsUsed, KeepsKnowns, OccursInWanted}
use Rattle.notation_parser.specs.Used.{marked, marks_before, moved, Says, MayBeNew, KnownsStand}
use Rattle.notation_parser.proofs.Marks.{place_of, marked_at, place_before, place_again, none_marked, all_marked, numbers_marked, same_marks, moved_low, moved_high}
use Rattle.notation_parser.proofs.OccurringAnew.{wanted_there, wanted_from}
use Rattle.notation_parser.proofs.FirstPlaces.{IsAmong, sorted, sorted_apart, order_marked, marks_of, one_marking}
use Rattle.notation_parser.proofs.Renaming.{wanted_renamed, written_back, knowns_back}
use Rattle.notation_parser.proofs.Within.{AreWithin, wanted_within}
use Rattle.binding_terms.proofs.Lists.{all_map, all_numbered, append_behind, append_within, numbered_at, some_within}

some_true : (b : Bool) → Some b ≡ Some true → b ≡ true
some_true b e = cc

split_at : (m n : ℕ) → n ≤ m → m ≡ n + (m - n)
split_at m n h = omega (arith, h)

module _ (sig : Signature) (js : List Judgment) (scope : ReadingScope) (want : Want) (ts : List Token) (candidates : List MetaDecl) (may : MayBeNew sig scope ts candidates) (knowns : scope.fresh ≡ fresh_names → KnownsStand scope) where
  abbrev old_names : List MetaDecl
  old_names = scope.names.metas

  abbrev count : ℕ
  count = length scope.names.metas

  none_allowed : scope.fresh ≡ not_fresh → candidates ≡ []
  none_allowed f = go may
    where
      go : MayBeNew sig scope ts candidates → candidates ≡ []
      go (inl h) = h.1
      go (inr h) = absurd (h.0 f)

  each_new : AllByRecursion (IsNewMeta sig scope.names.metas ts) candidates
  each_new = go may
    where
      go : MayBeNew sig scope ts candidates → AllByRecursion (IsNewMeta sig scope.names.metas ts) candidates
      go (inl h) = subst (AllByRecursion (IsNewMeta sig scope.names.metas ts)) (sym h.1) tt
      go (inr h) = h.1.each

  ordered : AreInOrder ts candidates
  ordered = go may
    where
      go : MayBeNew sig scope ts candidates → AreInOrder ts candidates
      go (inl h) = subst (AreInOrder ts) (sym h.1) tt
      go (inr h) = h.1.in_order

  all_among : (ds : List MetaDecl) → (scope.fresh ≡ not_fresh → ds ≡ []) → AllByRecursion (IsNewMeta sig scope.names.metas ts) ds → AllByRecursion (λ d. IsAmong d candidates) ds
  all_among ds allowed each = go may
    where
      go : MayBeNew sig scope ts candidates → AllByRecursion (λ d. IsAmong d candidates) ds
      go (inl h) = subst (AllByRecursion (λ d. IsAmong d candidates)) (sym (allowed h.0)) tt
      go (inr h) = all_map (IsNewMeta sig scope.names.metas ts) (λ d. IsAmong d candidates) (h.1).all ds each

  -- a reading of what is wanted over all candidates, and what is said, at their places
  abbrev pub ReadAt : Way → Written × List KnownVariable → Type 0
  ReadAt = ReadsWantedAt sig js scope (scope.names.metas ++ candidates) want ts

  abbrev pub SaidAt : Way → Said → Type 0
  SaidAt w said = (r : Reads sig js scope want ts said) × (way_of_wanted r.form ≡ w)

  -- the entries of known variables are over the names of the scope, where they are read
  kept_known : (f : ℕ → ℕ) (more : List MetaDecl) → (scope.fresh ≡ not_fresh → more ≡ []) → scope.fresh ≢ fresh_head → KeepsKnowns (moved count f) (scope.names.metas ++ more) scope.names.knowns
  kept_known f more none other m o lt = moved_low count f m (low scope.fresh refl)
    where
      low : (fresh : Fresh) → scope.fresh ≡ fresh → m < count
      low not_fresh e = omega (arith, lt, length-append scope.names.metas more, ap length (none e))
      low fresh_names e = (knowns e).within m o
      low fresh_head e = absurd (other e)

  -- marks of a reading over all candidates
  module _ (x : Written × List KnownVariable) (marks : List Bool) (long : length marks ≡ length candidates)
      (meant : AllNumbered (λ m b. IsTrue b ↔ OccursInWanted m x.0 x.1) count marks) where
    abbrev new : ℕ → ℕ
    new = moved count (marks_before marks)

    abbrev chosen : List MetaDecl
    chosen = marked marks candidates

    abbrev said_by : Said
    said_by = record { written = renamed_written new x.0; metas = chosen; knowns = map (renamed_known new) x.1 }

    mark_of : (i : ℕ) → i < length candidates → OccursInWanted (count + i) x.0 x.1 → slice_get marks i ≡ Some true
    mark_of i h o =
        let b = some_within marks i (omega (arith, h, long)) in
        let t : b.0 ≡ true = (numbered_at (λ m b. IsTrue b ↔ OccursInWanted m x.0 x.1) count marks i b.0 meant b.1).1 o in
        b.1 ∙ ap Some t

    keeps : KeepsUsed new (scope.names.metas ++ candidates) (scope.names.metas ++ chosen) (λ m. OccursInWanted m x.0 x.1)
    keeps m decl o e = go (cases_lt m count)
      where
        go : (m < count) ⊎ (count ≤ m) → slice_get (scope.names.metas ++ chosen) (new m) ≡ Some decl
        go (inl lt) =
            ap (slice_get (scope.names.metas ++ chosen)) (moved_low count (marks_before marks) m lt) ∙ append_within scope.names.metas chosen m lt ∙ sym (append_within scope.names.metas candidates m lt) ∙ e
        go (inr ge) =
            let is : m ≡ count + (m - count) = split_at m count ge in
            let here : slice_get candidates (m - count) ≡ Some decl = sym (append_behind scope.names.metas candidates (m - count)) ∙ ap (slice_get (scope.names.metas ++ candidates)) (sym is) ∙ e in
            let mark = mark_of (m - count) (slice_get_within candidates (m - count) decl here) (subst (λ k. OccursInWanted k x.0 x.1) is o) in
            ap (slice_get (scope.names.metas ++ chosen)) (ap new is ∙ moved_high count (marks_before marks) (m - count)) ∙ append_behind scope.names.metas chosen (marks_before marks (m - count))
            ∙ marked_at marks candidates (m - count) long mark ∙ here

    used : AllNumbered (λ m decl. OccursInSaid m said_by) count chosen
    used =
        numbers_marked (λ m. OccursInSaid m said_by) count marks candidates
        (λ i mark. subst (λ m. OccursInSaid m said_by) (moved_high count (marks_before marks) i)
        (wanted_there new (count + i) x.0 x.1 ((numbered_at (λ m b. IsTrue b ↔ OccursInWanted m x.0 x.1) count marks i true meant mark).0 refl)))

    said_of : (r : ReadsWanted sig js scope (scope.names.metas ++ candidates) ts want x.0 x.1) → SaidAt (way_of_wanted r) said_by
    said_of r =
        let k = wanted_renamed sig (scope.names.metas ++ candidates) (scope.names.metas ++ chosen) new scope scope.names.metas (kept_known (marks_before marks) candidates none_allowed) js r keeps in (
          record {
            metas = record {
              allowed = λ f. ap (marked marks) (none_allowed f) ∙ none_marked marks;
              each = all_marked (IsNewMeta sig scope.names.metas ts) marks candidates each_new;
              used = used;
              in_order = order_marked ts marks candidates ordered;
            };
            form = k.0;
          },
          k.1,
        )

    back_again : AreWithin (scope.names.metas ++ candidates) (λ m. OccursInWanted m x.0 x.1) → (m : ℕ) → OccursInWanted m x.0 x.1 → moved count (place_of marks) (new m) ≡ m
    back_again within m o = go (cases_lt m count)
      where
        go : (m < count) ⊎ (count ≤ m) → moved count (place_of marks) (new m) ≡ m
        go (inl lt) = ap (moved count (place_of marks)) (moved_low count (marks_before marks) m lt) ∙ moved_low count (place_of marks) m lt
        go (inr ge) =
            let is : m ≡ count + (m - count) = split_at m count ge in
            let lt : m - count < length candidates = omega (arith, within m o, length-append scope.names.metas candidates, ge) in
            let mark = mark_of (m - count) lt (subst (λ k. OccursInWanted k x.0 x.1) is o) in
            ap (moved count (place_of marks)) (ap new is ∙ moved_high count (marks_before marks) (m - count))
            ∙ moved_high count (place_of marks) (marks_before marks (m - count)) ∙ ap (λ k. count + k) (place_again marks (m - count) mark) ∙ sym is

    -- what is read is told by what it says
    restored : AreWithin (scope.names.metas ++ candidates) (λ m. OccursInWanted m x.0 x.1)
        → x ≡ (renamed_written (moved count (place_of marks)) (renamed_written new x.0), map (renamed_known (moved count (place_of marks))) (map (renamed_known new) x.1))
    restored within =
        let w = written_back (moved count (place_of marks)) new x.0 (λ m o. back_again within m (inl o)) in
        let k = knowns_back (moved count (place_of marks)) new x.1 (λ m o. back_again within m (inr o)) in
        λ i. (sym w i, sym k i)

  pub said_there : (w : Way) (x : Written × List KnownVariable) (said : Said) → ReadAt w x → Says count candidates x said → SaidAt w said
  said_there w x said r s =
      let k = said_of x s.0 s.1 s.2 r.0 in
      subst (SaidAt w) (sym s.3) (k.0, k.1 ∙ r.1)

  -- marks of what is said
  module _ (said : Said) (marks : List Bool) (long : length marks ≡ length candidates) (chosen_is : marked marks candidates ≡ said.metas) where
    abbrev old : ℕ → ℕ
    old = moved count (place_of marks)

    abbrev renew : ℕ → ℕ
    renew = moved count (marks_before marks)

    abbrev read : Written × List KnownVariable
    read = (renamed_written old said.written, map (renamed_known old) said.knowns)

    place : (i : ℕ) → i < length said.metas → (marks_before marks (place_of marks i) ≡ i) × (slice_get marks (place_of marks i) ≡ Some true)
    place i h = place_before marks candidates i (subst (λ ms. i < length ms) (sym chosen_is) h)

    keeps_back : KeepsUsed old (scope.names.metas ++ said.metas) (scope.names.metas ++ candidates) (λ m. OccursInWanted m said.written said.knowns)
    keeps_back m decl o e = go (cases_lt m count)
      where
        go : (m < count) ⊎ (count ≤ m) → slice_get (scope.names.metas ++ candidates) (old m) ≡ Some decl
        go (inl lt) =
            ap (slice_get (scope.names.metas ++ candidates)) (moved_low count (place_of marks) m lt) ∙ append_within scope.names.metas candidates m lt ∙ sym (append_within scope.names.metas said.metas m lt) ∙ e
        go (inr ge) =
            let i = m - count in
            let is : m ≡ count + i = split_at m count ge in
            let here : slice_get said.metas i ≡ Some decl = sym (append_behind scope.names.metas said.metas i) ∙ ap (slice_get (scope.names.metas ++ said.metas)) (sym is) ∙ e in
            let p = place i (slice_get_within said.metas i decl here) in
            ap (slice_get (scope.names.metas ++ candidates)) (ap old is ∙ moved_high count (place_of marks) i) ∙ append_behind scope.names.metas candidates (place_of marks i)
            ∙ sym (marked_at marks candidates (place_of marks i) long p.1) ∙ ap (slice_get (marked marks candidates)) p.0 ∙ ap (λ ms. slice_get ms i) chosen_is ∙ here

    again : (m : ℕ) → m < length (scope.names.metas ++ said.metas) → renew (old m) ≡ m
    again m h = go (cases_lt m count)
      where
        go : (m < count) ⊎ (count ≤ m) → renew (old m) ≡ m
        go (inl lt) = ap renew (moved_low count (place_of marks) m lt) ∙ moved_low count (marks_before marks) m lt
        go (inr ge) =
            let i = m - count in
            let is : m ≡ count + i = split_at m count ge in
            let lt : i < length said.metas = omega (arith, h, length-append scope.names.metas said.metas, ge) in
            ap renew (ap old is ∙ moved_high count (place_of marks) i) ∙ moved_high count (marks_before marks) (place_of marks i) ∙ ap (λ k. count + k) (place i lt).0 ∙ sym is

    module _ (used : AllNumbered (λ m decl. OccursInSaid m said) count said.metas) (within : AreWithin (scope.names.metas ++ said.metas) (λ m. OccursInWanted m said.written said.knowns)) where
      mark_occurs : (i : ℕ) → slice_get marks i ≡ Some true → OccursInWanted (count + i) read.0 read.1
      mark_occurs i mark =
          let j = marks_before marks i in
          let c = some_within candidates i (omega (arith, slice_get_within marks i true mark, long)) in
          let at : slice_get said.metas j ≡ Some c.0 = ap (λ ms. slice_get ms j) (sym chosen_is) ∙ marked_at marks candidates i long mark ∙ c.1 in
          let o : OccursInSaid (count + j) said = numbered_at (λ m (decl : MetaDecl). OccursInSaid m said) count said.metas j c.0 used at in
          subst (λ m. OccursInWanted m read.0 read.1) (moved_high count (place_of marks) j ∙ ap (λ k. count + k) (place_again marks i mark)) (wanted_there old (count + j) said.written said.knowns o)

      occurs_mark : (i : ℕ) → OccursInWanted (count + i) read.0 read.1 → slice_get marks i ≡ Some true
      occurs_mark i o = go from (cases_lt from.0 count)
        where
          from : (m : ℕ) × (old m ≡ count + i) × OccursInWanted m said.written said.knowns
          from = wanted_from old (count + i) said.written said.knowns o

          go : (f : (m : ℕ) × (old m ≡ count + i) × OccursInWanted m said.written said.knowns) → (f.0 < count) ⊎ (count ≤ f.0) → slice_get marks i ≡ Some true
          go f (inl lt) = absurd (omega (arith, lt, sym (moved_low count (place_of marks) f.0 lt) ∙ f.1))
          go f (inr ge) =
              let j = f.0 - count in
              let is : f.0 ≡ count + j = split_at f.0 count ge in
              let lt : j < length said.metas = omega (arith, within f.0 f.2, length-append scope.names.metas said.metas, ge) in
              let same : place_of marks j ≡ i = omega (arith, sym (ap old is ∙ moved_high count (place_of marks) j) ∙ f.1) in
              subst (λ k. slice_get marks k ≡ Some true) same (place j lt).1

      meant_back : AllNumbered (λ m b. IsTrue b ↔ OccursInWanted m read.0 read.1) count marks
      meant_back =
          all_numbered (λ m b. IsTrue b ↔ OccursInWanted m read.0 read.1) count marks
          (λ i b e. ((λ t. mark_occurs i (e ∙ ap Some t)), (λ o. some_true b (sym e ∙ occurs_mark i o))))

      says : Says count candidates read said
      says =
          let w = written_back renew old said.written (λ m o. again m (within m (inl o))) in
          let k = knowns_back renew old said.knowns (λ m o. again m (within m (inr o))) in
          (marks, long, meant_back, λ i. record { written = sym w i; metas = sym chosen_is i; knowns = sym k i })

    read_back : (w : Way) → SaidAt w said → (x : Written × List KnownVariable) × ReadAt w x × Says count candidates x said
    read_back w r =
        let f = (r.0).form in
        let k = wanted_renamed sig (scope.names.metas ++ said.metas) (scope.names.metas ++ candidates) old scope scope.names.metas (kept_known (place_of marks) said.metas (r.0).metas.allowed) js f keeps_back in
        (read, (k.0, k.1 ∙ r.1), says (r.0).metas.used (wanted_within sig (scope.names.metas ++ said.metas) scope js f))

  pub said_back : (w : Way) (said : Said) → SaidAt w said → (x : Written × List KnownVariable) × ReadAt w x × Says count candidates x said
  said_back w said r =
      let m = (r.0).metas in
      let found = marks_of ts candidates said.metas (sorted ts candidates ordered) (sorted ts said.metas m.in_order) (all_among said.metas m.allowed m.each) in
      read_back said found.0 found.1 found.2 w r

  -- a reading says one thing
  pub says_once : (x : Written × List KnownVariable) (a b : Said) → Says count candidates x a → Says count candidates x b → a ≡ b
  says_once x a b s t =
      let same : s.0 ≡ t.0 = same_marks (λ m. OccursInWanted m x.0 x.1) count s.0 t.0 (s.1 ∙ sym t.1) s.2 t.2 in
      let made : List Bool → Said =
      λ marks. record { written = renamed_written (moved count (marks_before marks)) x.0; metas = marked marks candidates; knowns = map (renamed_known (moved count (marks_before marks))) x.1 } in
      s.3 ∙ ap made same ∙ sym t.3

  -- different readings say different things
  pub says_apart : (v w : Way) (x y : Written × List KnownVariable) (a : Said) → ReadAt v x → ReadAt w y → Says count candidates x a → Says count candidates y a → x ≡ y
  says_apart v w x y a r q s t =
      let metas : marked s.0 candidates ≡ marked t.0 candidates = sym (ap (λ (said : Said). said.metas) s.3) ∙ ap (λ (said : Said). said.metas) t.3 in
      let same : s.0 ≡ t.0 = one_marking s.0 t.0 candidates (sorted_apart ts candidates (sorted ts candidates ordered)) s.1 t.1 metas in
      let made : List Bool → Written × List KnownVariable =
      λ marks. (renamed_written (moved count (place_of marks)) a.written, map (renamed_known (moved count (place_of marks))) a.knowns) in
      let left : x ≡ made s.0 =
      restored x s.0 s.1 s.2 (wanted_within sig (scope.names.metas ++ candidates) scope js r.0)
      ∙ ap (λ (said : Said). (renamed_written (moved count (place_of s.0)) said.written, map (renamed_known (moved count (place_of s.0))) said.knowns)) (sym s.3) in
      let right : y ≡ made t.0 =
      restored y t.0 t.1 t.2 (wanted_within sig (scope.names.metas ++ candidates) scope js q.0)
      ∙ ap (λ (said : Said). (renamed_written (moved count (place_of t.0)) said.written, map (renamed_known (moved count (place_of t.0))) said.knowns)) (sym t.3) in
      left ∙ ap made same ∙ sym right
