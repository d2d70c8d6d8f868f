-- From the readings of what is wanted to what forms say.
use Rattle.std.proofs.Common.{◌≡◌, ◌≢◌, ◌⊎◌, inl, inr, ℕ, zero, suc, ◌≤◌, List, [], ◌∷◌, ◌++◌, length, map, refl, ap, ◌∙◌, sym, subst, Some, slice_get, append-nil}
use Rattle.binding_terms.specs.Signature.{Signature}
use Rattle.scheme_terms.specs.View.{known_variable}
use Rattle.rule_schemes.specs.Reading.{Token, ReadingScope, not_fresh}
use Rattle.rule_schemes.specs.Said.{Want, Said, AreNewMetas, Reads, ReadsAs, IsFirstWithout, Way, way, no_ways, then_way, IsBefore, way_of_wanted}
use Rattle.rule_schemes.specs.declared.rule.Judgment.{Judgment}
use Rattle.rule_schemes.specs.declared.reading.Reading.{Reading}
use Rattle.rule_schemes.specs.declared.reading.Reading.TheVariants.{One, NoReading, Ambiguous, TooLong}
use Rattle.notation_parser.specs.Answer.{IsAnswer, Tells, plainly}
use Rattle.notation_parser.specs.Ordered.{WrittenForm, ReadsWantedAt}
use Rattle.term_reader.specs.Firsts.{AreFirst, IsLeast}
use Rattle.notation_parser.specs.View.{written, what_is_said}
use Rattle.term_reader.proofs.Finding.{AreFirst-same, AreFirst-map}
use Rattle.term_reader.specs.Splitting.{IsMapped}

said_plainly : (said : Said) (x : WrittenForm) → said.written ≡ x.0 → said.metas ≡ [] → said.knowns ≡ x.1 → said ≡ plainly x
said_plainly said x e m k = λ i. record { written = e i; metas = m i; knowns = k i }

module _ (sig : Signature) (js : List Judgment) (scope : ReadingScope) (want : Want) (ts : List Token) (none : scope.fresh ≡ not_fresh) where
  -- no new name
  no_new_metas : (x : WrittenForm) → AreNewMetas sig scope ts (plainly x)
  no_new_metas x = record { allowed = λ _. refl; each = tt; used = tt; in_order = tt }

  all_metas : scope.names.metas ++ [] ≡ scope.names.metas
  all_metas = append-nil scope.names.metas

  -- what is said, at its place
  abbrev pub SaidAt : Way → Said → Type 0
  SaidAt w said = (r : Reads sig js scope want ts said) × (way_of_wanted r.form ≡ w)

  -- what is said is what is read over the names of the scope
  pub wanted_said : (xs : List WrittenForm) → AreFirst IsBefore (ReadsWantedAt sig js scope scope.names.metas want ts) xs → AreFirst IsBefore SaidAt (map plainly xs)
  wanted_said xs f =
      AreFirst-same IsBefore _ SaidAt (map plainly xs) (λ w said. (there w said, back w said))
      (AreFirst-map IsBefore IsBefore (λ w. w) plainly (ReadsWantedAt sig js scope scope.names.metas want ts) xs (λ k l b. b)
      (λ k l a b r q e. (let form : a.0 ≡ b.0 = ap (λ (s : Said). s.written) e in let knowns : a.1 ≡ b.1 = ap (λ (s : Said). s.knowns) e in λ i. (form i, knowns i))) f)
    where
      there : (w : Way) (said : Said) → IsMapped (λ w. w) plainly (ReadsWantedAt sig js scope scope.names.metas want ts) w said → SaidAt w said
      there w said h =
          let form : ReadsWantedAt sig js scope (scope.names.metas ++ []) want ts h.0 h.1 =
          subst (λ ms. ReadsWantedAt sig js scope ms want ts h.0 h.1) (sym all_metas) h.4 in
          let here : SaidAt h.0 (plainly h.1) = (record { metas = no_new_metas h.1; form = form.0 }, form.1) in
          subst (λ v. SaidAt v said) (sym h.2) (subst (SaidAt h.0) (sym h.3) here)

      back : (w : Way) (said : Said) → SaidAt w said → IsMapped (λ w. w) plainly (ReadsWantedAt sig js scope scope.names.metas want ts) w said
      back w said r =
          let no_metas : said.metas ≡ [] = (r.0).metas.allowed none in
          let form : ReadsWantedAt sig js scope scope.names.metas want ts w (said.written, said.knowns) =
          subst (λ ms. ReadsWantedAt sig js scope ms want ts w (said.written, said.knowns)) (ap (λ ms. scope.names.metas ++ ms) no_metas ∙ all_metas) ((r.0).form, r.1) in
          (w, (said.written, said.knowns), refl, said_plainly said (said.written, said.knowns) refl no_metas refl, form)

-- one of one thing that is wanted
pub only_want : (want v : Want) (n : ℕ) → slice_get (want ∷ []) n ≡ Some v → (n ≡ 0) × (v ≡ want)
only_want want v zero e = (refl, (let k : v ≡ want = cc in k))
only_want want v (suc n) e = cc

-- a reading as the one thing that is wanted
pub wanted_at : (sig : Signature) (js : List Judgment) (scope : ReadingScope) (want : Want) (ts : List Token) (o : ℕ × Said) → (r : ReadsAs sig js scope (want ∷ []) ts o)
    → (q : Reads sig js scope want ts o.1) × (way_of_wanted q.form ≡ way_of_wanted r.reads.form)
wanted_at sig js scope want ts o r =
    subst (λ v. (q : Reads sig js scope v ts o.1) × (way_of_wanted q.form ≡ way_of_wanted r.reads.form)) ((only_want want r.want o.0 r.here).1) (r.reads, refl)

-- a place among the readings of the one thing that is wanted
in_place : (v w : Way) (n : ℕ) → n ≡ 0 → IsBefore v w → IsBefore (way 0 [] (then_way v no_ways)) (way n [] (then_way w no_ways))
in_place v w n e b = inr (sym e, inr (refl, inl b))

module _ (sig : Signature) (js : List Judgment) (scope : ReadingScope) (want : Want) (ts : List Token) where
  abbrev At : Way → Said → Type 0
  At w said = (r : Reads sig js scope want ts said) × (way_of_wanted r.form ≡ w)

  pub first_of_two : (k : Way) (a : Said) → IsLeast IsBefore At k a → IsFirstWithout sig js scope (want ∷ []) ts [] (0, a)
  first_of_two k a f = record {
    reads = record { want = want; here = refl; reads = f.0.0 };
    new = tt;
    first = λ other r ne out. go other r ne (f.1 (way_of_wanted r.reads.form) other.1 (wanted_at sig js scope want ts other r));
  }
    where
      go : (other : ℕ × Said) (r : ReadsAs sig js scope (want ∷ []) ts other) → other ≢ (0, a)
          → IsBefore k (way_of_wanted r.reads.form) ⊎ ((k ≡ way_of_wanted r.reads.form) × (other.1 ≡ a))
          → IsBefore (way 0 [] (then_way (way_of_wanted (f.0.0).form) no_ways)) (way other.0 [] (then_way (way_of_wanted r.reads.form) no_ways))
      go other r ne (inl b) =
          in_place (way_of_wanted (f.0.0).form) (way_of_wanted r.reads.form) other.0 ((only_want want r.want other.0 r.here).0)
          (subst (λ v. IsBefore v (way_of_wanted r.reads.form)) (sym f.0.1) b)
      go other r ne (inr e) =
          let zero_is : other.0 ≡ 0 = (only_want want r.want other.0 r.here).0 in
          absurd (ne (λ i. (zero_is i, e.1 i)))

  pub second_of_two : (m : Way) (a b : Said) → IsLeast IsBefore (λ l x. At l x × (x ≢ a)) m b → IsFirstWithout sig js scope (want ∷ []) ts ((0, a) ∷ []) (0, b)
  second_of_two m a b f = record {
    reads = record { want = want; here = refl; reads = f.0.0.0 };
    new = ((λ e. f.0.1 (sym (ap (λ (o : ℕ × Said). o.1) e))), tt);
    first = λ other r ne out. go other r ne
        (f.1 (way_of_wanted r.reads.form) other.1 (
          wanted_at sig js scope want ts other r,
          λ e. (let zero_is : other.0 ≡ 0 = (only_want want r.want other.0 r.here).0 in out.0 (λ i. (sym zero_is i, sym e i))),
        ));
  }
    where
      go : (other : ℕ × Said) (r : ReadsAs sig js scope (want ∷ []) ts other) → other ≢ (0, b)
          → IsBefore m (way_of_wanted r.reads.form) ⊎ ((m ≡ way_of_wanted r.reads.form) × (other.1 ≡ b))
          → IsBefore (way 0 [] (then_way (way_of_wanted (f.0.0.0).form) no_ways)) (way other.0 [] (then_way (way_of_wanted r.reads.form) no_ways))
      go other r ne (inl h) =
          in_place (way_of_wanted (f.0.0.0).form) (way_of_wanted r.reads.form) other.0 ((only_want want r.want other.0 r.here).0)
          (subst (λ v. IsBefore v (way_of_wanted r.reads.form)) (sym f.0.0.1) h)
      go other r ne (inr e) =
          let zero_is : other.0 ≡ 0 = (only_want want r.want other.0 r.here).0 in
          absurd (ne (λ i. (zero_is i, e.1 i)))

  pub answered : (ws : List WrittenForm) (r : Reading) → length ts ≤ 256 → AreFirst IsBefore At (map plainly ws) → Tells ws r → IsAnswer sig js scope want ts r
  answered [] (One w ms ks) h f t = absurd t
  answered [] NoReading h f t = (h, λ o r. f (way_of_wanted r.reads.form) o.1 (wanted_at sig js scope want ts o r))
  answered [] (Ambiguous a b) h f t = absurd t
  answered [] (TooLong k) h f t = absurd t
  answered (v ∷ []) (One w ms ks) h f t =
      (h, record { reads = record { want = want; here = refl; reads = subst (Reads sig js scope want ts) (sym same) f.0.1.0.0 }; no_other = other })
    where
      same : record { written = written w; metas = ms; knowns = map known_variable ks } ≡ plainly v
      same = said_plainly _ v t.0 t.1 t.2

      other : (o : ℕ × Said) → ReadsAs sig js scope (want ∷ []) ts o → o ≡ (0, record { written = written w; metas = ms; knowns = map known_variable ks })
      other o r =
          let zero_is : o.0 ≡ 0 = (only_want want r.want o.0 r.here).0 in
          let said : o.1 ≡ record { written = written w; metas = ms; knowns = map known_variable ks } =
          f.1 (way_of_wanted r.reads.form) o.1 (wanted_at sig js scope want ts o r) ∙ sym same in
          λ i. (zero_is i, said i)
  answered (v ∷ []) NoReading h f t = absurd t
  answered (v ∷ []) (Ambiguous a b) h f t = absurd t
  answered (v ∷ []) (TooLong k) h f t = absurd t
  answered (v ∷ (w ∷ [])) (One x ms ks) h f t = absurd t
  answered (v ∷ (w ∷ [])) NoReading h f t = absurd t
  answered (v ∷ (w ∷ [])) (Ambiguous a b) h f t = (
    h,
    (
      subst (λ x. IsFirstWithout sig js scope (want ∷ []) ts [] (0, x)) (sym t.0) (first_of_two f.0.0 (plainly v) f.0.1),
      subst (λ y. IsFirstWithout sig js scope (want ∷ []) ts ((0, what_is_said a) ∷ []) (0, y)) (sym t.1)
          (subst (λ x. IsFirstWithout sig js scope (want ∷ []) ts ((0, x) ∷ []) (0, plainly w)) (sym t.0) (second_of_two f.1.0 (plainly v) (plainly w) f.1.1)),
    ),
  )
  answered (v ∷ (w ∷ [])) (TooLong k) h f t = absurd t
  answered (v ∷ (w ∷ (x ∷ ws))) r h f t = absurd f
