-- The answer that tells what the first readings over all candidates say.
use Rattle.std.proofs.Common.{◌≡◌, ◌≢◌, ℕ, ◌≤◌, List, [], ◌∷◌, ◌++◌, length, map, inl, inr, refl, ap, ◌∙◌, sym, subst, append-nil}
use Rattle.std.specs.List.{AllByRecursion}
use Rattle.binding_terms.specs.Signature.{Signature}
use Rattle.scheme_terms.specs.Forms.{KnownVariable}
use Rattle.scheme_terms.specs.View.{known_variable}
use Rattle.scheme_terms.specs.declared.scheme.MetaDecl.{MetaDecl}
use Rattle.rule_schemes.specs.Reading.{Token, ReadingScope, fresh_names}
use Rattle.rule_schemes.specs.NewNames.{IsNewMeta}
use Rattle.rule_schemes.specs.Said.{Want, Written, Said, Reads, Way, IsBefore, ReadsAs, IsFirstWithout, way_of_wanted}
use Rattle.rule_schemes.specs.declared.rule.Judgment.{Judgment}
use Rattle.rule_schemes.specs.declared.reading.Reading.{Reading}
use Rattle.rule_schemes.specs.declared.reading.Reading.TheVariants.{One, NoReading, Ambiguous, TooLong}
use Rattle.term_reader.specs.Firsts.{AreFirst}
use Rattle.term_reader.specs.Names.{NamesApart}
use Rattle.notation_parser.specs.Answer.{IsAnswer}
use Rattle.notation_parser.specs.Ordered.{ReadsWantedAt}
use Rattle.notation_parser.specs.Plain.{IsReadableOver}
use Rattle.notation_parser.specs.Used.{Says, TellsUsed, MayBeNew, KnownsStand}
use Rattle.notation_parser.specs.View.{written, what_is_said}
use Rattle.notation_parser.proofs.Firsts.{first_told}
use Rattle.notation_parser.specs.Fronts.{AreTold}
use Rattle.notation_parser.proofs.Saying.{SaidAt, said_there, said_back, says_once, says_apart}
use Rattle.notation_parser.proofs.Telling.{first_of_two, second_of_two, only_want, wanted_at}
use Rattle.binding_terms.proofs.Lists.{all_append, all_map}

-- what an answer tells, as a list
abbrev TellsSaid : List Said → Reading → Type 0
TellsSaid [] NoReading = Unit {0}
TellsSaid (a ∷ []) (One w ms ks) = record { written = written w; metas = ms; knowns = map known_variable ks } ≡ a
TellsSaid (a ∷ (b ∷ [])) (Ambiguous x y) = (what_is_said x ≡ a) × (what_is_said y ≡ b)
TellsSaid _ _ = ⊥

module _ (sig : Signature) (js : List Judgment) (scope : ReadingScope) (want : Want) (ts : List Token) (candidates : List MetaDecl) (may : MayBeNew sig scope ts candidates) (knowns : scope.fresh ≡ fresh_names → KnownsStand scope) where
  abbrev At : Way → Said → Type 0
  At = SaidAt sig js scope want ts candidates may knowns

  answer_of : (xs : List Said) (r : Reading) → length ts ≤ 256 → AreFirst IsBefore At xs → TellsSaid xs r → IsAnswer sig js scope want ts r
  answer_of [] (One w ms ks) h f t = absurd t
  answer_of [] NoReading h f t = (h, λ o r. f (way_of_wanted r.reads.form) o.1 (wanted_at sig js scope want ts o r))
  answer_of [] (Ambiguous a b) h f t = absurd t
  answer_of [] (TooLong k) h f t = absurd t
  answer_of (a ∷ []) (One w ms ks) h f t =
      (h, record { reads = record { want = want; here = refl; reads = subst (Reads sig js scope want ts) (sym t) f.0.1.0.0 }; no_other = other })
    where
      other : (o : ℕ × Said) → ReadsAs sig js scope (want ∷ []) ts o → o ≡ (0, record { written = written w; metas = ms; knowns = map known_variable ks })
      other o r =
          let zero_is : o.0 ≡ 0 = (only_want want r.want o.0 r.here).0 in
          let said : o.1 ≡ record { written = written w; metas = ms; knowns = map known_variable ks } =
          f.1 (way_of_wanted r.reads.form) o.1 (wanted_at sig js scope want ts o r) ∙ sym t in
          λ i. (zero_is i, said i)
  answer_of (a ∷ []) NoReading h f t = absurd t
  answer_of (a ∷ []) (Ambiguous x y) h f t = absurd t
  answer_of (a ∷ []) (TooLong k) h f t = absurd t
  answer_of (a ∷ (b ∷ [])) (One w ms ks) h f t = absurd t
  answer_of (a ∷ (b ∷ [])) NoReading h f t = absurd t
  answer_of (a ∷ (b ∷ [])) (Ambiguous x y) h f t = (
    h,
    (
      subst (λ x. IsFirstWithout sig js scope (want ∷ []) ts [] (0, x)) (sym t.0) (first_of_two sig js scope want ts f.0.0 a f.0.1),
      subst (λ y. IsFirstWithout sig js scope (want ∷ []) ts ((0, what_is_said x) ∷ []) (0, y)) (sym t.1)
          (subst (λ x. IsFirstWithout sig js scope (want ∷ []) ts ((0, x) ∷ []) (0, b)) (sym t.0) (second_of_two sig js scope want ts f.1.0 a b f.1.1)),
    ),
  )
  answer_of (a ∷ (b ∷ [])) (TooLong k) h f t = absurd t
  answer_of (a ∷ (b ∷ (c ∷ xs))) r h f t = absurd f

  abbrev Tells : Written × List KnownVariable → Said → Type 0
  Tells = Says (length scope.names.metas) candidates

  answered_by : (xs : List (Written × List KnownVariable)) (ys : List Said) (r : Reading) → length ts ≤ 256
      → AreFirst IsBefore (ReadsWantedAt sig js scope (scope.names.metas ++ candidates) want ts) xs → AreTold Tells xs ys → TellsSaid ys r → IsAnswer sig js scope want ts r
  answered_by xs ys r h f told t =
      answer_of ys r h
      (first_told IsBefore Tells (says_once sig js scope want ts candidates may knowns) (ReadsWantedAt sig js scope (scope.names.metas ++ candidates) want ts) At
      (λ k a b p s. said_there sig js scope want ts candidates may knowns k a b p s) (said_back sig js scope want ts candidates may knowns)
      (λ k l a c b p q s u. says_apart sig js scope want ts candidates may knowns k l a c b p q s u) xs ys told f) t

  -- an answer that tells what the first two readings over all candidates say is the answer
  pub used_answer : (xs : List (Written × List KnownVariable)) (r : Reading) → length ts ≤ 256 → AreFirst IsBefore (ReadsWantedAt sig js scope (scope.names.metas ++ candidates) want ts) xs
      → TellsUsed (length scope.names.metas) candidates xs r → IsAnswer sig js scope want ts r
  used_answer [] (One w ms ks) h f t = absurd t
  used_answer [] NoReading h f t = answered_by [] [] NoReading h f tt tt
  used_answer [] (Ambiguous a b) h f t = absurd t
  used_answer [] (TooLong k) h f t = absurd t
  used_answer (x ∷ []) (One w ms ks) h f t =
      answered_by (x ∷ []) (record { written = written w; metas = ms; knowns = map known_variable ks } ∷ []) (One w ms ks) h f (t, tt) refl
  used_answer (x ∷ []) NoReading h f t = absurd t
  used_answer (x ∷ []) (Ambiguous a b) h f t = absurd t
  used_answer (x ∷ []) (TooLong k) h f t = absurd t
  used_answer (x ∷ (y ∷ [])) (One w ms ks) h f t = absurd t
  used_answer (x ∷ (y ∷ [])) NoReading h f t = absurd t
  used_answer (x ∷ (y ∷ [])) (Ambiguous a b) h f t =
      answered_by (x ∷ (y ∷ [])) (what_is_said a ∷ (what_is_said b ∷ [])) (Ambiguous a b) h f (t.0, (t.1, tt)) (refl, refl)
  used_answer (x ∷ (y ∷ [])) (TooLong k) h f t = absurd t
  used_answer (x ∷ (y ∷ (z ∷ xs))) r h f t = absurd f

apart_from : (metas more : List MetaDecl) → NamesApart metas → NamesApart more → AllByRecursion (λ (d : MetaDecl). AllByRecursion (λ (m : MetaDecl). m.name ≢ d.name) metas) more
    → NamesApart (metas ++ more)
apart_from [] more h k new = k
apart_from (m ∷ metas) more h k new = (
  all_append (λ (n : MetaDecl). m.name ≢ n.name) metas more h.0
      (all_map (λ (d : MetaDecl). (m.name ≢ d.name) × AllByRecursion (λ (n : MetaDecl). n.name ≢ d.name) metas) (λ (n : MetaDecl). m.name ≢ n.name) (λ d p. p.0) more new),
  apart_from metas more h.1 k
      (all_map (λ (d : MetaDecl). (m.name ≢ d.name) × AllByRecursion (λ (n : MetaDecl). n.name ≢ d.name) metas) (λ (d : MetaDecl). AllByRecursion (λ (n : MetaDecl). n.name ≢ d.name) metas) (λ d p. p.1) more new),
)

-- no two of the names and the new ones have one name
pub names_apart_all : (sig : Signature) (scope : ReadingScope) (ts : List Token) (candidates : List MetaDecl) → MayBeNew sig scope ts candidates → NamesApart scope.names.metas
    → NamesApart (scope.names.metas ++ candidates)
names_apart_all sig scope ts candidates (inl h) k =
    subst NamesApart (sym (append-nil scope.names.metas) ∙ ap (λ xs. scope.names.metas ++ xs) (sym h.1)) k
names_apart_all sig scope ts candidates (inr h) k =
    apart_from scope.names.metas candidates k (h.1).apart
    (all_map (IsNewMeta sig scope.names.metas ts) (λ (d : MetaDecl). AllByRecursion (λ (m : MetaDecl). m.name ≢ d.name) scope.names.metas) (λ d new. new.new) candidates (h.1).each)

-- what is asked for of other names
pub readable_over : (scope : ReadingScope) (metas others : List MetaDecl) → IsReadableOver scope metas → NamesApart others → IsReadableOver scope others
readable_over scope metas others h k = record { names = k; apart = h.apart }
