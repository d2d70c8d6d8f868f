-- Names in the order of their first places.
use Rattle.std.proofs.Common.{◌≡◌, ◌≢◌, ℕ, suc, Bool, true, false, List, [], ◌∷◌, length, inl, inr, refl, ap, ◌∙◌, sym, subst, arith}
use Rattle.std.specs.List.{AllByRecursion}
use Rattle.binding_terms.specs.Numbered.{AnyByRecursion}
use Rattle.scheme_terms.specs.declared.scheme.MetaDecl.{MetaDecl}
use Rattle.rule_schemes.specs.Reading.{Token}
use Rattle.rule_schemes.specs.NewNames.{StandsBefore, AreInOrder}
use Rattle.term_reader.specs.Names.{NamesApart}
use Rattle.notation_parser.specs.Used.{marked}
use Rattle.notation_parser.proofs.Marks.{all_marked}
use Rattle.binding_terms.proofs.Lists.{all_equal}

before_trans : (a b d : List ℕ) (ts : List Token) → StandsBefore a b ts → StandsBefore b d ts → StandsBefore a d ts
before_trans a b d [] h k = h
before_trans a b d (t ∷ ts) (inl h) k = inl h
before_trans a b d (t ∷ ts) (inr h) (inl k) = absurd (h.0 k)
before_trans a b d (t ∷ ts) (inr h) (inr k) = inr (k.0, before_trans a b d ts h.1 k.1)

before_once : (a b : List ℕ) (ts : List Token) → a ≢ b → StandsBefore a b ts → StandsBefore b a ts → ⊥
before_once a b [] apart h k = h
before_once a b (t ∷ ts) apart (inl h) (inl k) = apart (ap (λ (u : Token). u.1) (sym h ∙ k))
before_once a b (t ∷ ts) apart (inl h) (inr k) = k.0 h
before_once a b (t ∷ ts) apart (inr h) (inl k) = h.0 k
before_once a b (t ∷ ts) apart (inr h) (inr k) = before_once a b ts apart h.1 k.1

-- the first name is another, and stands before the second
abbrev pub Precedes : List Token → MetaDecl → MetaDecl → Type 0
Precedes ts m n = (m.name ≢ n.name) × StandsBefore m.name n.name ts

precedes_trans : (ts : List Token) (a b d : MetaDecl) → Precedes ts a b → Precedes ts b d → Precedes ts a d
precedes_trans ts a b d h k =
    (λ e. before_once a.name b.name ts h.0 h.1 (subst (λ w. StandsBefore b.name w ts) (sym e) k.1), before_trans a.name b.name d.name ts h.1 k.1)

precedes_once : (ts : List Token) (a b : MetaDecl) → Precedes ts a b → Precedes ts b a → ⊥
precedes_once ts a b h k = before_once a.name b.name ts h.0 h.1 k.1

-- each precedes all behind it
abbrev pub AreSorted : List Token → List MetaDecl → Type 0
AreSorted ts [] = Unit {0}
AreSorted ts (m ∷ metas) = AllByRecursion (Precedes ts m) metas × AreSorted ts metas

all_after : (ts : List Token) (a b : MetaDecl) (metas : List MetaDecl) → Precedes ts a b → AllByRecursion (Precedes ts b) metas → AllByRecursion (Precedes ts a) metas
all_after ts a b [] h k = tt
all_after ts a b (m ∷ metas) h k = (precedes_trans ts a b m h k.0, all_after ts a b metas h k.1)

pub sorted : (ts : List Token) (metas : List MetaDecl) → AreInOrder ts metas → AreSorted ts metas
sorted ts [] h = tt
sorted ts (m ∷ []) h = (tt, tt)
sorted ts (m ∷ (n ∷ metas)) h =
    let rest = sorted ts (n ∷ metas) h.2 in
    (((h.0, h.1), all_after ts m n metas (h.0, h.1) rest.0), rest)

pub in_order : (ts : List Token) (metas : List MetaDecl) → AreSorted ts metas → AreInOrder ts metas
in_order ts [] h = tt
in_order ts (m ∷ []) h = tt
in_order ts (m ∷ (n ∷ metas)) h = (h.0.0.0, h.0.0.1, in_order ts (n ∷ metas) h.1)

sorted_marked : (ts : List Token) (bs : List Bool) (metas : List MetaDecl) → AreSorted ts metas → AreSorted ts (marked bs metas)
sorted_marked ts [] metas h = tt
sorted_marked ts (b ∷ bs) [] h = tt
sorted_marked ts (true ∷ bs) (m ∷ metas) h = (all_marked (Precedes ts m) bs metas h.0, sorted_marked ts bs metas h.1)
sorted_marked ts (false ∷ bs) (m ∷ metas) h = sorted_marked ts bs metas h.1

-- marked names stay in order
pub order_marked : (ts : List Token) (bs : List Bool) (metas : List MetaDecl) → AreInOrder ts metas → AreInOrder ts (marked bs metas)
order_marked ts bs metas h = in_order ts (marked bs metas) (sorted_marked ts bs metas (sorted ts metas h))

pub sorted_apart : (ts : List Token) (metas : List MetaDecl) → AreSorted ts metas → NamesApart metas
sorted_apart ts [] h = tt
sorted_apart ts (m ∷ metas) h = (others metas h.0, sorted_apart ts metas h.1)
  where
    others : (ns : List MetaDecl) → AllByRecursion (Precedes ts m) ns → AllByRecursion (λ (n : MetaDecl). m.name ≢ n.name) ns
    others [] h = tt
    others (n ∷ ns) h = (h.0.0, others ns h.1)

abbrev pub IsAmong : MetaDecl → List MetaDecl → Type 0
IsAmong d metas = AnyByRecursion (λ c. c ≡ d) metas

no_marks : (metas : List MetaDecl) → (bs : List Bool) × (length bs ≡ length metas) × (marked bs metas ≡ [])
no_marks [] = ([], refl, refl)
no_marks (m ∷ metas) = let k = no_marks metas in (false ∷ k.0, ap suc k.1, k.2)

-- Names in order that are among others in order are the marked ones of these.
module _ (ts : List Token) where
  rest_among : (c : MetaDecl) (cs ds : List MetaDecl) → AllByRecursion (Precedes ts c) ds → AllByRecursion (λ d. IsAmong d (c ∷ cs)) ds → AllByRecursion (λ d. IsAmong d cs) ds
  rest_among c cs [] after among = tt
  rest_among c cs (d ∷ ds) after among = (go among.0, rest_among c cs ds after.1 among.1)
    where
      go : IsAmong d (c ∷ cs) → IsAmong d cs
      go (inl e) = absurd (after.0.0 (ap (λ (m : MetaDecl). m.name) e))
      go (inr h) = h

  later_among : (c : MetaDecl) (cs : List MetaDecl) (d : MetaDecl) (ds : List MetaDecl) → AllByRecursion (Precedes ts c) cs → IsAmong d cs → AllByRecursion (Precedes ts d) ds
      → AllByRecursion (λ e. IsAmong e (c ∷ cs)) ds → AllByRecursion (λ e. IsAmong e cs) ds
  later_among c cs d [] order here after among = tt
  later_among c cs d (e ∷ ds) order here after among = (go among.0, later_among c cs d ds order here after.1 among.1)
    where
      go : IsAmong e (c ∷ cs) → IsAmong e cs
      go (inl same) = absurd (precedes_once ts c d (all_equal (Precedes ts c) cs d order here) (subst (Precedes ts d) (sym same) after.0))
      go (inr h) = h

  pub marks_of : (cs ds : List MetaDecl) → AreSorted ts cs → AreSorted ts ds → AllByRecursion (λ d. IsAmong d cs) ds → (bs : List Bool) × (length bs ≡ length cs) × (marked bs cs ≡ ds)
  marks_of [] [] oc od among = ([], refl, refl)
  marks_of [] (d ∷ ds) oc od among = absurd among.0
  marks_of (c ∷ cs) [] oc od among = no_marks (c ∷ cs)
  marks_of (c ∷ cs) (d ∷ ds) oc od among = go (λ rest. marks_of cs ds oc.1 od.1 rest) (λ rest. marks_of cs (d ∷ ds) oc.1 od rest) among.0
    where
      go : (AllByRecursion (λ e. IsAmong e cs) ds → (bs : List Bool) × (length bs ≡ length cs) × (marked bs cs ≡ ds))
          → (AllByRecursion (λ e. IsAmong e cs) (d ∷ ds) → (bs : List Bool) × (length bs ≡ length cs) × (marked bs cs ≡ d ∷ ds))
          → IsAmong d (c ∷ cs) → (bs : List Bool) × (length bs ≡ length (c ∷ cs)) × (marked bs (c ∷ cs) ≡ d ∷ ds)
      go with_first without (inl e) =
          let k = with_first (rest_among c cs ds (subst (λ m. AllByRecursion (Precedes ts m) ds) (sym e) od.0) among.1) in
          (true ∷ k.0, ap suc k.1, ap (λ xs. c ∷ xs) k.2 ∙ ap (λ x. x ∷ ds) e)
      go with_first without (inr h) =
          let k = without (h, later_among c cs d ds oc.0 h od.0 among.1) in
          (false ∷ k.0, ap suc k.1, k.2)

among_marked : (bs : List Bool) (metas : List MetaDecl) (d : MetaDecl) → IsAmong d (marked bs metas) → IsAmong d metas
among_marked [] metas d h = absurd h
among_marked (b ∷ bs) [] d h = absurd h
among_marked (true ∷ bs) (m ∷ metas) d (inl e) = inl e
among_marked (true ∷ bs) (m ∷ metas) d (inr h) = inr (among_marked bs metas d h)
among_marked (false ∷ bs) (m ∷ metas) d h = inr (among_marked bs metas d h)

not_later : (m : MetaDecl) (metas : List MetaDecl) → AllByRecursion (λ (n : MetaDecl). m.name ≢ n.name) metas → IsAmong m metas → ⊥
not_later m [] h a = a
not_later m (n ∷ metas) h (inl e) = h.0 (ap (λ (d : MetaDecl). d.name) (sym e))
not_later m (n ∷ metas) h (inr a) = not_later m metas h.1 a

first_of : (m : MetaDecl) (ms ns : List MetaDecl) → m ∷ ms ≡ ns → IsAmong m ns
first_of m ms ns e = subst (IsAmong m) e (inl refl)

-- marks are told by what they mark
pub one_marking : (as_marked : List Bool) (bs : List Bool) (metas : List MetaDecl) → NamesApart metas → length as_marked ≡ length metas → length bs ≡ length metas
    → marked as_marked metas ≡ marked bs metas → as_marked ≡ bs
one_marking [] [] metas apart la lb e = refl
one_marking [] (b ∷ bs) [] apart la lb e = absurd (omega (arith, lb))
one_marking [] (b ∷ bs) (m ∷ metas) apart la lb e = absurd (omega (arith, la))
one_marking (a ∷ cs) [] [] apart la lb e = absurd (omega (arith, la))
one_marking (a ∷ cs) [] (m ∷ metas) apart la lb e = absurd (omega (arith, lb))
one_marking (a ∷ cs) (b ∷ bs) [] apart la lb e = absurd (omega (arith, la))
one_marking (true ∷ cs) (true ∷ bs) (m ∷ metas) apart la lb e =
    let rest : marked cs metas ≡ marked bs metas = cc in
    ap (λ xs. true ∷ xs) (one_marking cs bs metas apart.1 (omega (arith, la)) (omega (arith, lb)) rest)
one_marking (true ∷ cs) (false ∷ bs) (m ∷ metas) apart la lb e =
    absurd (not_later m metas apart.0 (among_marked bs metas m (first_of m (marked cs metas) (marked bs metas) e)))
one_marking (false ∷ cs) (true ∷ bs) (m ∷ metas) apart la lb e =
    absurd (not_later m metas apart.0 (among_marked cs metas m (first_of m (marked bs metas) (marked cs metas) (sym e))))
one_marking (false ∷ cs) (false ∷ bs) (m ∷ metas) apart la lb e = ap (λ xs. false ∷ xs) (one_marking cs bs metas apart.1 (omega (arith, la)) (omega (arith, lb)) e)
