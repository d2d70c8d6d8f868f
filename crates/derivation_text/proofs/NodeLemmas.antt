-- The parts of a line with a judgment are found by its first reserved word, and are the only ones.
use Rattle.std.proofs.Common.{◌≡◌, ◌≢◌, ◌↔◌, ◌<◌, ◌+◌, ℕ, ◌==◌, Bool, true, false, ◌&&◌, IsTrue, IsFalse, List, [], ◌∷◌, ◌++◌, length, refl, ap, ◌∙◌, sym, subst, arith, codes, true≢false}
use Rattle.std.proofs.lemmas.Bool.{eqb-true}
use Rattle.std.proofs.lemmas.Slice.Eq.{bytes_eq-Decides}
use Rattle.std.specs.Str.{bytes_eq}
use Rattle.std.specs.List.{AllByRecursion}
use Rattle.rule_schemes.specs.Reading.{Token, word}
use Rattle.outline_reader.specs.Sorts.{is_reserved}
use Rattle.derivation_text.specs.Forms.{is_name, is_reserved_token}
use Rattle.derivation_text.specs.Found.{is_name_token, StopsForm, IsCut, HasParts, HasFormParts, HasNoFormParts}
use Rattle.binding_terms.proofs.Lists.{cons_head, cons_tail}

abbrev NoneReserved : List Token → Type 0
NoneReserved ts = AllByRecursion (λ t. IsFalse (is_reserved_token t)) ts

clash : {b : Bool} → IsTrue b → IsFalse b → {A : Type 0} → A
clash t f = absurd (true≢false (sym t ∙ f))

pub cut_once : (a b c d : List Token) → a ++ b ≡ c ++ d → NoneReserved a → StopsForm b → NoneReserved c → StopsForm d → (a ≡ c) × (b ≡ d)
cut_once [] b [] d e na sb nc sd = (refl, e)
cut_once [] b (y ∷ c) d e na sb nc sd = clash (subst StopsForm e sb) nc.0
cut_once (x ∷ a) b [] d e na sb nc sd = clash (subst StopsForm (sym e) sd) na.0
cut_once (x ∷ a) b (y ∷ c) d e na sb nc sd =
    let rest = cut_once a b c d (cons_tail e) na.1 sb nc.1 sd in
    let same : x ≡ y = cons_head e in
    let front : a ≡ c = rest.0 in
    (cc, rest.1)

by_stops : IsTrue (is_reserved_token (word (codes "by")))
unfolding is_reserved
by_stops = refl

-- what follows the form is what follows the first reserved word
pub parts_of_cut : (ts front back form : List Token) (r : List ℕ) (rest : List Token) → IsCut ts front back → HasFormParts ts form r rest
    → (front ≡ form) × (back ≡ word (codes "by") ∷ (word (codes "rule") ∷ (word r ∷ rest)))
parts_of_cut ts front back form r rest cut h =
    cut_once front back form (word (codes "by") ∷ (word (codes "rule") ∷ (word r ∷ rest))) (sym cut.parts ∙ h.tokens_are) cut.none_reserved cut.stops h.form_is.none_reserved by_stops

pub no_parts_short : (ts front back : List Token) → IsCut ts front back → length back < 3 → HasNoFormParts ts
no_parts_short ts front back cut short form r rest h =
    let e : length back ≡ length rest + 3 = ap length (parts_of_cut ts front back form r rest cut h).1 ∙ omega arith in
    omega arith

pub no_parts_empty : (ts front back : List Token) → IsCut ts front back → front ≡ [] → HasNoFormParts ts
no_parts_empty ts front back cut e form r rest h = h.form_is.some (sym (parts_of_cut ts front back form r rest cut h).0 ∙ e)

pub no_parts_by : (ts front back : List Token) (a b c : Token) → IsCut ts front (a ∷ (b ∷ (c ∷ back))) → a ≢ word (codes "by") → HasNoFormParts ts
no_parts_by ts front back a b c cut n form r rest h = n (cons_head (parts_of_cut ts front _ form r rest cut h).1)

pub no_parts_rule : (ts front back : List Token) (a b c : Token) → IsCut ts front (a ∷ (b ∷ (c ∷ back))) → b ≢ word (codes "rule") → HasNoFormParts ts
no_parts_rule ts front back a b c cut n form r rest h = n (cons_head (cons_tail (parts_of_cut ts front _ form r rest cut h).1))

pub word_is_name : (w : List ℕ) → IsTrue (is_name w) → IsTrue (is_name_token (word w))
word_is_name w h = h

pub no_parts_name : (ts front back : List Token) (a b c : Token) → IsCut ts front (a ∷ (b ∷ (c ∷ back))) → is_name_token c ≡ false → HasNoFormParts ts
no_parts_name ts front back a b c cut n form r rest h =
    clash (subst (λ (t : Token). IsTrue (is_name_token t)) (sym (cons_head (cons_tail (cons_tail (parts_of_cut ts front _ form r rest cut h).1)))) (word_is_name r h.rule_is)) n

pub and_left : (a b : Bool) → IsTrue (a && b) → IsTrue a
and_left true b h = refl
and_left false b h = h

pub and_right : (a b : Bool) → IsTrue (a && b) → IsTrue b
and_right true b h = h
and_right false b h = absurd (true≢false (sym h))

zero_kind : (n : ℕ) → IsTrue (n == 0) → n ≡ 0
zero_kind n h = eqb-true n 0 h

-- a name is a word
pub name_is_word : (t : Token) → IsTrue (is_name_token t) → (t ≡ word t.1) × IsTrue (is_name t.1)
name_is_word t h =
    let kind : t.0 ≡ 0 = zero_kind t.0 (and_left (t.0 == 0) (is_name t.1) h) in
    (λ i. (kind i, t.1), and_right (t.0 == 0) (is_name t.1) h)

pub not_when : {b : Bool} {P : Type 0} → (IsTrue b ↔ P) → b ≡ false → P → ⊥
not_when both f p = true≢false (sym (both.1 p) ∙ f)

pub same_bytes : (xs ys : List ℕ) → IsTrue (bytes_eq xs ys) → xs ≡ ys
same_bytes xs ys h = (bytes_eq-Decides xs ys).0 h

-- a line has its parts in one way
pub parts_once : {ts : List Token} {name other : List ℕ} {form form2 : List Token} {r r2 : List ℕ} {rest rest2 : List Token} → HasParts ts name form r rest → HasParts ts other form2 r2 rest2
    → (name ≡ other) × (form ≡ form2) × (r ≡ r2) × (rest ≡ rest2)
parts_once {form = form} {form2 = form2} {r = r} {r2 = r2} {rest = rest} {rest2 = rest2} a b =
    let whole = sym a.tokens_are ∙ b.tokens_are in
    let at = cut_once form (word (codes "by") ∷ (word (codes "rule") ∷ (word r ∷ rest))) form2 (word (codes "by") ∷ (word (codes "rule") ∷ (word r2 ∷ rest2)))
    (cons_tail (cons_tail whole)) a.form_is.none_reserved by_stops b.form_is.none_reserved by_stops in
    (ap (λ (t : Token). t.1) (cons_head whole), at.0, ap (λ (t : Token). t.1) (cons_head (cons_tail (cons_tail at.1))), cons_tail (cons_tail (cons_tail at.1)))
