-- Productions without an item, and productions that are one slot alone.
use Rattle.std.proofs.Common.{drop-cons, suc, ◌≡◌, ◌↔◌, Bool, true, false, IsTrue, ◌<◌, ◌+◌, ℕ, List, [], ◌∷◌, length, get_or, drop, refl, ap, ◌∙◌, sym, subst, inl, inr, arith}
use Rattle.sy_base.specs.Tokens.{PlainToken}
use Rattle.proof_lexer.specs.View.{token_view}
use Rattle.outline_reader.specs.Plain.{PlainPortion, plain_form}
use Rattle.proof_lexer.specs.declared.token.Token.{Token}
use Rattle.user_grammar.specs.Production.{IsMark, AreBrackets, AreWords, no_brackets, brackets, one_more, last_one}
use Rattle.user_grammar.specs.Fault.{IsSlotWord, IsOneSlot}
use Rattle.user_grammar.specs.Finding.{BracketsLeft, GoesOn, IsSingle}
use Rattle.user_grammar.specs.declared.fault_form.Expected.{Expected}
use Rattle.user_grammar.specs.declared.fault_form.Expected.TheVariants.{Opening, Name, Comma}
use Rattle.user_grammar.proofs.Tests.{refused}

pub bracket_goes_on : (t : PlainToken) → IsMark 91 t → GoesOn Opening t Name
bracket_goes_on t is = record { goes_on = λ rest. ((λ b. b.1), (λ b. (is, b))) }

pub name_goes_on : (t : PlainToken) → t.kind ≡ 0 → GoesOn Name t Comma
name_goes_on t is = record { goes_on = λ rest. ((λ b. b.1), (λ b. (is, b))) }

two_marks : (t : PlainToken) → IsMark 44 t → IsMark 93 t → ⊥
two_marks t comma close = omega (arith, ap (λ (xs : List ℕ). get_or xs 0 0) (sym comma.1 ∙ close.1))

pub comma_goes_on : (t : PlainToken) → IsMark 44 t → GoesOn Comma t Name
comma_goes_on t is = record { goes_on = λ rest. ((λ b. elim b [ inl l ↦ l.1 | inr r ↦ absurd (two_marks t is r.0) ]), (λ b. inl (is, b))) }

pub closing_goes_on : (t : PlainToken) → IsMark 93 t → GoesOn Comma t Opening
closing_goes_on t is = record { goes_on = λ rest. ((λ b. elim b [ inl l ↦ absurd (two_marks t l.0 is) | inr r ↦ r.1 ]), (λ b. inr (is, b))) }

pub no_goes_on : (t : PlainToken) (p q : Bool) → (IsTrue p ↔ IsMark 44 t) → (IsTrue q ↔ IsMark 93 t) → p ≡ false → q ≡ false → (rest : List PlainToken) → BracketsLeft Comma (t ∷ rest) → ⊥
no_goes_on t p q comma close not_comma not_close rest b = elim b [ inl l ↦ refused p comma not_comma l.0 | inr r ↦ refused q close not_close r.0 ]

mutual
  open_there : (ts : List PlainToken) → BracketsLeft Opening ts → (words : List (List ℕ)) × AreBrackets words ts []
  open_there [] b = ([], no_brackets)
  open_there (t ∷ ts) b = let w = words_there ts b.1 in (w.0, brackets b.0 w.1)

  words_there : (ts : List PlainToken) → BracketsLeft Name ts → (words : List (List ℕ)) × AreWords words ts []
  words_there [] b = absurd b
  words_there (t ∷ []) b = absurd b.1
  words_there (t ∷ u ∷ ts) b = elim b.1 [
    | inl c ↦ (let more = words_there ts c.1 in (t.text ∷ more.0, one_more b.0 c.0 more.1))
    | inr d ↦ (let more = open_there ts d.1 in (t.text ∷ more.0, last_one b.0 d.0 more.1))
  ]

mutual
  open_back : {words : List (List ℕ)} {ts rest : List PlainToken} → AreBrackets words ts rest → rest ≡ [] → BracketsLeft Opening ts
  open_back no_brackets e = subst (BracketsLeft Opening) (sym e) tt
  open_back (brackets mark more) e = (mark, words_back more e)

  words_back : {words : List (List ℕ)} {ts rest : List PlainToken} → AreWords words ts rest → rest ≡ [] → BracketsLeft Name ts
  words_back (one_more kind mark more) e = (kind, inl (mark, words_back more e))
  words_back (last_one kind mark more) e = (kind, inr (mark, open_back more e))

pub one_slot : (portions : List PlainPortion) (t : PlainToken) (rest : List PlainToken) (r : Bool) → IsSlotWord portions t → (IsTrue r ↔ BracketsLeft Opening rest) → IsTrue r ↔ IsOneSlot portions (t ∷ rest)
one_slot portions t rest r slot is = ((λ y. (slot, open_there rest (is.0 y))), (λ one. is.1 (open_back one.1.1 refl)))

pub no_single : (portions : List PlainPortion) (t : PlainToken) (rest : List PlainToken) (s : PlainToken) → (IsOneSlot portions (t ∷ rest) → ⊥) → IsSingle portions (t ∷ rest) s → ⊥
no_single portions t rest s none is = none (subst (IsOneSlot portions) (sym is.split) is.one)

at_drop : (xs : List Token) (i : ℕ) (d : Token) → i < length xs → drop i xs ≡ get_or xs i d ∷ drop (i + 1) xs
at_drop xs i d lt = let e : suc i ≡ i + 1 = omega arith in drop-cons xs i d lt ∙ ap (λ n. get_or xs i d ∷ drop n xs) e

-- where the tokens do not go on as brackets
pub brackets_stop : (xs : List Token) (i : ℕ) (d : Token) (e : Expected) → i < length xs → ((rest : List PlainToken) → BracketsLeft e (token_view (get_or xs i d) ∷ rest) → ⊥)
    → (BracketsLeft e (plain_form (drop i xs)) ↔ BracketsLeft Opening (plain_form xs)) → IsTrue false ↔ BracketsLeft Opening (plain_form xs)
brackets_stop xs i d e lt none same = (
  (λ t. (let never : false ≡ true = t in cc)),
  (λ b. absurd (none (plain_form (drop (i + 1) xs)) (subst (λ ts. BracketsLeft e (plain_form ts)) (at_drop xs i d lt) (same.1 b)))),
)

-- where they do, by one token more
pub brackets_on : (xs : List Token) (i : ℕ) (d : Token) (e next : Expected) → i < length xs → GoesOn e (token_view (get_or xs i d)) next
    → (BracketsLeft e (plain_form (drop i xs)) ↔ BracketsLeft Opening (plain_form xs)) → BracketsLeft next (plain_form (drop (i + 1) xs)) ↔ BracketsLeft Opening (plain_form xs)
brackets_on xs i d e next lt goes same = (
  (λ b. same.0 (subst (λ ts. BracketsLeft e (plain_form ts)) (sym (at_drop xs i d lt)) ((goes.goes_on (plain_form (drop (i + 1) xs))).1 b))),
  (λ b. (goes.goes_on (plain_form (drop (i + 1) xs))).0 (subst (λ ts. BracketsLeft e (plain_form ts)) (at_drop xs i d lt) (same.1 b))),
)
