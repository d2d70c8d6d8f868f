-- The rule on context categories.
use Rattle.std.proofs.Common.{◌≡◌, ◌↔◌, ◌≤◌, ◌++◌, Bool, true, false, IsTrue, List, [], ◌∷◌, length, get_or, refl, ap, sym, subst, inl, inr, arith}
use Rattle.std.specs.List.{AllByRecursion}
use Rattle.proof_lexer.specs.View.{token_view}
use Rattle.proof_lexer.specs.declared.token.Token.{Token}
use Rattle.outline_reader.specs.Plain.{PlainPortion, plain_form}
use Rattle.user_grammar.specs.File.{WrittenCategory}
use Rattle.user_grammar.specs.Fault.{ExactlyOne, HasNoBrackets, IsBinderWord, IsEntryForm, IsWordOf}
use Rattle.user_grammar.proofs.Tests.{refused}
use Rattle.user_grammar.specs.FindingContexts.{One}

pub one_exactly : {A : Type 0} (P : A → Type 0) (xs : List A) → One P xs → ExactlyOne P xs
one_exactly P [] one = absurd one
one_exactly P (x ∷ xs) (inl a) = ([], x, xs, refl, a.0, tt, a.1)
one_exactly P (x ∷ xs) (inr b) = let more = one_exactly P xs b.1 in (x ∷ more.0, more.1, more.2, ap (λ ys. x ∷ ys) more.3, more.4, (b.0, more.5), more.6)

one_of_parts : {A : Type 0} (P : A → Type 0) (before : List A) (x : A) (after : List A) → P x → AllByRecursion (λ y. P y → ⊥) before → AllByRecursion (λ y. P y → ⊥) after → One P (before ++ x ∷ after)
one_of_parts P [] x after p none later = inl (p, later)
one_of_parts P (b ∷ before) x after p none later = inr (none.0, one_of_parts P before x after p none.1 later)

pub exactly_one : {A : Type 0} (P : A → Type 0) (xs : List A) → ExactlyOne P xs → One P xs
exactly_one P xs is = subst (One P) (sym is.3) (one_of_parts P is.0 is.1 is.2 is.4 is.5 is.6)

-- ---- a context with one entry more

pub entry_no_word : (portions : List PlainPortion) (written : WrittenCategory) (xs : List Token) (d : Token) (r : Bool) → 1 ≤ length xs
    → (IsTrue r ↔ IsWordOf portions written (token_view (get_or xs 0 d))) → r ≡ false → IsTrue false ↔ IsEntryForm portions written (plain_form xs)
entry_no_word portions written [] d r le is none = absurd (omega (arith, le))
entry_no_word portions written (x ∷ xs) d r le is none = ((λ t. (let never : false ≡ true = t in cc)), (λ e. absurd (refused r is none e.0)))

pub entry_no_binder : (portions : List PlainPortion) (written : WrittenCategory) (xs : List Token) (r : Bool) → 1 ≤ length xs
    → (IsTrue r ↔ One (IsBinderWord portions) (plain_form xs)) → r ≡ false → IsTrue false ↔ IsEntryForm portions written (plain_form xs)
entry_no_binder portions written [] r le is none = absurd (omega (arith, le))
entry_no_binder portions written (x ∷ xs) r le is none =
    ((λ t. (let never : false ≡ true = t in cc)), (λ e. absurd (refused r is none (exactly_one (IsBinderWord portions) (plain_form (x ∷ xs)) e.2))))

pub entry_by : (portions : List PlainPortion) (written : WrittenCategory) (xs : List Token) (d : Token) (r : Bool) → 1 ≤ length xs
    → IsWordOf portions written (token_view (get_or xs 0 d)) → One (IsBinderWord portions) (plain_form xs) → (IsTrue r ↔ HasNoBrackets portions (plain_form xs)) → IsTrue r ↔ IsEntryForm portions written (plain_form xs)
entry_by portions written [] d r le word one is = absurd (omega (arith, le))
entry_by portions written (x ∷ xs) d r le word one is =
    ((λ t. (word, is.0 t, one_exactly (IsBinderWord portions) (plain_form (x ∷ xs)) one)), (λ e. is.1 e.1))
