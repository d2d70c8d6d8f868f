-- Statements on derivations over bare theories: the one statement for which a theorem stands.
use Rattle.std.proofs.Common.{◌≡◌, ◌≢◌, ◌+◌, ℕ, zero, suc, List, [], ◌∷◌, ◌++◌, length, map, inl, inr, refl, ap, ◌∙◌, sym, subst, arith, Some, None, slice_get, append_assoc}
use Rattle.std.specs.List.{AllByRecursion, AllZip}
use Rattle.binding_terms.specs.Numbered.{AnyByRecursion, AllNumbered}
use Rattle.binding_terms.specs.Signature.{Signature}
use Rattle.scheme_terms.specs.Forms.{Names}
use Rattle.scheme_terms.specs.SchemeScope.{AreDifferentNames}
use Rattle.scheme_terms.specs.declared.scheme.MetaDecl.{MetaDecl}
use Rattle.rule_schemes.specs.Reading.{Token}
use Rattle.rule_schemes.specs.Rules.{JudgmentScheme}
use Rattle.rule_schemes.specs.Statement.{StatementInput, given, syntax_input, OccursInJudgment, OccursInInput}
use Rattle.judgments.specs.Collected.{IsAmong}
use Rattle.judgments.specs.Views.{IsForDerivation}
use Rattle.judgments.specs.Written.{WrittenInput, for_derivation, for_term, input_tokens, term_words, IsInputOf, ReadsOnlyAs}
use Rattle.judgments.proofs.WordsOfForms.{joined}

-- inputs that are derivations
abbrev pub AreGiven : List WrittenInput → Type 0
AreGiven inputs = AllByRecursion IsForDerivation inputs

pub no_terms : (inputs : List WrittenInput) → AreGiven inputs → term_words inputs ≡ []
no_terms [] h = refl
no_terms (for_derivation name form ∷ inputs) h = no_terms inputs h.1
no_terms (for_term w ∷ inputs) h = absurd h.0

pub joined_append : (xs ys : List (List Token)) → joined (xs ++ ys) ≡ joined xs ++ joined ys
joined_append [] ys = refl
joined_append (x ∷ xs) ys = ap (λ l. x ++ l) (joined_append xs ys) ∙ sym (append_assoc x (joined xs) (joined ys))

-- judgments as inputs, and inputs as judgments
pub any_given : (m : ℕ) (js : List JudgmentScheme) → AnyByRecursion (OccursInJudgment m) js → AnyByRecursion (OccursInInput m) (map given js)
any_given m [] h = h
any_given m (j ∷ js) (inl h) = inl h
any_given m (j ∷ js) (inr h) = inr (any_given m js h)

pub given_any : (m : ℕ) (js : List JudgmentScheme) → AnyByRecursion (OccursInInput m) (map given js) → AnyByRecursion (OccursInJudgment m) js
given_any m [] h = h
given_any m (j ∷ js) (inl h) = inl h
given_any m (j ∷ js) (inr h) = inr (given_any m js h)

-- the judgments for which inputs stand, and back
module _ (sig : Signature) (judgments : List Rattle.rule_schemes.specs.declared.rule.Judgment.Judgment) (names : Names) where
  pub inputs_read : (inputs : List WrittenInput) (xs : List StatementInput) → AreGiven inputs → AllZip (IsInputOf sig judgments names) inputs xs
      → (js : List JudgmentScheme) × (xs ≡ map given js) × AllZip (ReadsOnlyAs sig judgments names) (map input_tokens inputs) js
  inputs_read [] [] all h = ([], refl, tt)
  inputs_read [] (x ∷ xs) all h = absurd h
  inputs_read (i ∷ inputs) [] all h = absurd h
  inputs_read (for_derivation name form ∷ inputs) (given j ∷ xs) all h =
      let k = inputs_read inputs xs all.1 h.1 in (j ∷ k.0, ap (λ l. given j ∷ l) k.1, (h.0, k.2))
  inputs_read (for_derivation name form ∷ inputs) (syntax_input m ∷ xs) all h = absurd h.0
  inputs_read (for_term w ∷ inputs) (x ∷ xs) all h = absurd all.0

  pub read_inputs : (inputs : List WrittenInput) (js : List JudgmentScheme) → AreGiven inputs → AllZip (ReadsOnlyAs sig judgments names) (map input_tokens inputs) js
      → AllZip (IsInputOf sig judgments names) inputs (map given js)
  read_inputs [] [] all h = tt
  read_inputs [] (j ∷ js) all h = absurd h
  read_inputs (i ∷ inputs) [] all h = absurd h
  read_inputs (for_derivation name form ∷ inputs) (j ∷ js) all h = (h.0, read_inputs inputs js all.1 h.1)
  read_inputs (for_term w ∷ inputs) (j ∷ js) all h = absurd all.0

-- the front and the back of numbered names
pub numbered_all : (P : ℕ → Type 0) (xs : List MetaDecl) (n : ℕ) → AllNumbered (λ m d. P m) n xs → (m : ℕ) (d : MetaDecl) → slice_get xs m ≡ Some d → P (n + m)
numbered_all P [] n h m d e = absurd (let never : None ≡ Some d = e in cc)
numbered_all P (x ∷ xs) n h zero d e = (let same : n ≡ n + 0 = omega arith in subst P same h.0)
numbered_all P (x ∷ xs) n h (suc m) d e = (let same : suc n + m ≡ n + suc m = omega arith in subst P same (numbered_all P xs (suc n) h.1 m d e))

pub place_front : (xs ys : List MetaDecl) (m : ℕ) (d : MetaDecl) → slice_get xs m ≡ Some d → slice_get (xs ++ ys) m ≡ Some d
place_front [] ys m d e = absurd (let never : None ≡ Some d = e in cc)
place_front (x ∷ xs) ys zero d e = e
place_front (x ∷ xs) ys (suc m) d e = place_front xs ys m d e

pub place_back : (xs ys : List MetaDecl) (m : ℕ) (d : MetaDecl) → slice_get ys m ≡ Some d → slice_get (xs ++ ys) (length xs + m) ≡ Some d
place_back [] ys m d e = (let same : m ≡ 0 + m = omega arith in subst (λ k. slice_get ys k ≡ Some d) same e)
place_back (x ∷ xs) ys m d e =
    (let same : suc (length xs + m) ≡ suc (length xs) + m = omega arith in subst (λ k. slice_get (x ∷ xs ++ ys) k ≡ Some d) same (place_back xs ys m d e))

pub among_at : (xs : List MetaDecl) (m : ℕ) (d : MetaDecl) (w : List ℕ) → slice_get xs m ≡ Some d → d.name ≡ w → IsAmong w xs
among_at [] m d w e f = absurd (let never : None ≡ Some d = e in cc)
among_at (x ∷ xs) zero d w e f = inl (let same : x ≡ d = cc in ap (λ (y : MetaDecl). y.name) same ∙ f)
among_at (x ∷ xs) (suc m) d w e f = inr (among_at xs m d w e f)

-- each with its place
pub each_at : (P : MetaDecl → Type 0) (xs : List MetaDecl) → ((m : ℕ) (d : MetaDecl) → slice_get xs m ≡ Some d → P d) → AllByRecursion P xs
each_at P [] f = tt
each_at P (x ∷ xs) f = (f zero x refl, each_at P xs (λ m d e. f (suc m) d e))

pub different_front : (xs ys : List MetaDecl) → AreDifferentNames (map (λ (m : MetaDecl). m.name) (xs ++ ys)) → AreDifferentNames (map (λ (m : MetaDecl). m.name) xs)
different_front [] ys h = tt
different_front (x ∷ xs) ys h = (front xs h.0, different_front xs ys h.1)
  where
    front : (ms : List MetaDecl) → AllByRecursion (λ v. x.name ≢ v) (map (λ (m : MetaDecl). m.name) (ms ++ ys)) → AllByRecursion (λ v. x.name ≢ v) (map (λ (m : MetaDecl). m.name) ms)
    front [] h = tt
    front (m ∷ ms) h = (h.0, front ms h.1)

pub different_back : (xs ys : List MetaDecl) → AreDifferentNames (map (λ (m : MetaDecl). m.name) (xs ++ ys)) → AreDifferentNames (map (λ (m : MetaDecl). m.name) ys)
different_back [] ys h = h
different_back (x ∷ xs) ys h = different_back xs ys h.1
