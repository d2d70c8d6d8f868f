-- The first form of a statement that may not stand, among its inputs and then its outputs.
use Rattle.std.proofs.Common.{◌≡◌, ◌<◌, ℕ, List, [], ◌∷◌, ◌++◌, length, inl, inr, refl}
use Rattle.std.specs.List.{AllByRecursion}
use Rattle.binding_terms.proofs.Lists.{match_within}
use Rattle.scheme_terms.specs.declared.scheme.Root.{Root}
use Rattle.rule_schemes.specs.Rules.{JudgmentScheme, Theory}
use Rattle.rule_schemes.specs.Statement.{StatementInput, given, syntax_input, Theorem, IsStatementInput, IsStatementForm, InputMayStand}
use Rattle.rule_schemes.specs.StatementFault.{given_forms, FormMayStand, IsFirstOutOfPlace}

pub one_given : (x : StatementInput) (xs : List StatementInput) → given_forms (x ∷ xs) ≡ given_forms (x ∷ []) ++ given_forms xs
one_given (given j) xs = refl
one_given (syntax_input m) xs = refl

module _ (th : Theory) (root : Root) where
  pub first_front : (xs ys : List JudgmentScheme) (j : ℕ) → IsFirstOutOfPlace th root xs j → IsFirstOutOfPlace th root (xs ++ ys) j
  first_front [] ys j h = absurd h
  first_front (x ∷ xs) ys j (inl h) = inl h
  first_front (x ∷ xs) ys j (inr h) = inr (h.0, first_front xs ys j h.1)

  pub first_behind : (xs ys : List JudgmentScheme) (j : ℕ) → AllByRecursion (FormMayStand th root) xs → IsFirstOutOfPlace th root ys j → IsFirstOutOfPlace th root (xs ++ ys) j
  first_behind [] ys j all h = h
  first_behind (x ∷ xs) ys j all h = inr (all.0, first_behind xs ys j all.1 h)

module _ (th : Theory) (st : Theorem) where
  pub given_in_range : (xs : List StatementInput) → AllByRecursion (IsStatementInput th st) xs → AllByRecursion (λ p. p.judgment < length th.judgments) (given_forms xs)
  given_in_range [] h = tt
  given_in_range (given j ∷ xs) h = (match_within th.judgments j.judgment _ (h.0).0, given_in_range xs h.1)
  given_in_range (syntax_input m ∷ xs) h = given_in_range xs h.1

  pub outputs_in_range : (js : List JudgmentScheme) → AllByRecursion (IsStatementForm th st) js → AllByRecursion (λ p. p.judgment < length th.judgments) js
  outputs_in_range [] h = tt
  outputs_in_range (j ∷ js) h = (match_within th.judgments j.judgment _ (h.0).0, outputs_in_range js h.1)

  pub given_stand : (xs : List StatementInput) → AllByRecursion (FormMayStand th st.scope.root) (given_forms xs) → AllByRecursion (InputMayStand th st) xs
  given_stand [] h = tt
  given_stand (given j ∷ xs) h = (h.0, given_stand xs h.1)
  given_stand (syntax_input m ∷ xs) h = (tt, given_stand xs h)
