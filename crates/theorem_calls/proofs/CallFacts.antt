-- Calls over sums: a lemma whose further name becomes a new name, and calls that are refused.
use Rattle.std.proofs.Common.{◌≡◌, ◌<◌, ℕ, zero, suc, [], ◌∷◌, inl, inr, refl, arith, Bool, false, true}
use Rattle.binding_terms.specs.Signature.{Reaches, itself, through_slot, HasVariable}
use Rattle.scheme_terms.specs.Forms.{Substitution}
use Rattle.rule_schemes.specs.Raising.{TestsReach}
use Rattle.rule_schemes.specs.Statement.{syntax_input, IsOfInputs}
use Rattle.rule_schemes.specs.Sums.{nat, sums, sum_scheme, name}
use Rattle.theorem_calls.specs.Raised.{term_of}
use Rattle.theorem_calls.specs.Call.{IsFurther, IsSettled, IsStatementInstance}
use Rattle.theorem_calls.specs.Answers.{AreInstance}
use Rattle.theorem_calls.specs.Worked.{total, two_names, new_name, values, mixed_args, NewNameIsCalled, OneIsTooFew, DerivationForATerm}

abbrev nothing_reaches : ℕ → ℕ → Bool
nothing_reaches c v = false

no_variable : (c : ℕ) → HasVariable nat c → ⊥
no_variable zero h = let e : ◌≡◌ {A = Bool} false true = h in cc
no_variable (suc c) h = h

-- over sums no category reaches any
nothing_is_reached : {c v : ℕ} → Reaches nat c v → ⊥
nothing_is_reached (itself c has) = no_variable c has
nothing_is_reached (through_slot c d v has way) = nothing_is_reached way

pub nothing_tests : TestsReach nat nothing_reaches
nothing_tests c v = (λ h. let e : ◌≡◌ {A = Bool} false true = h in cc, λ way. absurd (nothing_is_reached way))

-- n + n2 = n3 by induction hypothesis on n, n2: n3 is new
first_input : IsFurther total 0 → ⊥
first_input h = h.1 (inl refl)

second_input : IsFurther total 1 → ⊥
second_input h = h.1 (inr (inl refl))

third_is_new : IsFurther total 2
third_is_new = (inl (inr (inr (inr (inl (inl refl))))), none)
  where
    none : IsOfInputs total 2 → ⊥
    none (inl e) = absurd (omega (arith, e))
    none (inr (inl e)) = absurd (omega (arith, e))
    none (inr (inr h)) = h

total_instance : IsStatementInstance sums two_names new_name nothing_reaches total [] (term_of (name 0) ∷ (term_of (name 1) ∷ []))
    (sum_scheme (name 0) (name 1) (name 2) ∷ []) values (2 ∷ [])
total_instance =
    record {
      into = refl;
      counted = refl;
      schemes = ((λ h. (refl, tt)), ((λ h. (refl, tt)), ((λ h. (refl, tt)), tt)));
      knowns = refl;
      inputs = (refl, (refl, tt));
      outputs = refl;
      new_names = inr (first_input, inr (second_input, inl (third_is_new, (refl, omega arith, tt, tt), refl)));
      different = (tt, tt);
      no_other = λ m from below. inl (omega (arith, from, below));
    }

pub total_is_called : NewNameIsCalled
total_is_called = (
  (refl, refl),
  (
    [],
    record { excess = refl; entries = refl; no_new = λ m from h. h; roots = tt },
    record {
      reaches = nothing_reaches;
      tests = nothing_tests;
      by = values;
      is_instance = total_instance;
      into = refl;
      metas = refl;
      knowns = refl;
    },
  ),
)

-- one argument is too few
pub one_is_too_few : OneIsTooFew
one_is_too_few h = let e : ◌≡◌ {A = ℕ} 1 2 = h.0 in absurd (omega (arith, e))

last_is_not : IsSettled (syntax_input 0 ∷ []) 2 → ⊥
last_is_not (inl e) = absurd (omega (arith, e))
last_is_not (inr h) = h

abbrev values_of_two : Substitution
values_of_two = record { metas = name 0 ∷ (name 1 ∷ (name 1 ∷ [])); knowns = []; into = two_names }

-- a derivation for a term is the first argument that is no instance
pub derivation_for_a_term : DerivationForATerm
derivation_for_a_term = (
  (refl, refl),
  (
    0,
    [],
    record { excess = refl; entries = refl; no_new = λ m from h. h; roots = tt },
    record { some = omega arith; in_range = omega arith; none = λ h. h.2.inputs.1.0; before = before },
  ),
)
  where
    before : (count : ℕ) → count < 2 → AreInstance sums two_names total [] mixed_args (sum_scheme (name 0) (name 1) (name 2) ∷ []) count
    before zero less = (nothing_reaches, nothing_tests, record { by = values; fits = (λ h. absurd h, ((λ h. absurd h), ((λ h. absurd h), tt))); inputs = tt })
    before (suc zero) less = (
      nothing_reaches,
      nothing_tests,
      record { by = values_of_two; fits = ((λ h. (refl, tt)), ((λ h. (refl, tt)), ((λ h. absurd (last_is_not h)), tt))); inputs = (refl, tt) },
    )
    before (suc (suc n)) less = absurd (omega (arith, less))
