-- A worked chain of sums, and one with another conclusion.
use Rattle.std.proofs.Common.{◌≡◌, [], ◌∷◌, refl, ap, ◌∙◌, sym, arith}
use Rattle.std.specs.Prelude.{Some}
use Rattle.binding_terms.specs.Tree.{nodes}
use Rattle.rule_schemes.specs.Derivation.{Derives}
use Rattle.rule_schemes.specs.Sums.{sums, z, s, closed_value}
use Rattle.rule_schemes.proofs.Sums.{one_sum_derives, third, inner}
use Rattle.derivation_text.specs.Worked.{two_sum, wrong_two_sum}

pub two_sum_derives : Derives sums two_sum
two_sum_derives = (
  record {
    ordinary = λ h. h;
    inst = record { metas = Some (s z) ∷ (Some z ∷ (Some (s z) ∷ [])); knowns = []; root = closed_value };
    root = refl;
    scope = record { root = (refl, refl); metas = ((refl, (refl, (refl, tt), tt)), ((refl, tt), ((refl, (refl, (refl, tt), tt)), tt))); knowns = tt };
    conclusion = record { same = refl; closed = (((tt, tt), tt), (tt, (((tt, tt), tt), tt))) };
    premises = (record { same = refl; closed = ((tt, tt), (tt, ((tt, tt), tt))) }, tt);
  },
  (one_sum_derives, tt),
)

-- the premise says that the sum is s z, and the conclusion that it is z
pub wrong_chain : Derives sums wrong_two_sum → ⊥
wrong_chain h =
    let premise = ap third h.0.premises.0.same in
    let conclusion = ap inner (ap third h.0.conclusion.same) in
    let same : s z ≡ z = sym premise ∙ conclusion in
    let counts : 2 ≡ 1 = ap nodes same in
    absurd (omega (arith, counts))
