-- The core step of a written step, from what it says and what justifies it.
use Rattle.std.proofs.Common.{◌≡◌, ℕ, List, [], ◌∷◌, Option, Some, None, Bor, Result, Ok, Err, IfOk, length, get_or, map, refl, sym, ap, subst, ◌∙◌}
use Rattle.std.specs.List.{AllZip}
use Rattle.scheme_terms.specs.Forms.{Names}
use Rattle.rule_schemes.specs.Rules.{JudgmentScheme, Theory}
use Rattle.rule_schemes.specs.Statement.{Theorem}
use Rattle.core_proofs.specs.Step.{Step, by_rule}
use Rattle.sy_base.specs.Tokens.{PlainToken}
use Rattle.proof_lexer.specs.declared.token.Token.{Token}
use Rattle.proof_lexer.specs.View.{token_view}
use Rattle.outline_reader.specs.Plain.{plain_form, PlainArgument, PlainJustification, by_rule_of, step_of}
use Rattle.proof_check.specs.Cited.{IsNumberOf, IsCitedAs, MayBeGiven}
use Rattle.proof_check.specs.Written.{IsFormOf, Says}
use Rattle.proof_check.specs.Steps.{IsStepOf, by_its_rule, MadeStep, StandsFor}
use Rattle.proof_check.specs.Finding.{Finds}
use Rattle.binding_terms.proofs.Lists.{only_element}

pub if_ok : {T E : Type 0} (r : Result T E) (P Q : T → Type 0) → ((x : T) → P x → Q x) → IfOk r P → IfOk r Q
if_ok (Ok x) P Q f h = f x h
if_ok (Err e) P Q f h = h

-- a name and a form, each the one
pub pair_found : (n m : List ℕ) (M : Type 0) (F : JudgmentScheme → Type 0) (j : JudgmentScheme) → m ≡ n → M → Finds F (Some j) →
    Finds (λ (said : List ℕ × JudgmentScheme). (said.0 ≡ n) × M × F said.1) (Some (m, j))
pair_found n m M F j e may f = (
  (e, may, f.0),
  λ b h. ap (λ (x : List ℕ). (x, b.1)) (h.0 ∙ sym e) ∙ ap (λ (y : JudgmentScheme). (m, y)) (f.1 b.1 h.2),
)

pub said_so : (th : Theory) (st : Theorem) (scope : Names) (named : List (List ℕ)) (names : List PlainToken) (forms : List (List PlainToken)) (name : PlainToken) (form : List PlainToken)
    (found : Option (List ℕ × JudgmentScheme)) → names ≡ name ∷ [] → forms ≡ form ∷ [] →
    Finds (λ (said : List ℕ × JudgmentScheme). (said.0 ≡ name.text) × MayBeGiven th.sig named name.text × IsFormOf th scope form said.1) found →
    Finds (λ (said : List ℕ × JudgmentScheme). Says th st scope named names forms said.0 said.1) found
said_so th st scope named names forms name form found en ef h =
    subst (λ (ns : List PlainToken). Finds (λ (said : List ℕ × JudgmentScheme). Says th st scope named ns forms said.0 said.1) found) (sym en)
    (subst (λ (fs : List (List PlainToken)). Finds (λ (said : List ℕ × JudgmentScheme). Says th st scope named (name ∷ []) fs said.0 said.1) found) (sym ef) h)

-- the same of the tokens as they are lent
pub said_lent : (th : Theory) (st : Theorem) (scope : Names) (named : List (List ℕ)) (names : List (Bor Token)) (forms : List (Bor (List Token))) (n : Bor Token) (f : Bor (List Token))
    (found : Option (List ℕ × JudgmentScheme)) → length names ≡ 1 → length forms ≡ 1 →
    Finds (λ (said : List ℕ × JudgmentScheme). (said.0 ≡ (get_or names 0 n).now.text.now) × MayBeGiven th.sig named (get_or names 0 n).now.text.now
    × IsFormOf th scope (map token_view (get_or forms 0 f).now) said.1) found →
    Finds (λ (said : List ℕ × JudgmentScheme). Says th st scope named (map token_view (map (λ (name : Bor Token). name.now) names)) (map plain_form (map (λ (form : Bor (List Token)). form.now) forms)) said.0 said.1) found
said_lent th st scope named names forms n f found en ef h =
    said_so th st scope named _ _ (token_view (get_or names 0 n).now) (plain_form (get_or forms 0 f).now) found
    (ap (λ (ns : List (Bor Token)). map token_view (map (λ (name : Bor Token). name.now) ns)) (only_element names n en))
    (ap (λ (fs : List (Bor (List Token))). map plain_form (map (λ (form : Bor (List Token)). form.now) fs)) (only_element forms f ef)) h

module _ (th : Theory) (named : List (List ℕ)) (first name : PlainToken) (arguments : List PlainArgument) (form : JudgmentScheme) where
  rule_same : (r : ℕ) (on : List ℕ) → Finds (IsNumberOf name.text (map (λ rule. rule.name) th.rules)) (Some r) → Finds (AllZip (IsCitedAs named) arguments) (Some on) →
      (step : Step) → IsStepOf th named first (by_rule_of name arguments) form step → step ≡ by_rule first.line form r on
  rule_same r on f g step (by_its_rule other others q ns why number cited same) =
      let e : other ≡ name = cc in
      let d : others ≡ arguments = cc in
      let a : q ≡ r = f.1 q (subst (λ (token : PlainToken). IsNumberOf token.text (map (λ rule. rule.name) th.rules) q) e number) in
      let b : ns ≡ on = g.1 ns (subst (λ (xs : List PlainArgument). AllZip (IsCitedAs named) xs ns) d cited) in
      same ∙ ap (λ (k : ℕ). by_rule first.line form k ns) a ∙ ap (by_rule first.line form r) b

  pub rule_found : (r : ℕ) (on : List ℕ) → Finds (IsNumberOf name.text (map (λ rule. rule.name) th.rules)) (Some r) → Finds (AllZip (IsCitedAs named) arguments) (Some on) →
      Finds (IsStepOf th named first (by_rule_of name arguments) form) (Some (by_rule first.line form r on))
  rule_found r on f g = (by_its_rule name arguments r on refl f.0 g.0 refl, rule_same r on f g)

  pub no_rule : Finds (IsNumberOf name.text (map (λ rule. rule.name) th.rules)) None → Finds (IsStepOf th named first (by_rule_of name arguments) form) None
  no_rule f step (by_its_rule other others q ns why number cited same) =
      let e : other ≡ name = cc in
      f q (subst (λ (token : PlainToken). IsNumberOf token.text (map (λ rule. rule.name) th.rules) q) e number)

  pub no_citation : Finds (AllZip (IsCitedAs named) arguments) None → Finds (IsStepOf th named first (by_rule_of name arguments) form) None
  no_citation g step (by_its_rule other others q ns why number cited same) =
      let d : others ≡ arguments = cc in
      g ns (subst (λ (xs : List PlainArgument). AllZip (IsCitedAs named) xs ns) d cited)

abbrev made_of : List ℕ → ℕ → Step → MadeStep
made_of name line step = record { name = name; line = line; step = step }

module _ (th : Theory) (st : Theorem) (scope : Names) (named : List (List ℕ)) (first : PlainToken) (names : List PlainToken) (forms : List (List PlainToken)) (why : PlainJustification) where
  pub step_found : (n : List ℕ) (j : JudgmentScheme) (s : Step) → Finds (λ (said : List ℕ × JudgmentScheme). Says th st scope named names forms said.0 said.1) (Some (n, j)) →
      Finds (IsStepOf th named first why j) (Some s) → Finds (StandsFor th st scope named (step_of first names forms why)) (Some (made_of n first.line s))
  step_found n j s f g = (
    (refl, (j, f.0, g.0)),
    λ b h.
        let e = f.1 (b.name, h.1.0) h.1.1 in
        let name : b.name ≡ n = ap (λ (p : List ℕ × JudgmentScheme). p.0) e in
        let form : h.1.0 ≡ j = ap (λ (p : List ℕ × JudgmentScheme). p.1) e in
        let step : b.step ≡ s = g.1 b.step (subst (λ (x : JudgmentScheme). IsStepOf th named first why x b.step) form h.1.2) in
        ap (λ (x : List ℕ). made_of x b.line b.step) name ∙ ap (λ (x : ℕ). made_of n x b.step) h.0 ∙ ap (made_of n first.line) step,
  )

  pub not_justified : (n : List ℕ) (j : JudgmentScheme) → Finds (λ (said : List ℕ × JudgmentScheme). Says th st scope named names forms said.0 said.1) (Some (n, j)) →
      Finds (IsStepOf th named first why j) None → Finds (StandsFor th st scope named (step_of first names forms why)) None
  not_justified n j f g b h =
      let form : h.1.0 ≡ j = ap (λ (p : List ℕ × JudgmentScheme). p.1) (f.1 (b.name, h.1.0) h.1.1) in
      g b.step (subst (λ (x : JudgmentScheme). IsStepOf th named first why x b.step) form h.1.2)

  pub nothing_said : Finds (λ (said : List ℕ × JudgmentScheme). Says th st scope named names forms said.0 said.1) None →
      Finds (StandsFor th st scope named (step_of first names forms why)) None
  nothing_said f b h = f (b.name, h.1.0) h.1.1
