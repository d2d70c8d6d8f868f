-- The steps of a proof, portion by portion.
use Rattle.std.proofs.Common.{◌≡◌, ◌<◌, ◌+◌, ℕ, suc, List, [], ◌∷◌, ◌++◌, Option, Some, None, unwrap_or, length, get_or, drop, refl, ap, subst, ◌∙◌, inl, inr, append_assoc}
use Rattle.scheme_terms.specs.Forms.{Names}
use Rattle.rule_schemes.specs.Rules.{Theory}
use Rattle.rule_schemes.specs.Statement.{Theorem}
use Rattle.core_proofs.specs.Step.{Step, end_theorem}
use Rattle.outline_reader.specs.declared.parts.Portion.{Portion}
use Rattle.outline_reader.specs.Views.{portion_view}
use Rattle.outline_reader.specs.Plain.{PlainPortion, terminals, syntax_word, category, judgment_of, rule_of, theorem_of, step_of, inversion, case_rule, case_term, end_line, plain_portion}
use Rattle.proof_check.specs.Finding.{Finds, Begins, Adds}
use Rattle.proof_check.specs.Steps.{MadeStep, StandsFor, IsProofEnd, AreStepsFrom, AreProofSteps}
use Rattle.proof_check.specs.View.{plain_portions}
use Rattle.proof_check.proofs.FindingLemmas.{begins_then}
use Rattle.binding_terms.proofs.Lists.{drop_from}

pub adds_then : {A : Type 0} (old mid new g : List A) (P Q R : List A → Type 0) → Adds old mid P Q → new ≡ mid ++ g → Begins Q R g → Adds old new P R
adds_then old mid new g P Q R a e b =
    (a.0 ++ g, e ∙ ap (λ xs. xs ++ g) a.1 ∙ append_assoc old a.0 g, begins_then P Q R a.0 g a.2 b)

pub adds_none : {A : Type 0} (old mid : List A) (P Q : List A → Type 0) → Adds old mid P Q → ((rest : List A) → Q rest → ⊥) → (all : List A) → P all → ⊥
adds_none old mid P Q a none all h = (let c = a.2.complete all h in none c.0 c.2)

-- an `end` line makes no step
end_makes_none : (th : Theory) (st : Theorem) (scope : Names) (named : List (List ℕ)) (p : PlainPortion) (line : ℕ) (made : MadeStep) → IsProofEnd p line → StandsFor th st scope named p made → ⊥
end_makes_none th st scope named (terminals first items) line made e h = h
end_makes_none th st scope named (syntax_word first) line made e h = h
end_makes_none th st scope named (category name mark productions) line made e h = h
end_makes_none th st scope named (judgment_of first name form assumes) line made e h = h
end_makes_none th st scope named (rule_of premises name conclusion) line made e h = h
end_makes_none th st scope named (theorem_of first joined kind name assumes inputs outputs targets) line made e h = h
end_makes_none th st scope named (step_of first names forms why) line made e h = e
end_makes_none th st scope named (inversion first subject premises name conclusion) line made e h = h
end_makes_none th st scope named (case_rule first premises name conclusion) line made e h = h
end_makes_none th st scope named (case_term first form assumes) line made e h = h
end_makes_none th st scope named (end_line first part) line made e h = h

module _ (th : Theory) (sts : List Theorem) (k : ℕ) (st : Theorem) (scope : Names) (named : List (List ℕ)) (last : Option ℕ) (p : PlainPortion) (portions : List PlainPortion) where
  step_whole : (made : MadeStep) → Finds (StandsFor th st scope named p) (Some made) → Finds (IsProofEnd p) None →
      (all : List Step) → AreProofSteps th sts k st scope named last (p ∷ portions) all →
      (rest : List Step) × (all ≡ (made.step ∷ []) ++ rest) × AreProofSteps th sts k st scope (named ++ made.name ∷ []) (Some made.line) portions rest
  step_whole made f no_end all (inl h) = absurd (no_end h.0 h.2)
  step_whole made f no_end all (inr h) =
      let same : h.0 ≡ made = f.1 h.0 h.2 in (
        h.1,
        h.3 ∙ ap (λ (m : MadeStep). m.step ∷ h.1) same,
        subst (λ (m : MadeStep). AreProofSteps th sts k st scope (named ++ m.name ∷ []) (Some m.line) portions h.1) same h.4,
      )

  pub step_turn : (made : MadeStep) → Finds (StandsFor th st scope named p) (Some made) → Finds (IsProofEnd p) None →
      Begins (AreProofSteps th sts k st scope named last (p ∷ portions)) (AreProofSteps th sts k st scope (named ++ made.name ∷ []) (Some made.line) portions) (made.step ∷ [])
  step_turn made f no_end = record { sound = λ rest h. inr (made, rest, f.0, refl, h); complete = step_whole made f no_end }

  pub step_stop : Finds (StandsFor th st scope named p) None → Finds (IsProofEnd p) None → (all : List Step) → AreProofSteps th sts k st scope named last (p ∷ portions) all → ⊥
  step_stop f no_end all (inl h) = no_end h.0 h.2
  step_stop f no_end all (inr h) = f h.0 h.2

  end_whole : (line : ℕ) → Finds (IsProofEnd p) (Some line) → (all : List Step) → AreProofSteps th sts k st scope named last (p ∷ portions) all →
      (rest : List Step) × (all ≡ (end_theorem (unwrap_or last line) ∷ []) ++ rest) × AreStepsFrom th sts (suc k) portions rest
  end_whole line f all (inl h) = (h.1, h.3 ∙ ap (λ (n : ℕ). end_theorem (unwrap_or last n) ∷ h.1) (f.1 h.0 h.2), h.4)
  end_whole line f all (inr h) = absurd (end_makes_none th st scope named p line h.0 f.0 h.2)

  pub end_turn : (line : ℕ) → Finds (IsProofEnd p) (Some line) →
      Begins (AreProofSteps th sts k st scope named last (p ∷ portions)) (AreStepsFrom th sts (suc k) portions) (end_theorem (unwrap_or last line) ∷ [])
  end_turn line f = record { sound = λ rest h. inl (line, rest, f.0, refl, h); complete = end_whole line f }

-- the portions from a place on
pub seen_at : (portions : List Portion) (i : ℕ) (p : Portion) (plain : PlainPortion) → i < length portions → p ≡ get_or portions i p → plain_portion (portion_view p) ≡ plain →
    plain_portions (drop i portions) ≡ plain ∷ plain_portions (drop (i + 1) portions)
seen_at portions i p plain lt is same = ap plain_portions (drop_from portions i p lt is) ∙ ap (λ (q : PlainPortion). q ∷ plain_portions (drop (i + 1) portions)) same
