-- Which fault a rule is refused with, and what a system keeps with a rule more.
use Rattle.std.proofs.Common.{◌≡◌, ◌↔◌, ◌<◌, ◌+◌, ◌^◌, ℕ, get_or, arith, Bool, List, [], ◌∷◌, ◌++◌, length, map, inl, inr, refl, ◌∙◌, ap, sym, subst}
use Rattle.std.specs.List.{AllByRecursion}
use Rattle.std.proofs.lemmas.List.{map-append, length_push}
use Rattle.binding_terms.specs.Numbered.{AnyByRecursion, AreDifferent}
use Rattle.binding_terms.proofs.Lists.{all_push, all_weaker, match_within}
use Rattle.rule_schemes.specs.declared.fault.RuleFault.{RuleFault}
use Rattle.rule_schemes.specs.declared.fault.RuleFault.TheVariants.{BadConclusion, NotStrict, NeedsContext, TwoAssumptions, NoMemory}
use Rattle.rule_schemes.specs.Rules.{Rule, Theory, JudgmentScheme, MayStand, HasForms, RuleFits, IsSystemSoFar, assumed}
use Rattle.rule_schemes.specs.Rows.{AreMarks, HasAlsoAt, IsKeptSystem}
use Rattle.rule_schemes.specs.Parts.{Parts}
use Rattle.rule_schemes.specs.View.{theory, rule}
use Rattle.rule_schemes.specs.declared.rule.RuleScheme.{RuleScheme}
use Rattle.rule_schemes.specs.Touching.{AreKept, HasJudgments, IsMarkedIn}
use Rattle.rule_schemes.specs.Refused.{IsFirstMisplaced, Refuses, IsTaken, with_rule}
use Rattle.rule_schemes.proofs.AssumptionLemmas.{alike_once, not_alike_at, different_with_rule}
use Rattle.rule_schemes.proofs.RowLemmas.{AreRows-below, AreRows-with_rule}
use Rattle.rule_schemes.proofs.StrictLemmas.{first_unique, first_not_all}

abbrev Placed : Theory → Rule → List JudgmentScheme → Type 0
Placed th r ps = AllByRecursion (λ p. MayStand th r.conclusion.context.root p.context.root p.judgment) ps

misplaced_not_all : (th : Theory) (r : Rule) (ps : List JudgmentScheme) (j : ℕ) → IsFirstMisplaced th r ps j → Placed th r ps → ⊥
misplaced_not_all th r [] j first all = first
misplaced_not_all th r (p ∷ ps) j (inl first) all = first.1 all.0
misplaced_not_all th r (p ∷ ps) j (inr first) all = misplaced_not_all th r ps j first.1 all.1

misplaced_unique : (th : Theory) (r : Rule) (ps : List JudgmentScheme) (j k : ℕ) → IsFirstMisplaced th r ps j → IsFirstMisplaced th r ps k → j ≡ k
misplaced_unique th r [] j k a b = absurd a
misplaced_unique th r (p ∷ ps) j k (inl a) (inl b) = sym a.0 ∙ b.0
misplaced_unique th r (p ∷ ps) j k (inl a) (inr b) = absurd (a.1 b.0)
misplaced_unique th r (p ∷ ps) j k (inr a) (inl b) = absurd (b.1 a.0)
misplaced_unique th r (p ∷ ps) j k (inr a) (inr b) = misplaced_unique th r ps j k a.1 b.1

module _ (th : Theory) (r : Rule) (different : AreDifferent (assumed th.rules)) where
  -- a rule is refused with one fault
  Refuses-once : (f g : RuleFault) → Refuses th r f → Refuses th r g → f ≡ g
  Refuses-once BadConclusion BadConclusion h k = refl
  Refuses-once BadConclusion (NotStrict m) h k = absurd (h k.good_conclusion)
  Refuses-once BadConclusion (NeedsContext j) h k = absurd (h k.good_conclusion)
  Refuses-once BadConclusion (TwoAssumptions q) h k = absurd (h k.good_conclusion)
  Refuses-once (NotStrict m) BadConclusion h k = absurd (k h.good_conclusion)
  Refuses-once (NotStrict m) (NotStrict n) h k =
      let same : m.0 ≡ n.0 = first_unique r r.metas 0 m.0 n.0 h.first k.first in ap (λ i. NotStrict (record { 0 = i })) same
  Refuses-once (NotStrict m) (NeedsContext j) h k = absurd (first_not_all r r.metas 0 m.0 h.first k.strict)
  Refuses-once (NotStrict m) (TwoAssumptions q) h k = absurd (first_not_all r r.metas 0 m.0 h.first k.strict)
  Refuses-once (NeedsContext j) BadConclusion h k = absurd (k h.good_conclusion)
  Refuses-once (NeedsContext j) (NotStrict m) h k = absurd (first_not_all r r.metas 0 m.0 k.first h.strict)
  Refuses-once (NeedsContext i) (NeedsContext j) h k =
      let same : i.0 ≡ j.0 = misplaced_unique (with_rule th r) r r.premises i.0 j.0 h.first k.first in ap (λ n. NeedsContext (record { 0 = n })) same
  Refuses-once (NeedsContext j) (TwoAssumptions q) h k = absurd (misplaced_not_all (with_rule th r) r r.premises j.0 h.first k.placed)
  Refuses-once (TwoAssumptions q) BadConclusion h k = absurd (k h.good_conclusion)
  Refuses-once (TwoAssumptions q) (NotStrict m) h k = absurd (first_not_all r r.metas 0 m.0 k.first h.strict)
  Refuses-once (TwoAssumptions q) (NeedsContext j) h k = absurd (misplaced_not_all (with_rule th r) r r.premises j.0 k.first h.placed)
  Refuses-once (TwoAssumptions p) (TwoAssumptions q) h k =
      let same : p.0 ≡ q.0 = alike_once th.rules r p.0 q.0 different h.alike k.alike in ap (λ n. TwoAssumptions (record { 0 = n })) same
  Refuses-once NoMemory g h k = absurd h
  Refuses-once f NoMemory h k = absurd k

  pub Refuses-only : (f : RuleFault) → Refuses th r f → (g : RuleFault) → (f ≡ g) ↔ Refuses th r g
  Refuses-only f h g = (λ e. subst (Refuses th r) e h, λ k. Refuses-once f g h k)

-- one that is taken is refused for nothing
pub Refuses-none : (th : Theory) (r : Rule) → IsTaken th r → (fault : RuleFault) → Refuses th r fault → ⊥
Refuses-none th r taken BadConclusion h = h taken.good_conclusion
Refuses-none th r taken (NotStrict m) h = first_not_all r r.metas 0 m.0 h.first taken.strict
Refuses-none th r taken (NeedsContext j) h = misplaced_not_all (with_rule th r) r r.premises j.0 h.first taken.placed
Refuses-none th r taken (TwoAssumptions q) h = not_alike_at th.rules r q.0 taken.alone h.alike
Refuses-none th r taken NoMemory h = h

-- the judgments of a rule whose forms are over its names
pub HasForms-judgments : (th : Theory) (r : Rule) → HasForms th r → HasJudgments (length th.judgments) r
HasForms-judgments th r forms =
    record {
      conclusion = match_within th.judgments r.conclusion.judgment _ forms.conclusion;
      premises = all_weaker (λ p form. match_within th.judgments p.judgment _ form) r.premises forms.premises;
    }

pub IsKeptSystem-kept : (th : Theory) (rows : List (List Bool)) → IsKeptSystem th rows → AreKept th rows
IsKeptSystem-kept th rows system =
    record {
      below = AreRows-below (length th.judgments) th.rules rows system.rows;
      in_range = all_weaker (λ r fits. HasForms-judgments th r fits.forms) th.rules system.so_far.rules;
    }

pub taken_fits : (th : Theory) (r : Rule) → HasForms th r → IsTaken th r → RuleFits th r
taken_fits th r forms taken = record { forms = forms; good_conclusion = taken.good_conclusion; strict = taken.strict }

-- what a rule needs of the theory does not depend on the other rules
fits_with : (th : Theory) (r s : Rule) → RuleFits th s → RuleFits (with_rule th r) s
fits_with th r s fits =
    record {
      forms = record { conclusion = fits.forms.conclusion; premises = fits.forms.premises; roots = fits.forms.roots; entries = fits.forms.entries };
      good_conclusion = fits.good_conclusion;
      strict = fits.strict;
    }

-- what holds of a system holds with a rule more
pub IsSystemSoFar-with_rule : (th : Theory) (r : Rule) → IsSystemSoFar th → HasForms th r → IsTaken th r → IsSystemSoFar (with_rule th r)
IsSystemSoFar-with_rule th r system forms taken =
    record {
      sig = system.sig;
      judgments = system.judgments;
      rules = all_push (RuleFits (with_rule th r)) th.rules r (all_weaker (fits_with th r) th.rules system.rules) (fits_with th r r (taken_fits th r forms taken));
      one_assumption = different_with_rule th.rules r system.one_assumption taken.alone;
    }

module _ (th : Theory) (r : Rule) (rows new : List (List Bool)) (more : List Bool) where
  -- the rows with the rule's marks
  pub IsKeptSystem-with_rule : IsKeptSystem th rows → HasForms th r → IsTaken th r → length th.rules < 2 ^ 32
      → AreMarks (length th.judgments) (λ y. AnyByRecursion (λ p. IsMarkedIn rows p.judgment y) r.premises) more → length new ≡ length rows
      → ((x : ℕ) → x < length rows → HasAlsoAt r.conclusion.judgment (get_or rows x []) more (get_or new x [])) → IsKeptSystem (with_rule th r) new
  IsKeptSystem-with_rule system forms taken room marks long also =
      record {
        so_far = IsSystemSoFar-with_rule th r system.so_far forms taken;
        rows = AreRows-with_rule (length th.judgments) th.rules r rows system.rows (HasForms-judgments th r forms) more marks new long also;
        judgments = system.judgments;
        rules = (let count : length (th.rules ++ r ∷ []) ≡ length th.rules + 1 = length_push th.rules r in omega (arith, count, room));
      }

-- the theory of parts with a rule more
pub theory-push : (parts : Parts) (rs : List RuleScheme) (r : RuleScheme) → rs ≡ parts.rules ++ r ∷ []
    → theory (record { sig = parts.sig; judgments = parts.judgments; rules = rs }) ≡ with_rule (theory parts) (rule r)
theory-push parts rs r e =
    ap (λ (l : List Rule). record { sig = parts.sig; judgments = parts.judgments; rules = l })
    (ap (map rule) e ∙ map-append rule parts.rules (r ∷ []))
