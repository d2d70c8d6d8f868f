-- The one reading of a form as a judgment.
use Rattle.std.proofs.Common.{◌≡◌, ℕ, List, Option, Some, None, MatchOption, option_map, ap, subst, []}
use Rattle.binding_terms.specs.Signature.{Signature}
use Rattle.scheme_terms.specs.Forms.{Names}
use Rattle.rule_schemes.specs.Rules.{JudgmentScheme}
use Rattle.rule_schemes.specs.Reading.{Token}
use Rattle.rule_schemes.specs.Said.{a_judgment, Said}
use Rattle.rule_schemes.specs.declared.rule.Judgment.{Judgment}
use Rattle.rule_schemes.specs.declared.rule.JScheme.{JScheme}
use Rattle.rule_schemes.specs.View.{judgment_scheme}
use Rattle.judgments.specs.Written.{ReadsOnlyAs}
use Rattle.proof_check.specs.Finding.{Finds}

-- a form has no other reading than its one
only_reading : (sig : Signature) (js : List Judgment) (names : Names) (ts : List Token) (i j : JudgmentScheme) → ReadsOnlyAs sig js names ts i → ReadsOnlyAs sig js names ts j → j ≡ i
only_reading sig js names ts i j a b =
    let e = a.reading.no_other (0, record { written = a_judgment j; metas = []; knowns = [] }) b.reading.reads in
    let w : a_judgment j ≡ a_judgment i = ap (λ (answer : ℕ × Said). answer.1.written) e in
    cc

-- what reads the form, or tells that nothing does, finds its reading
pub reading_found : (sig : Signature) (js : List Judgment) (names : Names) (us ts : List Token) (found : Option JScheme) → us ≡ ts →
    MatchOption found ((j : JudgmentScheme) → ReadsOnlyAs sig js names us j → ⊥) (λ j. ReadsOnlyAs sig js names us (judgment_scheme j)) →
    Finds (ReadsOnlyAs sig js names ts) (option_map judgment_scheme found)
reading_found sig js names us ts None same none = subst (λ vs. (j : JudgmentScheme) → ReadsOnlyAs sig js names vs j → ⊥) same none
reading_found sig js names us ts (Some form) same is =
    let here = subst (λ vs. ReadsOnlyAs sig js names vs (judgment_scheme form)) same is in
    (here, λ j also. only_reading sig js names ts (judgment_scheme form) j here also)
