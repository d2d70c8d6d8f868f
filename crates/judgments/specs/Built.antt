-- What is built so far of judgments, rules and statements: those that a text stands for and that are bare.
use Rattle.std.specs.Prelude.{◌≡◌, ℕ, None, List, [], ◌++◌}
use Rattle.std.specs.List.{AllZip}
use Rattle.binding_terms.specs.Signature.{Signature}
use Rattle.outline_reader.specs.Plain.{PlainPortion}
use Rattle.scheme_terms.specs.declared.scheme.Root.TheVariants.{Closed}
use Rattle.rule_schemes.specs.Plain.{HasPlainNames}
use Rattle.rule_schemes.specs.Refused.{AllStrict}
use Rattle.rule_schemes.specs.Rules.{Rule, Theory, HasForms, HasGoodConclusion}
use Rattle.rule_schemes.specs.declared.rule.Judgment.{Judgment}
use Rattle.judgments.specs.Bare.{IsBareJudgment, IsBareStatement}
use Rattle.rule_schemes.specs.Reading.{Token}
use Rattle.rule_schemes.specs.Statement.{Theorem}
use Rattle.judgments.specs.Statements.{IsTheoremOf}
use Rattle.judgments.specs.Written.{WrittenInput}
use Rattle.judgments.specs.Texts.{JudgmentText, RuleText, TheoremText}
use Rattle.judgments.specs.Theory.{IsJudgmentOf, IsBlockRule}

abbrev pub IsBuiltJudgment : Signature → List PlainPortion → JudgmentText → Judgment → Type 0
IsBuiltJudgment sig portions text j = IsJudgmentOf sig portions text j × IsBareJudgment j

-- what is asked of a rule before it is added, and that nothing speaks against it
pub record IsGoodRule (th : Theory) (r : Rule) : Type 0 where
  pub forms : HasForms th r
  pub plain : HasPlainNames r
  pub closed : r.conclusion.context.root ≡ Closed
  pub bare : HasGoodConclusion r
  pub strict : AllStrict r

-- the theory with rules more, which stand for the written ones
pub record HasRulesOf (th : Theory) (texts : List RuleText) (more : Theory) : Type 0 where
  pub sig : more.sig ≡ th.sig
  pub judgments : more.judgments ≡ th.judgments
  pub added : List Rule
  pub rules : more.rules ≡ th.rules ++ added
  pub written : AllZip (IsBlockRule th.sig th.judgments) texts added

abbrev pub IsBuiltTheorem : Theory → TheoremText → Theorem → Type 0
IsBuiltTheorem th text st = IsTheoremOf th text st × IsBareStatement st

-- a theorem on derivations alone, without a root and targets
abbrev pub bare_text : (group : ℕ) → (name : List ℕ) → List WrittenInput → List (List Token) → TheoremText
bare_text n w inputs outputs = record { group = n; name = w; assumes = None; inputs = inputs; outputs = outputs; targets = [] }
