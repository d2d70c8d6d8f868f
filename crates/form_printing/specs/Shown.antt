-- What the three calls print. To be held against docs/notation.md, 'Printing'.
use Rattle.std.specs.Prelude.{ℕ, List, [], map, reverse}
use Rattle.binding_terms.specs.Signature.{Signature}
use Rattle.binding_terms.specs.declared.grammar.CatId.{CatId}
use Rattle.rule_schemes.specs.declared.rule.Judgment.{Judgment}
use Rattle.rule_schemes.specs.Rules.{JudgmentScheme}
use Rattle.rule_schemes.specs.Printing.{Labels, Variable, judgment_tokens, numbered}

-- The variables of locals whose categories are listed, the outermost first: each is numbered one more than the greatest of its
-- category outside it. The scope has the innermost first.
abbrev pub local_variables : List CatId → List Variable
local_variables locals = reverse (numbered [] (map (λ c. c.0) locals))

-- a judgment by its form among these
abbrev pub judgment_written : Signature → List Judgment → Labels → JudgmentScheme → List (List ℕ)
judgment_written sig judgments labels j = judgment_tokens (record { sig = sig; judgments = judgments; rules = [] }) labels j
