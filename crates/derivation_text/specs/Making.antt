-- What functions inside the crate say of a rule's pairs. No public clause cites it.
use Rattle.std.specs.Prelude.{◌≡◌, ℕ, List, [], ◌∷◌, ◌++◌}
use Rattle.binding_terms.specs.Signature.{Signature}
use Rattle.scheme_terms.specs.declared.scheme.MetaDecl.{MetaDecl}
use Rattle.rule_schemes.specs.Rules.{JudgmentScheme, JudgmentValue, Theory}
use Rattle.rule_schemes.specs.Derivation.{Derivation, judgment}
use Rattle.scheme_match.specs.Matching.{Matched, judgments, Matching, JudgmentsFit}
use Rattle.derivation_text.specs.Valid.{IsMade}

-- the premises with the judgments of the trees
abbrev pub premise_pairs : List JudgmentScheme → List Derivation → List Matched
premise_pairs (p ∷ ps) (d ∷ ds) = judgments p (judgment d) ∷ premise_pairs ps ds
premise_pairs _ _ = []

abbrev pub with_premises : Matching → List JudgmentScheme → List Derivation → Matching
with_premises m ps ds = record m { pairs = m.pairs ++ premise_pairs ps ds }

-- what is owed of a premise and a tree
abbrev pub PremiseFits : Signature → List MetaDecl → JudgmentScheme → Derivation → Type 0
PremiseFits sig metas p d = p.judgment ≡ (judgment d).judgment → JudgmentsFit sig metas p (judgment d)

abbrev pub HasNoTree : Theory → (rule : ℕ) → JudgmentValue → List Derivation → Type 0
HasNoTree th r j ds = (d : Derivation) → IsMade th r j ds d → ⊥
