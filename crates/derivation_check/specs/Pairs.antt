-- What functions inside the crate say of a rule's pairs. No public clause cites it.
use Rattle.std.specs.Prelude.{◌≡◌, List, [], ◌∷◌, ◌++◌}
use Rattle.binding_terms.specs.Signature.{Signature}
use Rattle.binding_terms.specs.Tree.{Tree}
use Rattle.scheme_terms.specs.SchemeTree.{SchemeTree}
use Rattle.scheme_terms.specs.Forms.{SchemeEntry, ContextValue}
use Rattle.scheme_terms.specs.declared.scheme.MetaDecl.{MetaDecl}
use Rattle.rule_schemes.specs.Rules.{JudgmentScheme, Rule, Theory, IsAssumption}
use Rattle.rule_schemes.specs.Derivation.{Derivation, judgment}
use Rattle.scheme_match.specs.Matching.{Matched, judgments, terms, Matching, JudgmentsFit}

-- the premises with the judgments of the trees
abbrev pub premise_pairs : List JudgmentScheme → List Derivation → List Matched
premise_pairs (p ∷ ps) (d ∷ ds) = judgments p (judgment d) ∷ premise_pairs ps ds
premise_pairs _ _ = []

abbrev pub with_premises : Matching → List JudgmentScheme → List Derivation → Matching
with_premises m ps ds = record m { pairs = m.pairs ++ premise_pairs ps ds }

-- what is owed of a premise and a tree
abbrev pub PremiseFits : Signature → List MetaDecl → JudgmentScheme → Derivation → Type 0
PremiseFits sig metas p d = p.judgment ≡ (judgment d).judgment → JudgmentsFit sig metas p (judgment d)

-- the schemes with the terms that they are to become, under no locals
abbrev pub term_pairs : List SchemeTree → List Tree → List Matched
term_pairs (s ∷ ss) (t ∷ ts) = terms 0 s t ∷ term_pairs ss ts
term_pairs _ _ = []

abbrev pub with_terms : Matching → List SchemeTree → List Tree → Matching
with_terms m ss ts = record m { pairs = m.pairs ++ term_pairs ss ts }

-- an entry's arguments, over a context
abbrev pub entry_matching : Theory → List MetaDecl → ContextValue → List SchemeTree → List Tree → Matching
entry_matching th metas v ss ts = record { sig = th.sig; metas = metas; knowns = []; root = v; pairs = term_pairs ss ts }

-- the rule is an assumption rule, and this is its entry
abbrev pub IsEntryOfRule : Rule → SchemeEntry → Type 0
IsEntryOfRule r e = IsAssumption r × (r.conclusion.context.entries ≡ e ∷ [])
