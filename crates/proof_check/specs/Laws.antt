-- What holds of all files. To be held against docs/notation.md, 'Files'.
use Rattle.std.specs.Prelude.{List, []}
use Rattle.std.specs.List.{AllByRecursion}
use Rattle.binding_terms.specs.Signature.{Signature}
use Rattle.outline_reader.specs.Plain.{PlainPortion}
use Rattle.rule_schemes.specs.Rules.{Theory}
use Rattle.user_grammar.specs.Grammar.{IsSignatureOf}
use Rattle.proof_check.specs.File.{IsFileOf, IsGrammarPortion}

-- the theory of a signature, without judgments and rules
abbrev pub theory_over : Signature → Theory
theory_over sig = record { sig = sig; judgments = []; rules = [] }

-- a grammar alone stands for a file: for its signature, no judgments and rules, no statements and no steps
abbrev pub GrammarsAreFiles : Type 0
GrammarsAreFiles =
    (portions : List PlainPortion) (sig : Signature) → IsSignatureOf portions sig → AllByRecursion IsGrammarPortion portions →
    IsFileOf portions (theory_over sig) [] []
