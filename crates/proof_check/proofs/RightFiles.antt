-- A file stands for one theory, one list of statements and one list of steps at most.
use Rattle.std.proofs.Common.{◌≡◌, ◌≢◌, ℕ, List, map, length, Option, Some, None, refl, ap, sym, ◌∙◌, subst}
use Rattle.std.specs.Prelude.{MatchOption}
use Rattle.std.specs.List.{AllByRecursion}
use Rattle.binding_terms.specs.Signature.{Signature}
use Rattle.sy_base.specs.Tokens.{PlainToken, AreTokens, not_utf8, open_comment, open_quote}
use Rattle.sy_base.specs.TokenLaws.{TokensExcludeFault}
use Rattle.proof_lexer.specs.View.{IsRefusedFor}
use Rattle.proof_lexer.specs.declared.fault.LexFault.{LexFault}
use Rattle.proof_lexer.specs.declared.fault.LexFault.TheVariants.{NotUtf8, OpenComment, OpenQuote, NoMemory}
use Rattle.outline_reader.specs.Plain.{PlainPortion, HasPortions}
use Rattle.rule_schemes.specs.Rules.{Theory}
use Rattle.rule_schemes.specs.Statement.{Theorem}
use Rattle.rule_schemes.specs.Parts.{Parts}
use Rattle.rule_schemes.specs.View.{theory, statement}
use Rattle.rule_schemes.specs.declared.rule.Statement.{Statement}
use Rattle.core_proofs.specs.View.{step}
use Rattle.core_proofs.specs.declared.step.CoreStep.{CoreStep}
use Rattle.core_proofs.specs.Step.{Step}
use Rattle.core_proofs.specs.Kept.{Kept, kept_theory, kept_statements, kept_steps}
use Rattle.core_proofs.specs.Proof.{Proves}
use Rattle.user_grammar.specs.Grammar.{IsSignatureOf}
use Rattle.judgments.specs.Bare.{IsBareTheory, IsBareStatement}
use Rattle.judgments.specs.Theory.{IsTheoryOf}
use Rattle.judgments.specs.Statements.{AreStatementsOf}
use Rattle.proof_check.specs.Steps.{AreStepsOf}
use Rattle.proof_check.proofs.LeadsLemmas.{proved_have_one}
use Rattle.proof_check.specs.File.{IsFileOf, IsBuiltFileOf, IsRightSoFar, IsOnlyFile}

-- what is found is the one that is so in another sense, which comes to the same
pub only_as : (P Q : Theory → List Theorem → List Step → Type 0) (found : Option Kept)
    → ((th : Theory) (sts : List Theorem) (steps : List Step) → P th sts steps → Q th sts steps)
    → ((th : Theory) (sts : List Theorem) (steps : List Step) → Q th sts steps → P th sts steps) → IsOnlyFile P found → IsOnlyFile Q found
only_as P Q None there back never = λ th sts steps is. never th sts steps (back th sts steps is)
only_as P Q (Some kept) there back only = (there _ _ _ only.0, λ th sts steps is. only.1 th sts steps (back th sts steps is))

-- the portions of a source stand for what the source is
pub right_there : (source : List ℕ) (portions : List PlainPortion) → HasPortions source portions → (th : Theory) (sts : List Theorem) (steps : List Step)
    → IsBuiltFileOf portions th sts steps → IsRightSoFar source th sts steps
right_there source portions has th sts steps is = record { portions = portions; has = has; file = is.0; built = is.1 }

pub right_back : (source : List ℕ) (portions : List PlainPortion) → ((others : List PlainPortion) → HasPortions source others → others ≡ portions)
    → (th : Theory) (sts : List Theorem) (steps : List Step) → IsRightSoFar source th sts steps → IsBuiltFileOf portions th sts steps
right_back source portions only th sts steps right =
    (subst (λ (ps : List PlainPortion). IsFileOf ps th sts steps) (only right.portions right.has) right.file, right.built)

-- the one theory of a signature
pub theory_there : (portions : List PlainPortion) (sig : Signature) (one : Theory) → one.sig ≡ sig → (th : Theory) (sts : List Theorem) (steps : List Step)
    → (th ≡ one) × IsBuiltFileOf portions th sts steps → (th.sig ≡ sig) × IsBuiltFileOf portions th sts steps
theory_there portions sig one same th sts steps is = (ap (λ t. t.sig) is.0 ∙ same, is.1)

pub theory_back : (portions : List PlainPortion) (sig : Signature) (one : Theory) → ((th : Theory) → th.sig ≡ sig → IsTheoryOf portions th → IsBareTheory th → th ≡ one)
    → (th : Theory) (sts : List Theorem) (steps : List Step) → (th.sig ≡ sig) × IsBuiltFileOf portions th sts steps → (th ≡ one) × IsBuiltFileOf portions th sts steps
theory_back portions sig one only th sts steps is = (only th is.0 is.1.0.theory is.1.1.theory, is.1)

-- the one list of statements of a theory
pub statements_there : (portions : List PlainPortion) (one : Theory) (ones : List Theorem) → IsBareTheory one → AllByRecursion IsBareStatement ones
    → (th : Theory) (sts : List Theorem) (steps : List Step) → (th ≡ one) × (sts ≡ ones) × IsFileOf portions th sts steps → (th ≡ one) × IsBuiltFileOf portions th sts steps
statements_there portions one ones bare bare_ones th sts steps is =
    (is.0, (is.2, record { theory = subst IsBareTheory (sym is.0) bare; are_bare = subst (AllByRecursion IsBareStatement) (sym is.1) bare_ones }))

pub statements_back : (portions : List PlainPortion) (one : Theory) (ones : List Theorem)
    → ((sts : List Theorem) → AreStatementsOf portions one sts → AllByRecursion IsBareStatement sts → sts ≡ ones)
    → (th : Theory) (sts : List Theorem) (steps : List Step) → (th ≡ one) × IsBuiltFileOf portions th sts steps → (th ≡ one) × (sts ≡ ones) × IsFileOf portions th sts steps
statements_back portions one ones only th sts steps is =
    (is.0, only sts (subst (λ (t : Theory). AreStatementsOf portions t sts) is.0 is.1.0.are_statements) is.1.1.are_bare, is.1.0)

pub no_statements : (portions : List PlainPortion) (one : Theory) → ((sts : List Theorem) → AreStatementsOf portions one sts → AllByRecursion IsBareStatement sts → ⊥)
    → (th : Theory) (sts : List Theorem) (steps : List Step) → (th ≡ one) × IsBuiltFileOf portions th sts steps → ⊥
no_statements portions one never th sts steps is = never sts (subst (λ (t : Theory). AreStatementsOf portions t sts) is.0 is.1.0.are_statements) is.1.1.are_bare

-- the steps of statements
steps_in : (portions : List PlainPortion) (one : Theory) (ones : List Theorem) (th : Theory) (sts : List Theorem) (steps : List Step)
    → (th ≡ one) × (sts ≡ ones) × IsFileOf portions th sts steps → IsFileOf portions one ones steps
steps_in portions one ones th sts steps is =
    subst (λ (s : List Theorem). IsFileOf portions one s steps) is.1 (subst (λ (t : Theory). IsFileOf portions t sts steps) is.0 is.2)

pub no_steps : (portions : List PlainPortion) (one : Theory) (ones : List Theorem) → ((steps : List Step) → AreStepsOf portions one ones steps → ⊥)
    → (th : Theory) (sts : List Theorem) (steps : List Step) → (th ≡ one) × (sts ≡ ones) × IsFileOf portions th sts steps → ⊥
no_steps portions one ones never th sts steps is = never steps (steps_in portions one ones th sts steps is).are_steps

-- what was proved of the one list of steps is the file
pub proved_steps : (portions : List PlainPortion) (one : Theory) (ones : List Theorem) (those : List Step) → IsSignatureOf portions one.sig → IsTheoryOf portions one
    → AreStatementsOf portions one ones → AreStepsOf portions one ones those → ((steps : List Step) → AreStepsOf portions one ones steps → steps ≡ those)
    → (found : Option Kept)
    → MatchOption found (Proves one ones those → ⊥) (λ kept. (kept_theory kept ≡ one) × (kept_statements kept ≡ ones) × (kept_steps kept ≡ those) × Proves one ones those)
    → IsOnlyFile (λ th sts steps. (th ≡ one) × (sts ≡ ones) × IsFileOf portions th sts steps) found
proved_steps portions one ones those sig theory are steps only None never = λ th sts ss is.
    let file = steps_in portions one ones th sts ss is in
    never (subst (λ (s : List Step). Proves one ones s) (only ss file.are_steps) file.proves)
proved_steps portions one ones those sig theory are steps only (Some kept) found = (
  (
    found.0,
    found.1,
    subst (λ (t : Theory). IsFileOf portions t (kept_statements kept) (kept_steps kept)) (sym found.0)
        (subst (λ (s : List Theorem). IsFileOf portions one s (kept_steps kept)) (sym found.1)
        (subst (λ (s : List Step). IsFileOf portions one ones s) (sym found.2)
        (record { signature = sig; theory = theory; are_statements = are; are_steps = steps; proves = found.3 }))),
  ),
  λ th sts ss is. (is.0 ∙ sym found.0, is.1 ∙ sym found.1, only ss (steps_in portions one ones th sts ss is).are_steps ∙ sym found.2),
)

-- a source that was refused has no tokens
pub no_tokens : (source : List ℕ) (fault : LexFault) → fault ≢ NoMemory → IsRefusedFor source fault → TokensExcludeFault → (tokens : List PlainToken) → AreTokens source tokens → ⊥
no_tokens source (NotUtf8 place) want is apart tokens are = apart source tokens (not_utf8 place) are is
no_tokens source (OpenComment place) want is apart tokens are = apart source tokens (open_comment place) are is
no_tokens source (OpenQuote place) want is apart tokens are = apart source tokens (open_quote place) are is
no_tokens source NoMemory want is apart tokens are = want refl

-- what was kept is what was handed in
pub as_kept : (system : Parts) (statements : List Statement) (steps : List CoreStep) (found : Option Kept)
    → MatchOption found (Proves (theory system) (map statement statements) (map step steps) → ⊥)
    (λ kept. (kept ≡ record { system = system; statements = statements; steps = steps }) × Proves (theory system) (map statement statements) (map step steps))
    → MatchOption found (Proves (theory system) (map statement statements) (map step steps) → ⊥)
    (λ kept. (kept_theory kept ≡ theory system) × (kept_statements kept ≡ map statement statements) × (kept_steps kept ≡ map step steps)
    × Proves (theory system) (map statement statements) (map step steps))
as_kept system statements steps None is = is
as_kept system statements steps (Some kept) is = (ap kept_theory is.0, ap kept_statements is.0, ap kept_steps is.0, is.1)

-- the one signature of a file
pub signature_there : (portions : List PlainPortion) (sig : Signature) (th : Theory) (sts : List Theorem) (steps : List Step)
    → (th.sig ≡ sig) × IsBuiltFileOf portions th sts steps → IsBuiltFileOf portions th sts steps
signature_there portions sig th sts steps is = is.1

-- a file one of whose statements has not one conclusion has no proofs
pub not_one : (portions : List PlainPortion) (one : Theory) (ones : List Theorem)
    → ((sts : List Theorem) → AreStatementsOf portions one sts → AllByRecursion IsBareStatement sts → sts ≡ ones)
    → (AllByRecursion (λ st. length st.outputs ≡ 1) ones → ⊥)
    → (th : Theory) (sts : List Theorem) (steps : List Step) → (th ≡ one) × IsBuiltFileOf portions th sts steps → ⊥
not_one portions one ones only never th sts steps is =
    let same : sts ≡ ones = only sts (subst (λ (t : Theory). AreStatementsOf portions t sts) is.0 is.1.0.are_statements) is.1.1.are_bare in
    never (subst (AllByRecursion (λ st. length st.outputs ≡ 1)) same (proved_have_one th sts steps is.1.0.proves))
