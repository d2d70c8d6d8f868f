-- The faults of one form of a rule or a statement: which code stands at its first token, with which detail. To be held against 'Readings'
-- and 'Faults of judgments and rules' of docs/notation.md.
use Rattle.std.specs.Prelude.{◌≡◌, ◌<◌, ◌≤◌, ℕ, List, [], ◌∷◌, ◌++◌, length, codes, decimal}
use Rattle.std.specs.List.{AllByRecursion}
use Rattle.binding_terms.specs.Signature.{Signature}
use Rattle.sy_base.specs.Tokens.{PlainToken}
use Rattle.sy_base.specs.declared.fault.Code.{Code}
use Rattle.sy_base.specs.declared.fault.Code.TheVariants as code
use Rattle.scheme_terms.specs.Forms.{Names}
use Rattle.scheme_terms.specs.SchemeScope.{StandsWith}
use Rattle.rule_schemes.specs.Said.{want_judgment, HasNoReading, AreFirstTwo}
use Rattle.rule_schemes.specs.Rules.{JudgmentScheme, ENTRIES}
use Rattle.rule_schemes.specs.Printing.{text_of, judgment_tokens, labels_of}
use Rattle.rule_schemes.specs.declared.rule.Judgment.{Judgment}
use Rattle.phase_faults.specs.Written.{as_read, IsFirstToken}
use Rattle.phase_faults.specs.Telling.{IsUntold}
use Rattle.phase_faults.specs.Read.{TOKENS, says_judgment, scope_of, IsRead}

-- Of a form among those that tell its names' parameters, which it shares with the other forms of its rule or statement.
module _ (sig : Signature) (js : List Judgment) (telling : List (List PlainToken)) (names : Names) where
  -- the form has at most 256 tokens, each of its metavariables has parameters, and it has no reading
  pub record IsUnreadable (form : List PlainToken) : Type 0 where
    pub within : length form ≤ TOKENS
    pub told : AllByRecursion (λ token. IsUntold sig telling token → ⊥) form
    pub unread : HasNoReading sig js (scope_of names) (want_judgment ∷ []) (as_read form)

  -- these two judgments are the first two readings of the form, which has at most 256 tokens
  pub record IsAmbiguous (form : List PlainToken) (first second : JudgmentScheme) : Type 0 where
    pub within : length form ≤ TOKENS
    pub two : AreFirstTwo sig js (scope_of names) (want_judgment ∷ []) (as_read form) (0, says_judgment first) (0, says_judgment second)

  -- a reading as it is told
  abbrev pub reading_text : JudgmentScheme → List ℕ
  reading_text j = text_of (judgment_tokens (record { sig = sig; judgments = js; rules = [] }) (labels_of names) j)

  -- A code stands at the first token of a form: its one reading has more than 8 explicit entries; it has more than 256 tokens; it has no
  -- reading; it has two different readings, and the first two are told; or the context of its one reading is not the root with entries.
  pub data IsFormFault (form : List PlainToken) (found : Code) (token : PlainToken) (detail : List ℕ) : Type 0 where
    too_many_entries : (j : JudgmentScheme) → found ≡ code.TooMany → detail ≡ codes "entries" → IsFirstToken form token →
        IsRead sig js names form j → ENTRIES < length j.context.entries → IsFormFault form found token detail
    too_long : found ≡ code.TooLong → detail ≡ decimal (length form) → IsFirstToken form token →
        TOKENS < length form → IsFormFault form found token detail
    no_reading : found ≡ code.NoReading → detail ≡ token.text → IsFirstToken form token →
        IsUnreadable form → IsFormFault form found token detail
    ambiguous : (first second : JudgmentScheme) → found ≡ code.Ambiguous → detail ≡ reading_text first ++ (codes " / " ++ reading_text second) →
        IsFirstToken form token → IsAmbiguous form first second → IsFormFault form found token detail
    root_mismatch : (j : JudgmentScheme) → found ≡ code.RootMismatch → detail ≡ [] → IsFirstToken form token →
        IsRead sig js names form j → (StandsWith names.root j.context.root → ⊥) → IsFormFault form found token detail
