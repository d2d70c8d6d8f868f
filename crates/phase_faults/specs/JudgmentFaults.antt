-- The faults of the judgments and the rules of a file: which code stands at which token, with which detail. To be held against 'Faults of
-- judgments and rules' and 'Phases' of docs/notation.md. A grammar without a fault is presumed, with its signature.
use Rattle.std.specs.Prelude.{◌≡◌, ◌≢◌, ◌<◌, ℕ, suc, List, ◌∷◌, ◌++◌, length, map, Option, Some, MatchOption, slice_get, codes, decimal}
use Rattle.std.specs.List.{AllByRecursion, Contains}
use Rattle.binding_terms.specs.Signature.{Signature}
use Rattle.sy_base.specs.FirstFault.{Faults, Either, Then, OfCode}
use Rattle.sy_base.specs.Tokens.{PlainToken}
use Rattle.sy_base.specs.declared.fault.Code.{Code}
use Rattle.sy_base.specs.declared.fault.Code.TheVariants as code
use Rattle.outline_reader.specs.Plain.{PlainPortion}
use Rattle.scheme_terms.specs.declared.scheme.MetaDecl.{MetaDecl}
use Rattle.scheme_terms.specs.declared.scheme.Root.{Root}
use Rattle.rule_schemes.specs.Reading.{IsSpelling}
use Rattle.rule_schemes.specs.Refused.{IsFirstUnstrict, AssumeAlike}
use Rattle.rule_schemes.specs.Rules.{Rule, Theory, HasGoodConclusion}
use Rattle.user_grammar.specs.File.{assumed}
use Rattle.user_grammar.specs.Names.{IsAmong}
use Rattle.user_grammar.specs.Fault.{StandsAt, StandsOutside, before_word, IsBinderWord, IsUnknown, IsWrongInBrackets}
use Rattle.phase_faults.specs.Written.{WrittenJudgment, WrittenRule, judgments, rules, rule_forms, all_as_read, IsFirstToken, IsDeclaredAgain}
use Rattle.phase_faults.specs.Telling.{AreNamesOf, IsFirstUntold, IsNinthWord}
use Rattle.phase_faults.specs.Read.{TOKENS, names_over, IsRuleRoot, CountsAs, IsJudgedBy}
use Rattle.phase_faults.specs.FormFaults.{IsFormFault}
use Rattle.phase_faults.specs.Placed.{IsFirstMisplaced}

-- ---- the forms of judgments

module _ (portions : List PlainPortion) where
  -- A variable outside brackets; a word in brackets, where no word is a binder; or what stands wrong in brackets otherwise.
  pub data IsBadBinder (form : List PlainToken) (token : PlainToken) : Type 0 where
    variable : StandsOutside portions form token → IsBinderWord portions token → IsBadBinder form token
    in_brackets : (named : List (List ℕ)) → StandsAt portions form (before_word named) token → token.kind ≡ 0 → IsBadBinder form token
    wrong : IsWrongInBrackets portions form token → IsBadBinder form token

  -- the token is a slot of the category with this name, at a place of the form
  pub record IsSlotOf (form : List PlainToken) (name : List ℕ) (token : PlainToken) : Type 0 where
    pub stands : StandsOutside portions form token
    pub is_word : token.kind ≡ 0
    pub spelled : IsSpelling name token.text

  -- the tokens before a slot
  abbrev pub front_of : {form : List PlainToken} {name : List ℕ} {token : PlainToken} → IsSlotOf form name token → List PlainToken
  front_of slot = slot.stands.stands.front

  -- the form has exactly one slot of the category with this name
  pub record HasOneSlot (form : List PlainToken) (name : List ℕ) : Type 0 where
    pub token : PlainToken
    pub slot : IsSlotOf form name token
    pub no_other : (other : PlainToken) (at : IsSlotOf form name other) → front_of at ≡ front_of slot

  -- what is assumed is this name
  abbrev pub IsAssumed : Option PlainToken → List ℕ → Type 0
  IsAssumed assumes name = MatchOption assumes ⊥ (λ token. token.text ≡ name)

  -- the category with this name is assumed, and is not exactly once a slot of the form
  abbrev pub BreaksAssumed : WrittenJudgment → List ℕ → Type 0
  BreaksAssumed written name = IsAssumed written.assumes name × (HasOneSlot written.form name → ⊥)

  -- the token is a slot of a category of contexts that the judgment does not assume
  pub record IsStrayContext (written : WrittenJudgment) (name : List ℕ) (token : PlainToken) : Type 0 where
    pub slot : IsSlotOf written.form name token
    pub context : IsAmong (assumed portions) name
    pub not_assumed : IsAssumed written.assumes name → ⊥

  -- it is the first such slot of the form
  pub record IsFirstStray (written : WrittenJudgment) (name : List ℕ) : Type 0 where
    pub token : PlainToken
    pub stray : IsStrayContext written name token
    pub first : (other : List ℕ) (earlier : PlainToken) (at : IsStrayContext written other earlier) →
        length (front_of at.slot) < length (front_of stray.slot) → ⊥

  -- The form of a judgment breaks the rule on the category of contexts with this name. Of several categories the assumed one is told, and
  -- else that of the first slot.
  pub data BreaksContext (written : WrittenJudgment) (name : List ℕ) : Type 0 where
    of_assumed : BreaksAssumed written name → BreaksContext written name
    of_stray : ((other : List ℕ) → BreaksAssumed written other → ⊥) → IsFirstStray written name → BreaksContext written name

  -- The form of a judgment is faulty. A word outside brackets is no category, terminal or variable; a variable, or a word in brackets; a
  -- context that is assumed and not exactly one slot, or a slot and not assumed, at the first token of the judgment; more than 256 tokens.
  pub data IsDeclarationFault (found : Code) (token : PlainToken) (detail : List ℕ) : Type 0 where
    unknown_word : (written : WrittenJudgment) → found ≡ code.UnknownWord → detail ≡ token.text →
        Contains (judgments portions) written → IsUnknown portions written.form token → IsDeclarationFault found token detail
    bad_binder : (written : WrittenJudgment) → found ≡ code.BadBinder → detail ≡ token.text →
        Contains (judgments portions) written → IsBadBinder written.form token → IsDeclarationFault found token detail
    bad_context : (written : WrittenJudgment) → found ≡ code.BadContext → token ≡ written.first →
        Contains (judgments portions) written → BreaksContext written detail → IsDeclarationFault found token detail
    too_long : (written : WrittenJudgment) → found ≡ code.TooLong → detail ≡ decimal (length written.form) → IsFirstToken written.form token →
        Contains (judgments portions) written → TOKENS < length written.form → IsDeclarationFault found token detail

  -- a judgment with the name of one before it
  abbrev pub DuplicateJudgments : Faults PlainToken
  DuplicateJudgments = OfCode code.Duplicate (λ token. token.text) (IsDeclaredAgain (map (λ written. written.name) (judgments portions)))

-- ---- rules

-- the name of a rule's first metavariable without a strict occurrence
pub record IsFirstUnstrictIn (rule : Rule) (name : List ℕ) : Type 0 where
  pub number : ℕ
  pub decl : MetaDecl
  pub unstrict : IsFirstUnstrict rule 0 rule.metas number
  pub declared : slice_get rule.metas number ≡ Some decl
  pub same : name ≡ decl.name

module _ (written : List WrittenRule) (th : Theory) where
  -- the written rule counts, as this rule
  pub record IsRule (text : WrittenRule) (rule : Rule) : Type 0 where
    pub is_written : Contains written text
    pub counts : CountsAs th.sig th.judgments text rule

  -- the written rule counts, and both rules are assumption rules of one production
  pub record AssumesLike (rule : Rule) (text : WrittenRule) : Type 0 where
    pub other : Rule
    pub counts : CountsAs th.sig th.judgments text other
    pub alike : AssumeAlike other rule

  -- The written rule counts, and a rule before it that counts is an assumption rule of the same production; the first such one has this name.
  pub record IsSecondAssumption (text : WrittenRule) (name : List ℕ) : Type 0 where
    pub rule : Rule
    pub counts : CountsAs th.sig th.judgments text rule
    pub before : List WrittenRule
    pub earlier : WrittenRule
    pub between : List WrittenRule
    pub after : List WrittenRule
    pub split : written ≡ before ++ earlier ∷ (between ++ text ∷ after)
    pub alike : AssumesLike rule earlier
    pub first : AllByRecursion (λ other. AssumesLike rule other → ⊥) before
    pub same : name ≡ earlier.name.text

  -- A code stands in a rule: at the ninth word in the brackets of a metavariable, at its name where a rule before it has the name, at the
  -- first token of a form, or at the bar, which is told by the name. What speaks of readings is judged of rules that count alone. The
  -- conclusion is of the judgment in whose part the rule stands, and has the bare context or is that of an assumption rule; each metavariable
  -- has parameters, and a strict occurrence, in an assumption rule in its entry; each premise without a context may stand in the
  -- rule; a production has no second assumption rule.
  pub data IsRuleFault (found : Code) (token : PlainToken) (detail : List ℕ) : Type 0 where
    too_many_parameters : (text : WrittenRule) → found ≡ code.TooMany → detail ≡ codes "parameters" →
        Contains written text → IsNinthWord th.sig (rule_forms text) token → IsRuleFault found token detail
    duplicate : found ≡ code.Duplicate → detail ≡ token.text → IsDeclaredAgain (map (λ text. text.name) written) token → IsRuleFault found token detail
    of_form : (text : WrittenRule) (form : List PlainToken) (metas : List MetaDecl) (root : Root) →
        Contains written text → Contains (rule_forms text) form → AreNamesOf th.sig (all_as_read (rule_forms text)) metas →
        IsRuleRoot th.sig th.judgments metas text root →
        IsFormFault th.sig th.judgments (rule_forms text) (names_over root metas) form found token detail →
        IsRuleFault found token detail
    other_judgment : (text : WrittenRule) (rule : Rule) → found ≡ code.BadConclusion → detail ≡ text.name.text → token ≡ text.name →
        IsRule text rule → suc rule.conclusion.judgment ≢ text.declared → IsRuleFault found token detail
    bad_conclusion : (text : WrittenRule) (rule : Rule) → found ≡ code.BadConclusion → detail ≡ text.name.text → token ≡ text.name →
        IsRule text rule → (HasGoodConclusion rule → ⊥) → IsRuleFault found token detail
    no_parameters : (text : WrittenRule) → found ≡ code.NotStrict → token ≡ text.name →
        Contains written text → IsFirstUntold th.sig (rule_forms text) detail → IsRuleFault found token detail
    not_strict : (text : WrittenRule) (rule : Rule) → found ≡ code.NotStrict → token ≡ text.name →
        IsRule text rule → IsFirstUnstrictIn rule detail → IsRuleFault found token detail
    needs_context : (text : WrittenRule) (rule : Rule) → found ≡ code.NeedsContext → token ≡ text.name →
        IsRule text rule → IsFirstMisplaced th rule.conclusion.context.root rule.premises detail → IsRuleFault found token detail
    two_assumptions : (text : WrittenRule) → found ≡ code.TwoAssumptions → token ≡ text.name →
        IsSecondAssumption text detail → IsRuleFault found token detail

-- ---- all of them

-- the faults of the theory by which the file is judged
pub record OverTheory (portions : List PlainPortion) (sig : Signature) (faults : Theory → Faults PlainToken) (found : Code) (token : PlainToken) (detail : List ℕ) : Type 0 where
  pub th : Theory
  pub is_judged_by : IsJudgedBy portions sig th
  pub stands : faults th found token detail

-- the faults of the rules
abbrev pub RuleFaults : List PlainPortion → Signature → Faults PlainToken
RuleFaults portions sig = OverTheory portions sig (IsRuleFault (rules portions))

-- The faults of judgments and rules. Where the form of a judgment is faulty, no rule is judged.
abbrev pub JudgmentFaults : List PlainPortion → Signature → Faults PlainToken
JudgmentFaults portions sig = Either (DuplicateJudgments portions) (Then (IsDeclarationFault portions) (RuleFaults portions sig))
