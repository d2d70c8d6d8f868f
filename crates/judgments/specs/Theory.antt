-- The judgments and rules for which the portions of a file stand. To be held against docs/notation.md, 'Grammar' and 'Rules and statements'.
use Rattle.std.specs.Prelude.{◌≡◌, ◌≢◌, ◌≤◌, ◌⊎◌, ◌==◌, ℕ, suc, List, [], ◌∷◌, length, Option, Some, None, IsTrue}
use Rattle.std.specs.List.{AllByRecursion, AllZip}
use Rattle.binding_terms.specs.Signature.{Signature}
use Rattle.binding_terms.specs.declared.grammar.CatId.{CatId}
use Rattle.binding_terms.specs.declared.grammar.Item.{Item}
use Rattle.binding_terms.specs.declared.grammar.Item.TheVariants.{Word, Slot, Binder}
use Rattle.sy_base.specs.Tokens.{PlainToken, is_numeral}
use Rattle.outline_reader.specs.Plain.{PlainPortion, judgment_of, rule_of, theorem_of}
use Rattle.rule_schemes.specs.Reading.{IsNameOf, MayBeTerminal, IsCategoryWord}
use Rattle.rule_schemes.specs.Rules.{Rule, Theory, IsSystem, rule_root}
use Rattle.rule_schemes.specs.declared.rule.Judgment.{Judgment}
use Rattle.user_grammar.specs.File.{listed}
use Rattle.user_grammar.specs.Names.{IsAmong}
use Rattle.judgments.specs.Spellings.{IsNoSpelling}
use Rattle.judgments.specs.Texts.{JudgmentText, RuleText, judgments_in, rules_in, rule_forms}
use Rattle.judgments.specs.Written.{TOKENS, IsRuleOf}

-- A terminal in the form of a judgment: a listed word or a numeral that is no spelling of a category, a symbol, punctuation other than
-- parentheses and brackets, or a quoted token other than a parenthesis.
pub record IsTerminalToken (sig : Signature) (portions : List PlainPortion) (token : PlainToken) : Type 0 where
  pub kind : MayBeTerminal token.kind token.text
  pub word : token.kind ≡ 0 → IsNoSpelling sig.cats token.text × (IsAmong (listed portions) token.text ⊎ IsTrue (is_numeral token.text))
  pub quoted : token.kind ≡ 4 → (token.text ≢ 40 ∷ []) × (token.text ≢ 41 ∷ [])

-- The item for which a token of a judgment's form stands: a spelling of a category is a slot without brackets, a terminal keeps its quotes.
abbrev pub IsItemOf : Signature → List PlainPortion → PlainToken → Item → Type 0
IsItemOf sig portions token (Word text quoted) = (text ≡ token.text) × (quoted ≡ (token.kind == 4)) × IsTerminalToken sig portions token
IsItemOf sig portions token (Slot c binds) = (token.kind ≡ 0) × IsCategoryWord sig.cats c.0 token.text × (binds ≡ [])
IsItemOf sig portions token (Binder c) = ⊥

-- the category of contexts that is assumed: the one with exactly this name
abbrev pub IsAssumedCategory : Signature → Option PlainToken → Option CatId → Type 0
IsAssumedCategory sig None None = Unit {0}
IsAssumedCategory sig (Some token) (Some c) = IsNameOf sig c.0 token.text
IsAssumedCategory sig _ _ = ⊥

-- the judgment for which a declared one stands
pub record IsJudgmentOf (sig : Signature) (portions : List PlainPortion) (text : JudgmentText) (j : Judgment) : Type 0 where
  pub named : j.name ≡ text.name
  pub within : length text.form ≤ TOKENS
  pub items : AllZip (IsItemOf sig portions) text.form j.items
  pub assumed : IsAssumedCategory sig text.assumes j.ctx

-- The rule for which a written one stands, in the block of the judgment before it: its conclusion is of that judgment.
pub record IsBlockRule (sig : Signature) (js : List Judgment) (text : RuleText) (rule : Rule) : Type 0 where
  pub block : suc rule.conclusion.judgment ≡ text.block
  pub written :
      IsRuleOf sig js (rule_root (record { sig = sig; judgments = js; rules = [] }) rule.conclusion.judgment) text.name (rule_forms text) rule

-- what a portion declares: judgments, rules and theorems have names of their own
pub data Declared : Type 0 where
  a_judgment a_rule a_theorem : Declared

-- the name of the portion, where it declares this
abbrev pub declared_name : Declared → PlainPortion → Option (List ℕ)
declared_name a_judgment (judgment_of first name form assumes) = Some name.text
declared_name a_rule (rule_of premises name conclusion) = Some name.text
declared_name a_theorem (theorem_of first joined kind name assumes inputs outputs targets) = Some name.text
declared_name _ _ = None

abbrev pub IsSameName : Option (List ℕ) → Option (List ℕ) → Type 0
IsSameName (Some v) (Some w) = v ≡ w
IsSameName _ _ = ⊥

-- both portions declare this, under one name
abbrev pub AreNamedAlike : Declared → PlainPortion → PlainPortion → Type 0
AreNamedAlike what p q = IsSameName (declared_name what p) (declared_name what q)

-- no name is declared twice
abbrev pub AreNamedApart : Declared → List PlainPortion → Type 0
AreNamedApart what [] = Unit {0}
AreNamedApart what (p ∷ ps) = AllByRecursion (λ q. AreNamedAlike what p q → ⊥) ps × AreNamedApart what ps

-- The judgments and rules of the theory are those for which the portions stand, in order. The signature, which is given, is another matter.
pub record IsTheoryOf (portions : List PlainPortion) (th : Theory) : Type 0 where
  pub judgments : AllZip (IsJudgmentOf th.sig portions) (judgments_in portions) th.judgments
  pub rules : AllZip (IsBlockRule th.sig th.judgments) (rules_in 0 portions) th.rules
  pub judgment_names : AreNamedApart a_judgment portions
  pub rule_names : AreNamedApart a_rule portions
  pub system : IsSystem th
