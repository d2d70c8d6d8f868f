-- What the judgments, the rules and the statements of a file read as, for judging them: each rule and statement by itself, also where it
-- has a fault. To be held against 'Readings', 'Rules and statements' and 'Phases' of docs/notation.md.
use Rattle.std.specs.Prelude.{◌≡◌, ◌≤◌, ◌⊎◌, ℕ, zero, suc, List, [], ◌∷◌, ◌++◌, length, flat_map, Option, Some, None, slice_get, MatchOption}
use Rattle.std.specs.List.{AllZip}
use Rattle.binding_terms.specs.Numbered.{AnyByRecursion, AllNumbered}
use Rattle.binding_terms.specs.Signature.{Signature}
use Rattle.binding_terms.specs.declared.grammar.CatId.{CatId}
use Rattle.sy_base.specs.Tokens.{PlainToken}
use Rattle.outline_reader.specs.Plain.{PlainPortion, PlainLabelled, PlainInput, given_form, of_syntax}
use Rattle.scheme_terms.specs.Forms.{Names}
use Rattle.scheme_terms.specs.declared.scheme.Root.{Root}
use Rattle.scheme_terms.specs.declared.scheme.Root.TheVariants.{Closed, Whole}
use Rattle.scheme_terms.specs.declared.scheme.MetaDecl.{MetaDecl}
use Rattle.rule_schemes.specs.Reading.{not_fresh, ReadingScope, IsNameOf as IsCategoryName}
use Rattle.rule_schemes.specs.NewNames.{AreInOrder, IsPlainSpelling}
use Rattle.rule_schemes.specs.Said.{want_judgment, a_judgment, Said, HasOneReading}
use Rattle.rule_schemes.specs.Rules.{JudgmentScheme, Rule, Theory, rule_root}
use Rattle.rule_schemes.specs.Statement.{StatementInput, given, syntax_input, Theorem, OccursInJudgment, IsOfInputs, IsOfOutputs}
use Rattle.rule_schemes.specs.declared.rule.Judgment.{Judgment}
use Rattle.user_grammar.specs.File.{listed}
use Rattle.user_grammar.specs.Production.{AreItems}
use Rattle.phase_faults.specs.Written.{WrittenJudgment, WrittenRule, WrittenTheorem, judgments, rules, rule_forms, input_tokens, telling_forms, as_read, all_as_read}
use Rattle.phase_faults.specs.Telling.{AreNamesOf}

-- how many tokens a form has at most
abbrev pub TOKENS : ℕ
TOKENS = 256

-- the judgment as what a reading says
abbrev pub says_judgment : JudgmentScheme → Said
says_judgment j = record { written = a_judgment j; metas = []; knowns = [] }

-- the names of a rule or a statement over its root
abbrev pub names_over : Root → List MetaDecl → Names
names_over root metas = record { root = root; metas = metas; knowns = [] }

-- a scope with these names, in which no new name may stand
abbrev pub scope_of : Names → ReadingScope
scope_of names = record { names = names; vars = []; fresh = not_fresh }

-- the form has at most 256 tokens and reads as this judgment over the names, and has no other reading
pub record IsRead (sig : Signature) (js : List Judgment) (names : Names) (form : List PlainToken) (j : JudgmentScheme) : Type 0 where
  pub within : length form ≤ TOKENS
  pub reading : HasOneReading sig js (scope_of names) (want_judgment ∷ []) (as_read form) (0, says_judgment j)

-- the category of contexts that is assumed: the one with exactly this name
abbrev pub IsAssumedCategory : Signature → Option PlainToken → Option CatId → Type 0
IsAssumedCategory sig None None = Unit {0}
IsAssumedCategory sig (Some token) (Some c) = IsCategoryName sig c.0 token.text
IsAssumedCategory sig _ _ = ⊥

-- the root of a theorem: the whole context of the category that it assumes, or none
abbrev pub IsAssumedRoot : Signature → Option PlainToken → Root → Type 0
IsAssumedRoot sig None Closed = Unit {0}
IsAssumedRoot sig (Some token) (Whole c) = IsCategoryName sig c.0 token.text
IsAssumedRoot sig _ _ = ⊥

-- the judgment for which a declared one stands: its form has slots without brackets and terminals
pub record IsDeclaredAs (sig : Signature) (portions : List PlainPortion) (written : WrittenJudgment) (j : Judgment) : Type 0 where
  pub named : j.name ≡ written.name.text
  pub items : AreItems sig.cats (listed portions) [] written.form j.items []
  pub assumed : IsAssumedCategory sig written.assumes j.ctx

-- the metavariable stands in the rule
abbrev pub OccursInRule : ℕ → Rule → Type 0
OccursInRule m rule = AnyByRecursion (OccursInJudgment m) rule.premises ⊎ OccursInJudgment m rule.conclusion

-- The rule for which a written one stands, whatever else is wrong with it: each of its forms has at most 256 tokens and one reading. Its
-- metavariables are those that stand in the readings, in the order of their first place.
pub record IsReadRule (sig : Signature) (js : List Judgment) (root : Root) (written : WrittenRule) (rule : Rule) : Type 0 where
  pub named : rule.name ≡ written.name.text
  pub unread : List MetaDecl
  pub names : AreNamesOf sig (all_as_read (rule_forms written)) (rule.metas ++ unread)
  pub in_order : AreInOrder (flat_map as_read (rule_forms written)) rule.metas
  pub used : AllNumbered (λ m decl. OccursInRule m rule) 0 rule.metas
  pub unused : AllNumbered (λ m decl. OccursInRule m rule → ⊥) (length rule.metas) unread
  pub reads : AllZip (IsRead sig js (names_over root (rule.metas ++ unread))) (rule_forms written) (rule.premises ++ rule.conclusion ∷ [])

-- the root over which a rule of the judgment stands: the whole context that the judgment assumes, or none
abbrev pub judgment_root : Signature → List Judgment → (number : ℕ) → Root
judgment_root sig js n = rule_root (record { sig = sig; judgments = js; rules = [] }) n

-- the root of a rule of the part of the last of so many judgments
abbrev pub part_root : Signature → List Judgment → (declared : ℕ) → Root
part_root sig js zero = Closed
part_root sig js (suc n) = judgment_root sig js n

-- The root with which the forms of the rule stand: that of the judgment of its conclusion where the conclusion reads, and else that of the part.
abbrev pub IsRuleRoot : Signature → List Judgment → List MetaDecl → WrittenRule → Root → Type 0
IsRuleRoot sig js metas written root =
    ((j : JudgmentScheme) × IsRead sig js (names_over (part_root sig js written.declared) metas) written.conclusion j × (root ≡ judgment_root sig js j.judgment))
    ⊎ (((j : JudgmentScheme) → IsRead sig js (names_over (part_root sig js written.declared) metas) written.conclusion j → ⊥)
    × (root ≡ part_root sig js written.declared))

-- The written rule counts as this rule. What its forms read as does not depend on the root, since no variable comes with it.
abbrev pub CountsAs : Signature → List Judgment → WrittenRule → Rule → Type 0
CountsAs sig js written rule = IsReadRule sig js (part_root sig js written.declared) written rule

-- The rules that count: those of whose forms each has at most 256 tokens and one reading, also where such a rule has another fault, and
-- no others.
pub data AreCounted (sig : Signature) (js : List Judgment) : List WrittenRule → List Rule → Type 0 where
  no_rules : AreCounted sig js [] []
  counted : {written : WrittenRule} {rule : Rule} {rest : List WrittenRule} {others : List Rule} →
      CountsAs sig js written rule → AreCounted sig js rest others → AreCounted sig js (written ∷ rest) (rule ∷ others)
  left_out : {written : WrittenRule} {rest : List WrittenRule} {others : List Rule} →
      ((rule : Rule) → CountsAs sig js written rule → ⊥) → AreCounted sig js rest others → AreCounted sig js (written ∷ rest) others

-- The theory by which the rules and the statements of a file are judged: its judgments, and the rules that count.
pub record IsJudgedBy (portions : List PlainPortion) (sig : Signature) (th : Theory) : Type 0 where
  pub is_over : th.sig ≡ sig
  pub are_judgments : AllZip (IsDeclaredAs sig portions) (judgments portions) th.judgments
  pub are_rules : AreCounted sig th.judgments (rules portions) th.rules

-- Inputs as they read: the forms of derivations as judgments, words of terms as metavariables. A word that is no spelling of a plain
-- category stands for no input.
pub data AreReadInputs (sig : Signature) (js : List Judgment) (names : Names) : List PlainInput → List StatementInput → Type 0 where
  no_inputs : AreReadInputs sig js names [] []
  a_derivation : {labelled : PlainLabelled} {rest : List PlainInput} {j : JudgmentScheme} {others : List StatementInput} →
      IsRead sig js names labelled.form j → AreReadInputs sig js names rest others →
      AreReadInputs sig js names (given_form labelled ∷ rest) (given j ∷ others)
  a_term : {name : PlainToken} {rest : List PlainInput} {m : ℕ} {others : List StatementInput} →
      MatchOption (slice_get names.metas m) ⊥ (λ decl. decl.name ≡ name.text) → AreReadInputs sig js names rest others →
      AreReadInputs sig js names (of_syntax name ∷ rest) (syntax_input m ∷ others)
  no_term : {name : PlainToken} {rest : List PlainInput} {others : List StatementInput} →
      ((cat : ℕ) → IsPlainSpelling sig cat name.text → ⊥) → AreReadInputs sig js names rest others →
      AreReadInputs sig js names (of_syntax name ∷ rest) others

-- The statement for which a written one stands, whatever else is wrong with it: each of its forms has at most 256 tokens and one reading.
-- The metavariables of its inputs come first, then the further ones of its conclusions, each in the order of their first place. Its targets
-- and its group are judged apart.
pub record IsReadStatement (sig : Signature) (js : List Judgment) (root : Root) (written : WrittenTheorem) (st : Theorem) : Type 0 where
  pub named : st.name ≡ written.name.text
  pub unread : List MetaDecl
  pub of_inputs : List MetaDecl
  pub further : List MetaDecl
  pub scope : st.scope ≡ names_over root (of_inputs ++ further)
  pub names : AreNamesOf sig (all_as_read (telling_forms written)) ((of_inputs ++ further) ++ unread)
  pub are_of_inputs : AllNumbered (λ m decl. IsOfInputs st m) 0 of_inputs
  pub are_further : AllNumbered (λ m decl. (IsOfInputs st m → ⊥) × IsOfOutputs st m) (length of_inputs) further
  pub unused : AllNumbered (λ m decl. (IsOfInputs st m → ⊥) × (IsOfOutputs st m → ⊥)) (length (of_inputs ++ further)) unread
  pub inputs_in_order : AreInOrder (flat_map (λ input. as_read (input_tokens input)) written.inputs) of_inputs
  pub further_in_order : AreInOrder (flat_map as_read written.outputs) further
  pub inputs : AreReadInputs sig js (names_over root ((of_inputs ++ further) ++ unread)) written.inputs st.inputs
  pub outputs : AllZip (IsRead sig js (names_over root ((of_inputs ++ further) ++ unread))) written.outputs st.outputs
  pub no_targets : st.targets ≡ []
  pub no_group : st.group ≡ 0
