-- The rule and the statement for which written forms stand. To be held against docs/notation.md, 'Readings' and 'Rules and statements'.
use Rattle.std.specs.Prelude.{◌≡◌, ◌≢◌, ◌≤◌, ◌⊎◌, ℕ, List, [], ◌∷◌, ◌++◌, length, map, flat_map, take, slice_get, MatchOption}
use Rattle.std.specs.List.{AllByRecursion, AllZip}
use Rattle.binding_terms.specs.Numbered.{AnyByRecursion, AllNumbered}
use Rattle.binding_terms.specs.Signature.{Signature}
use Rattle.scheme_terms.specs.Forms.{Names}
use Rattle.scheme_terms.specs.declared.scheme.Root.{Root}
use Rattle.scheme_terms.specs.declared.scheme.MetaDecl.{MetaDecl}
use Rattle.rule_schemes.specs.Rules.{JudgmentScheme, Rule}
use Rattle.rule_schemes.specs.Statement.{StatementInput, given, syntax_input, Theorem, OccursInJudgment, OccursInInput, IsOfInputs, IsOfOutputs}
use Rattle.rule_schemes.specs.Reading.{Token, word, not_fresh, ReadingScope}
use Rattle.rule_schemes.specs.NewNames.{AreInOrder}
use Rattle.rule_schemes.specs.Said.{want_judgment, a_judgment, HasOneReading}
use Rattle.rule_schemes.specs.declared.rule.Judgment.{Judgment}
use Rattle.judgments.specs.Named.{AreNamesOf}

-- how many tokens a form has at most
abbrev pub TOKENS : ℕ
TOKENS = 256

-- a scope in which no new name may stand
abbrev pub settled : Names → ReadingScope
settled names = record { names = names; vars = []; fresh = not_fresh }

-- the form reads as this judgment over the names, and has no other reading
pub record ReadsOnlyAs (sig : Signature) (js : List Judgment) (names : Names) (form : List Token) (j : JudgmentScheme) : Type 0 where
  pub within : length form ≤ TOKENS
  pub reading : HasOneReading sig js (settled names) (want_judgment ∷ []) form (0, record { written = a_judgment j; metas = []; knowns = [] })

-- the names of forms over a root, those that no reading uses last
abbrev pub names_over : Root → List MetaDecl → List MetaDecl → Names
names_over root used unread = record { root = root; metas = used ++ unread; knowns = [] }

-- the metavariable stands in the rule
abbrev pub OccursInRule : ℕ → Rule → Type 0
OccursInRule m rule = AnyByRecursion (OccursInJudgment m) rule.premises ⊎ OccursInJudgment m rule.conclusion

-- A rule for which its name and its forms stand, the premises first: its metavariables are those that stand in the readings, in the order
-- of their first place.
pub record IsRuleOf (sig : Signature) (js : List Judgment) (root : Root) (name : List ℕ) (forms : List (List Token)) (rule : Rule) : Type 0 where
  pub named : rule.name ≡ name
  pub root_is : rule.conclusion.context.root ≡ root
  pub unread : List MetaDecl
  pub names : AreNamesOf sig forms (rule.metas ++ unread)
  pub in_order : AreInOrder (flat_map (λ form. form) forms) rule.metas
  pub used : AllNumbered (λ m decl. OccursInRule m rule) 0 rule.metas
  pub unused : AllNumbered (λ m decl. OccursInRule m rule → ⊥) (length rule.metas) unread
  pub reads : AllZip (ReadsOnlyAs sig js (names_over root rule.metas unread)) forms (rule.premises ++ rule.conclusion ∷ [])

-- an input as it is written: the name and the form of a derivation, or a word for a term
pub data WrittenInput : Type 0 where
  for_derivation : (name : List ℕ) → (form : List Token) → WrittenInput
  for_term : (word : List ℕ) → WrittenInput

-- the tokens of the inputs that may hold names, in the order of the text
abbrev pub input_tokens : WrittenInput → List Token
input_tokens (for_derivation name form) = form
input_tokens (for_term w) = word w ∷ []

-- the words of the inputs that are terms, as forms of one token: these have no parameters, wherever they stand first
abbrev pub term_words : List WrittenInput → List (List Token)
term_words [] = []
term_words (for_derivation name form ∷ inputs) = term_words inputs
term_words (for_term w ∷ inputs) = (word w ∷ []) ∷ term_words inputs

-- the input for which a written one stands
abbrev pub IsInputOf : Signature → List Judgment → Names → WrittenInput → StatementInput → Type 0
IsInputOf sig js names (for_derivation name form) (given j) = ReadsOnlyAs sig js names form j
IsInputOf sig js names (for_term w) (syntax_input m) = MatchOption (slice_get names.metas m) ⊥ (λ decl. decl.name ≡ w)
IsInputOf sig js names _ _ = ⊥

abbrev pub OccursInStatement : ℕ → Theorem → Type 0
OccursInStatement m st = AnyByRecursion (OccursInInput m) st.inputs ⊎ AnyByRecursion (OccursInJudgment m) st.outputs

abbrev pub input_name : WrittenInput → List ℕ
input_name (for_derivation name form) = name
input_name (for_term w) = w

-- the first input with this name; the word `_`, which is never cited, is no target
abbrev pub IsTarget : List WrittenInput → List ℕ → ℕ → Type 0
IsTarget inputs w n =
    (w ≢ 95 ∷ []) × MatchOption (slice_get inputs n) ⊥ (λ input. input_name input ≡ w) × AllByRecursion (λ input. input_name input ≢ w) (take n inputs)

-- A statement for which its name, its inputs, its conclusions, its targets and the number of its group stand. The metavariables of the
-- inputs come first, and then the further ones of the conclusions, each in the order of their first place.
pub record IsStatementOf (sig : Signature) (js : List Judgment) (root : Root) (name : List ℕ) (inputs : List WrittenInput) (outputs : List (List Token)) (targets : List (List ℕ)) (group : ℕ) (st : Theorem) : Type 0 where
  pub named : st.name ≡ name
  pub root_is : st.scope.root ≡ root
  pub no_known : st.scope.knowns ≡ []
  pub unread : List MetaDecl
  pub names : AreNamesOf sig (term_words inputs ++ (map input_tokens inputs ++ outputs)) (st.scope.metas ++ unread)
  pub of_inputs : List MetaDecl
  pub further : List MetaDecl
  pub split : st.scope.metas ≡ of_inputs ++ further
  pub are_of_inputs : AllNumbered (λ m decl. IsOfInputs st m) 0 of_inputs
  pub are_further : AllNumbered (λ m decl. (IsOfInputs st m → ⊥) × IsOfOutputs st m) (length of_inputs) further
  pub inputs_in_order : AreInOrder (flat_map (λ form. form) (map input_tokens inputs)) of_inputs
  pub further_in_order : AreInOrder (flat_map (λ form. form) outputs) further
  pub unused : AllNumbered (λ m decl. OccursInStatement m st → ⊥) (length st.scope.metas) unread
  pub reads_inputs : AllZip (IsInputOf sig js (names_over root st.scope.metas unread)) inputs st.inputs
  pub targets_are : AllZip (IsTarget inputs) targets st.targets
  pub group_is : st.group ≡ group
  pub reads_outputs : AllZip (ReadsOnlyAs sig js (names_over root st.scope.metas unread)) outputs st.outputs
