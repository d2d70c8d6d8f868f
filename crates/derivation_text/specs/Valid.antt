-- Which derivation texts are valid, and what their names stand for. To be held against docs/notation.md, 'Derivation texts'.
use Rattle.std.specs.Prelude.{◌≡◌, ◌≢◌, ◌⊎◌, ◌≤◌, ℕ, ◌+◌, Bool, true, List, [], ◌∷◌, ◌++◌, length, Option, Some, None, option_map, slice_get, find, position}
use Rattle.std.specs.List.{AllByRecursion, AllZip}
use Rattle.std.specs.Str.{bytes_eq}
use Rattle.binding_terms.specs.declared.grammar.Cat.{Cat}
use Rattle.scheme_terms.specs.Forms.{SchemeContext, ContextValue}
use Rattle.scheme_terms.specs.declared.scheme.Root.{Root}
use Rattle.scheme_terms.specs.declared.scheme.Root.TheVariants.{Closed, Whole}
use Rattle.sy_base.specs.Tokens.{PlainToken, AreTokens}
use Rattle.rule_schemes.specs.Rules.{JudgmentScheme, JudgmentValue, Rule, Theory}
use Rattle.rule_schemes.specs.Derivation.{Derivation, node, leaf, IsNode, IsLeaf}
use Rattle.rule_schemes.specs.Reading.{Token, Variable, ReadingScope, ReadsContext, not_fresh}
use Rattle.rule_schemes.specs.Said.{Want, want_judgment, want_context, Written, a_judgment, a_context, HasOneReading}
use Rattle.rule_schemes.specs.AtValue.{context_at, judgment_at}
use Rattle.derivation_check.specs.Parts.{subtrees_of}
use Rattle.derivation_text.specs.Lines.{Line, text_lines}
use Rattle.derivation_text.specs.Forms.{Argument, by_name, enclosed, Says, node_line, apply_line, gives_line, context_line}
use Rattle.derivation_text.specs.declared.derivs.Named.{Named}

-- how many tokens a form has at most
abbrev pub TOKENS : ℕ
TOKENS = 256

-- What the context line gives to the later lines: the value for which its category's name stands, and the words of the value's
-- variables, the innermost first.
pub record Around : Type 0 where
  pub value : ContextValue
  pub vars : List Variable

-- without a context line
abbrev pub nothing_around : Around
nothing_around = record { value = record { cat = None; entries = [] }; vars = [] }

abbrev pub root_at : Option ℕ → Root
root_at None = Closed
root_at (Some c) = Whole (record { 0 = c })

-- what a form may use: no metavariable, and the variables of the context line's value
abbrev pub scope_at : Around → ReadingScope
scope_at around =
    record {
      names = record { root = root_at around.value.cat; metas = []; knowns = [] };
      vars = around.vars;
      fresh = not_fresh;
    }

-- the form has at most so many tokens, and exactly one reading as one of several things that are wanted
pub record ReadsAlone (th : Theory) (around : Around) (wants : List Want) (form : List Token) (number : ℕ) (said : Written) : Type 0 where
  pub within : length form ≤ TOKENS
  pub reading : HasOneReading th.sig th.judgments (scope_at around) wants form (number, record { written = said; metas = []; knowns = [] })

-- the tree that has a name
abbrev pub tree_named : List Named → (name : List ℕ) → Option Derivation
tree_named known w = option_map (λ one. one.tree) (find (λ one. bytes_eq one.name w) known)

-- the number of the rule with a name
abbrev pub rule_named : List Rule → (name : List ℕ) → Option ℕ
rule_named rules w = position (λ rule. bytes_eq rule.name w) rules

-- The tree of a judgment by a rule over trees: the rule's node, or the leaf of its assumption rule for a variable of the context.
abbrev pub IsMade : Theory → (rule : ℕ) → JudgmentValue → (trees : List Derivation) → Derivation → Type 0
IsMade th r j ds (node q k es) = (q ≡ r) × (k ≡ j) × (es ≡ subtrees_of ds) × IsNode th r j es
IsMade th r j ds (leaf q k place) = (q ≡ r) × (k ≡ j) × (ds ≡ []) × IsLeaf th r j place

-- the line of a judgment is valid after lines with these names, and the tree is its own
pub record MakesTree (th : Theory) (around : Around) (known : List Named) (name : List ℕ) (form : List Token) (rule : List ℕ) (cited : List (List ℕ)) (tree : Derivation) : Type 0 where
  pub new : tree_named known name ≡ None
  pub scheme : JudgmentScheme
  pub reads : ReadsAlone th around (want_judgment ∷ []) form 0 (a_judgment scheme)
  pub number : ℕ
  pub rule_is : rule_named th.rules rule ≡ Some number
  pub trees : List Derivation
  pub earlier : AllZip (λ w d. tree_named known w ≡ Some d) cited trees
  pub makes : IsMade th number (judgment_at around.value scheme) trees tree

-- a line that gives a tree to a name
pub record NamesTree (th : Theory) (around : Around) (known : List Named) (tokens : List Token) (one : Named) : Type 0 where
  pub form : List Token
  pub rule : List ℕ
  pub cited : List (List ℕ)
  pub says : Says tokens (node_line one.name form rule cited)
  pub valid : MakesTree th around known one.name form rule cited one.tree

-- the last line of a text: none of its own kind, what is applied, or what is given
pub data Last : Type 0 where
  no_last : Last
  applied : List Argument → Last
  given_out : (names : List (List ℕ)) → Last

-- a name of an earlier line
abbrev pub IsKnown : List Named → (name : List ℕ) → Type 0
IsKnown known w = tree_named known w ≢ None

-- a term in parentheses is not read here
abbrev pub IsKnownArgument : List Named → Argument → Type 0
IsKnownArgument known (by_name w) = IsKnown known w
IsKnownArgument known (enclosed form) = Unit {0}

-- a valid `apply` or `gives` line
abbrev pub IsLast : List Named → List Token → Last → Type 0
IsLast known tokens no_last = ⊥
IsLast known tokens (applied args) = Says tokens (apply_line args) × AllByRecursion (IsKnownArgument known) args
IsLast known tokens (given_out names) = Says tokens (gives_line names) × AllByRecursion (IsKnown known) names

-- what a text gives: the trees of its names, and its last line
pub record Contents : Type 0 where
  pub named : List Named
  pub last : Last

-- Valid lines, after lines with these names; one that applies or gives stands last.
abbrev pub AreValid : Theory → Around → (known : List Named) → List Line → Contents → Type 0
AreValid th around known [] c = (c.named ≡ known) × (c.last ≡ no_last)
AreValid th around known (line ∷ lines) c =
    ((one : Named) × NamesTree th around known line.1 one × AreValid th around (known ++ one ∷ []) lines c)
    ⊎ (IsLast known line.1 c.last × (lines ≡ []) × (c.named ≡ known))

-- the categories of contexts, in order, where the first of the list has that number
abbrev pub contexts_if : Bool → ℕ → List Want → List Want
contexts_if true n wants = want_context n ∷ wants
contexts_if _ n wants = wants

abbrev pub contexts_from : (number : ℕ) → List Cat → List Want
contexts_from n [] = []
contexts_from n (cat ∷ cats) = contexts_if cat.context n (contexts_from (n + 1) cats)

-- A valid context line: its form has one reading among those as a context of each category, and the value is that of the reading.
pub record GivesContext (th : Theory) (tokens : List Token) (around : Around) : Type 0 where
  pub form : List Token
  pub says : Says tokens (context_line form)
  pub cat : ℕ
  pub number : ℕ
  pub wanted : slice_get (contexts_from 0 th.sig.cats) number ≡ Some (want_context cat)
  pub context : SchemeContext
  pub reads : ReadsAlone th nothing_around (contexts_from 0 th.sig.cats) form number (a_context context)
  pub words : ReadsContext th.sig (scope_at nothing_around) [] cat form context around.vars []
  pub value : around.value ≡ context_at nothing_around.value context

-- the lines with judgments and the last one, and what the context line before them gives
pub data Begins (th : Theory) : List Line → Around → (rest : List Line) → Type 0 where
  without_context : (lines : List Line) → Begins th lines nothing_around lines
  with_context : (line : Line) (around : Around) (rest : List Line) → GivesContext th line.1 around → Begins th (line ∷ rest) around rest

-- the lines are valid, and give this
pub record AreText (th : Theory) (lines : List Line) (around : Around) (c : Contents) : Type 0 where
  pub rest : List Line
  pub begins : Begins th lines around rest
  pub valid : AreValid th around [] rest c

-- a valid text, and what it gives
pub record IsText (th : Theory) (source : List ℕ) (around : Around) (c : Contents) : Type 0 where
  pub tokens : List PlainToken
  pub are_tokens : AreTokens source tokens
  pub lines : AreText th (text_lines tokens) around c
