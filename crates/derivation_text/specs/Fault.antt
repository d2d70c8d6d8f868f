-- The faults of a derivation text: which code stands at which place, with which detail. To be held against 'Derivation texts' and 'Faults'
-- of docs/notation.md. A fault stands at a line behind valid lines alone, so at the first line that is not valid.
use Rattle.std.specs.Prelude.{◌≡◌, ◌⊎◌, ◌≤◌, ◌<◌, ℕ, ◌+◌, List, [], ◌∷◌, ◌++◌, length, Option, Some, None, option_map, unwrap_or, slice_get, MatchOption, codes, decimal}
use Rattle.std.specs.List.{AllByRecursion, Contains}
use Rattle.binding_terms.specs.Tree.{Tree}
use Rattle.scheme_terms.specs.SchemeTree.{SchemeTree}
use Rattle.scheme_terms.specs.Instance.{instance_of}
use Rattle.sy_base.specs.FirstFault.{Faults, Then, own_place}
use Rattle.sy_base.specs.declared.fault.Code.{Code}
use Rattle.sy_base.specs.declared.fault.Code.TheVariants as code
use Rattle.sy_base.specs.declared.first_fault.Place.{Place}
use Rattle.rule_schemes.specs.AtValue.{no_names}
use Rattle.rule_schemes.specs.Derivation.{Derivation, judgment, size, height}
use Rattle.rule_schemes.specs.Reading.{Token}
use Rattle.rule_schemes.specs.Rules.{Theory}
use Rattle.rule_schemes.specs.Said.{Want, want_term, want_judgment, Said, HasNoReading, AreFirstTwo, a_term}
use Rattle.rule_schemes.specs.Statement.{Theorem, StatementInput, given, syntax_input}
use Rattle.derivation_check.specs.Fitting.{GivenForm, judged, written, IsFit}
use Rattle.derivation_check.specs.declared.inputs.Fit.TheVariants.{Wrong}
use Rattle.derivation_text.specs.Forms.{GIVES, APPLY, Argument, by_name, enclosed, Written, context_line, node_line, apply_line, gives_line, Says}
use Rattle.derivation_text.specs.Inputs.{around_for, NODES, HEIGHT}
use Rattle.derivation_text.specs.Lines.{Line}
use Rattle.derivation_text.specs.Over.{value_for}
use Rattle.derivation_text.specs.Printed.{two_readings}
use Rattle.derivation_text.specs.Valid.{TOKENS, Around, nothing_around, scope_at, ReadsAlone, tree_named, rule_named, NamesTree, Last, no_last, applied, given_out, IsKnown, Contents, contexts_from, AreText}
use Rattle.derivation_text.specs.declared.derivs.Named.{Named}

-- a place of a text: a line by its number, and a token on it by its number, from 0
pub record Spot : Type 0 where
  pub line : ℕ
  pub at : ℕ

abbrev pub place_of : Spot → Place
place_of spot = own_place spot.line spot.at

-- ---- where a line stands

-- The line stands behind valid lines, which give this.
pub record StandsBehind (th : Theory) (lines front : List Line) (line : Line) (around : Around) (c : Contents) : Type 0 where
  pub rest : List Line
  pub split : lines ≡ front ++ line ∷ rest
  pub valid : AreText th front around c

-- what a line may say behind such lines: a context line stands first, and nothing stands behind an `apply` or `gives` line
abbrev pub MayStand : List Line → Last → Written → Type 0
MayStand front no_last (context_line form) = front ≡ []
MayStand front no_last _ = Unit {0}
MayStand front _ line = ⊥

-- the tokens of a line say this, and it may stand there
pub record SaysHere (front : List Line) (last : Last) (tokens : List Token) (line : Written) : Type 0 where
  pub may_stand : MayStand front last line
  pub says : Says tokens line

-- a line that may stand there begins with these tokens
pub record GoesOn (front : List Line) (last : Last) (tokens : List Token) : Type 0 where
  pub more : List Token
  pub line : Written
  pub says : SaysHere front last (tokens ++ more) line

-- these tokens are none or begin such a line, and none goes on at the token behind them
pub record StopsAt (front : List Line) (last : Last) (before : List Token) (token : Token) : Type 0 where
  pub begun : (before ≡ []) ⊎ GoesOn front last before
  pub stops : GoesOn front last (before ++ token ∷ []) → ⊥

-- ---- what stands at the tokens of a line

-- names with commas between them, each with the place of its token
abbrev pub names_from : (at : ℕ) → List (List ℕ) → List (ℕ × List ℕ)
names_from at [] = []
names_from at (w ∷ ws) = (at, w) ∷ names_from (at + 2) ws

-- the names among arguments with commas between them; a form stands in two parentheses
abbrev pub arguments_from : (at : ℕ) → List Argument → List (ℕ × List ℕ)
arguments_from at [] = []
arguments_from at (by_name w ∷ rest) = (at, w) ∷ arguments_from (at + 2) rest
arguments_from at (enclosed form ∷ rest) = arguments_from (at + (length form + 3)) rest

-- The names that a line cites. The form of a node stands at its third token, then `by`, `rule`, the rule's name and `on`.
abbrev pub cited_names : Written → List (ℕ × List ℕ)
cited_names (context_line form) = []
cited_names (node_line name form rule ws) = names_from (length form + 6) ws
cited_names (apply_line args) = arguments_from 1 args
cited_names (gives_line names) = names_from 1 names

-- a form that is read: the place of its first token, over which value, and as one of which
pub record ReadForm : Type 0 where
  pub from : ℕ
  pub form : List Token
  pub over : Around
  pub wants : List Want

-- the forms that a line reads; the terms of an `apply` line are read for a statement alone
abbrev pub line_forms : Theory → Around → Written → List ReadForm
line_forms th around (context_line form) =
    record { from = 1; form = form; over = nothing_around; wants = contexts_from 0 th.sig.cats } ∷ []
line_forms th around (node_line name form rule ws) = record { from = 2; form = form; over = around; wants = want_judgment ∷ [] } ∷ []
line_forms th around (apply_line args) = []
line_forms th around (gives_line names) = []

abbrev pub first_text : List Token → List ℕ
first_text [] = []
first_text (t ∷ ts) = t.1

-- Why a form is refused, at its first token: it has too many tokens, no reading, or two, of which the first two are told.
pub data IsReadingFault (th : Theory) (read : ReadForm) (found : Code) (detail : List ℕ) : Type 0 where
  too_long : found ≡ code.TooLong → detail ≡ decimal (length read.form) → TOKENS < length read.form → IsReadingFault th read found detail
  no_reading : found ≡ code.NoReading → detail ≡ first_text read.form →
      HasNoReading th.sig th.judgments (scope_at read.over) read.wants read.form → IsReadingFault th read found detail
  ambiguous : (one two : ℕ × Said) → found ≡ code.Ambiguous → detail ≡ two_readings th read.over.value one.1.written two.1.written →
      AreFirstTwo th.sig th.judgments (scope_at read.over) read.wants read.form one two → IsReadingFault th read found detail

-- ---- the faults of a line

-- A code stands at a token of a line with a detail, where valid lines before the line give this.
pub data IsFaultOf (th : Theory) (front : List Line) (around : Around) (c : Contents) (tokens : List Token) (found : Code) (at : ℕ) (detail : List ℕ) : Type 0 where
  unexpected : (before rest : List Token) (token : Token) → found ≡ code.Unexpected → at ≡ length before → detail ≡ token.1 →
      tokens ≡ before ++ token ∷ rest → StopsAt front c.last before token → IsFaultOf th front around c tokens found at detail
  ends_too_soon : found ≡ code.Unexpected → at ≡ length tokens → detail ≡ [] → GoesOn front c.last tokens →
      ((line : Written) → SaysHere front c.last tokens line → ⊥) → IsFaultOf th front around c tokens found at detail
  name_taken : (name : List ℕ) (form : List Token) (rule : List ℕ) (cited : List (List ℕ)) → found ≡ code.NameTaken → at ≡ 0 → detail ≡ name →
      SaysHere front c.last tokens (node_line name form rule cited) → IsKnown c.named name → IsFaultOf th front around c tokens found at detail
  reading : (line : Written) (read : ReadForm) → at ≡ read.from →
      SaysHere front c.last tokens line → Contains (line_forms th around line) read → IsReadingFault th read found detail →
      IsFaultOf th front around c tokens found at detail
  no_rule : (name : List ℕ) (form : List Token) (rule : List ℕ) (cited : List (List ℕ)) → found ≡ code.NoRule → at ≡ length form + 4 → detail ≡ rule →
      SaysHere front c.last tokens (node_line name form rule cited) → rule_named th.rules rule ≡ None → IsFaultOf th front around c tokens found at detail
  no_name : (line : Written) (name : List ℕ) → found ≡ code.NoName → detail ≡ name →
      SaysHere front c.last tokens line → Contains (cited_names line) (at, name) → (IsKnown c.named name → ⊥) → IsFaultOf th front around c tokens found at detail
  bad_step : (name : List ℕ) (form : List Token) (rule : List ℕ) (cited : List (List ℕ)) → found ≡ code.BadStep → at ≡ 0 → detail ≡ rule →
      SaysHere front c.last tokens (node_line name form rule cited) → ((one : Named) → NamesTree th around c.named tokens one → ⊥) →
      IsFaultOf th front around c tokens found at detail

-- a code stands at a place of the lines
pub record IsLineFault (th : Theory) (lines : List Line) (found : Code) (spot : Spot) (detail : List ℕ) : Type 0 where
  pub front : List Line
  pub tokens : List Token
  pub around : Around
  pub contents : Contents
  pub behind : StandsBehind th lines front (spot.line, tokens) around contents
  pub fault : IsFaultOf th front around contents tokens found spot.at detail

-- ---- the faults for a run, at the last line

-- the number of the last line, or 1 where there is none
abbrev pub last_number : List Line → ℕ
last_number [] = 1
last_number (line ∷ []) = line.0
last_number (line ∷ (next ∷ rest)) = last_number (next ∷ rest)

-- as what a term for a syntax input is read
abbrev pub term_wants : Theorem → (meta : ℕ) → List Want
term_wants st m = unwrap_or (option_map (λ decl. want_term decl.cat.0 ∷ []) (slice_get st.scope.metas m)) []

-- the terms of arguments that stand at syntax inputs, where the first argument begins at a place
abbrev pub term_forms : Theorem → Around → (at : ℕ) → List StatementInput → List Argument → List ReadForm
term_forms st around at [] args = []
term_forms st around at (i ∷ is) [] = []
term_forms st around at (i ∷ is) (by_name w ∷ rest) = term_forms st around (at + 2) is rest
term_forms st around at (given j ∷ is) (enclosed form ∷ rest) = term_forms st around (at + (length form + 3)) is rest
term_forms st around at (syntax_input m ∷ is) (enclosed form ∷ rest) =
    record { from = at + 1; form = form; over = around_for st.scope.root around; wants = term_wants st m }
    ∷ term_forms st around (at + (length form + 3)) is rest

-- what an argument is given as: a name as the judgment of its tree, a term at a syntax input as the one that it reads as, another as any
abbrev pub IsGivenAs : Theory → Theorem → Around → Contents → Option StatementInput → Argument → GivenForm → Type 0
IsGivenAs th st around c i (by_name w) x = (d : Derivation) × (tree_named c.named w ≡ Some d) × (x ≡ judged (judgment d))
IsGivenAs th st around c (Some (syntax_input m)) (enclosed form) x =
    (s : SchemeTree) × ReadsAlone th (around_for st.scope.root around) (term_wants st m) form 0 (a_term s)
    × (x ≡ written (instance_of (no_names (around_for st.scope.root around).value) 0 s))
IsGivenAs th st around c i (enclosed form) x = (t : Tree) × (x ≡ written t)

abbrev pub AreGivenAs : Theory → Theorem → Around → Contents → List StatementInput → List Argument → List GivenForm → Type 0
AreGivenAs th st around c is [] [] = Unit {0}
AreGivenAs th st around c [] (a ∷ rest) (x ∷ xs) = IsGivenAs th st around c None a x × AreGivenAs th st around c [] rest xs
AreGivenAs th st around c (i ∷ is) (a ∷ rest) (x ∷ xs) = IsGivenAs th st around c (Some i) a x × AreGivenAs th st around c is rest xs
AreGivenAs th st around c _ _ _ = ⊥

-- the nodes of the trees that are cited, each counted as often as it is
abbrev pub nodes_of : Option Derivation → ℕ
nodes_of None = 0
nodes_of (Some d) = size d

abbrev pub cited_nodes : List Named → List Argument → ℕ
cited_nodes known [] = 0
cited_nodes known (by_name w ∷ rest) = nodes_of (tree_named known w) + cited_nodes known rest
cited_nodes known (enclosed form ∷ rest) = cited_nodes known rest

-- a cited tree is within the limit on height
abbrev pub IsLowArgument : List Named → Argument → Type 0
IsLowArgument known (by_name w) = MatchOption (tree_named known w) (Unit {0}) (λ d. height d ≤ HEIGHT)
IsLowArgument known (enclosed form) = Unit {0}

-- A code stands at a token of the last line with a detail, where all lines are valid and give this.
pub data IsLastFault (th : Theory) (st : Theorem) (around : Around) (c : Contents) (found : Code) (at : ℕ) (detail : List ℕ) : Type 0 where
  gives : (names : List (List ℕ)) → found ≡ code.Unexpected → at ≡ 0 → detail ≡ GIVES → c.last ≡ given_out names → IsLastFault th st around c found at detail
  no_end : found ≡ code.MissingEnd → at ≡ 0 → detail ≡ APPLY → c.last ≡ no_last → IsLastFault th st around c found at detail
  term_reading : (args : List Argument) (read : ReadForm) → at ≡ read.from → c.last ≡ applied args →
      Contains (term_forms st around 1 st.inputs args) read → IsReadingFault th read found detail → IsLastFault th st around c found at detail
  wrong_inputs : (args : List Argument) (xs : List GivenForm) (number : ℕ) → found ≡ code.WrongInputs → at ≡ 0 → detail ≡ decimal number → c.last ≡ applied args →
      AreGivenAs th st around c st.inputs args xs → IsFit th st (value_for st.scope.root around) xs (Wrong number) → IsLastFault th st around c found at detail
  too_many_nodes : (args : List Argument) → found ≡ code.TooBig → at ≡ 0 → detail ≡ codes "nodes" → c.last ≡ applied args →
      NODES < cited_nodes c.named args → IsLastFault th st around c found at detail
  too_high : (args : List Argument) → found ≡ code.TooBig → at ≡ 0 → detail ≡ codes "height" → c.last ≡ applied args →
      cited_nodes c.named args ≤ NODES → (AllByRecursion (IsLowArgument c.named) args → ⊥) → IsLastFault th st around c found at detail

-- a code stands on the last line, for a run of the statement
pub record IsRunFault (th : Theory) (st : Theorem) (lines : List Line) (found : Code) (spot : Spot) (detail : List ℕ) : Type 0 where
  pub around : Around
  pub contents : Contents
  pub valid : AreText th lines around contents
  pub last : spot.line ≡ last_number lines
  pub fault : IsLastFault th st around contents found spot.at detail

-- The faults of lines: for a run of a statement those of the last line count where all lines are valid; without a statement the lines
-- alone are looked at.
abbrev pub IsFault : Theory → Option Theorem → List Line → Faults Spot
IsFault th None lines = IsLineFault th lines
IsFault th (Some st) lines = Then (IsLineFault th lines) (IsRunFault th st lines)
