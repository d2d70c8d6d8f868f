-- What functions inside the crate find in the tokens of a line. No public clause cites it but for `AllDerive`.
use Rattle.std.specs.Prelude.{◌≡◌, ℕ, ◌==◌, ◌&&◌, if◌then◌else◌, Bool, IsTrue, IsFalse, List, [], ◌∷◌, ◌++◌, Option, Some, None, option_map, codes}
use Rattle.std.specs.List.{AllByRecursion}
use Rattle.std.specs.Str.{bytes_eq}
use Rattle.rule_schemes.specs.Derivation.{Derivation, Derives}
use Rattle.rule_schemes.specs.Reading.{Token, word}
use Rattle.derivation_text.specs.Forms.{is_name, is_own_name, is_reserved_token, IsForm, colon}
use Rattle.scheme_terms.specs.declared.scheme.Root.TheVariants.{Closed}
use Rattle.rule_schemes.specs.Rules.{JudgmentScheme, JudgmentValue, Theory}
use Rattle.rule_schemes.specs.Said.{want_judgment, a_judgment}
use Rattle.rule_schemes.specs.AtValue.{judgment_at}
use Rattle.derivation_text.specs.Valid.{tree_named, ReadsAlone, nothing_around, rule_named, IsMade, NamesTree}
use Rattle.derivation_text.specs.declared.derivs.Named.{Named}

abbrev pub is_name_token : Token → Bool
is_name_token t = (t.0 == 0) && is_name t.1

abbrev pub is_own_name_token : Token → Bool
is_own_name_token t = (t.0 == 0) && is_own_name t.1

-- nothing, or tokens that begin with a reserved word
abbrev pub StopsForm : List Token → Type 0
StopsForm [] = Unit {0}
StopsForm (t ∷ ts) = IsTrue (is_reserved_token t)

-- the tokens up to the first reserved word, and those from there on
pub record IsCut (ts front back : List Token) : Type 0 where
  pub parts : ts ≡ front ++ back
  pub none_reserved : AllByRecursion (λ t. IsFalse (is_reserved_token t)) front
  pub stops : StopsForm back

-- the parts of a line with a judgment; what follows the rule's name is not looked at
pub record HasParts (ts : List Token) (name : List ℕ) (form : List Token) (rule : List ℕ) (rest : List Token) : Type 0 where
  pub tokens_are : ts ≡ word name ∷ (colon ∷ (form ++ (word (codes "by") ∷ (word (codes "rule") ∷ (word rule ∷ rest)))))
  pub own : IsTrue (is_own_name name)
  pub form_is : IsForm form
  pub rule_is : IsTrue (is_name rule)

abbrev pub HasNoParts : List Token → Type 0
HasNoParts ts = (name : List ℕ) (form : List Token) (rule : List ℕ) (rest : List Token) → HasParts ts name form rule rest → ⊥

-- the same from after the colon on
pub record HasFormParts (ts : List Token) (form : List Token) (rule : List ℕ) (rest : List Token) : Type 0 where
  pub tokens_are : ts ≡ form ++ (word (codes "by") ∷ (word (codes "rule") ∷ (word rule ∷ rest)))
  pub form_is : IsForm form
  pub rule_is : IsTrue (is_name rule)

abbrev pub HasNoFormParts : List Token → Type 0
HasNoFormParts ts = (form : List Token) (rule : List ℕ) (rest : List Token) → HasFormParts ts form rule rest → ⊥

-- the tree of a name that is cited, if the token is one
abbrev pub tree_at : List Named → Token → Option Derivation
tree_at known t = if is_name_token t then tree_named known t.1 else None

abbrev pub with_first : {A : Type 0} → Option A → Option (List A) → Option (List A)
with_first None rest = None
with_first (Some a) rest = option_map (λ as_is. a ∷ as_is) rest

-- the trees of further names, each after a comma
abbrev pub further_trees : List Named → List Token → Option (List Derivation)
further_trees known [] = Some []
further_trees known (c ∷ []) = None
further_trees known (c ∷ (t ∷ ts)) =
    if (c.0 == 2) && bytes_eq c.1 (44 ∷ []) then with_first (tree_at known t) (further_trees known ts) else None

abbrev pub name_trees : List Named → List Token → Option (List Derivation)
name_trees known [] = None
name_trees known (t ∷ ts) = with_first (tree_at known t) (further_trees known ts)

-- the trees of the names after `on`, or no tree where nothing follows
abbrev pub cited_trees : List Named → List Token → Option (List Derivation)
cited_trees known [] = Some []
cited_trees known (t ∷ ts) = if (t.0 == 0) && bytes_eq t.1 (codes "on") then name_trees known ts else None

-- the form has this one reading as a judgment, without a context line
abbrev pub ReadsJudgment : Theory → List Token → JudgmentScheme → Type 0
ReadsJudgment th ts j = ReadsAlone th nothing_around (want_judgment ∷ []) ts 0 (a_judgment j)

abbrev pub HasNoJudgment : Theory → List Token → Type 0
HasNoJudgment th ts = (j : JudgmentScheme) → ReadsJudgment th ts j → ⊥

-- a form without a context
pub record IsClosedForm (j : JudgmentScheme) : Type 0 where
  pub root : j.context.root ≡ Closed
  pub entries : j.context.entries ≡ []

-- the judgment that the form is
pub record HasValue (th : Theory) (ts : List Token) (v : JudgmentValue) : Type 0 where
  pub scheme : JudgmentScheme
  pub reads : ReadsJudgment th ts scheme
  pub value : v ≡ judgment_at nothing_around.value scheme

-- the trees of all names are derivations
abbrev pub AllDerive : Theory → List Named → Type 0
AllDerive th known = AllByRecursion (λ one. Derives th one.tree) known

-- the tree that the form, the rule and what follows the rule's name make
pub record IsPartsTree (th : Theory) (known : List Named) (form : List Token) (rule : List ℕ) (rest : List Token) (tree : Derivation) : Type 0 where
  pub value : JudgmentValue
  pub has_value : HasValue th form value
  pub number : ℕ
  pub rule_is : rule_named th.rules rule ≡ Some number
  pub trees : List Derivation
  pub cited : cited_trees known rest ≡ Some trees
  pub makes : IsMade th number value trees tree

abbrev pub HasNoPartsTree : Theory → List Named → List Token → List ℕ → List Token → Type 0
HasNoPartsTree th known form rule rest = (tree : Derivation) → IsPartsTree th known form rule rest tree → ⊥

abbrev pub HasNoNamedTree : Theory → List Named → List Token → Type 0
HasNoNamedTree th known ts = (one : Named) → NamesTree th nothing_around known ts one → ⊥
