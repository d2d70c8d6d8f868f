-- The text of derivations. To be held against docs/notation.md, 'Derivation texts'.
use Rattle.std.specs.Prelude.{ℕ, ◌+◌, Bool, true, false, ◌==◌, ◌&&◌, if◌then◌else◌, List, [], ◌∷◌, ◌++◌, length, map, drop, Option, None, Some, option_map, unwrap_or, slice_get, codes, decimal}
use Rattle.binding_terms.specs.Tree.{Tree, var, con, Args, no_args, arg}
use Rattle.binding_terms.specs.Signature.{Signature}
use Rattle.scheme_terms.specs.Forms.{GroundEntry, ContextValue}
use Rattle.rule_schemes.specs.Rules.{JudgmentValue, Theory}
use Rattle.rule_schemes.specs.Derivation.{Derivation, node, leaf, Subtrees, no_more, subtree, size, sizes}
use Rattle.rule_schemes.specs.Printing.{text_of, category_name, entries_tokens, no_labels, plain_entry, value_judgment, value_tokens, value_variables}
use Rattle.derivation_check.specs.Parts.{subtrees_of}

-- whether two terms are the same tree
abbrev mutual
  pub same_tree : Tree → Tree → Bool
  same_tree (var i) (var j) = i == j
  same_tree (con p xs) (con q ys) = (p == q) && same_args xs ys
  same_tree _ _ = false

  pub same_args : Args → Args → Bool
  same_args no_args no_args = true
  same_args (arg n t xs) (arg m u ys) = (n == m) && (same_tree t u && same_args xs ys)
  same_args _ _ = false

abbrev pub same_trees : List Tree → List Tree → Bool
same_trees [] [] = true
same_trees (t ∷ ts) (u ∷ us) = same_tree t u && same_trees ts us
same_trees _ _ = false

abbrev pub same_entry : GroundEntry → GroundEntry → Bool
same_entry d e = (d.prod == e.prod) && same_trees d.args e.args

-- whether the second entries begin with the first
abbrev pub are_first : List GroundEntry → List GroundEntry → Bool
are_first [] es = true
are_first (d ∷ ds) [] = false
are_first (d ∷ ds) (e ∷ es) = same_entry d e && are_first ds es

abbrev pub same_category : Option ℕ → Option ℕ → Bool
same_category (Some c) (Some d) = c == d
same_category _ _ = false

-- whether the context is of the root's category and begins with its entries
abbrev pub begins_with : (root : ContextValue) → ContextValue → Bool
begins_with root v = same_category root.cat v.cat && are_first root.entries v.entries

-- the context after the root, for which the name of its category stands
abbrev pub after_root : Signature → (root : ContextValue) → ContextValue → List (List ℕ)
after_root sig root v =
    unwrap_or (option_map (category_name sig) root.cat) []
    ∷ entries_tokens sig no_labels (value_variables sig root) (map plain_entry (drop (length root.entries) v.entries))

-- A context where a root may be given: where it begins with the root, with the category's name in place of the root, else in full.
abbrev pub context_from : Signature → (root : Option ContextValue) → ContextValue → List (List ℕ)
context_from sig None v = value_tokens sig v
context_from sig (Some root) v = if begins_with root v then after_root sig root v else value_tokens sig v

-- the name of the line with that number, which counts from 1
abbrev pub line_name : ℕ → List ℕ
line_name n = codes "d" ++ decimal n

-- the names of further lines, each after a comma
abbrev pub further_names : List ℕ → List ℕ
further_names [] = []
further_names (n ∷ ns) = codes ", " ++ (line_name n ++ further_names ns)

-- the names of lines with commas after a word, or nothing where there is none
abbrev pub names_after : (word : List ℕ) → List ℕ → List ℕ
names_after word [] = []
names_after word (n ∷ ns) = word ++ (line_name n ++ further_names ns)

abbrev pub rule_name : Theory → (rule : ℕ) → List ℕ
rule_name th r = unwrap_or (option_map (λ rule. rule.name) (slice_get th.rules r)) []

-- the line of a node, whose premises are the lines with these numbers
abbrev pub line : Theory → (root : Option ContextValue) → (number : ℕ) → JudgmentValue → (rule : ℕ) → (premises : List ℕ) → List ℕ
line th root n j r ns =
    line_name n
    ++ (codes ": " ++ (text_of (value_judgment th (context_from th.sig root) j)
    ++ (codes " by rule " ++ (rule_name th r ++ (names_after (codes " on ") ns ++ codes "\n")))))

-- Trees stand one after another, each in post-order. So a tree's own line is its last, and it has the number of the lines before
-- the tree and of the tree's nodes.
abbrev pub numbers : (before : ℕ) → Subtrees → List ℕ
numbers n no_more = []
numbers n (subtree d ds) = (n + size d) ∷ numbers (n + size d) ds

abbrev mutual
  -- the lines of a tree: those of its premises, from the first, and its own
  pub lines : Theory → (root : Option ContextValue) → (before : ℕ) → Derivation → List ℕ
  lines th root n (node r j ds) = all_lines th root n ds ++ line th root (n + (sizes ds + 1)) j r (numbers n ds)
  lines th root n (leaf r j place) = line th root (n + 1) j r []

  pub all_lines : Theory → (root : Option ContextValue) → (before : ℕ) → Subtrees → List ℕ
  all_lines th root n no_more = []
  all_lines th root n (subtree d ds) = lines th root n d ++ all_lines th root (n + size d) ds

-- the line with the value of the context
abbrev pub context_line : Signature → Option ContextValue → List ℕ
context_line sig None = []
context_line sig (Some v) = codes "context " ++ (text_of (value_tokens sig v) ++ codes "\n")

-- The text of derivations: the value of the context where there is one, a line for each node, and the names of the derivations.
abbrev pub derivations_text : Theory → (root : Option ContextValue) → List Derivation → List ℕ
derivations_text th root ds =
    context_line th.sig root
    ++ (all_lines th root 0 (subtrees_of ds) ++ (codes "gives" ++ (names_after (codes " ") (numbers 0 (subtrees_of ds)) ++ codes "\n")))
