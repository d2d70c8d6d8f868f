-- Weakening, exchange and substitution of derivations. To be held against docs/notation.md, 'Runs'.
use Rattle.std.specs.Prelude.{◌≡◌, ℕ, suc, ◌+◌, ◌-◌, ◌==◌, nat_lt, if◌then◌else◌, List, [], ◌∷◌, ◌++◌, length, map, take, drop, Option, Some, None, slice_get}
use Rattle.binding_terms.specs.Tree.{Tree, var, shifted, put_in}
use Rattle.binding_terms.specs.Substitution.{filled}
use Rattle.scheme_terms.specs.Forms.{GroundEntry}
use Rattle.rule_schemes.specs.Rules.{JudgmentValue, Rule, Theory, assumed_by}
use Rattle.rule_schemes.specs.Derivation.{Derivation, node, leaf, Subtrees, no_more, subtree, judgment}
use Rattle.case_split.specs.LeafPlace.{place_of_variable}

-- the first where there is no context, else the second
abbrev pub by_context : {A : Type 0} → (cat : Option ℕ) → A → A → A
by_context None without with_one = without
by_context (Some c) without with_one = with_one

-- a change of the terms of an entry
abbrev pub changed_entry : (Tree → Tree) → GroundEntry → GroundEntry
changed_entry f e = record { prod = e.prod; args = map f e.args }

-- entries, each under a change by the number of the entries between it and the place
abbrev pub changed_after : (ℕ → Tree → Tree) → (between : ℕ) → List GroundEntry → List GroundEntry
changed_after f n [] = []
changed_after f n (e ∷ es) = changed_entry (f n) e ∷ changed_after f (suc n) es

-- a judgment with other entries from a place on, and a change of its terms by the number of the entries from there on
abbrev pub changed_judgment : (place skipped : ℕ) → List GroundEntry → (ℕ → Tree → Tree) → JudgmentValue → JudgmentValue
changed_judgment place skipped entries f j =
    record {
      judgment = j.judgment;
      context = record { cat = j.context.cat; entries = take place j.context.entries ++ entries };
      args = map (f (length j.context.entries - (place + skipped))) j.args;
    }

-- with an entry inserted at a place
abbrev pub weakened_judgment : (place : ℕ) → GroundEntry → JudgmentValue → JudgmentValue
weakened_judgment p e j =
    changed_judgment p 0 (e ∷ changed_after (λ n. shifted n 1) 0 (drop p j.context.entries)) (λ n. shifted n 1) j

-- the same shape, the entry in each judgment, and the places of leaves from there on one higher; what has no context stays
abbrev mutual
  pub weakened : (place : ℕ) → GroundEntry → Derivation → Derivation
  weakened p e (node r j ds) = by_context j.context.cat (node r j ds) (node r (weakened_judgment p e j) (weakened_subtrees p e ds))
  weakened p e (leaf r j at) = by_context j.context.cat (leaf r j at) (leaf r (weakened_judgment p e j) (if nat_lt at p then at else suc at))

  pub weakened_subtrees : (place : ℕ) → GroundEntry → Subtrees → Subtrees
  weakened_subtrees p e no_more = no_more
  weakened_subtrees p e (subtree d ds) = subtree (weakened p e d) (weakened_subtrees p e ds)

-- a variable and the one after it exchanged
abbrev pub exchanged_variables : (index : ℕ) → Tree → Tree
exchanged_variables n t = filled (λ i. var (if i == n then suc n else (if i == suc n then n else i))) t

-- a term that does not mention its innermost variable, seen from outside of it
abbrev pub lowered : Tree → Tree
lowered t = filled (λ i. var (i - 1)) t

-- the two entries from a place on exchanged, of which the later does not mention the earlier's variable
abbrev pub exchanged_entries : List GroundEntry → List GroundEntry
exchanged_entries [] = []
exchanged_entries (a ∷ []) = a ∷ []
exchanged_entries (a ∷ b ∷ es) = changed_entry lowered b ∷ (changed_entry (shifted 0 1) a ∷ changed_after exchanged_variables 0 es)

-- a judgment with the two entries from a place on exchanged
abbrev pub exchanged_judgment : (place : ℕ) → JudgmentValue → JudgmentValue
exchanged_judgment p j = changed_judgment p 2 (exchanged_entries (drop p j.context.entries)) exchanged_variables j

-- where a leaf stands after that
abbrev pub exchanged_place : (place at : ℕ) → ℕ
exchanged_place p at = if at == p then suc p else (if at == suc p then p else at)

abbrev mutual
  pub exchanged : (place : ℕ) → Derivation → Derivation
  exchanged p (node r j ds) = by_context j.context.cat (node r j ds) (node r (exchanged_judgment p j) (exchanged_subtrees p ds))
  exchanged p (leaf r j at) = by_context j.context.cat (leaf r j at) (leaf r (exchanged_judgment p j) (exchanged_place p at))

  pub exchanged_subtrees : (place : ℕ) → Subtrees → Subtrees
  exchanged_subtrees p no_more = no_more
  exchanged_subtrees p (subtree d ds) = subtree (exchanged p d) (exchanged_subtrees p ds)

-- the term for the variable, seen from under so many entries
abbrev pub put_after : Tree → (between : ℕ) → Tree → Tree
put_after t n s = put_in n (shifted 0 n t) s

-- a judgment without the entry at a place, with the term for its variable
abbrev pub substituted_judgment : (place : ℕ) → Tree → JudgmentValue → JudgmentValue
substituted_judgment p t j = changed_judgment p 1 (changed_after (put_after t) 0 (drop (suc p) j.context.entries)) (put_after t) j

-- a derivation weakened at its end by entries, one after another
abbrev pub weakened_by : List GroundEntry → Derivation → Derivation
weakened_by [] d = d
weakened_by (e ∷ es) d = weakened_by es (weakened (length (judgment d).context.entries) e d)

-- the entries that a judgment has after a place
abbrev pub entries_after : (place : ℕ) → JudgmentValue → List GroundEntry
entries_after p j = drop p j.context.entries

-- the term throughout for the variable of the entry at a place, which is gone; a leaf at the place is the given derivation, weakened
abbrev mutual
  pub substituted : (place : ℕ) → Tree → (given : Derivation) → Derivation → Derivation
  substituted p t given (node r j ds) =
      by_context j.context.cat (node r j ds) (node r (substituted_judgment p t j) (substituted_subtrees p t given ds))
  substituted p t given (leaf r j at) =
      by_context j.context.cat (leaf r j at)
      (if at == p then weakened_by (entries_after p (substituted_judgment p t j)) given
      else leaf r (substituted_judgment p t j) (if nat_lt at p then at else at - 1))

  pub substituted_subtrees : (place : ℕ) → Tree → (given : Derivation) → Subtrees → Subtrees
  substituted_subtrees p t given no_more = no_more
  substituted_subtrees p t given (subtree d ds) = subtree (substituted p t given d) (substituted_subtrees p t given ds)

-- the term for which a judgment is the assumption judgment of the last entry of the other
pub record IsTermFor (th : Theory) (by_judgment : JudgmentValue) (entry : GroundEntry) (t : Tree) : Type 0 where
  pub number : ℕ
  pub rule : Rule
  pub there : slice_get th.rules number ≡ Some rule
  pub assumed : assumed_by rule.conclusion.context.root rule.conclusion.context.entries ≡ entry.prod ∷ []
  pub term : slice_get by_judgment.args (place_of_variable rule.conclusion.args) ≡ Some t
