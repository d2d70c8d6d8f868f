-- What pairs ask metavariables to stand for, and what it is that pairs become. No public clause cites it.
use Rattle.std.specs.Prelude.{◌≡◌, ◌⊎◌, ◌<◌, ℕ, ◌+◌, List, [], ◌∷◌, length, drop, Option, MatchOption}
use Rattle.binding_terms.specs.Numbered.{AnyByRecursion, AllNumbered}
use Rattle.binding_terms.specs.Tree.{Tree}
use Rattle.scheme_terms.specs.SchemeTree.{SchemeTree}
use Rattle.scheme_terms.specs.Forms.{SchemeEntry, GroundEntry, ContextValue, Instance}
use Rattle.scheme_terms.specs.Instance.{instance_of}
use Rattle.scheme_terms.specs.Embedding.{embedded}
use Rattle.scheme_terms.specs.Demands.{Demands}
use Rattle.scheme_terms.specs.declared.scheme.MetaDecl.{MetaDecl}
use Rattle.scheme_terms.specs.declared.scheme.Root.{Root}
use Rattle.scheme_terms.specs.declared.scheme.Root.TheVariants.{Closed, Empty, Whole}
use Rattle.rule_schemes.specs.Rules.{judgment_instance}
use Rattle.scheme_match.specs.Matching.{Matched, judgments, terms}

-- the entries of a root's value over which a form stands
abbrev pub entries_over : ContextValue → Root → List GroundEntry
entries_over v Closed = []
entries_over v (Empty c) = []
entries_over v (Whole c) = v.entries

-- in patterns that are to become terms, place by place
abbrev pub ListDemands : (m locals : ℕ) → List SchemeTree → List Tree → SchemeTree → Type 0
ListDemands m d (s ∷ ss) (t ∷ ts) v = Demands m d s (embedded t) v ⊎ ListDemands m d ss ts v
ListDemands m d _ _ v = ⊥

-- in the arguments of explicit entries, with so many entries before them
abbrev pub EntriesDemand : (m before : ℕ) → List SchemeEntry → List GroundEntry → SchemeTree → Type 0
EntriesDemand m n (e ∷ es) (g ∷ gs) v = ListDemands m n e.args g.args v ⊎ EntriesDemand m (n + 1) es gs v
EntriesDemand m n _ _ v = ⊥

abbrev pub PairDemands : (root : ContextValue) (m : ℕ) → Matched → SchemeTree → Type 0
PairDemands root m (judgments j w) v =
    (j.judgment ≡ w.judgment) × (EntriesDemand m 0 j.context.entries (drop (length (entries_over root j.context.root)) w.context.entries) v
    ⊎ ListDemands m (length j.context.entries) j.args w.args v)
PairDemands root m (terms n s t) v = Demands m n s (embedded t) v

abbrev pub PairsDemand : (root : ContextValue) (m : ℕ) → List Matched → SchemeTree → Type 0
PairsDemand root m ps v = AnyByRecursion (λ p. PairDemands root m p v) ps

-- the value is one that the pairs ask for
abbrev pub IsAsked : ContextValue → List Matched → (m : ℕ) → Option Tree → Type 0
IsAsked root ps m given = MatchOption given ⊥ (λ t. PairsDemand root m ps (embedded t))

-- a value for each metavariable that the pairs ask for, or a metavariable of which nothing is asked
abbrev pub AreAsked : ContextValue → List Matched → List MetaDecl → Option (List (Option Tree)) → Type 0
AreAsked root ps metas answer =
    MatchOption answer ((m : ℕ) × (m < length metas) × ((v : SchemeTree) → PairsDemand root m ps v → ⊥))
    (λ given. (length given ≡ length metas) × AllNumbered (IsAsked root ps) 0 given)

-- the instance of the pattern is the term, or the judgment
abbrev pub Becomes : Instance → Matched → Type 0
Becomes inst (judgments j v) = judgment_instance inst j ≡ v
Becomes inst (terms n s t) = instance_of inst n s ≡ t
