-- What the steps of a proof make: something, and one thing only.
use Rattle.std.proofs.Common.{◌≡◌, ℕ, List, [], ◌∷◌, ◌++◌, length, Option, Some, None, slice_get, refl, ◌∙◌, sym, subst, arith}
use Rattle.std.proofs.lemmas.List.{length-append}
use Rattle.std.proofs.lemmas.Option.{slice_get_within, same_Some}
use Rattle.scheme_terms.specs.Forms.{Names, Instance}
use Rattle.pattern_unify.proofs.Places.{within as place_within}
use Rattle.rule_schemes.specs.Rules.{JudgmentScheme, Rule, Theory, IsAssumption, judgment_instance}
use Rattle.rule_schemes.specs.Derivation.{Derivation, node}
use Rattle.rule_schemes.specs.Statement.{Theorem}
use Rattle.core_proofs.specs.RuleStep.{AreCited}
use Rattle.core_proofs.specs.Step.{Step, begin_theorem, end_theorem, by_rule}
use Rattle.core_proofs.specs.Proof.{Standing, outside, within, Leads}
use Rattle.proof_trees.specs.Value.{subtrees}
use Rattle.core_proofs.specs.Value.{AreCitedTrees, Makes, makes_node, makes_last}
use Rattle.core_proofs.proofs.Moving.{leads_on}
use Rattle.theorem_runner.specs.Runs.{GoesWith}

-- what the first step makes, and the rest
pub record MakesNode (th : Theory) (inst : Instance) (scoped : List Derivation) (form : JudgmentScheme) (r : ℕ) (on : List ℕ) (steps : List Step) (made : Derivation) : Type 0 where
  pub cited : List Derivation
  pub rule : Rule
  pub here : slice_get th.rules r ≡ Some rule
  pub ordinary : IsAssumption rule → ⊥
  pub cited_are : AreCitedTrees scoped on cited
  pub rest : Makes th inst (scoped ++ node r (judgment_instance inst form) (subtrees cited) ∷ []) (Some (node r (judgment_instance inst form) (subtrees cited))) steps made

abbrev pub MakesOn : Theory → Instance → List Derivation → Option Derivation → List Step → Derivation → Type 0
MakesOn th inst scoped last [] made = ⊥
MakesOn th inst scoped last (begin_theorem n ∷ steps) made = ⊥
MakesOn th inst scoped last (end_theorem line ∷ steps) made = last ≡ Some made
MakesOn th inst scoped last (by_rule line form r on ∷ steps) made = MakesNode th inst scoped form r on steps made

pub makes_on : (th : Theory) (inst : Instance) (scoped : List Derivation) (last : Option Derivation) (steps : List Step) (made : Derivation) →
    Makes th inst scoped last steps made → MakesOn th inst scoped last steps made
makes_on th inst scoped last steps made (makes_node cited rule here ordinary cited_are rest) =
    record { cited = cited; rule = rule; here = here; ordinary = ordinary; cited_are = cited_are; rest = rest }
makes_on th inst scoped last steps made makes_last = refl

-- the cited trees are determined
one_cited : (scoped : List Derivation) (on : List ℕ) (ds es : List Derivation) → AreCitedTrees scoped on ds → AreCitedTrees scoped on es → es ≡ ds
one_cited scoped [] [] [] f g = refl
one_cited scoped [] [] (e ∷ es) f g = absurd g
one_cited scoped [] (d ∷ ds) es f g = absurd f
one_cited scoped (n ∷ on) [] es f g = absurd f
one_cited scoped (n ∷ on) (d ∷ ds) [] f g = absurd g
one_cited scoped (n ∷ on) (d ∷ ds) (e ∷ es) f g =
    let first : e ≡ d = same_Some e d (sym g.0 ∙ f.0) in
    let rest = one_cited scoped on ds es f.1 g.1 in
    λ i. first i ∷ rest i

pub makes_one : (th : Theory) (inst : Instance) (steps : List Step) (scoped : List Derivation) (last : Option Derivation) (d e : Derivation) →
    Makes th inst scoped last steps d → Makes th inst scoped last steps e → e ≡ d
makes_one th inst [] scoped last d e f g = absurd (makes_on th inst scoped last [] d f)
makes_one th inst (begin_theorem n ∷ steps) scoped last d e f g = absurd (makes_on th inst scoped last (begin_theorem n ∷ steps) d f)
makes_one th inst (end_theorem line ∷ steps) scoped last d e f g =
    same_Some e d (sym (makes_on th inst scoped last (end_theorem line ∷ steps) e g) ∙ makes_on th inst scoped last (end_theorem line ∷ steps) d f)
makes_one th inst (by_rule line form r on ∷ steps) scoped last d e f g =
    let a = makes_on th inst scoped last (by_rule line form r on ∷ steps) d f in
    let b = makes_on th inst scoped last (by_rule line form r on ∷ steps) e g in
    let same = one_cited scoped on a.cited b.cited a.cited_are b.cited_are in
    let rest = subst (λ (cs : List Derivation). Makes th inst (scoped ++ node r (judgment_instance inst form) (subtrees cs) ∷ [])
    (Some (node r (judgment_instance inst form) (subtrees cs))) steps e) same b.rest in
    makes_one th inst steps (scoped ++ node r (judgment_instance inst form) (subtrees a.cited) ∷ []) (Some (node r (judgment_instance inst form) (subtrees a.cited))) d e a.rest rest

-- the trees of cited steps, where there is a tree for each form in scope
pub cited_trees : (scoped : List JudgmentScheme) (ds : List Derivation) → length scoped ≡ length ds → (on : List ℕ) (cited : List JudgmentScheme) → AreCited scoped on cited →
    (trees : List Derivation) × AreCitedTrees ds on trees
cited_trees scoped ds same [] [] h = ([], tt)
cited_trees scoped ds same [] (j ∷ cited) h = absurd h
cited_trees scoped ds same (n ∷ on) [] h = absurd h
cited_trees scoped ds same (n ∷ on) (j ∷ cited) h =
    let below = slice_get_within scoped n j h.0 in
    let here = place_within ds n (omega (arith, below, same)) in
    let rest = cited_trees scoped ds same on cited h.1 in
    (here.0 ∷ rest.0, (here.1, rest.1))

pub last_made : (form : JudgmentScheme) (last : Option JudgmentScheme) (made : Option Derivation) → GoesWith last made → last ≡ Some form → (d : Derivation) × (made ≡ Some d)
last_made form None made goes e = absurd (let no : ⊥ = cc in no)
last_made form (Some j) None goes e = absurd goes
last_made form (Some j) (Some d) goes e = (d, refl)

-- right steps make something
pub makes_some : (th : Theory) (sts : List Theorem) (inst : Instance) (steps : List Step) (k n : ℕ) (scope : Names) (scoped : List JudgmentScheme) (last : Option JudgmentScheme)
    (ds : List Derivation) (made : Option Derivation) → Leads th sts (within k scope scoped last) steps (outside n) → length scoped ≡ length ds → GoesWith last made →
    (d : Derivation) × Makes th inst ds made steps d
makes_some th sts inst [] k n scope scoped last ds made leads same goes =
    let wrong = leads_on th sts (within k scope scoped last) (outside n) [] leads in absurd (let no : ⊥ = cc in no)
makes_some th sts inst (begin_theorem m ∷ steps) k n scope scoped last ds made leads same goes =
    let on = leads_on th sts (within k scope scoped last) (outside n) (begin_theorem m ∷ steps) leads in absurd on.1
makes_some th sts inst (end_theorem line ∷ steps) k n scope scoped last ds made leads same goes =
    let on = leads_on th sts (within k scope scoped last) (outside n) (end_theorem line ∷ steps) leads in
    let tree = last_made on.1.form last made goes on.1.last_is in
    (tree.0, subst (λ (o : Option Derivation). Makes th inst ds o (end_theorem line ∷ steps) tree.0) (sym tree.1) makes_last)
makes_some th sts inst (by_rule line form r on ∷ steps) k n scope scoped last ds made leads same goes =
    let go = leads_on th sts (within k scope scoped last) (outside n) (by_rule line form r on ∷ steps) leads in
    let right = go.1.right in
    let trees = cited_trees scoped ds same on right.cited right.cited_are in
    let tree = node r (judgment_instance inst form) (subtrees trees.0) in
    let longer : length (scoped ++ form ∷ []) ≡ length (ds ++ tree ∷ []) = omega (arith, length-append scoped (form ∷ []), length-append ds (tree ∷ []), same) in
    let rest = makes_some th sts inst steps k n scope (scoped ++ form ∷ []) (Some form) (ds ++ tree ∷ []) (Some tree)
    (subst (λ (t : Standing). Leads th sts t steps (outside n)) go.1.leads go.2) longer tt in
    (rest.0, makes_node trees.0 right.rule right.here right.is_instance.ordinary trees.1 rest.1)
