-- The value of a theorem by the steps of proofs is its value by the proofs on trees.
use Rattle.std.proofs.Common.{◌≡◌, ℕ, zero, suc, ◌+◌, List, [], ◌∷◌, ◌++◌, map, append_assoc, Option, Some, None, slice_get, refl, ap, ◌∙◌, sym, subst, arith}
use Rattle.std.specs.Prelude.{option_map}
use Rattle.std.specs.List.{AllByRecursion}
use Rattle.std.proofs.lemmas.List.{map-append}
use Rattle.std.proofs.lemmas.Option.{slice_get-map}
use Rattle.scheme_terms.specs.Forms.{ContextValue, Names, Instance}
use Rattle.rule_schemes.specs.Plain.{IsPlainSystem}
use Rattle.rule_schemes.specs.Rules.{JudgmentScheme, Rule, Theory, IsAssumption, judgment_instance}
use Rattle.rule_schemes.specs.Derivation.{Derivation, node}
use Rattle.scheme_terms.specs.Instance.{FitsScope}
use Rattle.rule_schemes.specs.Statement.{Theorem, InputTree, derived, term, IsInstantiation}
use Rattle.proof_trees.specs.Right.{IsProofScope}
use Rattle.proof_trees.specs.Steps as trees
use Rattle.proof_trees.specs.Steps.{Simple, SplitHead}
use Rattle.proof_trees.specs.Tree.{Item, single, block, Items, no_items, item, Cases, no_cases, one_case, Proof, flattened_item, flattened, flattened_cases, flattened_proof, flattened_from}
use Rattle.proof_trees.specs.Here.{Here, after_step, beginning}
use Rattle.proof_trees.specs.Value as values
use Rattle.proof_trees.specs.Value.{subtrees, all_made, AreMadeAt, MakesStep, makes_node, makes_leaf, makes_single, value_of}
use Rattle.core_proofs.specs.Step.{Step, begin_theorem, end_theorem, by_rule}
use Rattle.core_proofs.specs.Trees.{whole_step, ValuesAreOfTrees}
use Rattle.core_proofs.specs.Value.{AreCitedTrees, given_trees, Makes, makes_node as node_made, makes_last, HasValue}
use Rattle.core_proofs.proofs.TreeSteps.{ordinary}

-- the beginning of a theorem stands in no proof
abbrev IsNoBegin : trees.Step → Type 0
IsNoBegin (trees.begin_theorem k) = ⊥
IsNoBegin _ = Unit {0}

all_joined : {A : Type 0} (P : A → Type 0) (xs ys : List A) → AllByRecursion P xs → AllByRecursion P ys → AllByRecursion P (xs ++ ys)
all_joined P [] ys h k = k
all_joined P (x ∷ xs) ys h k = (h.0, all_joined P xs ys h.1 k)

mutual
  none_in_item : (i : Item) → AllByRecursion IsNoBegin (flattened_item i)
  none_in_item (single s) = (tt, tt)
  none_in_item (block head cases end) = (tt, all_joined IsNoBegin (flattened_cases cases) (trees.end_split end ∷ []) (none_in_cases cases) (tt, tt))

  none_in_items : (items : Items) → AllByRecursion IsNoBegin (flattened items)
  none_in_items no_items = tt
  none_in_items (item i rest) = all_joined IsNoBegin (flattened_item i) (flattened rest) (none_in_item i) (none_in_items rest)

  none_in_cases : (cases : Cases) → AllByRecursion IsNoBegin (flattened_cases cases)
  none_in_cases no_cases = tt
  none_in_cases (one_case head body end rest) =
      (tt, all_joined IsNoBegin (flattened body) (trees.end_case end ∷ flattened_cases rest) (none_in_items body) (tt, none_in_cases rest))

-- what begins a theorem comes after steps that do not
skip : (k : ℕ) (xs rest before body : List trees.Step) → AllByRecursion IsNoBegin xs → xs ++ rest ≡ before ++ trees.begin_theorem k ∷ body →
    (more : List trees.Step) × (rest ≡ more ++ trees.begin_theorem k ∷ body)
skip k [] rest before body none e = (before, e)
skip k (x ∷ xs) rest [] body none e = absurd (subst IsNoBegin (let first : x ≡ trees.begin_theorem k = cc in first) none.0)
skip k (x ∷ xs) rest (b ∷ before) body none e = skip k xs rest before body none.1 (let tail : xs ++ rest ≡ before ++ trees.begin_theorem k ∷ body = cc in tail)

-- the proof that begins there
record FoundProof (proofs : List Proof) (first k : ℕ) (body : List trees.Step) : Type 0 where
  place : ℕ
  number : k ≡ first + place
  proof : Proof
  there : slice_get proofs place ≡ Some proof
  rest : List trees.Step
  body_is : body ≡ flattened proof.body ++ trees.end_theorem proof.end ∷ rest

find : (proofs : List Proof) (first k : ℕ) (before body : List trees.Step) → flattened_from first proofs ≡ before ++ trees.begin_theorem k ∷ body → FoundProof proofs first k body
find [] first k [] body e = absurd (let no : ⊥ = cc in no)
find [] first k (b ∷ before) body e = absurd (let no : ⊥ = cc in no)
find (p ∷ ps) first k [] body e =
    let number : trees.begin_theorem first ≡ trees.begin_theorem k = cc in
    let same : first ≡ k = cc in
    let tail : (flattened p.body ++ trees.end_theorem p.end ∷ []) ++ flattened_from (suc first) ps ≡ body = cc in
    record {
      place = 0;
      number = omega (arith, same);
      proof = p;
      there = refl;
      rest = flattened_from (suc first) ps;
      body_is = sym tail ∙ append_assoc (flattened p.body) (trees.end_theorem p.end ∷ []) (flattened_from (suc first) ps);
    }
find (p ∷ ps) first k (b ∷ before) body e =
    let tail : (flattened p.body ++ trees.end_theorem p.end ∷ []) ++ flattened_from (suc first) ps ≡ before ++ trees.begin_theorem k ∷ body = cc in
    let past = skip k (flattened p.body ++ trees.end_theorem p.end ∷ []) (flattened_from (suc first) ps) before body
    (all_joined IsNoBegin (flattened p.body) (trees.end_theorem p.end ∷ []) (none_in_items p.body) (tt, tt)) tail in
    let f = find ps (suc first) k past.0 body past.1 in
    record { place = suc f.place; number = (let n = f.number in omega (arith, n)); proof = f.proof; there = f.there; rest = f.rest; body_is = f.body_is }

-- where a proof begins among the steps
record ProofPlace (proofs : List Proof) (first place : ℕ) (proof : Proof) : Type 0 where
  before : List trees.Step
  rest : List trees.Step
  split : flattened_from first proofs ≡ before ++ trees.begin_theorem (first + place) ∷ (flattened proof.body ++ trees.end_theorem proof.end ∷ rest)

locate : (proofs : List Proof) (first place : ℕ) (proof : Proof) → slice_get proofs place ≡ Some proof → ProofPlace proofs first place proof
locate [] first place proof e = absurd (let no : ⊥ = cc in no)
locate (p ∷ ps) first zero proof e =
    let same : p ≡ proof = cc in
    record {
      before = [];
      rest = flattened_from (suc first) ps;
      split = ap (λ (q : Proof). flattened_proof first q ++ flattened_from (suc first) ps) same
          ∙ ap (λ xs. trees.begin_theorem first ∷ xs) (append_assoc (flattened proof.body) (trees.end_theorem proof.end ∷ []) (flattened_from (suc first) ps))
          ∙ ap (λ n. trees.begin_theorem n ∷ (flattened proof.body ++ trees.end_theorem proof.end ∷ flattened_from (suc first) ps)) (let n : first ≡ first + 0 = omega arith in n);
    }
locate (p ∷ ps) first (suc place) proof e =
    let l = locate ps (suc first) place proof e in
    record {
      before = flattened_proof first p ++ l.before;
      rest = l.rest;
      split = ap (λ xs. flattened_proof first p ++ xs) l.split
          ∙ sym (append_assoc (flattened_proof first p) l.before (trees.begin_theorem (suc first + place) ∷ (flattened proof.body ++ trees.end_theorem proof.end ∷ l.rest)))
          ∙ ap (λ n. (flattened_proof first p ++ l.before) ++ trees.begin_theorem n ∷ (flattened proof.body ++ trees.end_theorem proof.end ∷ l.rest))
          (let n : suc first + place ≡ first + suc place = omega arith in n);
    }

-- the steps before and after the beginning of a theorem
record StepPlace (k : ℕ) (steps : List Step) (body : List trees.Step) : Type 0 where
  before : List Step
  after : List Step
  split : steps ≡ before ++ begin_theorem k ∷ after
  after_is : map whole_step after ≡ body

is_beginning : (k : ℕ) (s : Step) → whole_step s ≡ trees.begin_theorem k → s ≡ begin_theorem k
is_beginning k (begin_theorem n) e = let same : n ≡ k = cc in ap begin_theorem same
is_beginning k (end_theorem line) e = absurd (let no : ⊥ = cc in no)
is_beginning k (by_rule line form r on) e = absurd (let no : ⊥ = cc in no)

find_step : (k : ℕ) (steps : List Step) (before body : List trees.Step) → map whole_step steps ≡ before ++ trees.begin_theorem k ∷ body → StepPlace k steps body
find_step k [] [] body e = absurd (let no : ⊥ = cc in no)
find_step k [] (b ∷ before) body e = absurd (let no : ⊥ = cc in no)
find_step k (s ∷ steps) [] body e =
    let first : whole_step s ≡ trees.begin_theorem k = cc in
    let tail : map whole_step steps ≡ body = cc in
    record { before = []; after = steps; split = ap (λ x. x ∷ steps) (is_beginning k s first); after_is = tail }
find_step k (s ∷ steps) (b ∷ before) body e =
    let f = find_step k steps before body (let tail : map whole_step steps ≡ before ++ trees.begin_theorem k ∷ body = cc in tail) in
    record { before = s ∷ f.before; after = f.after; split = ap (λ xs. s ∷ xs) f.split; after_is = f.after_is }

-- the last derivation, as what a proof on a tree has made last
abbrev last_made : Option Derivation → List Derivation
last_made None = []
last_made (Some d) = d ∷ []

given_alike : (xs : List InputTree) → values.given_trees xs ≡ all_made (given_trees xs)
given_alike [] = refl
given_alike (derived d ∷ xs) = ap (λ (ds : List (Option Derivation)). Some d ∷ ds) (given_alike xs)
given_alike (term t ∷ xs) = given_alike xs

abbrev put : Derivation → Option Derivation
put d = Some d

made_up : (ds : List Derivation) (on : List ℕ) (cited : List Derivation) → AreCitedTrees ds on cited → AreMadeAt (all_made ds) on cited
made_up ds [] [] h = tt
made_up ds [] (c ∷ cited) h = absurd h
made_up ds (n ∷ on) [] h = absurd h
made_up ds (n ∷ on) (c ∷ cited) h = (slice_get-map put ds n ∙ ap (option_map put) h.0, made_up ds on cited h.1)

one_some : (o : Option Derivation) (d : Derivation) → option_map put o ≡ Some (Some d) → o ≡ Some d
one_some None d e = absurd (let no : ⊥ = cc in no)
one_some (Some x) d e = let same : x ≡ d = cc in ap put same

made_down : (ds : List Derivation) (on : List ℕ) (cited : List Derivation) → AreMadeAt (all_made ds) on cited → AreCitedTrees ds on cited
made_down ds [] [] h = tt
made_down ds [] (c ∷ cited) h = absurd h
made_down ds (n ∷ on) [] h = absurd h
made_down ds (n ∷ on) (c ∷ cited) h = (one_some (slice_get ds n) c (sym (slice_get-map put ds n) ∙ h.0), made_down ds on cited h.1)

module _ (th : Theory) (system : IsPlainSystem th) (sts : List Theorem) (proofs : List Proof) (inst : Instance) where
  -- what a step by a rule makes on a tree
  record NodeMade (held : List (Option Derivation)) (form : JudgmentScheme) (r : ℕ) (on : List ℕ) (more : Instance) (made : List Derivation) : Type 0 where
    cited : List Derivation
    rule : Rule
    there : slice_get th.rules r ≡ Some rule
    ordinary_is : IsAssumption rule → ⊥
    are_made : AreMadeAt held on cited
    same : more ≡ inst
    made_is : made ≡ node r (judgment_instance inst form) (subtrees cited) ∷ []

  node_of : {here : Here} {held : List (Option Derivation)} {line r : ℕ} {form : JudgmentScheme} {on : List ℕ} {more : Instance} {made : List Derivation} →
      MakesStep th sts proofs here inst held (trees.by_rule line form r on) more made → NodeMade held form r on more made
  node_of (makes_node rule cited there ordinary_is are_made) =
      record { cited = cited; rule = rule; there = there; ordinary_is = ordinary_is; are_made = are_made; same = refl; made_is = refl }
  node_of {r = r} (makes_leaf rule there is) = absurd (ordinary th system r rule there is)

  record SingleMade (here : Here) (held : List (Option Derivation)) (s : Simple) (rest : Items) (made : List Derivation) : Type 0 where
    more : Instance
    first : List Derivation
    step : MakesStep th sts proofs here inst held s more first
    after : values.Makes th sts proofs (after_step here s) more (held ++ all_made first) first rest made

  single_of : {here : Here} {held : List (Option Derivation)} {last made : List Derivation} {s : Simple} {rest : Items} →
      values.Makes th sts proofs here inst held last (item (single s) rest) made → SingleMade here held s rest made
  single_of (makes_single {more = more} {ds = ds} step after) = record { more = more; first = ds; step = step; after = after }

  last_of : {here : Here} {held : List (Option Derivation)} {last made : List Derivation} → values.Makes th sts proofs here inst held last no_items made → last ≡ made
  last_of values.makes_last = refl

  made_more : (ds : List Derivation) (d : Derivation) → all_made ds ++ all_made (d ∷ []) ≡ all_made (ds ++ d ∷ [])
  made_more ds d = sym (map-append put ds (d ∷ []))

  -- the steps up to the end of a proof make what its tree makes
  up_makes : (body : List Step) (items : Items) (end : ℕ) (rest : List trees.Step) (here : Here) (ds : List Derivation) (last : Option Derivation) (d : Derivation) →
      map whole_step body ≡ flattened items ++ trees.end_theorem end ∷ rest → Makes th inst ds last body d →
      values.Makes th sts proofs here inst (all_made ds) (last_made last) items (d ∷ [])
  up_makes [] items end rest here ds last d e m = elim m [ ]
  up_makes (begin_theorem n ∷ body) items end rest here ds last d e m = elim m [ ]
  up_makes (end_theorem line ∷ body) no_items end rest here ds last d e makes_last = values.makes_last
  up_makes (end_theorem line ∷ body) (item (single s) items) end rest here ds last d e m = absurd (let no : ⊥ = cc in no)
  up_makes (end_theorem line ∷ body) (item (block head cases stop) items) end rest here ds last d e m = absurd (let no : ⊥ = cc in no)
  up_makes (by_rule line form r on ∷ body) no_items end rest here ds last d e m = absurd (let no : ⊥ = cc in no)
  up_makes (by_rule line form r on ∷ body) (item (block head cases stop) items) end rest here ds last d e m = absurd (let no : ⊥ = cc in no)
  up_makes (by_rule line form r on ∷ body) (item (single s) items) end rest here ds last d e (node_made cited rule there ordinary_is cited_are after) =
      let same : trees.by_rule line form r on ≡ s = cc in
      let tail : map whole_step body ≡ flattened items ++ trees.end_theorem end ∷ rest = cc in
      let made : Derivation = node r (judgment_instance inst form) (subtrees cited) in
      let later = up_makes body items end rest (after_step here (trees.by_rule line form r on)) (ds ++ made ∷ []) (Some made) d tail after in
      subst (λ (x : Simple). values.Makes th sts proofs here inst (all_made ds) (last_made last) (item (single x) items) (d ∷ [])) same
      (makes_single (makes_node rule cited there ordinary_is (made_up ds on cited cited_are))
      (subst (λ (hs : List (Option Derivation)). values.Makes th sts proofs (after_step here (trees.by_rule line form r on)) inst hs (made ∷ []) items (d ∷ []))
      (sym (made_more ds made)) later))

  -- and the other way round
  down_last : (line : ℕ) (body : List Step) (ds : List Derivation) (last : Option Derivation) (d : Derivation) → last_made last ≡ d ∷ [] →
      Makes th inst ds last (end_theorem line ∷ body) d
  down_last line body ds None d e = absurd (let no : ⊥ = cc in no)
  down_last line body ds (Some x) d e =
      let same : x ≡ d = cc in subst (λ (y : Derivation). Makes th inst ds (Some x) (end_theorem line ∷ body) y) same makes_last

  down_makes : (body : List Step) (items : Items) (end : ℕ) (rest : List trees.Step) (here : Here) (ds : List Derivation) (last : Option Derivation) (d : Derivation) →
      map whole_step body ≡ flattened items ++ trees.end_theorem end ∷ rest →
      values.Makes th sts proofs here inst (all_made ds) (last_made last) items (d ∷ []) → Makes th inst ds last body d
  down_makes [] no_items end rest here ds last d e m = absurd (let no : ⊥ = cc in no)
  down_makes [] (item (single s) items) end rest here ds last d e m = absurd (let no : ⊥ = cc in no)
  down_makes [] (item (block head cases stop) items) end rest here ds last d e m = absurd (let no : ⊥ = cc in no)
  down_makes (begin_theorem n ∷ body) no_items end rest here ds last d e m = absurd (let no : ⊥ = cc in no)
  down_makes (begin_theorem n ∷ body) (item (single s) items) end rest here ds last d e m = absurd (let no : ⊥ = cc in no)
  down_makes (begin_theorem n ∷ body) (item (block head cases stop) items) end rest here ds last d e m = absurd (let no : ⊥ = cc in no)
  down_makes (end_theorem line ∷ body) no_items end rest here ds last d e m = down_last line body ds last d (last_of m)
  down_makes (end_theorem line ∷ body) (item (single s) items) end rest here ds last d e m = absurd (let no : ⊥ = cc in no)
  down_makes (end_theorem line ∷ body) (item (block head cases stop) items) end rest here ds last d e m = absurd (let no : ⊥ = cc in no)
  down_makes (by_rule line form r on ∷ body) no_items end rest here ds last d e m = absurd (let no : ⊥ = cc in no)
  down_makes (by_rule line form r on ∷ body) (item (block head cases stop) items) end rest here ds last d e m = absurd (let no : ⊥ = cc in no)
  down_makes (by_rule line form r on ∷ body) (item (single s) items) end rest here ds last d e m =
      let same : trees.by_rule line form r on ≡ s = cc in
      let tail : map whole_step body ≡ flattened items ++ trees.end_theorem end ∷ rest = cc in
      let one = single_of (subst (λ (x : Simple). values.Makes th sts proofs here inst (all_made ds) (last_made last) (item (single x) items) (d ∷ [])) (sym same) m) in
      let by = node_of one.step in
      let made : Derivation = node r (judgment_instance inst form) (subtrees by.cited) in
      let after : values.Makes th sts proofs (after_step here (trees.by_rule line form r on)) inst (all_made ds ++ all_made (made ∷ [])) (made ∷ []) items (d ∷ []) =
      subst (λ (xs : List Derivation). values.Makes th sts proofs (after_step here (trees.by_rule line form r on)) inst (all_made ds ++ all_made xs) xs items (d ∷ [])) by.made_is
      (subst (λ (i : Instance). values.Makes th sts proofs (after_step here (trees.by_rule line form r on)) i (all_made ds ++ all_made one.first) one.first items (d ∷ [])) by.same one.after) in
      node_made by.cited by.rule by.there by.ordinary_is (made_down ds on by.cited by.are_made)
      (down_makes body items end rest (after_step here (trees.by_rule line form r on)) (ds ++ made ∷ []) (Some made) d tail
      (subst (λ (hs : List (Option Derivation)). values.Makes th sts proofs (after_step here (trees.by_rule line form r on)) inst hs (made ∷ []) items (d ∷ [])) (made_more ds made) after))

-- what the value of a theorem on a tree is made of
record ValueMade (th : Theory) (sts : List Theorem) (proofs : List Proof) (k : ℕ) (v : ContextValue) (xs : List InputTree) (made : List Derivation) : Type 0 where
  statement : Theorem
  proof : Proof
  scope : Names
  inst : Instance
  here : slice_get sts k ≡ Some statement
  there : slice_get proofs k ≡ Some proof
  is_scope : IsProofScope statement scope
  sets : FitsScope th.sig scope inst
  fits : IsInstantiation th statement v inst xs
  makes : values.Makes th sts proofs (beginning statement scope is_scope.goal_names) inst (values.given_trees xs) [] proof.body made

value_made : {th : Theory} {sts : List Theorem} {proofs : List Proof} {k : ℕ} {v : ContextValue} {xs : List InputTree} {made : List Derivation} →
    values.HasValue th sts proofs k v xs made → ValueMade th sts proofs k v xs made
value_made (value_of statement proof scope inst here there is_scope sets fits makes) =
    record {
      statement = statement;
      proof = proof;
      scope = scope;
      inst = inst;
      here = here;
      there = there;
      is_scope = is_scope;
      sets = sets;
      fits = fits;
      makes = makes;
    }

pub values_are_of_trees : ValuesAreOfTrees
values_are_of_trees th sts steps proofs k v xs d system same = (up, down)
  where
    up : HasValue th sts steps k v xs d → values.HasValue th sts proofs k v xs (d ∷ [])
    up h =
        let split : flattened_from 0 proofs ≡ map whole_step h.before ++ trees.begin_theorem k ∷ map whole_step h.body =
        sym same ∙ ap (map whole_step) h.split ∙ map-append whole_step h.before (begin_theorem k ∷ h.body) in
        let f = find proofs 0 k (map whole_step h.before) (map whole_step h.body) split in
        let number : f.place ≡ k = (let n = f.number in omega (arith, n)) in
        value_of h.statement f.proof h.scope h.inst h.here (ap (slice_get proofs) (sym number) ∙ f.there) h.is_scope h.sets h.fits
        (subst (λ (hs : List (Option Derivation)). values.Makes th sts proofs (beginning h.statement h.scope h.is_scope.goal_names) h.inst hs [] f.proof.body (d ∷ []))
        (sym (given_alike xs))
        (up_makes th system sts proofs h.inst h.body f.proof.body f.proof.end f.rest (beginning h.statement h.scope h.is_scope.goal_names) (given_trees xs) None d f.body_is h.makes))

    down : values.HasValue th sts proofs k v xs (d ∷ []) → HasValue th sts steps k v xs d
    down value =
        let h = value_made value in
        let l = locate proofs 0 k h.proof h.there in
        let number : 0 + k ≡ k = omega arith in
        let split : map whole_step steps ≡ l.before ++ trees.begin_theorem k ∷ (flattened h.proof.body ++ trees.end_theorem h.proof.end ∷ l.rest) =
        same ∙ l.split ∙ ap (λ n. l.before ++ trees.begin_theorem n ∷ (flattened h.proof.body ++ trees.end_theorem h.proof.end ∷ l.rest)) number in
        let p = find_step k steps l.before (flattened h.proof.body ++ trees.end_theorem h.proof.end ∷ l.rest) split in
        record {
          statement = h.statement;
          here = h.here;
          before = p.before;
          body = p.after;
          split = p.split;
          scope = h.scope;
          is_scope = h.is_scope;
          inst = h.inst;
          sets = h.sets;
          fits = h.fits;
          makes = down_makes th system sts proofs h.inst p.after h.proof.body h.proof.end l.rest (beginning h.statement h.scope h.is_scope.goal_names) (given_trees xs) None d p.after_is
              (subst (λ (hs : List (Option Derivation)). values.Makes th sts proofs (beginning h.statement h.scope h.is_scope.goal_names) h.inst hs [] h.proof.body (d ∷ []))
              (given_alike xs) h.makes);
        }
