-- Right steps that lead from theorem to theorem are those of right trees: the other half of the law that kept steps are right trees.
use Rattle.std.specs.Prelude.{◌≡◌, ◌≤◌, ℕ, zero, suc, ◌+◌, ◌-◌, List, [], ◌∷◌, ◌++◌, length, get_or}
use Rattle.std.specs.List.{AllByRecursion}
use Rattle.std.proofs.Common.{refl, ap, sym, subst, ◌∙◌, arith}
use Rattle.rule_schemes.specs.Rules.{Theory}
use Rattle.rule_schemes.specs.Statement.{Theorem}
use Rattle.proof_trees.specs.Steps.{SplitHead, Step, begin_theorem, end_theorem, simple, begin_split, begin_case, end_case, end_split}
use Rattle.proof_trees.specs.Tree.{single, block, Items, no_items, item, Cases, no_cases, one_case, Proof, numbers_of, numbers_of_cases, flattened, flattened_cases, flattened_from}
use Rattle.case_split.specs.declared.choice.Place.{Place}
use Rattle.proof_trees.specs.Choices.{AreDifferentChoices}
use Rattle.proof_trees.specs.Here.{Here, after_items, after_block, around_cases, after_case, entering, beginning}
use Rattle.proof_trees.specs.Goals.{Last, no_step, last_after, taking_over, EndsWithGoal}
use Rattle.proof_trees.specs.Right.{AreRight, AreRightCases, AreRightProofs}
use Rattle.proof_trees.specs.Standings.{Opened, outside, within, between, opened, after_its_case, after_opened, begins, ends, by_step, splits, enters, leaves, closes, Leads, no_more_steps, one_step}
use Rattle.proof_trees.proofs.TreesLead.{Differs, length_joined, length_after_items, length_entering, length_after_case, closed_here, trees_lead}
use Rattle.proof_trees.specs.Laws.{WholeStepsAreTrees}

-- lists that begin alike
first_same : {A : Type 0} (xs : List A) (a b : A) (more others : List A) → xs ≡ a ∷ more → xs ≡ b ∷ others → a ≡ b
first_same xs a b more others e f = ap (λ ys. get_or ys 0 a) (sym e ∙ f)

-- a block, its end, what follows in its list, and the rest
joined : {A : Type 0} (cases items rest : List A) (end : A) → cases ++ (end ∷ (items ++ rest)) ≡ ((cases ++ (end ∷ [])) ++ items) ++ rest
joined [] items rest end = refl
joined (x ∷ cases) items rest end = ap (λ xs. x ∷ xs) (joined cases items rest end)

-- a case, its end, the later cases, and the rest
joined_case : {A : Type 0} (body later rest : List A) (end : A) → body ++ (end ∷ (later ++ rest)) ≡ (body ++ (end ∷ later)) ++ rest
joined_case [] later rest end = refl
joined_case (x ∷ body) later rest end = ap (λ xs. x ∷ xs) (joined_case body later rest end)

apart_from_first : (choice : ℕ × Place) (had due : List (ℕ × Place)) → AllByRecursion (Differs (choice ∷ had)) due → AllByRecursion (λ other. choice ≡ other → ⊥) due
apart_from_first choice had [] h = tt
apart_from_first choice had (d ∷ due) h = (h.0.0, apart_from_first choice had due h.1)

apart_from_rest : (choice : ℕ × Place) (had due : List (ℕ × Place)) → AllByRecursion (Differs (choice ∷ had)) due → AllByRecursion (Differs had) due
apart_from_rest choice had [] h = tt
apart_from_rest choice had (d ∷ due) h = (h.0.1, apart_from_rest choice had due h.1)

module _ (th : Theory) (sts : List Theorem) (c : ℕ) where
  -- What ends the steps of a proof or of a case, and the steps after it, which lead to the end of all proofs.
  data Ended (k : ℕ) (here : Here) (last : Last) : List Opened → List Step → Type 0 where
    proof_ended : (line : ℕ) (rest : List Step) → EndsWithGoal th here last → Leads th sts (outside (suc k)) rest (outside c) →
        Ended k here last [] (end_theorem line ∷ rest)
    case_ended : (o : Opened) (blocks : List Opened) (line : ℕ) (choice : ℕ × Place) (due : List (ℕ × Place)) (rest : List Step) → EndsWithGoal th here last →
        o.due ≡ choice ∷ due → Leads th sts (between k (after_its_case o choice due (length here.held)) blocks) rest (outside c) →
        Ended k here last (o ∷ blocks) (end_case line ∷ rest)

  record ProofEnd (k : ℕ) (here : Here) (last : Last) (steps : List Step) : Type 0 where
    line : ℕ
    rest : List Step
    same : steps ≡ end_theorem line ∷ rest
    goal : EndsWithGoal th here last
    leads : Leads th sts (outside (suc k)) rest (outside c)

  proof_end : {k : ℕ} {here : Here} {last : Last} {steps : List Step} → Ended k here last [] steps → ProofEnd k here last steps
  proof_end (proof_ended line rest goal leads) = record { line = line; rest = rest; same = refl; goal = goal; leads = leads }

  record CaseEnd (k : ℕ) (here : Here) (last : Last) (o : Opened) (blocks : List Opened) (steps : List Step) : Type 0 where
    line : ℕ
    choice : ℕ × Place
    due : List (ℕ × Place)
    rest : List Step
    same : steps ≡ end_case line ∷ rest
    goal : EndsWithGoal th here last
    is_due : o.due ≡ choice ∷ due
    leads : Leads th sts (between k (after_its_case o choice due (length here.held)) blocks) rest (outside c)

  case_end : {k : ℕ} {here : Here} {last : Last} {o : Opened} {blocks : List Opened} {steps : List Step} → Ended k here last (o ∷ blocks) steps → CaseEnd k here last o blocks steps
  case_end (case_ended o blocks line choice due rest goal is_due leads) =
      record { line = line; choice = choice; due = due; rest = rest; same = refl; goal = goal; is_due = is_due; leads = leads }

  -- the steps up to the end of a proof or of a case, as a tree
  record ItemsRead (k : ℕ) (here : Here) (last : Last) (blocks : List Opened) (steps : List Step) : Type 0 where
    items : Items
    rest : List Step
    same : steps ≡ flattened items ++ rest
    right : AreRight th sts k here items
    ended : Ended k (after_items here items) (last_after last items) blocks rest

  -- the cases of a block up to its end
  record CasesRead (k : ℕ) (o : Opened) (blocks : List Opened) (steps : List Step) : Type 0 where
    cases : Cases
    due : List (ℕ × Place)
    is_due : o.due ≡ due
    apart : AllByRecursion (Differs o.had) due
    different : AreDifferentChoices due
    right : AreRightCases th sts k o.around o.head.subject o.subject due cases
    line : ℕ
    rest : List Step
    same : steps ≡ flattened_cases cases ++ (end_split line ∷ rest)
    done : Opened
    before : done.before ≡ o.before
    head : done.head ≡ o.head
    numbers : length done.around.held ≡ length o.around.held + numbers_of_cases cases
    leads : Leads th sts (within k (after_opened done) (taking_over done.head.forms) blocks) rest (outside c)

  mutual
    read_items : (n : ℕ) {k : ℕ} {here : Here} {last : Last} {blocks : List Opened} {steps : List Step} → length steps ≤ n →
        Leads th sts (within k here last blocks) steps (outside c) → ItemsRead k here last blocks steps
    read_items zero le (one_step m l) = absurd (let no_step : ⊥ = omega (arith, le) in no_step)
    read_items (suc n) {k} {here} {last} {blocks} le (one_step {steps = more} (by_step {s = s} right) l) =
        let r : ItemsRead k _ _ blocks more = read_items n (omega (arith, le)) l in
        record { items = item (single s) r.items; rest = r.rest; same = ap (λ xs. simple s ∷ xs) r.same; right = (right, r.right); ended = r.ended }
    read_items (suc n) {k} {here} {last} {blocks} le (one_step {steps = more} (splits {head = head} {subject = subject} right) l) =
        let b : CasesRead k (opened here head subject) blocks more = read_cases n (omega (arith, le)) l in
        let counts = length_joined (flattened_cases b.cases) (end_split b.line ∷ b.rest) in
        let sizes : length more ≡ length (flattened_cases b.cases ++ (end_split b.line ∷ b.rest)) = ap length b.same in
        let r : ItemsRead k (after_block here head b.cases) (taking_over head.forms) blocks b.rest =
        read_items n (omega (arith, le, counts, sizes))
        (subst (λ (h : SplitHead). Leads th sts (within k (after_block here head b.cases) (taking_over h.forms) blocks) b.rest (outside c)) b.head
        (subst (λ (to : Here). Leads th sts (within k to (taking_over b.done.head.forms) blocks) b.rest (outside c))
        (closed_here th sts k here head b.cases b.done b.before b.head b.numbers) b.leads)) in
        record {
          items = item (block head b.cases b.line) r.items;
          rest = r.rest;
          same = ap (λ xs. begin_split head ∷ xs)
              (b.same ∙ ap (λ xs. flattened_cases b.cases ++ (end_split b.line ∷ xs)) r.same ∙ joined (flattened_cases b.cases) (flattened r.items) r.rest (end_split b.line));
          right = (
            (
              subject,
              right,
              subst AreDifferentChoices (sym b.is_due) b.different,
              subst (λ d. AreRightCases th sts k (around_cases here head) head.subject subject d b.cases) (sym b.is_due) b.right,
            ),
            r.right,
          );
          ended = r.ended;
        }
    read_items (suc n) le (one_step (ends {line = line} goal) l) =
        record { items = no_items; rest = _; same = refl; right = tt; ended = proof_ended line _ goal l }
    read_items (suc n) le (one_step (leaves {line = line} goal is_due) l) =
        record { items = no_items; rest = _; same = refl; right = tt; ended = case_ended _ _ line _ _ _ goal is_due l }

    read_cases : (n : ℕ) {k : ℕ} {o : Opened} {blocks : List Opened} {steps : List Step} → length steps ≤ n →
        Leads th sts (between k o blocks) steps (outside c) → CasesRead k o blocks steps
    read_cases zero le (one_step m l) = absurd (let no_step : ⊥ = omega (arith, le) in no_step)
    read_cases (suc n) {k} {o} {blocks} le (one_step {steps = more} (closes {line = line} is_due) l) =
        record {
          cases = no_cases;
          due = [];
          is_due = is_due;
          apart = tt;
          different = tt;
          right = tt;
          line = line;
          rest = more;
          same = refl;
          done = o;
          before = refl;
          head = refl;
          numbers = omega arith;
          leads = l;
        }
    read_cases (suc n) {k} {o} {blocks} le (one_step {steps = more} (enters {head = head} {due = due} {refine = refine} is_due apart case_head) l) =
        let inner : Here = entering o.around o.head.subject head refine in
        let r : ItemsRead k inner no_step (o ∷ blocks) more = read_items n (omega (arith, le)) l in
        let e : CaseEnd k (after_items inner r.items) (last_after no_step r.items) o blocks r.rest = case_end r.ended in
        let sizes : length more ≡ length (flattened r.items ++ r.rest) = ap length r.same in
        let counts = length_joined (flattened r.items) r.rest in
        let ends_at : length r.rest ≡ length (end_case e.line ∷ e.rest) = ap length e.same in
        let next : Opened = after_its_case o e.choice e.due (length (after_items inner r.items).held) in
        let later : CasesRead k next blocks e.rest = read_cases n (omega (arith, le, sizes, counts, ends_at)) e.leads in
        let choice : (head.number, head.place) ≡ e.choice = first_same o.due (head.number, head.place) e.choice due e.due is_due e.is_due in
        let count : length (after_items inner r.items).held - length o.around.held ≡ length head.premises + numbers_of r.items =
        (let all = length_after_items r.items inner in let front = length_entering o.around o.head.subject head refine in omega (arith, all, front)) in
        record {
          cases = one_case head r.items e.line later.cases;
          due = e.choice ∷ later.due;
          is_due = e.is_due ∙ ap (λ d. e.choice ∷ d) later.is_due;
          apart = (subst (λ d. Differs o.had d) choice apart, apart_from_rest e.choice o.had later.due later.apart);
          different = (apart_from_first e.choice o.had later.due later.apart, later.different);
          right = (
            choice,
            (refine, case_head, r.right, e.goal),
            subst (λ m. AreRightCases th sts k (after_case o.around m) o.head.subject o.subject later.due later.cases) count later.right,
          );
          line = later.line;
          rest = later.rest;
          same = ap (λ xs. begin_case head ∷ xs)
              (r.same ∙ ap (λ xs. flattened r.items ++ xs) (e.same ∙ ap (λ xs. end_case e.line ∷ xs) later.same)
              ∙ joined_case (flattened r.items) (flattened_cases later.cases) (end_split later.line ∷ later.rest) (end_case e.line));
          done = later.done;
          before = later.before;
          head = later.head;
          numbers = (let gap = length_after_case o.around (length (after_items inner r.items).held - length o.around.held) in
              let sum = later.numbers in omega (arith, sum, gap, count));
          leads = later.leads;
        }

  -- the proofs of the theorems that are left
  record ProofsRead (k : ℕ) (steps : List Step) : Type 0 where
    proofs : List Proof
    right : AreRightProofs th sts k proofs
    same : steps ≡ flattened_from k proofs
    counted : k + length proofs ≡ c

  read_proofs : (n : ℕ) {k : ℕ} {steps : List Step} → length steps ≤ n → Leads th sts (outside k) steps (outside c) → ProofsRead k steps
  read_proofs n le no_more_steps = record { proofs = []; right = tt; same = refl; counted = omega arith }
  read_proofs zero le (one_step m l) = absurd (let no_step : ⊥ = omega (arith, le) in no_step)
  read_proofs (suc n) {k} le (one_step {steps = more} (begins {st = st} {scope = scope} there is_scope) l) =
      let start : Here = beginning st scope is_scope.goal_names in
      let r : ItemsRead k start no_step [] more = read_items n (omega (arith, le)) l in
      let e : ProofEnd k (after_items start r.items) (last_after no_step r.items) r.rest = proof_end r.ended in
      let sizes : length more ≡ length (flattened r.items ++ r.rest) = ap length r.same in
      let counts = length_joined (flattened r.items) r.rest in
      let ends_at : length r.rest ≡ length (end_theorem e.line ∷ e.rest) = ap length e.same in
      let later : ProofsRead (suc k) e.rest = read_proofs n (omega (arith, le, sizes, counts, ends_at)) e.leads in
      let total = later.counted in
      record {
        proofs = record { body = r.items; end = e.line } ∷ later.proofs;
        right = (record { statement = st; there = there; scope = scope; is_scope = is_scope; right = r.right; ends = e.goal }, later.right);
        same = ap (λ xs. begin_theorem k ∷ xs)
            (r.same ∙ ap (λ xs. flattened r.items ++ xs) (e.same ∙ ap (λ xs. end_theorem e.line ∷ xs) later.same)
            ∙ joined_case (flattened r.items) [] (flattened_from (suc k) later.proofs) (end_theorem e.line));
        counted = omega (arith, total);
      }

-- Kept steps that lead from no theorem to so many are those of right trees, and only these.
pub whole_steps_are_trees : WholeStepsAreTrees
whole_steps_are_trees th sts k steps = (
  λ leads.
      (let r : ProofsRead th sts k 0 steps = read_proofs th sts k (length steps) (omega arith) leads in
      let total = r.counted in
      record { proofs = r.proofs; counted = omega (arith, total); right = r.right; same = r.same }),
  λ trees. trees_lead th sts k steps trees,
)
