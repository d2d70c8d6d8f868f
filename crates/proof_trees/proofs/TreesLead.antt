-- The steps of right trees lead from one standing to the next: one half of the law that kept steps are right trees.
use Rattle.std.specs.Prelude.{◌≡◌, ℕ, zero, suc, ◌+◌, ◌-◌, List, [], ◌∷◌, ◌++◌, length, map, Some, option_map}
use Rattle.std.specs.List.{AllByRecursion}
use Rattle.std.proofs.Common.{refl, ap, sym, subst, ◌∙◌, arith}
use Rattle.scheme_terms.specs.Forms.{Substitution}
use Rattle.rule_schemes.specs.Rules.{JudgmentScheme, Theory}
use Rattle.rule_schemes.specs.Statement.{Theorem}
use Rattle.proof_trees.specs.Steps.{Subject, Simple, by_rule, by_call, by_name, by_weakening, by_exchange, by_substitution, unproved, SplitHead, CaseHead, Step, end_split}
use Rattle.proof_trees.specs.Tree.{Item, single, block, Items, no_items, item, Cases, no_cases, one_case, Proof, forms_of, numbers_of, numbers_of_item, numbers_of_cases, flattened, flattened_item, flattened_cases, flattened_proof, flattened_from}
use Rattle.case_split.specs.declared.choice.Place.{Place}
use Rattle.proof_trees.specs.Choices.{AreDifferentChoices}
use Rattle.proof_trees.specs.Here.{Here, Held, nones, renamed_from, added_by, unrelated, holding, refined_held, premise_of, after_block, after_item, after_items, around_cases, after_case, entering}
use Rattle.proof_trees.specs.Goals.{Last, no_step, last_of, last_after, taking_over}
use Rattle.proof_trees.specs.Right.{IsRightItem, AreRight, AreRightCases, IsRightProof, AreRightProofs}
use Rattle.proof_trees.specs.Standings.{Opened, Standing, outside, within, between, opened, after_its_case, after_opened, GoesOn, begins, ends, by_step, splits, enters, leaves, closes, Leads, no_more_steps, one_step, AreWholeTrees}

-- lengths
length_mapped : {A B : Type 0} (f : A → B) (xs : List A) → length (map f xs) ≡ length xs
length_mapped f [] = refl
length_mapped f (x ∷ xs) = omega (arith, length_mapped f xs)

pub length_joined : {A : Type 0} (xs ys : List A) → length (xs ++ ys) ≡ length xs + length ys
length_joined [] ys = omega arith
length_joined (x ∷ xs) ys = omega (arith, length_joined xs ys)

length_nones : (A : Type 0) (n : ℕ) → length (nones {A = A} n) ≡ n
length_nones A zero = refl
length_nones A (suc n) = omega (arith, length_nones A n)

length_renamed : (here : Here) (js : List JudgmentScheme) (of : List ℕ) → length (renamed_from here js of) ≡ length js
length_renamed here [] of = refl
length_renamed here (j ∷ js) [] = omega (arith, length_renamed here js [])
length_renamed here (j ∷ js) (n ∷ of) = omega (arith, length_renamed here js of)

length_added : (here : Here) (s : Simple) → length (added_by here s) ≡ length (forms_of s)
length_added here (by_rule line form r on) = refl
length_added here (by_call line forms callee args fresh) = length_mapped (unrelated here) forms
length_added here (by_name line forms of) = length_renamed here forms of
length_added here (by_weakening line form of) = refl
length_added here (by_exchange line form of) = refl
length_added here (by_substitution line form of by) = refl
length_added here (unproved line forms) = length_mapped (unrelated here) forms

-- a step takes as many numbers as it is said to take
length_after_item : (here : Here) (i : Item) → length (after_item here i).held ≡ length here.held + numbers_of_item i
length_after_item here (single s) =
    length_joined here.held _
    ∙ ap (λ n. length here.held + n) (length_mapped (λ (h : Held). Some h) (added_by here s) ∙ length_added here s)
length_after_item here (block head cases end) =
    let all = length_joined here.held (map (λ j. Some (unrelated here j)) head.forms ++ nones (numbers_of_cases cases)) in
    let inner = length_joined (map (λ j. Some (unrelated here j)) head.forms) (nones (numbers_of_cases cases)) in
    let forms = length_mapped (λ j. Some (unrelated here j)) head.forms in
    let gap = length_nones Held (numbers_of_cases cases) in
    omega (arith, all, inner, forms, gap)

pub length_after_items : (items : Items) (here : Here) → length (after_items here items).held ≡ length here.held + numbers_of items
length_after_items no_items here = omega arith
length_after_items (item i rest) here = omega (arith, length_after_item here i, length_after_items rest (after_item here i))

pub length_entering : (around : Here) (s : Subject) (head : CaseHead) (refine : Substitution) →
    length (entering around s head refine).held ≡ length around.held + length head.premises
length_entering around s head refine =
    let outer = length_mapped (option_map (refined_held refine)) around.held in
    let inner = length_mapped (λ j. Some (premise_of around s j)) head.premises in
    let all = length_joined (map (option_map (refined_held refine)) around.held) (map (λ j. Some (premise_of around s j)) head.premises) in
    omega (arith, outer, inner, all)

pub length_after_case : (around : Here) (n : ℕ) → length (after_case around n).held ≡ length around.held + n
length_after_case around n = omega (arith, length_joined around.held (nones n), length_nones Held n)

-- a choice differs from those that had their case
abbrev pub Differs : (had : List (ℕ × Place)) → ℕ × Place → Type 0
Differs had d = AllByRecursion (λ c. c ≡ d → ⊥) had

one_more_apart : (choice : ℕ × Place) (had due : List (ℕ × Place)) → AllByRecursion (λ other. choice ≡ other → ⊥) due → AllByRecursion (Differs had) due →
    AllByRecursion (Differs (choice ∷ had)) due
one_more_apart choice had [] h g = tt
one_more_apart choice had (d ∷ due) h g = ((h.0, g.0), one_more_apart choice had due h.1 g.1)

differs_from : (d : ℕ × Place) (had : List (ℕ × Place)) → Differs had d → AllByRecursion (λ c. c ≡ d → ⊥) had
differs_from d had h = h

nothing_had : (due : List (ℕ × Place)) → AllByRecursion (Differs []) due
nothing_had [] = tt
nothing_had (d ∷ due) = (tt, nothing_had due)

module _ (th : Theory) (sts : List Theorem) where
  leads_on : {at mid to : Standing} {xs ys : List Step} → Leads th sts at xs mid → Leads th sts mid ys to → Leads th sts at (xs ++ ys) to
  leads_on no_more_steps l = l
  leads_on (one_step m rest) l = one_step m (leads_on rest l)

  module _ (k : ℕ) where
    -- the cases of a block lead to where its end is due
    record CasesLead (o : Opened) (blocks : List Opened) (cases : Cases) : Type 0 where
      done : Opened
      before : done.before ≡ o.before
      head : done.head ≡ o.head
      due : done.due ≡ []
      numbers : length done.around.held ≡ length o.around.held + numbers_of_cases cases
      leads : Leads th sts (between k o blocks) (flattened_cases cases) (between k done blocks)

    -- what is in scope after the end of a block that was opened here
    after_end : (before : Here) (head : SplitHead) (held : ℕ) → Here
    after_end before head n =
        holding before (map (λ j. Some (unrelated before j)) head.forms ++ nones (n - (length before.held + length head.forms)))

    pub closed_here : (here : Here) (head : SplitHead) (cases : Cases) (done : Opened) → done.before ≡ here → done.head ≡ head →
        length done.around.held ≡ length (around_cases here head).held + numbers_of_cases cases → after_opened done ≡ after_block here head cases
    unfolding after_end
    closed_here here head cases done before same numbers =
        ap (λ b. after_end b done.head (length done.around.held)) before ∙ ap (λ h. after_end here h (length done.around.held)) same
        ∙ ap (λ n. holding here (map (λ j. Some (unrelated here j)) head.forms ++ nones n))
        (let around = length_joined here.held (nones (length head.forms)) in
        let gap = length_nones Held (length head.forms) in
        let count : length done.around.held - (length here.held + length head.forms) ≡ numbers_of_cases cases = omega (arith, numbers, around, gap) in count)

    mutual
      item_leads : (i : Item) (here : Here) (last : Last) (blocks : List Opened) → IsRightItem th sts k here i →
          Leads th sts (within k here last blocks) (flattened_item i) (within k (after_item here i) (last_of i) blocks)
      item_leads (single s) here last blocks right = one_step (by_step right) no_more_steps
      item_leads (block head cases end) here last blocks right =
          let c : CasesLead (opened here head right.0) blocks cases = cases_lead cases head.named (opened here head right.0) blocks refl (nothing_had head.named) right.2 right.3 in
          one_step (splits right.1) (leads_on c.leads (one_step
          (subst (λ (h : SplitHead). GoesOn th sts (between k c.done blocks) (end_split end) (within k (after_block here head cases) (taking_over h.forms) blocks)) c.head
          (subst (λ (to : Here). GoesOn th sts (between k c.done blocks) (end_split end) (within k to (taking_over c.done.head.forms) blocks))
          (closed_here here head cases c.done c.before c.head c.numbers) (closes c.due))) no_more_steps))

      items_lead : (items : Items) (here : Here) (last : Last) (blocks : List Opened) → AreRight th sts k here items →
          Leads th sts (within k here last blocks) (flattened items) (within k (after_items here items) (last_after last items) blocks)
      items_lead no_items here last blocks right = no_more_steps
      items_lead (item i rest) here last blocks right =
          leads_on (item_leads i here last blocks right.0) (items_lead rest (after_item here i) (last_of i) blocks right.1)

      cases_lead : (cases : Cases) (due : List (ℕ × Place)) (o : Opened) (blocks : List Opened) → o.due ≡ due → AllByRecursion (Differs o.had) due →
          AreDifferentChoices due → AreRightCases th sts k o.around o.head.subject o.subject due cases → CasesLead o blocks cases
      cases_lead no_cases [] o blocks e apart different right =
          record { done = o; before = refl; head = refl; due = e; numbers = omega arith; leads = no_more_steps }
      cases_lead no_cases (choice ∷ due) o blocks e apart different right = absurd right
      cases_lead (one_case head body end rest) [] o blocks e apart different right = absurd right
      cases_lead (one_case head body end rest) (choice ∷ due) o blocks e apart different right =
          let inner : Here = entering o.around o.head.subject head right.1.0 in
          let count : length (after_items inner body).held - length o.around.held ≡ length head.premises + numbers_of body =
          (let all = length_after_items body inner in let front = length_entering o.around o.head.subject head right.1.0 in omega (arith, all, front)) in
          let next : Opened = after_its_case o choice due (length (after_items inner body).held) in
          let later : CasesLead next blocks rest = cases_lead rest due next blocks refl (one_more_apart choice o.had due different.0 apart.1) different.1
          (subst (λ n. AreRightCases th sts k (after_case o.around n) o.head.subject o.subject due rest) (sym count) right.2) in
          record {
            done = later.done;
            before = later.before;
            head = later.head;
            due = later.due;
            numbers = (let gap = length_after_case o.around (length (after_items inner body).held - length o.around.held) in omega (arith, later.numbers, gap, count));
            leads =
                one_step (enters (e ∙ ap (λ c. c ∷ due) (sym right.0)) (subst (λ d. AllByRecursion (λ c. c ≡ d → ⊥) o.had) (sym right.0) (differs_from choice o.had apart.0)) right.1.1)
                (leads_on (items_lead body inner no_step (o ∷ blocks) right.1.2) (one_step (leaves right.1.3 e) later.leads));
          }

    proof_leads : (proof : Proof) → IsRightProof th sts k proof → Leads th sts (outside k) (flattened_proof k proof) (outside (suc k))
    proof_leads proof right =
        one_step (begins right.there right.is_scope)
        (leads_on (items_lead proof.body _ no_step [] right.right) (one_step (ends right.ends) no_more_steps))

  proofs_lead : (proofs : List Proof) (k : ℕ) → AreRightProofs th sts k proofs → Leads th sts (outside k) (flattened_from k proofs) (outside (k + length proofs))
  proofs_lead [] k right = subst (λ n. Leads th sts (outside k) [] (outside n)) (let same : k ≡ k + 0 = omega arith in same) no_more_steps
  proofs_lead (proof ∷ proofs) k right =
      subst (λ n. Leads th sts (outside k) (flattened_from k (proof ∷ proofs)) (outside n)) (let same : suc k + length proofs ≡ k + suc (length proofs) = omega arith in same)
      (leads_on (proof_leads k proof right.0) (proofs_lead proofs (suc k) right.1))

  -- the steps of right proofs lead from no theorem to as many
  pub trees_lead : (count : ℕ) (steps : List Step) → AreWholeTrees th sts count steps → Leads th sts (outside 0) steps (outside count)
  trees_lead count steps trees =
      subst (λ n. Leads th sts (outside 0) steps (outside n)) (let same : 0 + length trees.proofs ≡ count = omega (arith, trees.counted) in same)
      (subst (λ xs. Leads th sts (outside 0) xs (outside (0 + length trees.proofs))) (sym trees.same) (proofs_lead trees.proofs 0 trees.right))
