-- The measure of a run falls at each call whose rank is lower, and down a block.
use Rattle.proof_trees.specs.Steps.{Subject, SplitHead, CaseHead}
use Rattle.proof_trees.specs.Tree.{Cases, one_case, block, numbers_of}
use Rattle.proof_trees.specs.Here.{nones, around_cases, after_case, entering}
use Rattle.proof_trees.specs.Value.{all_made}
use Rattle.proof_trees.specs.Work.{Entered, one_more, in_case_or, cases_ran}
use Rattle.std.specs.Prelude.{◌++◌, length}
use Rattle.std.specs.Prelude.{◌≡◌, ◌<◌, ◌≤◌, ℕ, suc, ◌+◌, List, [], Option, Some, None}
use Rattle.std.proofs.Common.{refl, ap, ◌∙◌, arith}
use mathlib.Core.WellFounded.{fix-eq}
use Rattle.scheme_terms.specs.Forms.{Instance}
use Rattle.scheme_terms.specs.declared.scheme.MetaDecl.{MetaDecl}
use Rattle.rule_schemes.specs.Rules.{JudgmentScheme}
use Rattle.rule_schemes.specs.Derivation.{Derivation}
use Rattle.rule_schemes.specs.Statement.{Theorem}
use Rattle.proof_trees.specs.Steps.{CallArgument, by_call}
use Rattle.proof_trees.specs.Tree.{Item, single, Items, item}
use Rattle.proof_trees.specs.Here.{Here, after_item}
use Rattle.proof_trees.specs.Ranks.{IsLower}
use Rattle.proof_trees.specs.RanksFall.{lower_decided}
use Rattle.proof_trees.specs.Work.{Asked, Ran, Finder, and_then, then_from, where_some, rank_of, item_ran, items_ran, instance_after_item, held_after, started, if_lower, asked_end, round, theorem_ran, answered, work, work_left}

-- a run is its proof from the beginning, each call of lower rank answered by that call's run
pub theorem_ran-started : (find : Finder) (sts : List Theorem) (x : Asked) → theorem_ran find sts x ≡ started find (answered find sts x) x
unfolding theorem_ran
theorem_ran-started find sts x = fix-eq (asked_end sts) (round find sts) x

yes_answers : {A : Type 0} (d : Dec A) (r : Ran) → A → if_lower d (λ h. r) ≡ r
yes_answers (yes h) r a = refl
yes_answers (no g) r a = absurd (g a)

-- a call of lower rank is answered by its run
pub answered-lower : (find : Finder) (sts : List Theorem) (x y : Asked) → IsLower (rank_of sts y) (rank_of sts x) → answered find sts x y ≡ theorem_ran find sts y
answered-lower find sts x y lower = yes_answers (lower_decided (rank_of sts y) (rank_of sts x)) (theorem_ran find sts y) lower

first_counts : (r : Ran) (next : List Derivation → Ran) → r.count ≤ (and_then r next).count
first_counts r next = counts r.count r.made
  where
    counts : (n : ℕ) (made : Option (List Derivation)) → n ≤ (then_from n made next).count
    counts n None = omega arith
    counts n (Some ds) = omega arith

-- the work of a call of lower rank is less than that of the block at whose head the call stands
pub work-call : (find : Finder) (sts : List Theorem) (x y : Asked) (here : Here) (inst : Instance) (held : List (Option Derivation)) (last : List Derivation)
    (line callee : ℕ) (forms : List JudgmentScheme) (args : List CallArgument) (fresh : List MetaDecl) (rest : Items) →
    find.asks here inst held forms callee args fresh ≡ Some y → IsLower (rank_of sts y) (rank_of sts x) →
    work find sts y < work_left find sts x here inst held last (item (single (by_call line forms callee args fresh)) rest)
work-call find sts x y here inst held last line callee forms args fresh rest asks lower =
    let head : Ran = where_some (find.asks here inst held forms callee args fresh) (answered find sts x) in
    let same : head ≡ theorem_ran find sts y = ap (λ a. where_some a (answered find sts x)) asks ∙ answered-lower find sts x y lower in
    let counted : head.count ≡ work find sts y = ap (λ (r : Ran). r.count) same in
    let least : head.count ≤ (and_then head (λ made. where_some (instance_after_item find here inst (single (by_call line forms callee args fresh)) made)
    (λ next. items_ran find (answered find sts x) (after_item here (single (by_call line forms callee args fresh))) next
    (held_after held made (single (by_call line forms callee args fresh))) made rest))).count =
    first_counts head _ in
    omega (arith, counted, least)

-- the rest of a block is less work than the block
pub work-rest : (find : Finder) (sts : List Theorem) (x : Asked) (here : Here) (inst next : Instance) (held : List (Option Derivation)) (last made : List Derivation)
    (i : Item) (rest : Items) → (item_ran find (answered find sts x) here inst held i).made ≡ Some made → instance_after_item find here inst i made ≡ Some next →
    work_left find sts x (after_item here i) next (held_after held made i) made rest < work_left find sts x here inst held last (item i rest)
work-rest find sts x here inst next held last made i rest gives learns =
    let goes_on : List Derivation → Ran = λ ds. where_some (instance_after_item find here inst i ds)
    (λ after. items_ran find (answered find sts x) (after_item here i) after (held_after held ds i) ds rest) in
    let r : Ran = item_ran find (answered find sts x) here inst held i in
    let at_made : (then_from r.count r.made goes_on).count ≡ r.count + (goes_on made).count = ap (λ o. (then_from r.count o goes_on).count) gives in
    let at_next : (goes_on made).count ≡ work_left find sts x (after_item here i) next (held_after held made i) made rest =
    ap (λ o. (where_some o (λ after. items_ran find (answered find sts x) (after_item here i) after (held_after held made i) made rest)).count) learns in
    omega (arith, at_made, at_next)

-- the proof of a theorem, from its beginning, is less work than its run
pub work-start : (find : Finder) (sts : List Theorem) (x : Asked) (here : Here) (inst : Instance) (held : List (Option Derivation)) (body : Items) →
    find.starts x ≡ Some (here, inst, held, body) → work_left find sts x here inst held [] body < work find sts x
work-start find sts x here inst held body starts =
    let begins : (started find (answered find sts x) x).count ≡ suc (work_left find sts x here inst held [] body) =
    ap (λ o. (where_some o (λ b. record { made = (items_ran find (answered find sts x) b.0 b.1 b.2 [] b.3).made; count = suc (items_ran find (answered find sts x) b.0 b.1 b.2 [] b.3).count })).count) starts in
    let unrolled : work find sts x ≡ (started find (answered find sts x) x).count = ap (λ (r : Ran). r.count) (theorem_ran-started find sts x) in
    omega (arith, begins, unrolled)

-- The work of the cases of a block, which is less than the block's; that of a case that fits is less, and where it does not fit it is that of the later ones.
abbrev pub work_of_cases : Finder → List Theorem → (within : Asked) → Here → Instance → List (Option Derivation) → Subject → Cases → ℕ
work_of_cases find sts x around inst held s cases = (cases_ran find (answered find sts x) around inst held s cases).count

pub work-block : (find : Finder) (sts : List Theorem) (x : Asked) (here : Here) (inst : Instance) (held : List (Option Derivation)) (last : List Derivation)
    (head : SplitHead) (cases : Cases) (end : ℕ) (rest : Items) →
    work_of_cases find sts x (around_cases here head) inst (held ++ nones (length head.forms)) head.subject cases < work_left find sts x here inst held last (item (block head cases end) rest)
work-block find sts x here inst held last head cases end rest =
    let r : Ran = cases_ran find (answered find sts x) (around_cases here head) inst (held ++ nones (length head.forms)) head.subject cases in
    let next : List Derivation → Ran = λ made. where_some (instance_after_item find here inst (block head cases end) made)
    (λ after. items_ran find (answered find sts x) (after_item here (block head cases end)) after (held_after held made (block head cases end)) made rest) in
    let least : r.count ≤ (and_then r next).count = first_counts r next in
    omega (arith, least)

pub work-this_case : (find : Finder) (sts : List Theorem) (x : Asked) (around : Here) (inst : Instance) (held : List (Option Derivation)) (s : Subject)
    (head : CaseHead) (body : Items) (end : ℕ) (rest : Cases) (e : Entered) → find.fits around inst held s head ≡ Some e →
    work_left find sts x (entering around s head e.refine) e.inner (held ++ all_made e.premises) [] body < work_of_cases find sts x around inst held s (one_case head body end rest)
work-this_case find sts x around inst held s head body end rest e fits =
    let inside : Entered → Ran = λ f. one_more (items_ran find (answered find sts x) (entering around s head f.refine) f.inner (held ++ all_made f.premises) [] body) in
    let later : Ran = cases_ran find (answered find sts x) (after_case around (length head.premises + numbers_of body)) inst (held ++ nones (length head.premises + numbers_of body)) s rest in
    let counts : work_of_cases find sts x around inst held s (one_case head body end rest) ≡ (inside e).count = ap (λ o. (in_case_or o inside later).count) fits in
    omega (arith, counts)

pub work-later_case : (find : Finder) (sts : List Theorem) (x : Asked) (around : Here) (inst : Instance) (held : List (Option Derivation)) (s : Subject)
    (head : CaseHead) (body : Items) (end : ℕ) (rest : Cases) → find.fits around inst held s head ≡ None →
    work_of_cases find sts x around inst held s (one_case head body end rest)
    ≡ work_of_cases find sts x (after_case around (length head.premises + numbers_of body)) inst (held ++ nones (length head.premises + numbers_of body)) s rest
work-later_case find sts x around inst held s head body end rest none =
    let inside : Entered → Ran = λ f. one_more (items_ran find (answered find sts x) (entering around s head f.refine) f.inner (held ++ all_made f.premises) [] body) in
    let later : Ran = cases_ran find (answered find sts x) (after_case around (length head.premises + numbers_of body)) inst (held ++ nones (length head.premises + numbers_of body)) s rest in
    ap (λ o. (in_case_or o inside later).count) none
