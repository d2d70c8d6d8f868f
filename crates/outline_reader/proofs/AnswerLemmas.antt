-- What reading the tokens of a text answers, in terms of the grammar.
use Rattle.std.proofs.Common.{◌≡◌, ◌≢◌, inl, inr, ℕ, ◌+◌, Bool, true, false, cond, if◌then◌else◌, not, codes, List, [], ◌∷◌, ◌++◌, length, map, Option, Some, None, Ok, Err, refl, sym, ◌∙◌, ap, subst, append_assoc, arith, eq-eqb, nat_eq}
use Rattle.std.specs.Str.{chars}
use Rattle.std.proofs.Math.Bool.{or-true}
use Rattle.std.proofs.lemmas.List.{append-nil}
use Rattle.std.proofs.lemmas.Option.{none-some}
use Rattle.std.proofs.lemmas.Bool.{eqb-true}
use Rattle.proof_lexer.specs.declared.token.Kind.{Kind}
use Rattle.proof_lexer.specs.declared.token.Kind.TheVariants as kind
use Rattle.proof_lexer.specs.declared.token.Token.{Token}
use Rattle.outline_reader.specs.declared.fault.Part.{Part}
use Rattle.outline_reader.specs.declared.fault.Limit.{Limit}
use Rattle.outline_reader.specs.declared.fault.OutlineFault.{OutlineFault}
use Rattle.outline_reader.specs.declared.fault.OutlineFault.TheVariants.{Unexpected, MissingEnd, TooMany, NoMemory}
use Rattle.outline_reader.specs.declared.limits.Counts.{Counts}
use Rattle.outline_reader.specs.declared.machine.Awaited.{Awaited}
use Rattle.outline_reader.specs.declared.machine.Seen.{Seen}
use Rattle.outline_reader.specs.declared.sort.Sort.{Sort}
use Rattle.outline_reader.specs.declared.sort.Sort.TheVariants as s
use Rattle.outline_reader.specs.declared.symbols.Role.{Role}
use Rattle.sy_base.specs.Tokens.{is_numeral}
use Rattle.unicode_ident.specs.Ident.{is_xid_start}
use Rattle.outline_reader.specs.Sorts.{sort_of, word_sort, look_up, reserved}
use Rattle.outline_reader.specs.Derives.{Mark, level, seen_after, seen, Reaches, here, Derives, whole}
use Rattle.outline_reader.specs.Limits.{nothing_counted, counted}
use Rattle.outline_reader.specs.Machine.{take, missing}
use Rattle.outline_reader.specs.Reading.{Answer, read, roles, with_roles, within_limits, at_end, fault_after, first_fault}
use Rattle.outline_reader.specs.Outline.{IsFile, Begins, LeavesOff, counts_after, passed_in, NotBefore, last_line, IsOutlined, IsUnexpected, IsMissingEnd, EndsElsewhere, IsTooMany, IsAnswer}
use Rattle.outline_reader.proofs.Truth.{true_not_false}
use Rattle.outline_reader.proofs.TakeLemmas.{marked, take_reaches, missing_derives}
use Rattle.outline_reader.proofs.OrderLemmas.{Ordered, FirstStep, Told, told, whole_ordered, to_false}
use Rattle.outline_reader.proofs.CompletionLemmas.{Completes, completes}
use Rattle.outline_reader.proofs.ReadingLemmas.{seen_as, with_roles_append, read_token, read_stuck, read_end}

-- ---- runs

-- the tokens are taken one after another, are marked so, and leave these symbols to come
pub data Runs : List Awaited → List Seen → List Mark → List Awaited → Type 0 where
  stop : (awaited : List Awaited) → Runs awaited [] [] awaited
  step : (awaited : List Awaited) (one : Seen) (more : List Seen) (marks : List Mark) (left : List Awaited) (taken : Role × List Awaited) →
      take awaited one ≡ Some taken → Runs taken.1 more marks left → Runs awaited (one ∷ more) (marked taken.0 taken.1 ∷ marks) left

-- a run and a derivation behind it are a derivation
pub runs_reach : {left awaited middle : List Awaited} {tokens more : List Seen} {marks others : List Mark} →
    Runs awaited tokens marks middle → Reaches left middle more others → Reaches left awaited (tokens ++ more) (marks ++ others)
runs_reach (stop awaited) d = d
runs_reach {more = behind} {others = others} (step awaited one more marks left taken e run) d =
    take_reaches awaited one (more ++ behind) (marks ++ others) taken e (runs_reach run d)

reach_here : (awaited : List Awaited) → Reaches awaited awaited [] []
reach_here awaited = here

pub runs_leave : {awaited left : List Awaited} {tokens : List Seen} {marks : List Mark} → Runs awaited tokens marks left → Reaches left awaited tokens marks
runs_leave {awaited = awaited} {left = left} {tokens = tokens} {marks = marks} run =
    subst (λ (ts : List Seen). Reaches left awaited ts marks) (append-nil tokens)
    (subst (λ (ms : List Mark). Reaches left awaited (tokens ++ []) ms) (append-nil marks) (runs_reach run (reach_here left)))

-- a derivation of tokens and more begins with a run
pub record Run (left awaited : List Awaited) (tokens more : List Seen) (marks : List Mark) : Type 0 where
  pub front : List Mark
  pub back : List Mark
  pub middle : List Awaited
  pub whole_marks : marks ≡ front ++ back
  pub runs : Runs awaited tokens front middle
  pub behind : Reaches left middle more back
  pub ordered : Ordered middle

pub run_of : {left : List Awaited} (awaited : List Awaited) (tokens more : List Seen) (marks : List Mark) → Ordered awaited → Reaches left awaited (tokens ++ more) marks → Run left awaited tokens more marks
run_of awaited [] more marks order d = record { front = []; back = marks; middle = awaited; whole_marks = refl; runs = stop awaited; behind = d; ordered = order }
run_of {left = left} awaited (one ∷ tokens) more marks order d =
    let first : FirstStep left awaited one (tokens ++ more) marks = told d order in
    let rest = run_of first.next tokens more first.others first.ordered first.derives in
    record {
      front = marked first.role first.next ∷ rest.front;
      back = rest.back;
      middle = rest.middle;
      whole_marks = first.marked ∙ ap (λ (ms : List Mark). marked first.role first.next ∷ ms) rest.whole_marks;
      runs = step awaited one tokens rest.front rest.middle (first.role, first.next) first.taken rest.runs;
      behind = rest.behind;
      ordered = rest.ordered;
    }

-- a run, unrolled
abbrev pub Unrolled : List Awaited → List Seen → List Mark → List Awaited → Type 0
Unrolled awaited [] marks left = (marks ≡ []) × (left ≡ awaited)
Unrolled awaited (one ∷ more) marks left = (taken : Role × List Awaited) × (others : List Mark) × (take awaited one ≡ Some taken) × (marks ≡ marked taken.0 taken.1 ∷ others) × Runs taken.1 more others left

unroll : {awaited left : List Awaited} {tokens : List Seen} {marks : List Mark} → Runs awaited tokens marks left → Unrolled awaited tokens marks left
unroll (stop awaited) = (refl, refl)
unroll (step awaited one more marks left taken e run) = (taken, marks, e, refl, run)

some_one : {A : Type 0} (x y : A) → Some x ≡ Some y → x ≡ y
some_one x y e = cc

-- there is one run
runs_same : (tokens : List Seen) (awaited left other : List Awaited) (marks others : List Mark) → Runs awaited tokens marks left → Runs awaited tokens others other → (marks ≡ others) × (left ≡ other)
runs_same [] awaited left other marks others run again =
    let a = unroll run in let b = unroll again in (a.0 ∙ sym b.0, a.1 ∙ sym b.1)
runs_same (one ∷ more) awaited left other marks others run again =
    let a = unroll run in
    let b = unroll again in
    let same : b.0 ≡ a.0 = some_one b.0 a.0 (sym b.2 ∙ a.2) in
    let rest = runs_same more a.0.1 left other a.1 b.1 a.4 (subst (λ (t : Role × List Awaited). Runs t.1 more b.1 other) same b.4) in
    (a.3 ∙ ap (λ (ms : List Mark). marked a.0.0 a.0.1 ∷ ms) rest.0 ∙ ap (λ (t : Role × List Awaited). marked t.0 t.1 ∷ b.1) (sym same) ∙ sym b.3, rest.1)

-- a run and one token more
runs_more : (tokens : List Seen) (awaited left : List Awaited) (marks : List Mark) (one : Seen) (taken : Role × List Awaited) → Runs awaited tokens marks left → take left one ≡ Some taken →
    (others : List Mark) × Runs awaited (tokens ++ one ∷ []) others taken.1
runs_more [] awaited left marks one taken run e =
    let a = unroll run in
    (marked taken.0 taken.1 ∷ [], step awaited one [] [] taken.1 taken (ap (λ stack. take stack one) (sym a.1) ∙ e) (stop taken.1))
runs_more (first ∷ tokens) awaited left marks one taken run e =
    let a = unroll run in
    let rest = runs_more tokens a.0.1 left a.1 one taken a.4 e in
    (marked a.0.0 a.0.1 ∷ rest.0, step awaited first (tokens ++ one ∷ []) rest.0 taken.1 a.0 a.2 rest.1)

-- ---- reading is a run

seen_append : (before : Option ℕ) (front rest : List Token) → seen_after before (front ++ rest) ≡ seen_after before front ++ seen_after (last_line before front) rest
seen_append before [] rest = refl
seen_append before (token ∷ front) rest = ap (λ (xs : List Seen). seen_as before token ∷ xs) (seen_append (Some token.line) front rest)

abbrev pub role_of : Mark → Role
role_of mark = mark.role

none_read : (answer : Answer) → answer ≡ with_roles [] answer
none_read (Ok roles) = refl
none_read (Err fault) = refl

read_run : (place : ℕ) (awaited left : List Awaited) (counts : Counts) (before : Option ℕ) (front rest : List Token) (marks : List Mark) →
    Runs awaited (seen_after before front) marks left →
    read place awaited counts before (front ++ rest) ≡ with_roles (map role_of marks) (read (place + length front) left (counts_after counts marks front) (last_line before front) rest)
read_run place awaited left counts before [] rest marks run =
    let a = unroll run in
    let stays : place ≡ place + 0 = omega arith in
    let base : read place awaited counts before rest ≡ with_roles [] (read (place + 0) awaited counts before rest) =
    ap (λ n. read n awaited counts before rest) stays ∙ none_read (read (place + 0) awaited counts before rest) in
    subst (λ (ms : List Mark). read place awaited counts before rest ≡ with_roles (map role_of ms) (read (place + 0) left (counts_after counts ms []) before rest)) (sym a.0)
    (subst (λ (stack : List Awaited). read place awaited counts before rest ≡ with_roles [] (read (place + 0) stack counts before rest)) (sym a.1) base)
read_run place awaited left counts before (token ∷ front) rest marks run =
    let a = unroll run in
    let later : Counts = counted counts a.0.0 token.line (level a.0.1) in
    let further : place + 1 + length front ≡ place + length (token ∷ front) = omega arith in
    let turned : read place awaited counts before (token ∷ (front ++ rest)) ≡ with_roles (a.0.0 ∷ []) (read (place + 1) a.0.1 later (Some token.line) (front ++ rest)) =
    read_token place awaited counts before token (front ++ rest) a.0.0 a.0.1 a.2 in
    let rest_read = read_run (place + 1) a.0.1 left later (Some token.line) front rest a.1 a.4 in
    let base : read place awaited counts before (token ∷ (front ++ rest)) ≡ with_roles (a.0.0 ∷ map role_of a.1) (read (place + length (token ∷ front)) left (counts_after later a.1 front) (last_line (Some token.line) front) rest) =
    turned ∙ ap (with_roles (a.0.0 ∷ [])) rest_read
    ∙ with_roles_append (a.0.0 ∷ []) (map role_of a.1) (read (place + 1 + length front) left (counts_after later a.1 front) (last_line (Some token.line) front) rest)
    ∙ ap (λ n. with_roles (a.0.0 ∷ map role_of a.1) (read n left (counts_after later a.1 front) (last_line (Some token.line) front) rest)) further in
    subst (λ (ms : List Mark). read place awaited counts before (token ∷ (front ++ rest)) ≡ with_roles (map role_of ms) (read (place + length (token ∷ front)) left (counts_after counts ms (token ∷ front)) (last_line (Some token.line) front) rest)) (sym a.3) base

roles_whole : (tokens : List Token) (marks : List Mark) (left : List Awaited) → Runs whole (seen tokens) marks left →
    roles tokens ≡ with_roles (map role_of marks) (at_end (counts_after nothing_counted marks tokens) (last_line None tokens) (missing left))
roles_whole tokens marks left run =
    ap (λ ts. read 0 whole nothing_counted None ts) (sym (append-nil tokens))
    ∙ read_run 0 whole left nothing_counted None tokens [] marks run
    ∙ ap (with_roles (map role_of marks)) (read_end (0 + length tokens) left (counts_after nothing_counted marks tokens) (last_line None tokens))

roles_stuck : (tokens front rest : List Token) (token : Token) (marks : List Mark) (left : List Awaited) → tokens ≡ front ++ token ∷ rest → Runs whole (seen front) marks left →
    take left (seen_as (last_line None front) token) ≡ None → roles tokens ≡ Err (first_fault (counts_after nothing_counted marks front) token.line (Unexpected (length front)))
roles_stuck tokens front rest token marks left is run stuck =
    let same : 0 + length front ≡ length front = omega arith in
    ap (λ ts. read 0 whole nothing_counted None ts) is
    ∙ read_run 0 whole left nothing_counted None front (token ∷ rest) marks run
    ∙ ap (with_roles (map role_of marks)) (read_stuck (0 + length front) left (counts_after nothing_counted marks front) (last_line None front) token rest stuck)
    ∙ ap (λ n. Err (first_fault (counts_after nothing_counted marks front) token.line (Unexpected n))) same

-- reading as far as it goes
abbrev pub Stuck : List Awaited → Option ℕ → List Token → Type 0
Stuck left before [] = Unit {0}
Stuck left before (token ∷ rest) = take left (seen_as before token) ≡ None

pub record Far (awaited : List Awaited) (before : Option ℕ) (tokens : List Token) : Type 0 where
  pub front : List Token
  pub rest : List Token
  pub marks : List Mark
  pub left : List Awaited
  pub split : tokens ≡ front ++ rest
  pub runs : Runs awaited (seen_after before front) marks left
  pub stuck : Stuck left (last_line before front) rest

far_on : (awaited : List Awaited) (before : Option ℕ) (token : Token) (tokens : List Token) → ((awaited : List Awaited) → Far awaited (Some token.line) tokens) →
    (found : Option (Role × List Awaited)) → take awaited (seen_as before token) ≡ found → Far awaited before (token ∷ tokens)
far_on awaited before token tokens below None is =
    record { front = []; rest = token ∷ tokens; marks = []; left = awaited; split = refl; runs = stop awaited; stuck = is }
far_on awaited before token tokens below (Some taken) is =
    let rest = below taken.1 in
    record {
      front = token ∷ rest.front;
      rest = rest.rest;
      marks = marked taken.0 taken.1 ∷ rest.marks;
      left = rest.left;
      split = ap (λ (ts : List Token). token ∷ ts) rest.split;
      runs = step awaited (seen_as before token) (seen_after (Some token.line) rest.front) rest.marks rest.left taken is rest.runs;
      stuck = rest.stuck;
    }

pub far : (awaited : List Awaited) (before : Option ℕ) (tokens : List Token) → Far awaited before tokens
far awaited before [] = record { front = []; rest = []; marks = []; left = awaited; split = refl; runs = stop awaited; stuck = tt }
far awaited before (token ∷ tokens) = far_on awaited before token tokens (λ awaited. far awaited (Some token.line) tokens) (take awaited (seen_as before token)) refl

-- ---- tokens for what may come

abbrev pub written : Kind → List ℕ → ℕ → Token
written kind text line = record { kind = kind; text = record { ref_ptr = (0, 0); now = text }; span = record { from = 0; to = 0 }; line = line }

abbrev pub sample_token : Sort → ℕ → Token
sample_token s.Terminals line = written kind.Word (codes "terminals") line
sample_token s.Syntax line = written kind.Word (codes "syntax") line
sample_token s.Judgment line = written kind.Word (codes "judgment") line
sample_token s.Assumes line = written kind.Word (codes "assumes") line
sample_token s.Theorem line = written kind.Word (codes "theorem") line
sample_token s.Lemma line = written kind.Word (codes "lemma") line
sample_token s.And line = written kind.Word (codes "and") line
sample_token s.Forall line = written kind.Word (codes "forall") line
sample_token s.Exists line = written kind.Word (codes "exists") line
sample_token s.By line = written kind.Word (codes "by") line
sample_token s.Rule line = written kind.Word (codes "rule") line
sample_token s.On line = written kind.Word (codes "on") line
sample_token s.Induction line = written kind.Word (codes "induction") line
sample_token s.Hypothesis line = written kind.Word (codes "hypothesis") line
sample_token s.Inversion line = written kind.Word (codes "inversion") line
sample_token s.Contradiction line = written kind.Word (codes "contradiction") line
sample_token s.Case line = written kind.Word (codes "case") line
sample_token s.Analysis line = written kind.Word (codes "analysis") line
sample_token s.Is line = written kind.Word (codes "is") line
sample_token s.End line = written kind.Word (codes "end") line
sample_token s.Proof line = written kind.Word (codes "proof") line
sample_token s.Use line = written kind.Word (codes "use") line
sample_token s.Weakening line = written kind.Word (codes "weakening") line
sample_token s.Exchange line = written kind.Word (codes "exchange") line
sample_token s.Substitution line = written kind.Word (codes "substitution") line
sample_token s.Unproved line = written kind.Word (codes "unproved") line
sample_token s.Solve line = written kind.Word (codes "solve") line
sample_token s.Import line = written kind.Word (codes "import") line
sample_token s.Name line = written kind.Word (codes "_") line
sample_token s.Colon line = written kind.Symbol (codes ":") line
sample_token s.Define line = written kind.Symbol (codes "::=") line
sample_token s.Or line = written kind.Symbol (codes "|") line
sample_token s.Dot line = written kind.Punct (codes ".") line
sample_token s.Comma line = written kind.Punct (codes ",") line
sample_token s.Open line = written kind.Punct (codes "(") line
sample_token s.Close line = written kind.Punct (codes ")") line
sample_token s.Mark line = written kind.Punct (codes ";") line
sample_token s.Bar line = written kind.Bar (codes "---") line
sample_token s.Other line = written kind.Quoted (codes "a") line

no_numeral : is_numeral (codes "_") ≡ false
unfolding is_numeral chars
no_numeral = ap not (or-true (is_xid_start 95))

pub sample_is : (sort : Sort) (line : ℕ) → sort_of (sample_token sort line) ≡ sort
unfolding sort_of word_sort
sample_is s.Terminals line = refl
sample_is s.Syntax line = refl
sample_is s.Judgment line = refl
sample_is s.Assumes line = refl
sample_is s.Theorem line = refl
sample_is s.Lemma line = refl
sample_is s.And line = refl
sample_is s.Forall line = refl
sample_is s.Exists line = refl
sample_is s.By line = refl
sample_is s.Rule line = refl
sample_is s.On line = refl
sample_is s.Induction line = refl
sample_is s.Hypothesis line = refl
sample_is s.Inversion line = refl
sample_is s.Contradiction line = refl
sample_is s.Case line = refl
sample_is s.Analysis line = refl
sample_is s.Is line = refl
sample_is s.End line = refl
sample_is s.Proof line = refl
sample_is s.Use line = refl
sample_is s.Weakening line = refl
sample_is s.Exchange line = refl
sample_is s.Substitution line = refl
sample_is s.Unproved line = refl
sample_is s.Solve line = refl
sample_is s.Import line = refl
sample_is s.Name line = ap (λ numeral. look_up reserved (codes "_") (if numeral then s.Other else s.Name)) no_numeral
sample_is s.Colon line = refl
sample_is s.Define line = refl
sample_is s.Or line = refl
sample_is s.Dot line = refl
sample_is s.Comma line = refl
sample_is s.Open line = refl
sample_is s.Close line = refl
sample_is s.Mark line = refl
sample_is s.Bar line = refl
sample_is s.Other line = refl

same_number : (n : ℕ) → nat_eq n n ≡ true
same_number n = eq-eqb n n refl

other_number : (n : ℕ) → nat_eq (n + 1) n ≡ false
other_number n = to_false (nat_eq (n + 1) n) (λ e. let k : n + 1 ≡ n = eqb-true (n + 1) n e in absurd (omega arith))

line_begins : (begins : Bool) (line : ℕ) → not (nat_eq (cond begins (line + 1) line) line) ≡ begins
line_begins true line = ap not (other_number line)
line_begins false line = ap not (same_number line)

sample_line : (one : Seen) (line : ℕ) (l : ℕ) → (sample_token one.sort l).line ≡ l
sample_line one line l = by_sort one.sort
  where
    by_sort : (sort : Sort) → (sample_token sort l).line ≡ l
    by_sort s.Terminals = refl
    by_sort s.Syntax = refl
    by_sort s.Judgment = refl
    by_sort s.Assumes = refl
    by_sort s.Theorem = refl
    by_sort s.Lemma = refl
    by_sort s.And = refl
    by_sort s.Forall = refl
    by_sort s.Exists = refl
    by_sort s.By = refl
    by_sort s.Rule = refl
    by_sort s.On = refl
    by_sort s.Induction = refl
    by_sort s.Hypothesis = refl
    by_sort s.Inversion = refl
    by_sort s.Contradiction = refl
    by_sort s.Case = refl
    by_sort s.Analysis = refl
    by_sort s.Is = refl
    by_sort s.End = refl
    by_sort s.Proof = refl
    by_sort s.Use = refl
    by_sort s.Weakening = refl
    by_sort s.Exchange = refl
    by_sort s.Substitution = refl
    by_sort s.Unproved = refl
    by_sort s.Solve = refl
    by_sort s.Import = refl
    by_sort s.Name = refl
    by_sort s.Colon = refl
    by_sort s.Define = refl
    by_sort s.Or = refl
    by_sort s.Dot = refl
    by_sort s.Comma = refl
    by_sort s.Open = refl
    by_sort s.Close = refl
    by_sort s.Mark = refl
    by_sort s.Bar = refl
    by_sort s.Other = refl

-- tokens that are seen so, after a token on the line
realized : (more : List Seen) (line : ℕ) → (tokens : List Token) × (seen_after (Some line) tokens ≡ more)
realized [] line = ([], refl)
realized (one ∷ more) line =
    let at : ℕ = cond one.begins (line + 1) line in
    let token : Token = sample_token one.sort at in
    let rest = realized more token.line in
    let sort_is : sort_of token ≡ one.sort = sample_is one.sort at in
    let begins_is : not (nat_eq token.line line) ≡ one.begins = ap (λ n. not (nat_eq n line)) (sample_line one line at) ∙ line_begins one.begins line in
    let seen_is : seen_as (Some line) token ≡ one =
    ap (λ (sort : Sort). let x : Seen = record { sort = sort; begins = not (nat_eq token.line line) } in x) sort_is
    ∙ ap (λ (begins : Bool). let x : Seen = record { sort = one.sort; begins = begins } in x) begins_is in
    (token ∷ rest.0, ap (λ (x : Seen). x ∷ seen_after (Some token.line) rest.0) seen_is ∙ ap (λ (xs : List Seen). one ∷ xs) rest.1)

last_some : (line : ℕ) (tokens : List Token) → (at : ℕ) × (last_line (Some line) tokens ≡ Some at)
last_some line [] = (line, refl)
last_some line (token ∷ tokens) = last_some token.line tokens

-- ---- from runs to the grammar

whole_left : (marks : List Mark) (left : List Awaited) → Runs whole [] marks left → missing left ≡ None
whole_left marks left run = let a = unroll run in ap missing a.1

run_begins : (tokens : List Token) (marks : List Mark) (left : List Awaited) → Runs whole (seen tokens) marks left → Begins tokens
run_begins [] marks left run = ([], [], missing_derives whole refl)
run_begins (token ∷ tokens) marks left run =
    let goes : Completes left = completes left in
    let last = last_some token.line tokens in
    let more = realized goes.0 last.0 in
    let behind : seen_after (last_line (Some token.line) tokens) more.0 ≡ goes.0 = ap (λ (before : Option ℕ). seen_after before more.0) last.1 ∙ more.1 in
    let all : seen ((token ∷ tokens) ++ more.0) ≡ seen (token ∷ tokens) ++ goes.0 = seen_append None (token ∷ tokens) more.0 ∙ ap (λ (xs : List Seen). seen (token ∷ tokens) ++ xs) behind in
    (more.0, marks ++ goes.1, subst (λ (ts : List Seen). Derives whole ts (marks ++ goes.1)) (sym all) (runs_reach run goes.2))

run_file : (tokens : List Token) (marks : List Mark) (left : List Awaited) → Runs whole (seen tokens) marks left → missing left ≡ None → IsFile tokens marks
run_file tokens marks left run none =
    subst (λ (ms : List Mark). Derives whole (seen tokens) ms) (append-nil marks)
    (subst (λ (ts : List Seen). Derives whole ts (marks ++ [])) (append-nil (seen tokens)) (runs_reach run (missing_derives left none)))

-- what leaves off is a run
pub record Left (tokens : List Token) (marks : List Mark) (left : List Awaited) : Type 0 where
  pub middle : List Awaited
  pub runs : Runs whole (seen tokens) marks middle
  pub same : missing middle ≡ missing left

left_run : (tokens : List Token) (marks : List Mark) (left : List Awaited) → LeavesOff tokens marks left → Left tokens marks left
left_run tokens marks left d =
    let run = run_of {left = left} whole (seen tokens) [] marks whole_ordered (subst (λ (ts : List Seen). Reaches left whole ts marks) (sym (append-nil (seen tokens))) d) in
    let told : Told left run.middle [] run.back = told run.behind run.ordered in
    let marks_are : run.front ≡ marks = sym (run.whole_marks ∙ ap (λ (ms : List Mark). run.front ++ ms) told.1 ∙ append-nil run.front) in
    record { middle = run.middle; runs = subst (λ (ms : List Mark). Runs whole (seen tokens) ms run.middle) marks_are run.runs; same = told.0 }

-- a file is no text that lacks an end
file_missing : (tokens : List Token) (marks others : List Mark) (left : List Awaited) → Runs whole (seen tokens) marks left → IsFile tokens others → missing left ≡ None
file_missing tokens marks others left run file =
    let other = left_run tokens others [] file in
    let same = runs_same (seen tokens) whole left other.middle marks others run other.runs in
    ap missing same.1 ∙ other.same

-- no file goes on where reading is stuck
stuck_stops : (front : List Token) (token : Token) (marks : List Mark) (left : List Awaited) → Runs whole (seen front) marks left → take left (seen_as (last_line None front) token) ≡ None →
    Begins (front ++ token ∷ []) → ⊥
stuck_stops front token marks left run stuck goes =
    let regrouped : (front ++ token ∷ []) ++ goes.0 ≡ front ++ token ∷ goes.0 = append_assoc front (token ∷ []) goes.0 in
    let all : seen ((front ++ token ∷ []) ++ goes.0) ≡ seen front ++ seen_after (last_line None front) (token ∷ goes.0) = ap seen regrouped ∙ seen_append None front (token ∷ goes.0) in
    let run' = run_of {left = []} whole (seen front) (seen_after (last_line None front) (token ∷ goes.0)) goes.1 whole_ordered (subst (λ (ts : List Seen). Derives whole ts goes.1) all goes.2) in
    let same = runs_same (seen front) whole left run'.middle marks run'.front run run'.runs in
    let first : FirstStep [] run'.middle (seen_as (last_line None front) token) (seen_after (Some token.line) goes.0) run'.back = told run'.behind run'.ordered in
    none-some (first.role, first.next) (sym stuck ∙ ap (λ stack. take stack (seen_as (last_line None front) token)) same.1 ∙ first.taken)

-- reading is stuck where no file goes on
stops_stuck : (front : List Token) (token : Token) (marks : List Mark) (left : List Awaited) → Runs whole (seen front) marks left → (Begins (front ++ token ∷ []) → ⊥) →
    take left (seen_as (last_line None front) token) ≡ None
stops_stuck front token marks left run stops = by_take (take left (seen_as (last_line None front) token)) refl
  where
    by_take : (found : Option (Role × List Awaited)) → take left (seen_as (last_line None front) token) ≡ found → found ≡ None
    by_take None is = refl
    by_take (Some taken) is =
        let more = runs_more (seen front) whole left marks (seen_as (last_line None front) token) taken run is in
        let all : seen (front ++ token ∷ []) ≡ seen front ++ seen_as (last_line None front) token ∷ [] = seen_append None front (token ∷ []) in
        absurd (stops (run_begins (front ++ token ∷ []) more.0 taken.1 (subst (λ (ts : List Seen). Runs whole ts more.0 taken.1) (sym all) more.1)))

-- ---- what is answered is what the grammar says

fault_here : (passed : Option (ℕ × Limit)) (line : ℕ) (fault : OutlineFault) → NotBefore passed line → fault_after passed line fault ≡ fault
fault_here None line fault h = refl
fault_here (Some passed) line fault h = ap (λ b. cond b fault (TooMany passed.0 passed.1)) (eq-eqb passed.0 line h)

fault_elsewhere : (passed : Option (ℕ × Limit)) (at line : ℕ) (limit : Limit) (fault : OutlineFault) → passed ≡ Some (at, limit) → line ≢ at → fault_after passed line fault ≡ TooMany at limit
fault_elsewhere passed at line limit fault e other =
    ap (λ passed. fault_after passed line fault) e ∙ ap (λ b. cond b fault (TooMany at limit)) (to_false (nat_eq at line) (λ h. other (sym (eqb-true at line h))))

end_within : (counts : Counts) (before : Option ℕ) → at_end counts before None ≡ within_limits counts.passed
end_within counts None = refl
end_within counts (Some line) = refl

with_none : (roles : List Role) → with_roles roles (Ok []) ≡ Ok roles
with_none roles = ap (λ (rs : List Role). let answer : Answer = Ok rs in answer) (append-nil roles)

abbrev pub all_marks : List Mark → List Role
all_marks marks = map role_of marks

-- a text that is read to its end, of which nothing must still come
whole_answer : (tokens : List Token) (marks : List Mark) (left : List Awaited) → Runs whole (seen tokens) marks left → missing left ≡ None →
    roles tokens ≡ with_roles (all_marks marks) (within_limits (passed_in marks tokens))
whole_answer tokens marks left run none =
    roles_whole tokens marks left run
    ∙ ap (λ part. with_roles (all_marks marks) (at_end (counts_after nothing_counted marks tokens) (last_line None tokens) part)) none
    ∙ ap (with_roles (all_marks marks)) (end_within (counts_after nothing_counted marks tokens) (last_line None tokens))

-- a text that is read to its end, and lacks one
short_answer : (tokens : List Token) (marks : List Mark) (left : List Awaited) (line : ℕ) (part : Part) → Runs whole (seen tokens) marks left → missing left ≡ Some part → last_line None tokens ≡ Some line →
    roles tokens ≡ Err (fault_after (passed_in marks tokens) line (MissingEnd line part))
short_answer tokens marks left line part run is last =
    roles_whole tokens marks left run
    ∙ ap (λ part. with_roles (all_marks marks) (at_end (counts_after nothing_counted marks tokens) (last_line None tokens) part)) is
    ∙ ap (λ before. with_roles (all_marks marks) (at_end (counts_after nothing_counted marks tokens) before (Some part))) last

no_end : (tokens : List Token) (marks : List Mark) (left : List Awaited) (part : Part) → Runs whole (seen tokens) marks left → missing left ≡ Some part → (others : List Mark) → IsFile tokens others → ⊥
no_end tokens marks left part run is others file = none-some part (sym (file_missing tokens marks others left run file) ∙ is)

empty_whole : (tokens : List Token) (marks : List Mark) (left : List Awaited) → Runs whole (seen tokens) marks left → last_line None tokens ≡ None → missing left ≡ None
empty_whole [] marks left run e = whole_left marks left run
empty_whole (token ∷ tokens) marks left run e = let last = last_some token.line tokens in absurd (none-some last.0 (sym e ∙ last.1))

outlined_read : (tokens : List Token) (found : List Role) → IsOutlined tokens found → roles tokens ≡ Ok found
outlined_read tokens found h =
    let run = left_run tokens h.0 [] h.1 in
    whole_answer tokens h.0 run.middle run.runs run.same
    ∙ ap (λ passed. with_roles (all_marks h.0) (within_limits passed)) h.3
    ∙ with_none (all_marks h.0)
    ∙ ap (λ (rs : List Role). let answer : Answer = Ok rs in answer) (sym h.2)

unexpected_read : (tokens : List Token) (place : ℕ) → IsUnexpected tokens place → roles tokens ≡ Err (Unexpected place)
unexpected_read tokens place h =
    let run = left_run h.0 h.6.0 h.6.1 h.6.2 in
    roles_stuck tokens h.0 h.2 h.1 h.6.0 run.middle h.3 run.runs (stops_stuck h.0 h.1 h.6.0 run.middle run.runs h.4.1)
    ∙ ap (λ (fault : OutlineFault). let answer : Answer = Err fault in answer) (fault_here (passed_in h.6.0 h.0) h.1.line (Unexpected (length h.0)) h.6.3)
    ∙ ap (λ n. let answer : Answer = Err (Unexpected n) in answer) (sym h.5)

missing_read : (tokens : List Token) (line : ℕ) (part : Part) → IsMissingEnd tokens line part → roles tokens ≡ Err (MissingEnd line part)
missing_read tokens line part h =
    let run = left_run tokens h.3.0 h.3.1 h.3.2 in
    short_answer tokens h.3.0 run.middle line part run.runs (run.same ∙ h.3.3) h.2
    ∙ ap (λ (fault : OutlineFault). let answer : Answer = Err fault in answer) (fault_here (passed_in h.3.0 tokens) line (MissingEnd line part) h.3.4)

too_many_whole : (front : List Token) (line : ℕ) (limit : Limit) (marks others : List Mark) (middle : List Awaited) → Runs whole (seen front) marks middle → passed_in marks front ≡ Some (line, limit) →
    IsFile front others → roles front ≡ Err (TooMany line limit)
too_many_whole front line limit marks others middle run passed file =
    whole_answer front marks middle run (file_missing front marks others middle run file)
    ∙ ap (λ passed. with_roles (all_marks marks) (within_limits passed)) passed

too_many_short : (front : List Token) (line : ℕ) (limit : Limit) (marks : List Mark) (middle : List Awaited) → Runs whole (seen front) marks middle → passed_in marks front ≡ Some (line, limit) →
    ((others : List Mark) → IsFile front others → ⊥) → last_line None front ≢ Some line →
    (part : Option Part) → missing middle ≡ part → (last : Option ℕ) → last_line None front ≡ last → roles front ≡ Err (TooMany line limit)
too_many_short front line limit marks middle run passed lacks other None is last last_is = absurd (lacks marks (run_file front marks middle run is))
too_many_short front line limit marks middle run passed lacks other (Some part) is None last_is =
    absurd (none-some part (sym (empty_whole front marks middle run last_is) ∙ is))
too_many_short front line limit marks middle run passed lacks other (Some part) is (Some at) last_is =
    short_answer front marks middle at part run is last_is
    ∙ ap (λ (fault : OutlineFault). let answer : Answer = Err fault in answer)
    (fault_elsewhere (passed_in marks front) line at limit (MissingEnd at part) passed (λ e. other (last_is ∙ ap (λ n. Some n) e)))

too_many_ends : (front rest : List Token) (line : ℕ) (limit : Limit) (marks : List Mark) (middle : List Awaited) → Runs whole (seen front) marks middle → passed_in marks front ≡ Some (line, limit) →
    EndsElsewhere front rest line → roles (front ++ rest) ≡ Err (TooMany line limit)
too_many_ends front [] line limit marks middle run passed (inl file) =
    ap roles (append-nil front) ∙ too_many_whole front line limit marks file.0 middle run passed file.1
too_many_ends front [] line limit marks middle run passed (inr ends) =
    ap roles (append-nil front) ∙ too_many_short front line limit marks middle run passed ends.0 ends.1 (missing middle) refl (last_line None front) refl
too_many_ends front (token ∷ rest) line limit marks middle run passed ends =
    roles_stuck (front ++ token ∷ rest) front rest token marks middle refl run (stops_stuck front token marks middle run ends.0.1)
    ∙ ap (λ (fault : OutlineFault). let answer : Answer = Err fault in answer) (fault_elsewhere (passed_in marks front) line token.line limit (Unexpected (length front)) passed ends.1)

too_many_read : (tokens : List Token) (line : ℕ) (limit : Limit) → IsTooMany tokens line limit → roles tokens ≡ Err (TooMany line limit)
too_many_read tokens line limit h =
    let run = left_run h.0 h.4.0 h.4.1 h.4.2 in
    ap roles h.2 ∙ too_many_ends h.0 h.1 line limit h.4.0 run.middle run.runs h.4.3 h.3

-- an answer is the one that is read
pub answer_is_read : (tokens : List Token) (answer : Answer) → IsAnswer tokens answer → roles tokens ≡ answer
answer_is_read tokens (Ok found) h = outlined_read tokens found h
answer_is_read tokens (Err (Unexpected place)) h = unexpected_read tokens place h
answer_is_read tokens (Err (MissingEnd line part)) h = missing_read tokens line part h
answer_is_read tokens (Err (TooMany line limit)) h = too_many_read tokens line limit h
answer_is_read tokens (Err NoMemory) h = absurd h

-- what is read is an answer
unexpected_is : (front rest : List Token) (token : Token) (marks : List Mark) (left : List Awaited) → Runs whole (seen front) marks left → take left (seen_as (last_line None front) token) ≡ None →
    (passed : Option (ℕ × Limit)) → passed_in marks front ≡ passed → IsAnswer (front ++ token ∷ rest) (Err (fault_after passed token.line (Unexpected (length front))))
unexpected_is front rest token marks left run stuck None is =
    (front, token, rest, refl, (run_begins front marks left run, stuck_stops front token marks left run stuck), refl, (marks, left, runs_leave run, subst (λ passed. NotBefore passed token.line) (sym is) tt))
unexpected_is front rest token marks left run stuck (Some passed) is = by_line (nat_eq passed.0 token.line) refl
  where
    by_line : (b : Bool) → nat_eq passed.0 token.line ≡ b → IsAnswer (front ++ token ∷ rest) (Err (cond b (Unexpected (length front)) (TooMany passed.0 passed.1)))
    by_line true same = (
      front,
      token,
      rest,
      refl,
      (run_begins front marks left run, stuck_stops front token marks left run stuck),
      refl,
      (marks, left, runs_leave run, subst (λ passed. NotBefore passed token.line) (sym is) (eqb-true passed.0 token.line same)),
    )
    by_line false other = (
      front,
      token ∷ rest,
      refl,
      ((run_begins front marks left run, stuck_stops front token marks left run stuck), λ e. true_not_false (nat_eq passed.0 token.line) (eq-eqb passed.0 token.line (sym e)) other),
      (marks, left, runs_leave run, is),
    )

whole_is : (tokens : List Token) (marks : List Mark) (left : List Awaited) → Runs whole (seen tokens) marks left → missing left ≡ None →
    (passed : Option (ℕ × Limit)) → passed_in marks tokens ≡ passed → IsAnswer tokens (with_roles (all_marks marks) (within_limits passed))
whole_is tokens marks left run none None is = (marks, run_file tokens marks left run none, append-nil (all_marks marks), is)
whole_is tokens marks left run none (Some passed) is =
    (tokens, [], sym (append-nil tokens), inl (marks, run_file tokens marks left run none), (marks, left, runs_leave run, is))

short_is : (tokens : List Token) (marks : List Mark) (left : List Awaited) (line : ℕ) (part : Part) → Runs whole (seen tokens) marks left → missing left ≡ Some part → last_line None tokens ≡ Some line →
    (passed : Option (ℕ × Limit)) → passed_in marks tokens ≡ passed → IsAnswer tokens (Err (fault_after passed line (MissingEnd line part)))
short_is tokens marks left line part run lacks last None is =
    (run_begins tokens marks left run, no_end tokens marks left part run lacks, last, (marks, left, runs_leave run, lacks, subst (λ passed. NotBefore passed line) (sym is) tt))
short_is tokens marks left line part run lacks last (Some passed) is = by_line (nat_eq passed.0 line) refl
  where
    by_line : (b : Bool) → nat_eq passed.0 line ≡ b → IsAnswer tokens (Err (cond b (MissingEnd line part) (TooMany passed.0 passed.1)))
    by_line true same = (run_begins tokens marks left run, no_end tokens marks left part run lacks, last, (marks, left, runs_leave run, lacks, subst (λ passed. NotBefore passed line) (sym is) (eqb-true passed.0 line same)))
    by_line false other = (
      tokens,
      [],
      sym (append-nil tokens),
      inr (no_end tokens marks left part run lacks, λ e. let at : line ≡ passed.0 = some_one line passed.0 (sym last ∙ e) in true_not_false (nat_eq passed.0 line) (eq-eqb passed.0 line (sym at)) other),
      (marks, left, runs_leave run, is),
    )

end_is : (tokens : List Token) (marks : List Mark) (left : List Awaited) → Runs whole (seen tokens) marks left → (part : Option Part) → missing left ≡ part → (last : Option ℕ) → last_line None tokens ≡ last →
    IsAnswer tokens (with_roles (all_marks marks) (at_end (counts_after nothing_counted marks tokens) last part))
end_is tokens marks left run None none None last = whole_is tokens marks left run none (passed_in marks tokens) refl
end_is tokens marks left run None none (Some line) last = whole_is tokens marks left run none (passed_in marks tokens) refl
end_is tokens marks left run (Some part) lacks None last = absurd (none-some part (sym (empty_whole tokens marks left run last) ∙ lacks))
end_is tokens marks left run (Some part) lacks (Some line) last = short_is tokens marks left line part run lacks last (passed_in marks tokens) refl

far_is : (front rest : List Token) (marks : List Mark) (left : List Awaited) → Runs whole (seen front) marks left → Stuck left (last_line None front) rest → IsAnswer (front ++ rest) (roles (front ++ rest))
far_is front [] marks left run stuck =
    subst (λ (ts : List Token). IsAnswer ts (roles ts)) (sym (append-nil front))
    (subst (λ (answer : Answer). IsAnswer front answer) (sym (roles_whole front marks left run)) (end_is front marks left run (missing left) refl (last_line None front) refl))
far_is front (token ∷ rest) marks left run stuck =
    subst (λ (answer : Answer). IsAnswer (front ++ token ∷ rest) answer) (sym (roles_stuck (front ++ token ∷ rest) front rest token marks left refl run stuck))
    (unexpected_is front rest token marks left run stuck (passed_in marks front) refl)

pub read_is_answer : (tokens : List Token) → IsAnswer tokens (roles tokens)
read_is_answer tokens =
    let reach : Far whole None tokens = far whole None tokens in
    subst (λ (ts : List Token). IsAnswer ts (roles ts)) (sym reach.split) (far_is reach.front reach.rest reach.marks reach.left reach.runs reach.stuck)
