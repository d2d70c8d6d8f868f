-- What each token opens, ends or goes on with, and what of it is seen of the grammar's table.
use Rattle.std.proofs.Common.{◌≡◌, Bool, true, false, ◌&&◌, List, [], ◌∷◌, ◌++◌, Option, Some, None, refl, ap}
use denote.Enum.Bare.{sameb, same_true}
use Rattle.outline_reader.specs.contracts.fault.Part.{the_type}
use Rattle.outline_reader.specs.declared.fault.Part.{Part}
use Rattle.outline_reader.specs.declared.fault.Part.TheVariants as part
use Rattle.outline_reader.specs.declared.machine.Seen.{Seen}
use Rattle.outline_reader.specs.declared.sort.Sort.{Sort}
use Rattle.outline_reader.specs.declared.sort.Sort.TheVariants as s
use Rattle.outline_reader.specs.declared.symbols.Class.{Class}
use Rattle.outline_reader.specs.declared.symbols.Class.TheVariants as class
use Rattle.outline_reader.specs.declared.symbols.Role.{Role}
use Rattle.outline_reader.specs.declared.symbols.Role.TheVariants as role
use Rattle.outline_reader.specs.declared.symbols.Phrase.{Phrase}
use Rattle.outline_reader.specs.declared.symbols.Phrase.TheVariants as p
use Rattle.outline_reader.specs.declared.symbols.Symbol.{Symbol}
use Rattle.outline_reader.specs.declared.symbols.Symbol.TheVariants.{One, Choice}
use Rattle.outline_reader.specs.Grammar.{Alternative, alternatives}
use Rattle.outline_reader.proofs.Truth.{and_left, and_right}
use Rattle.outline_reader.proofs.WritingLemmas.{then_come}
use Rattle.outline_reader.proofs.FilledLemmas.{every}
use Rattle.outline_reader.proofs.FollowLemmas.{no_true}
use Rattle.outline_laws.specs.Nesting.{HoldsSteps, HoldsCases}
use Rattle.outline_laws.proofs.KindWords.{IsSortOf}

-- ---- what a token does

-- where a reader is: in no such line, in a step whose justification is not told, in an `end` line, behind `and`
pub data Mode : Type 0 where
  free : Mode
  in_step : Mode
  in_end : Mode
  behind_and : Mode

pub data Act : Type 0 where
  a_step : Act
  an_inversion : Act
  a_case : Act
  an_end : Act
  a_theorem : Act
  an_and : Act
  a_kind : Act
  -- another part of a file, a category or a rule
  a_part : Act
  an_item : Act
  opens : Part → Act
  tells : Act
  closes : Part → Act
  plain : Act

abbrev pub act : Role → Act
act role.StepName = a_step
act role.ProofWord = a_step
act role.InversionWord = an_inversion
act role.CaseWord = a_case
act role.EndWord = an_end
act role.TheoremWord = a_theorem
act role.AndWord = an_and
act role.KindWord = a_kind
act role.TerminalsWord = a_part
act role.SyntaxWord = a_part
act role.CategoryName = a_part
act role.NewCategory = a_part
act role.JudgmentWord = a_part
act role.RulePremise = a_part
act role.RuleBar = a_part
act role.Item = an_item
act role.Cases = opens part.CaseAnalysis
act role.Induction = opens part.Induction
act role.RuleCall = tells
act role.TheoremCall = tells
act role.HypothesisCall = tells
act role.Contradiction = tells
act role.Weakening = tells
act role.Exchange = tells
act role.Substitution = tells
act role.Unproved = tells
act role.NameAlone = tells
act role.EndTheorem = closes part.Theorem
act role.EndLemma = closes part.Lemma
act role.EndCase = closes part.Case
act role.EndAnalysis = closes part.CaseAnalysis
act role.EndInduction = closes part.Induction
act _ = plain

-- what a token does, and what holds behind it
abbrev pub Goes : Mode → List Part → Act → Sort → (Mode → List Part → Type 0) → Type 0
Goes free blocks a_step sort on = HoldsSteps blocks × on in_step blocks
Goes free blocks an_inversion sort on = HoldsSteps blocks × on free blocks
Goes free blocks a_case sort on = HoldsCases blocks × on free (part.Case ∷ blocks)
Goes free blocks an_end sort on = on in_end blocks
Goes free blocks a_theorem sort on = (blocks ≡ []) × ((kind : Part) × IsSortOf sort kind × on free (kind ∷ blocks))
Goes free blocks an_and sort on = (blocks ≡ []) × on behind_and blocks
Goes free blocks a_part sort on = (blocks ≡ []) × on free blocks
Goes free blocks an_item sort on = on free blocks
Goes free blocks plain sort on = on free blocks
Goes in_step blocks (opens block) sort on = on free (block ∷ blocks)
Goes in_step blocks tells sort on = on free blocks
Goes in_step blocks plain sort on = on in_step blocks
Goes in_end blocks (closes block) sort on = (outer : List Part) × (blocks ≡ block ∷ outer) × on free outer
Goes in_end blocks plain sort on = on in_end blocks
Goes behind_and blocks a_kind sort on = (blocks ≡ []) × ((kind : Part) × IsSortOf sort kind × on free (kind ∷ blocks))
Goes _ blocks _ sort on = ⊥

unfoldable pub Walks : Mode → List Part → List Role → List Seen → Type 0
Walks mode blocks [] tokens = (mode ≡ free) × (blocks ≡ [])
Walks mode blocks (one ∷ roles) [] = ⊥
Walks mode blocks (one ∷ roles) (token ∷ tokens) = Goes mode blocks (act one) token.sort (λ later inner. Walks later inner roles tokens)

-- ---- what is open while symbols are to come

abbrev pub put : Option Part → List Part → List Part
put None blocks = blocks
put (Some block) blocks = block ∷ blocks

abbrev pub closed_by : Act → Option Part
closed_by (closes block) = Some block
closed_by _ = None

abbrev pub owes : Symbol → Option Part
owes (One place class one) = closed_by (act one)
owes (Choice p.TheoremBody) = Some part.Theorem
owes (Choice p.LemmaBody) = Some part.Lemma
owes (Choice _) = None

abbrev pub owed : List Part → List Symbol → List Part
owed base [] = base
owed base (symbol ∷ rest) = put (owes symbol) (owed base rest)

pub owed_append : (base : List Part) (front rest : List Symbol) → owed base (front ++ rest) ≡ owed (owed base rest) front
owed_append base [] rest = refl
owed_append base (symbol ∷ front) rest = ap (put (owes symbol)) (owed_append base front rest)

-- ---- what may come, and in which mode a reader is behind it

abbrev pub none_open : List Part → Bool
none_open [] = true
none_open (block ∷ blocks) = false

abbrev pub in_proof : List Part → Bool
in_proof (part.Theorem ∷ outer) = true
in_proof (part.Lemma ∷ outer) = true
in_proof (part.Case ∷ outer) = true
in_proof _ = false

abbrev pub in_block : List Part → Bool
in_block (part.CaseAnalysis ∷ outer) = true
in_block (part.Induction ∷ outer) = true
in_block _ = false

abbrev pub where_so : Bool → Mode → Option Mode
where_so true mode = Some mode
where_so false mode = None

-- behind a token that ends what it owes, and opens nothing
abbrev pub one_mode : Mode → List Part → Act → Option Mode
one_mode free blocks an_end = Some in_end
one_mode free blocks a_part = where_so (none_open blocks) free
one_mode free blocks an_item = Some free
one_mode free blocks plain = Some free
one_mode in_step blocks tells = Some free
one_mode in_step blocks plain = Some in_step
one_mode in_end blocks (closes block) = Some free
one_mode in_end blocks plain = Some in_end
one_mode _ blocks _ = None

abbrev pub kind_of : Class → Option Part
kind_of (class.Is s.Theorem) = Some part.Theorem
kind_of (class.Is s.Lemma) = Some part.Lemma
kind_of _ = None

abbrev pub is_kind : Option Part → Bool
is_kind (Some block) = true
is_kind None = false

-- what the first token of an alternative opens
abbrev pub pushed : Class → Act → Option Part
pushed class a_case = Some part.Case
pushed class a_theorem = kind_of class
pushed class a_kind = kind_of class
pushed class (opens block) = Some block
pushed class _ = None

abbrev pub begun_mode : Mode → List Part → Class → Act → Option Mode
begun_mode free blocks class a_step = where_so (in_proof blocks) in_step
begun_mode free blocks class an_inversion = where_so (in_proof blocks) free
begun_mode free blocks class a_case = where_so (in_block blocks) free
begun_mode free blocks class a_theorem = where_so (none_open blocks && is_kind (kind_of class)) free
begun_mode free blocks class an_and = where_so (none_open blocks) behind_and
begun_mode free blocks class a_part = where_so (none_open blocks) free
begun_mode free blocks class an_item = Some free
begun_mode free blocks class plain = Some free
begun_mode in_step blocks class (opens block) = Some free
begun_mode in_step blocks class tells = Some free
begun_mode in_step blocks class plain = Some in_step
begun_mode behind_and blocks class a_kind = where_so (none_open blocks && is_kind (kind_of class)) free
begun_mode _ blocks class _ = None

pub data Sense : Type 0 where
  at_top : Sense
  of_steps : Sense
  of_cases : Sense
  telling : Sense
  naming_kind : Sense
  of_form : Sense
  inside : Sense

abbrev pub sense : Phrase → Sense
sense p.Parts = at_top
sense p.FirstTheorem = at_top
sense p.LaterParts = at_top
sense p.FirstDefine = at_top
sense p.Productions = at_top
sense p.AfterLineName = at_top
sense p.AfterLineToken = at_top
sense p.Rules = at_top
sense p.Proof = of_steps
sense p.Steps = of_steps
sense p.CaseList = of_cases
sense p.Just = telling
sense p.FirstJust = telling
sense p.InductionOrHypothesis = telling
sense p.AndKind = naming_kind
sense p.MoreOfForm = of_form
sense _ = inside

abbrev pub sense_mode : Mode → List Part → Sense → Option Mode
sense_mode free blocks at_top = where_so (none_open blocks) free
sense_mode free blocks of_steps = where_so (in_proof blocks) free
sense_mode free blocks of_cases = where_so (in_block blocks) free
sense_mode free blocks of_form = Some free
sense_mode free blocks inside = Some free
sense_mode in_step blocks telling = Some free
sense_mode in_step blocks of_form = Some in_step
sense_mode behind_and blocks naming_kind = where_so (none_open blocks) free
sense_mode _ blocks _ = None

abbrev pub if_some : Option Mode → (Mode → Bool) → Bool
if_some (Some mode) test = test mode
if_some None test = false

abbrev pub same_mode : Mode → Mode → Bool
same_mode free free = true
same_mode in_step in_step = true
same_mode in_end in_end = true
same_mode behind_and behind_and = true
same_mode _ _ = false

-- the symbols lead from one mode to the other
abbrev pub leads : List Part → Mode → List Symbol → Mode → Bool
leads base mode [] last = same_mode mode last
leads base mode (One place class one ∷ rest) last =
    if_some (one_mode mode (owed base (One place class one ∷ rest)) (act one)) (λ later. leads base later rest last)
leads base mode (Choice phrase ∷ rest) last =
    if_some (sense_mode mode (owed base (Choice phrase ∷ rest)) (sense phrase)) (λ later. leads base later rest last)

-- ---- what is seen of the table alone

abbrev pub same_parts : List Part → List Part → Bool
same_parts [] [] = true
same_parts (one ∷ ones) (other ∷ others) = sameb the_type one other && same_parts ones others
same_parts _ _ = false

pub parts_are : (ones others : List Part) → same_parts ones others ≡ true → ones ≡ others
parts_are [] [] h = refl
parts_are [] (other ∷ others) h = no_true h
parts_are (one ∷ ones) [] h = no_true h
parts_are (one ∷ ones) (other ∷ others) h =
    λ i. same_true the_type tt one other (and_left (sameb the_type one other) (same_parts ones others) h) i ∷ parts_are ones others (and_right (sameb the_type one other) (same_parts ones others) h) i

unfoldable pub begins_well : Phrase → List Part → Mode → Alternative → Mode → Bool
begins_well phrase base mode a last =
    if_some (begun_mode mode (put (owes (Choice phrase)) base) a.1 (act a.2)) (λ later. leads base later (then_come phrase a.3) last)

abbrev pub if_allowed : Option Mode → (Mode → Bool) → Bool
if_allowed None test = true
if_allowed (Some last) test = test last

unfoldable pub mode_well : Phrase → List Part → Mode → Bool
mode_well phrase base mode =
    if_allowed (sense_mode mode (put (owes (Choice phrase)) base) (sense phrase)) (λ last. every (λ a. begins_well phrase base mode a last) (alternatives phrase))

pub every_mode : (Mode → Bool) → Bool
every_mode test = test free && (test in_step && (test in_end && test behind_and))

pub some_mode : (test : Mode → Bool) (mode : Mode) → every_mode test ≡ true → test mode ≡ true
unfolding every_mode
some_mode test free h = and_left (test free) _ h
some_mode test in_step h = and_left (test in_step) _ (and_right (test free) _ h)
some_mode test in_end h = and_left (test in_end) _ (and_right (test in_step) _ (and_right (test free) _ h))
some_mode test behind_and h = and_right (test in_end) _ (and_right (test in_step) _ (and_right (test free) _ h))

pub every_base : (List Part → Bool) → List Part → Bool
every_base test outer =
    test [] && (test (part.Terminals ∷ outer) && (test (part.Syntax ∷ outer) && (test (part.Judgment ∷ outer) && (test (part.Theorem ∷ outer) && (test (part.Lemma ∷ outer)
    && (test (part.Case ∷ outer) && (test (part.CaseAnalysis ∷ outer) && (test (part.Induction ∷ outer) && test (part.Inversion ∷ outer)))))))))

pub well_table : (phrase : Phrase) (outer : List Part) → every_base (λ base. every_mode (mode_well phrase base)) outer ≡ true
unfolding every every_base every_mode mode_well begins_well
well_table p.Parts outer = refl
well_table _ outer = refl

pub opened_table : (phrase : Phrase) → every (λ a. same_parts (owed [] (then_come phrase a.3)) (put (pushed a.1 (act a.2)) (put (owes (Choice phrase)) []))) (alternatives phrase) ≡ true
unfolding every
opened_table p.Parts = refl
opened_table _ = refl

pub some_base : (test : List Part → Bool) (base : List Part) → ((outer : List Part) → every_base test outer ≡ true) → test base ≡ true
unfolding every_base
some_base test [] all = and_left (test []) _ (all [])
some_base test (part.Terminals ∷ outer) all = and_left (test (part.Terminals ∷ outer)) _ (and_right (test []) _ (all outer))
some_base test (part.Syntax ∷ outer) all = and_left (test (part.Syntax ∷ outer)) _ (and_right (test (part.Terminals ∷ outer)) _ (and_right (test []) _ (all outer)))
some_base test (part.Judgment ∷ outer) all = and_left (test (part.Judgment ∷ outer)) _ (and_right (test (part.Syntax ∷ outer)) _ (and_right (test (part.Terminals ∷ outer)) _ (and_right (test []) _ (all outer))))
some_base test (part.Theorem ∷ outer) all = and_left (test (part.Theorem ∷ outer)) _ (and_right (test (part.Judgment ∷ outer)) _ (and_right (test (part.Syntax ∷ outer)) _ (and_right (test (part.Terminals ∷ outer)) _ (and_right (test []) _ (all outer)))))
some_base test (part.Lemma ∷ outer) all = and_left (test (part.Lemma ∷ outer)) _ (and_right (test (part.Theorem ∷ outer)) _ (and_right (test (part.Judgment ∷ outer)) _ (and_right (test (part.Syntax ∷ outer)) _ (and_right (test (part.Terminals ∷ outer)) _ (and_right (test []) _ (all outer))))))
some_base test (part.Case ∷ outer) all = and_left (test (part.Case ∷ outer)) _ (and_right (test (part.Lemma ∷ outer)) _ (and_right (test (part.Theorem ∷ outer)) _ (and_right (test (part.Judgment ∷ outer)) _ (and_right (test (part.Syntax ∷ outer)) _ (and_right (test (part.Terminals ∷ outer)) _ (and_right (test []) _ (all outer)))))))
some_base test (part.CaseAnalysis ∷ outer) all = and_left (test (part.CaseAnalysis ∷ outer)) _ (and_right (test (part.Case ∷ outer)) _ (and_right (test (part.Lemma ∷ outer)) _ (and_right (test (part.Theorem ∷ outer)) _ (and_right (test (part.Judgment ∷ outer)) _ (and_right (test (part.Syntax ∷ outer)) _ (and_right (test (part.Terminals ∷ outer)) _ (and_right (test []) _ (all outer))))))))
some_base test (part.Induction ∷ outer) all = and_left (test (part.Induction ∷ outer)) _ (and_right (test (part.CaseAnalysis ∷ outer)) _ (and_right (test (part.Case ∷ outer)) _ (and_right (test (part.Lemma ∷ outer)) _ (and_right (test (part.Theorem ∷ outer)) _ (and_right (test (part.Judgment ∷ outer)) _ (and_right (test (part.Syntax ∷ outer)) _ (and_right (test (part.Terminals ∷ outer)) _ (and_right (test []) _ (all outer)))))))))
some_base test (part.Inversion ∷ outer) all = and_right (test (part.Induction ∷ outer)) _ (and_right (test (part.CaseAnalysis ∷ outer)) _ (and_right (test (part.Case ∷ outer)) _ (and_right (test (part.Lemma ∷ outer)) _ (and_right (test (part.Theorem ∷ outer)) _ (and_right (test (part.Judgment ∷ outer)) _ (and_right (test (part.Syntax ∷ outer)) _ (and_right (test (part.Terminals ∷ outer)) _ (and_right (test []) _ (all outer)))))))))
