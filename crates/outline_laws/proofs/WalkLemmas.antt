-- The grammar writes tokens whose blocks nest.
use Rattle.std.proofs.Common.{◌≡◌, ◌≢◌, Bool, true, false, ◌&&◌, List, [], ◌∷◌, ◌++◌, Option, Some, None, refl, sym, ◌∙◌, ap, subst}
use Rattle.proof_lexer.specs.declared.token.Token.{Token}
use Rattle.outline_reader.specs.declared.fault.Part.{Part}
use Rattle.outline_reader.specs.declared.fault.Part.TheVariants as part
use Rattle.outline_reader.specs.declared.machine.Awaited.{Awaited}
use Rattle.outline_reader.specs.declared.machine.Seen.{Seen}
use Rattle.outline_reader.specs.declared.sort.Sort.{Sort}
use Rattle.outline_reader.specs.declared.sort.Sort.TheVariants as s
use Rattle.outline_reader.specs.declared.symbols.Class.{Class}
use Rattle.outline_reader.specs.declared.symbols.Class.TheVariants as class
use Rattle.outline_reader.specs.declared.symbols.Role.{Role}
use Rattle.outline_reader.specs.declared.symbols.Phrase.{Phrase}
use Rattle.outline_reader.specs.declared.symbols.Phrase.TheVariants as p
use Rattle.outline_reader.specs.declared.symbols.Times.TheVariants as times
use Rattle.outline_reader.specs.declared.symbols.Symbol.{Symbol}
use Rattle.outline_reader.specs.declared.symbols.Symbol.TheVariants.{One, Choice}
use Rattle.outline_reader.specs.Grammar.{Alternative, times_of, alternatives}
use Rattle.outline_reader.specs.Derives as d
use Rattle.outline_reader.specs.Derives.{Derives, Mark, IsOneOf, has, stands, seen, whole}
use Rattle.outline_reader.specs.Outline.{IsOutlined}
use Rattle.outline_reader.proofs.Truth.{and_left, and_right}
use Rattle.outline_reader.proofs.WritingLemmas.{then_come, symbols, symbols_opened, marked_roles}
use Rattle.outline_reader.proofs.FilledLemmas.{every, every_one}
use Rattle.outline_reader.proofs.FollowLemmas.{no_true}
use Rattle.outline_laws.specs.Nesting.{HoldsSteps, HoldsCases}
use Rattle.outline_laws.proofs.KindWords.{IsSortOf}
use Rattle.outline_laws.proofs.ActLemmas.{Mode, Act, act, Goes, Walks, put, closed_by, owes, owed, owed_append, none_open, in_proof, in_block, where_so, one_mode, kind_of, is_kind, pushed, begun_mode, Sense, sense, sense_mode, if_some, same_mode, leads, same_parts, parts_are, begins_well, if_allowed, mode_well, every_mode, some_mode, well_table, opened_table, some_base, free, in_step, in_end, behind_and, a_step, an_inversion, a_case, an_end, a_theorem, an_and, a_kind, a_part, an_item, opens, tells, closes, plain, at_top, of_steps, of_cases, telling, naming_kind, of_form, inside}

-- ---- what is seen of one token

so : (b : Bool) (mode : Mode) (test : Mode → Bool) → if_some (where_so b mode) test ≡ true → (b ≡ true) × (test mode ≡ true)
so true mode test h = (refl, h)
so false mode test h = no_true h

holds_steps : (blocks : List Part) → in_proof blocks ≡ true → HoldsSteps blocks
holds_steps [] h = no_true h
holds_steps (part.Theorem ∷ outer) h = tt
holds_steps (part.Lemma ∷ outer) h = tt
holds_steps (part.Case ∷ outer) h = tt
holds_steps (_ ∷ outer) h = no_true h

holds_cases : (blocks : List Part) → in_block blocks ≡ true → HoldsCases blocks
holds_cases [] h = no_true h
holds_cases (part.CaseAnalysis ∷ outer) h = tt
holds_cases (part.Induction ∷ outer) h = tt
holds_cases (_ ∷ outer) h = no_true h

nothing_open : (blocks : List Part) → none_open blocks ≡ true → blocks ≡ []
nothing_open [] h = refl
nothing_open (block ∷ blocks) h = no_true h

one_steps : (mode : Mode) (one : Act) (outer : List Part) (sort : Sort) (test : Mode → Bool) (on : Mode → List Part → Type 0) → if_some (one_mode mode (put (closed_by one) outer) one) test ≡ true →
    ((later : Mode) → test later ≡ true → on later outer) → Goes mode (put (closed_by one) outer) one sort on
one_steps free an_end outer sort test on h go = go in_end h
one_steps free a_part outer sort test on h go = let is = so (none_open outer) free test h in (nothing_open outer is.0, go free is.1)
one_steps free an_item outer sort test on h go = go free h
one_steps free plain outer sort test on h go = go free h
one_steps in_step tells outer sort test on h go = go free h
one_steps in_step plain outer sort test on h go = go in_step h
one_steps in_end (closes block) outer sort test on h go = (outer, refl, go free h)
one_steps in_end plain outer sort test on h go = go in_end h
one_steps _ _ outer sort test on h go = no_true h

kind_pushed : (class : Class) (sort : Sort) (blocks : List Part) (on : Mode → List Part → Type 0) → has class sort ≡ true → is_kind (kind_of class) ≡ true → on free (put (kind_of class) blocks) →
    (kind : Part) × IsSortOf sort kind × on free (kind ∷ blocks)
kind_pushed (class.Is s.Theorem) sort blocks on fits h go = (part.Theorem, fits, go)
kind_pushed (class.Is s.Lemma) sort blocks on fits h go = (part.Lemma, fits, go)
kind_pushed (class.Is _) sort blocks on fits h go = no_true h
kind_pushed _ sort blocks on fits h go = no_true h

begun_steps : (mode : Mode) (one : Act) (blocks : List Part) (class : Class) (sort : Sort) (test : Mode → Bool) (on : Mode → List Part → Type 0) → has class sort ≡ true →
    if_some (begun_mode mode blocks class one) test ≡ true → ((later : Mode) → test later ≡ true → on later (put (pushed class one) blocks)) → Goes mode blocks one sort on
begun_steps free a_step blocks class sort test on fits h go = let is = so (in_proof blocks) in_step test h in (holds_steps blocks is.0, go in_step is.1)
begun_steps free an_inversion blocks class sort test on fits h go = let is = so (in_proof blocks) free test h in (holds_steps blocks is.0, go free is.1)
begun_steps free a_case blocks class sort test on fits h go = let is = so (in_block blocks) free test h in (holds_cases blocks is.0, go free is.1)
begun_steps free a_theorem blocks class sort test on fits h go =
    let is = so (none_open blocks && is_kind (kind_of class)) free test h in
    (nothing_open blocks (and_left (none_open blocks) (is_kind (kind_of class)) is.0), kind_pushed class sort blocks on fits (and_right (none_open blocks) (is_kind (kind_of class)) is.0) (go free is.1))
begun_steps free an_and blocks class sort test on fits h go = let is = so (none_open blocks) behind_and test h in (nothing_open blocks is.0, go behind_and is.1)
begun_steps free a_part blocks class sort test on fits h go = let is = so (none_open blocks) free test h in (nothing_open blocks is.0, go free is.1)
begun_steps free an_item blocks class sort test on fits h go = go free h
begun_steps free plain blocks class sort test on fits h go = go free h
begun_steps in_step (opens block) blocks class sort test on fits h go = go free h
begun_steps in_step tells blocks class sort test on fits h go = go free h
begun_steps in_step plain blocks class sort test on fits h go = go in_step h
begun_steps behind_and a_kind blocks class sort test on fits h go =
    let is = so (none_open blocks && is_kind (kind_of class)) free test h in
    (nothing_open blocks (and_left (none_open blocks) (is_kind (kind_of class)) is.0), kind_pushed class sort blocks on fits (and_right (none_open blocks) (is_kind (kind_of class)) is.0) (go free is.1))
begun_steps _ _ blocks class sort test on fits h go = no_true h

-- ---- what is put in front of others

mode_is : (one other : Mode) → same_mode one other ≡ true → one ≡ other
mode_is free free h = refl
mode_is in_step in_step h = refl
mode_is in_end in_end h = refl
mode_is behind_and behind_and h = refl
mode_is _ _ h = no_true h

some_more : (mode : Option Mode) (test other : Mode → Bool) → ((later : Mode) → test later ≡ true → other later ≡ true) → if_some mode test ≡ true → if_some mode other ≡ true
some_more None test other turns h = h
some_more (Some mode) test other turns h = turns mode h

leads_append : (base : List Part) (front rest : List Symbol) (mode middle last : Mode) → leads (owed base rest) mode front middle ≡ true → leads base middle rest last ≡ true → leads base mode (front ++ rest) last ≡ true
leads_append base [] rest mode middle last h more = subst (λ m. leads base m rest last ≡ true) (sym (mode_is mode middle h)) more
leads_append base (One place class one ∷ front) rest mode middle last h more =
    ap (λ blocks. if_some (one_mode mode blocks (act one)) (λ later. leads base later (front ++ rest) last)) (owed_append base (One place class one ∷ front) rest)
    ∙ some_more (one_mode mode (owed (owed base rest) (One place class one ∷ front)) (act one)) (λ later. leads (owed base rest) later front middle) (λ later. leads base later (front ++ rest) last)
    (λ later ok. leads_append base front rest later middle last ok more) h
leads_append base (Choice phrase ∷ front) rest mode middle last h more =
    ap (λ blocks. if_some (sense_mode mode blocks (sense phrase)) (λ later. leads base later (front ++ rest) last)) (owed_append base (Choice phrase ∷ front) rest)
    ∙ some_more (sense_mode mode (owed (owed base rest) (Choice phrase ∷ front)) (sense phrase)) (λ later. leads (owed base rest) later front middle) (λ later. leads base later (front ++ rest) last)
    (λ later ok. leads_append base front rest later middle last ok more) h

put_append : (block : Option Part) (blocks base : List Part) → put block (blocks ++ base) ≡ put block blocks ++ base
put_append None blocks base = refl
put_append (Some block) blocks base = refl

owed_base : (base : List Part) (all : List Symbol) → owed base all ≡ owed [] all ++ base
owed_base base [] = refl
owed_base base (symbol ∷ all) = ap (put (owes symbol)) (owed_base base all) ∙ put_append (owes symbol) (owed [] all) base

abbrev opens_so : Phrase → Alternative → Bool
opens_so phrase a = same_parts (owed [] (then_come phrase a.3)) (put (pushed a.1 (act a.2)) (put (owes (Choice phrase)) []))

opened_is : (phrase : Phrase) (chosen : Alternative) (base : List Part) → IsOneOf chosen (alternatives phrase) → owed base (then_come phrase chosen.3) ≡ put (pushed chosen.1 (act chosen.2)) (put (owes (Choice phrase)) base)
opened_is phrase chosen base is_one =
    owed_base base (then_come phrase chosen.3)
    ∙ ap (λ (blocks : List Part). blocks ++ base) (parts_are _ _ (every_one (opens_so phrase) is_one (opened_table phrase)))
    ∙ sym (put_append (pushed chosen.1 (act chosen.2)) (put (owes (Choice phrase)) []) base)
    ∙ ap (put (pushed chosen.1 (act chosen.2))) (sym (put_append (owes (Choice phrase)) [] base))

-- ---- what may be left out

abbrev stays : Sense → Bool
stays telling = false
stays naming_kind = false
stays _ = true

left : (phrase : Phrase) → times_of phrase ≢ times.Once → (owes (Choice phrase) ≡ None) × (stays (sense phrase) ≡ true)
left p.Just optional = absurd (optional refl)
left p.FirstJust optional = absurd (optional refl)
left p.InductionOrHypothesis optional = absurd (optional refl)
left p.AndKind optional = absurd (optional refl)
left p.TheoremBody optional = absurd (optional refl)
left p.LemmaBody optional = absurd (optional refl)
left _ optional = (refl, refl)

sense_stays : (mode : Mode) (one : Sense) (blocks : List Part) (test : Mode → Bool) → stays one ≡ true → if_some (sense_mode mode blocks one) test ≡ true → test mode ≡ true
sense_stays free at_top blocks test is h = (so (none_open blocks) free test h).1
sense_stays free of_steps blocks test is h = (so (in_proof blocks) free test h).1
sense_stays free of_cases blocks test is h = (so (in_block blocks) free test h).1
sense_stays free of_form blocks test is h = h
sense_stays free inside blocks test is h = h
sense_stays in_step of_form blocks test is h = h
sense_stays in_step telling blocks test is h = no_true is
sense_stays behind_and naming_kind blocks test is h = no_true is
sense_stays _ _ blocks test is h = no_true h

-- ---- what is derived

both_some : (mode : Option Mode) (test other : Mode → Bool) → if_some mode test ≡ true → if_allowed mode other ≡ true → (last : Mode) × (test last ≡ true) × (other last ≡ true)
both_some None test other h allowed = no_true h
both_some (Some last) test other h allowed = (last, h, allowed)

phrase_well : (phrase : Phrase) (base : List Part) (mode : Mode) → mode_well phrase base mode ≡ true
phrase_well phrase base mode = some_mode (mode_well phrase base) mode (some_base (λ base. every_mode (mode_well phrase base)) base (well_table phrase))

begins_so : (phrase : Phrase) (chosen : Alternative) (base : List Part) (mode : Mode) (test : Mode → Bool) → IsOneOf chosen (alternatives phrase) →
    if_some (sense_mode mode (put (owes (Choice phrase)) base) (sense phrase)) test ≡ true →
    (last : Mode) × (test last ≡ true) × (if_some (begun_mode mode (put (owes (Choice phrase)) base) chosen.1 (act chosen.2)) (λ later. leads base later (then_come phrase chosen.3) last) ≡ true)
unfolding mode_well begins_well
begins_so phrase chosen base mode test is_one h =
    let found =
    both_some (sense_mode mode (put (owes (Choice phrase)) base) (sense phrase)) test (λ last. every (λ (a : Alternative). begins_well phrase base mode a last) (alternatives phrase)) h
    (phrase_well phrase base mode) in
    (found.0, found.1, every_one (λ a. begins_well phrase base mode a found.0) is_one found.2)

walk : {awaited : List Awaited} {tokens : List Seen} {marks : List Mark} → Derives awaited tokens marks → (mode : Mode) → leads [] mode (symbols awaited) free ≡ true → Walks mode (owed [] (symbols awaited)) (marked_roles marks) tokens
unfolding Walks
walk d.here mode h = (mode_is mode free h, refl)
walk (d.token within place class one rest token more marks fit derived) mode h =
    one_steps mode (act one) (owed [] (symbols rest)) token.sort (λ later. leads [] later (symbols rest) free) (λ later inner. Walks later inner (marked_roles marks) more) h (λ later ok. walk derived later ok)
walk (d.alternative within phrase rest place class one what token more marks is_one fit derived) mode h =
    let chosen : Alternative = (place, class, one, what) in
    let base = owed [] (symbols rest) in
    let same = symbols_opened within phrase what rest in
    let found = begins_so phrase chosen base mode (λ later. leads [] later (symbols rest) free) is_one h in
    begun_steps mode (act one) (put (owes (Choice phrase)) base) class token.sort (λ later. leads base later (then_come phrase what) found.0) (λ later inner. Walks later inner (marked_roles marks) more)
    (and_right (stands place token.begins) (has class token.sort) fit) found.2
    (λ later ok.
    subst (λ blocks. Walks later blocks (marked_roles marks) more) (ap (owed []) same ∙ owed_append [] (then_come phrase what) (symbols rest) ∙ opened_is phrase chosen base is_one)
    (walk derived later (ap (λ (all : List Symbol). leads [] later all free) same ∙ leads_append [] (then_come phrase what) (symbols rest) later found.0 free ok found.1)))
walk (d.left_out within phrase rest more marks optional derived) mode h =
    let base = owed [] (symbols rest) in
    let is = left phrase optional in
    subst (λ block. Walks mode (put block base) (marked_roles marks) more) (sym is.0)
    (walk derived mode (sense_stays mode (sense phrase) (put (owes (Choice phrase)) base) (λ later. leads [] later (symbols rest) free) is.1 h))

pub outlined_walks : (tokens : List Token) (roles : List Role) → IsOutlined tokens roles → Walks free [] roles (seen tokens)
outlined_walks tokens roles is = subst (λ (rs : List Role). Walks free [] rs (seen tokens)) (sym is.2) (walk is.1 free refl)
