-- No field of a portion is its first token for want of another.
use Rattle.std.proofs.Common.{◌≡◌, ◌≢◌, inl, inr, ℕ, zero, suc, ◌+◌, Bool, true, false, cond, ◌||◌, IsTrue, List, [], ◌∷◌, take, drop, Option, Some, None, refl, sym, ◌∙◌, ap, subst, add-one}
use Rattle.std.specs.List.{AllByRecursion}
use Rattle.proof_lexer.specs.declared.token.Token.{Token}
use Rattle.outline_reader.specs.declared.machine.Awaited.{Awaited}
use Rattle.outline_reader.specs.declared.machine.Seen.{Seen}
use Rattle.outline_reader.specs.declared.symbols.Role.{Role}
use Rattle.outline_reader.specs.declared.symbols.Role.TheVariants as role
use Rattle.outline_reader.specs.Derives as d
use Rattle.outline_reader.specs.Derives.{Mark, Reaches, seen_after}
use Rattle.outline_reader.specs.Views.{category, by_rule, by_theorem, by_cases, by_induction, by_contradiction, by_weakening, by_exchange, by_substitution, judgment, rule, theorem, step, inversion, case_rule}
use Rattle.outline_reader.specs.Fields.{same_role, name_or, form_of, named, all_named, forms, premises, outputs, inputs, args, named_forms, is_arg, subject, head_conclusion, productions}
use Rattle.outline_reader.specs.Portions.{begins, names_category, portion_length, is_call, call, just_by, second_or, portion}
use Rattle.outline_reader.specs.Filled.{Need, a_name, a_second_name, a_kind_word, an_argument, a_conclusion, a_new_definition, is_kind_word, meets, met_in, needs, within_portion, AreFilled}
use Rattle.outline_reader.specs.Found.{begun_by, AreFound}
use Rattle.outline_reader.specs.Laws.{FieldsAreFound}
use Rattle.outline_reader.proofs.WritingLemmas.{marked_roles, writes}
use Rattle.outline_reader.proofs.FilledLemmas.{within_more, portions_filled}
use Rattle.outline_reader.proofs.Truth.{either, or_right, true_not_false}
use Rattle.outline_reader.proofs.KindLemmas.{KindsBehindAnd, names_kind, kinds_behind_and}

-- ---- roles and their tokens

-- two lists as long as each other
Paired : {A B : Type 0} → List A → List B → Type 0
Paired [] [] = Unit {0}
Paired [] (y ∷ ys) = ⊥
Paired (x ∷ xs) [] = ⊥
Paired (x ∷ xs) (y ∷ ys) = Paired xs ys

paired_marks : {left awaited : List Awaited} {tokens : List Seen} {marks : List Mark} → Reaches left awaited tokens marks → Paired marks tokens
unfolding Paired
paired_marks d.here = tt
paired_marks (d.token within place class role rest one more marks fit reached) = paired_marks reached
paired_marks (d.alternative within phrase rest place class role what one more marks is_one fit reached) = paired_marks reached
paired_marks (d.left_out within phrase rest more marks optional reached) = paired_marks reached

paired_tokens : (before : Option ℕ) (tokens : List Token) (marks : List Mark) → Paired marks (seen_after before tokens) → Paired (marked_roles marks) tokens
unfolding Paired
paired_tokens before [] [] h = tt
paired_tokens before [] (mark ∷ marks) h = h
paired_tokens before (token ∷ tokens) [] h = h
paired_tokens before (token ∷ tokens) (mark ∷ marks) h = paired_tokens (Some token.line) tokens marks h

paired_take : {A B : Type 0} (n : ℕ) (xs : List A) (ys : List B) → Paired xs ys → Paired (take n xs) (take n ys)
unfolding Paired
paired_take zero xs ys h = tt
paired_take (suc n) [] [] h = tt
paired_take (suc n) [] (y ∷ ys) h = h
paired_take (suc n) (x ∷ xs) [] h = h
paired_take (suc n) (x ∷ xs) (y ∷ ys) h = paired_take n xs ys h

-- ---- fields

-- a choice whose second side does not count
same_choice : {A : Type 0} (b : Bool) (x y z : A) → (b ≡ false → y ≡ z) → cond b x y ≡ cond b x z
same_choice true x y z same = refl
same_choice false x y z same = same refl

name_found : (need : Need) (wanted : Role) → ((one : Role) → meets need one ≡ true → same_role one wanted ≡ true) → (roles : List Role) (tokens : List Token) →
    Paired roles tokens → IsTrue (met_in need roles) → (one other : Token) → name_or one wanted roles tokens ≡ name_or other wanted roles tokens
unfolding Paired
name_found need wanted is [] tokens paired met one other = absurd (let no : false ≡ true = met in cc)
name_found need wanted is (role ∷ roles) [] paired met one other = absurd paired
name_found need wanted is (role ∷ roles) (token ∷ tokens) paired met one other =
    same_choice (same_role role wanted) token _ _ (λ differs. elim (either (meets need role) (met_in need roles) met) [
      | inl here ↦ true_not_false (same_role role wanted) (is role here) differs
      | inr later ↦ name_found need wanted is roles tokens paired later one other
    ])

subject_found : (roles : List Role) (tokens : List Token) → Paired roles tokens → IsTrue (met_in an_argument roles) → (one other : Token) → subject one roles tokens ≡ subject other roles tokens
unfolding Paired
subject_found [] tokens paired met one other = absurd (let no : false ≡ true = met in cc)
subject_found (role ∷ roles) [] paired met one other = absurd paired
subject_found (role ∷ roles) (token ∷ tokens) paired met one other =
    same_choice (is_arg role) _ _ _ (λ differs. elim (either (is_arg role) (met_in an_argument roles) met) [
      | inl here ↦ true_not_false (is_arg role) here differs
      | inr later ↦ subject_found roles tokens paired later one other
    ])

pub is_conclusion_role : (one : Role) → meets a_conclusion one ≡ true → same_role one role.HeadConclusion ≡ true
is_conclusion_role role.HeadConclusion h = refl
is_conclusion_role _ h = absurd (let no : false ≡ true = h in cc)

is_name_role : (one : Role) → meets a_name one ≡ true → same_role one role.Name ≡ true
is_name_role role.Name h = refl
is_name_role _ h = absurd (let no : false ≡ true = h in cc)

is_second_name_role : (one : Role) → meets a_second_name one ≡ true → same_role one role.SecondName ≡ true
is_second_name_role role.SecondName h = refl
is_second_name_role _ h = absurd (let no : false ≡ true = h in cc)

is_kind_word_role : (one : Role) → meets a_kind_word one ≡ true → same_role one role.KindWord ≡ true
is_kind_word_role role.KindWord h = refl
is_kind_word_role _ h = absurd (let no : false ≡ true = h in cc)

conclusion_found : (roles : List Role) (tokens : List Token) → Paired roles tokens → IsTrue (met_in a_conclusion roles) → (one other : Token) → head_conclusion one roles tokens ≡ head_conclusion other roles tokens
unfolding Paired
conclusion_found [] tokens paired met one other = absurd (let no : false ≡ true = met in cc)
conclusion_found (now ∷ roles) [] paired met one other = absurd paired
conclusion_found (now ∷ roles) (token ∷ tokens) paired met one other =
    same_choice (same_role now role.HeadConclusion) _ _ _ (λ differs. elim (either (meets a_conclusion now) (met_in a_conclusion roles) met) [
      | inl here ↦ true_not_false (same_role now role.HeadConclusion) (is_conclusion_role now here) differs
      | inr later ↦ conclusion_found roles tokens paired later one other
    ])

-- ---- portions

-- each token is followed by what it needs
unfoldable pub FilledList : List Role → Type 0
FilledList [] = Unit {0}
FilledList (one ∷ rest) = AllByRecursion (λ need. IsTrue (met_in need rest)) (needs one) × FilledList rest

pub or_first : (a b : Bool) → (a || b) ≡ false → a ≡ false
or_first true b h = h
or_first false b h = refl

pub or_second : (a b : Bool) → (a || b) ≡ false → b ≡ false
or_second true b h = absurd (let no : true ≡ false = h in cc)
or_second false b h = h

pub begun_later : (a b : Bool) → IsTrue (a || b) → a ≡ false → IsTrue b
begun_later true b h none = absurd (let no : true ≡ false = none in cc)
begun_later false b h none = h

pub within_none : (one : Role) (roles : List Role) → (begins one || names_category roles) ≡ true → within_portion (one ∷ roles) ≡ []
within_none one roles ends = λ i. take (cond (ends i) 0 (portion_length roles + 1)) (one ∷ roles)

pub filled_within : (roles : List Role) → AreFilled roles → FilledList (within_portion roles)
unfolding FilledList
filled_within [] h = tt
filled_within (one ∷ roles) h = by_end (begins one || names_category roles) refl (filled_within roles h.2)
  where
    by_end : (b : Bool) → (begins one || names_category roles) ≡ b → FilledList (within_portion roles) → FilledList (within_portion (one ∷ roles))
    by_end true ends below = subst FilledList (sym (within_none one roles ends)) tt
    by_end false goes_on below =
        subst FilledList (sym (within_more one roles (or_first (begins one) (names_category roles) goes_on) (or_second (begins one) (names_category roles) goes_on)))
        (h.0, below)

met_more : (one : Role) (roles : List Role) (all : List Need) → AllByRecursion (λ need. IsTrue (met_in need roles)) all → AllByRecursion (λ need. IsTrue (met_in need (one ∷ roles))) all
met_more one roles [] h = tt
met_more one roles (need ∷ all) h = (or_right (meets need one) (met_in need roles) h.0, met_more one roles all h.1)

-- what the word needs that tells a justification
pub call_needs : (roles : List Role) → FilledList roles → AllByRecursion (λ need. IsTrue (met_in need roles)) (needs (call roles))
unfolding FilledList
call_needs [] h = tt
call_needs (one ∷ roles) h = by_call (is_call one) (call_needs roles h.1)
  where
    by_call : (b : Bool) → AllByRecursion (λ need. IsTrue (met_in need roles)) (needs (call roles)) → AllByRecursion (λ need. IsTrue (met_in need (one ∷ roles))) (needs (cond b one (call roles)))
    by_call true below = met_more one roles (needs one) h.0
    by_call false below = met_more one roles (needs (call roles)) below

called : (roles : List Role) (tokens : List Token) → Paired roles tokens → call roles ≡ role.TheoremCall → (one other : Token) → name_or one role.TheoremCall roles tokens ≡ name_or other role.TheoremCall roles tokens
unfolding Paired
called [] tokens paired is one other = absurd (let never : role.NameAlone ≡ role.TheoremCall = is in cc)
called (now ∷ roles) [] paired is one other = absurd paired
called (now ∷ roles) (token ∷ tokens) paired is one other =
    same_choice (same_role now role.TheoremCall) token _ _ (λ differs. by_call (called roles tokens paired) differs (is_call now) is)
  where
    by_call : (call roles ≡ role.TheoremCall → (one other : Token) → name_or one role.TheoremCall roles tokens ≡ name_or other role.TheoremCall roles tokens) → same_role now role.TheoremCall ≡ false →
        (b : Bool) → cond b now (call roles) ≡ role.TheoremCall → name_or one role.TheoremCall roles tokens ≡ name_or other role.TheoremCall roles tokens
    by_call below differs true here = true_not_false (same_role now role.TheoremCall) (ap (λ r. same_role r role.TheoremCall) here) differs
    by_call below differs false later = below later one other

just_found : (by : Role) (roles : List Role) (tokens : List Token) → Paired roles tokens → AllByRecursion (λ need. IsTrue (met_in need roles)) (needs by) →
    (by ≡ role.TheoremCall → (one other : Token) → name_or one role.TheoremCall roles tokens ≡ name_or other role.TheoremCall roles tokens) →
    (one other : Token) → just_by by one roles tokens ≡ just_by by other roles tokens
just_found role.RuleCall roles tokens paired met call_found one other = λ i. by_rule (name_found a_name role.Name is_name_role roles tokens paired met.0 one other i) (args roles tokens)
just_found role.TheoremCall roles tokens paired met call_found one other = λ i.
    by_theorem (call_found refl one other i) (name_found a_name role.Name is_name_role roles tokens paired met.0 one other i) (args roles tokens)
just_found role.HypothesisCall roles tokens paired met call_found one other = refl
just_found role.Cases roles tokens paired met call_found one other = λ i. by_cases (subject_found roles tokens paired met.0 one other i)
just_found role.Induction roles tokens paired met call_found one other = λ i. by_induction (subject_found roles tokens paired met.0 one other i)
just_found role.Contradiction roles tokens paired met call_found one other = λ i. by_contradiction (subject_found roles tokens paired met.0 one other i)
just_found role.Weakening roles tokens paired met call_found one other = λ i. by_weakening (name_found a_name role.Name is_name_role roles tokens paired met.0 one other i)
just_found role.Exchange roles tokens paired met call_found one other = λ i. by_exchange (name_found a_name role.Name is_name_role roles tokens paired met.0 one other i)
just_found role.Substitution roles tokens paired met call_found one other = λ i.
    by_substitution (name_found a_name role.Name is_name_role roles tokens paired met.0 one other i) (name_found a_second_name role.SecondName is_second_name_role roles tokens paired met.1.0 one other i)
just_found role.Unproved roles tokens paired met call_found one other = refl
just_found _ roles tokens paired met call_found one other = refl

-- where no word `theorem` or `lemma` stands after `and`, the first token is that word
kind_absent : (roles : List Role) (tokens : List Token) → met_in a_kind_word roles ≡ false → (one : Token) → name_or one role.KindWord roles tokens ≡ one
kind_absent [] tokens h one = refl
kind_absent (now ∷ roles) [] h one = refl
kind_absent (now ∷ roles) (token ∷ tokens) h one =
    (λ i. cond (no_kind_word now (or_first (is_kind_word now) (met_in a_kind_word roles) h) i) token (name_or one role.KindWord roles tokens))
    ∙ kind_absent roles tokens (or_second (is_kind_word now) (met_in a_kind_word roles) h) one
  where
    no_kind_word : (now : Role) → is_kind_word now ≡ false → same_role now role.KindWord ≡ false
    no_kind_word role.KindWord h = h
    no_kind_word _ h = refl

-- two tokens have a second one
second_found : (first next : Role) (roles : List Role) (tokens : List Token) → Paired (first ∷ next ∷ roles) tokens → (one other : Token) → second_or one tokens ≡ second_or other tokens
unfolding Paired
second_found first next roles [] paired one other = absurd paired
second_found first next roles (token ∷ []) paired one other = absurd paired
second_found first next roles (token ∷ second ∷ tokens) paired one other = refl

-- a portion depends on its first token only where it has that token
portion_found : (first : Role) (roles : List Role) (tokens : List Token) → FilledList (first ∷ roles) → Paired (first ∷ roles) tokens →
    (first ≡ role.TheoremWord → met_in a_kind_word (first ∷ roles) ≡ false) → (begins first ≡ false → IsTrue (met_in a_new_definition roles)) →
    (one other : Token) → portion first one (first ∷ roles) tokens ≡ begun_by one (portion first other (first ∷ roles) tokens)
unfolding FilledList
portion_found role.TerminalsWord roles tokens filled paired kind defined one other = refl
portion_found role.SyntaxWord roles tokens filled paired kind defined one other = refl
portion_found role.JudgmentWord roles tokens filled paired kind defined one other =
    let all = role.JudgmentWord ∷ roles in
    λ i. judgment one (name_found a_name role.Name is_name_role all tokens paired filled.0.0 one other i) (form_of role.Form all tokens) (named role.Assumed all tokens)
portion_found role.RulePremise roles tokens filled paired kind defined one other =
    let all = role.RulePremise ∷ roles in
    λ i. rule (premises all tokens) (name_found a_name role.Name is_name_role all tokens paired filled.0.0 one other i) (form_of role.Form all tokens)
portion_found role.RuleBar roles tokens filled paired kind defined one other =
    let all = role.RuleBar ∷ roles in
    λ i. rule (premises all tokens) (name_found a_name role.Name is_name_role all tokens paired filled.0.0 one other i) (form_of role.Form all tokens)
portion_found role.AndWord roles tokens filled paired kind defined one other =
    let all = role.AndWord ∷ roles in
    λ i. theorem one true (name_found a_kind_word role.KindWord is_kind_word_role all tokens paired filled.0.0 one other i) (name_found a_name role.Name is_name_role all tokens paired filled.0.1.0 one other i)
    (named role.Assumed all tokens) (inputs all tokens) (outputs all tokens) (all_named role.Target all tokens)
portion_found role.TheoremWord roles tokens filled paired kind defined one other =
    let all = role.TheoremWord ∷ roles in
    λ i. theorem one false (kind_absent all tokens (kind refl) one i) (name_found a_name role.Name is_name_role all tokens paired filled.0.0 one other i)
    (named role.Assumed all tokens) (inputs all tokens) (outputs all tokens) (all_named role.Target all tokens)
portion_found role.StepName roles tokens filled paired kind defined one other =
    let all = role.StepName ∷ roles in
    λ i. step one (all_named role.StepName all tokens) (forms role.Form all tokens) (just_found (call all) all tokens paired (call_needs all filled) (called all tokens paired) one other i)
portion_found role.ProofWord roles tokens filled paired kind defined one other =
    let all = role.ProofWord ∷ roles in
    λ i. step one (all_named role.StepName all tokens) (forms role.Form all tokens) (just_found (call all) all tokens paired (call_needs all filled) (called all tokens paired) one other i)
portion_found role.InversionWord roles tokens filled paired kind defined one other =
    let all = role.InversionWord ∷ roles in
    λ i. inversion one (subject_found all tokens paired filled.0.0 one other i) (named_forms all tokens) (name_found a_name role.Name is_name_role all tokens paired filled.0.1.0 one other i)
    (conclusion_found all tokens paired filled.0.1.1.0 one other i)
portion_found role.CaseWord [] tokens filled paired kind defined one other = refl
portion_found role.CaseWord (role.RuleCase ∷ roles) tokens filled paired kind defined one other =
    let all = role.CaseWord ∷ role.RuleCase ∷ roles in
    λ i. case_rule one (named_forms all tokens) (name_found a_name role.Name is_name_role all tokens paired filled.1.0.0 one other i) (conclusion_found all tokens paired filled.1.0.1.0 one other i)
portion_found role.CaseWord (next ∷ roles) tokens filled paired kind defined one other = refl
portion_found role.EndWord roles tokens filled paired kind defined one other = refl
portion_found role.CategoryName [] tokens filled paired kind defined one other = absurd (let no : false ≡ true = filled.0.0 in cc)
portion_found role.CategoryName (next ∷ roles) tokens filled paired kind defined one other =
    λ i. category one (second_found role.CategoryName next roles tokens paired one other i) (productions roles (drop 2 tokens))
portion_found _ [] tokens filled paired kind defined one other = absurd (let no : false ≡ true = defined refl in cc)
portion_found _ (next ∷ roles) tokens filled paired kind defined one other =
    λ i. category one (second_found _ next roles tokens paired one other i) (productions roles (drop 2 tokens))

-- no `theorem` or `lemma` after `and` in the portion of another token
no_kind : (before : Role) (roles : List Role) → KindsBehindAnd (before ∷ roles) → before ≢ role.AndWord → met_in a_kind_word (within_portion roles) ≡ false
unfolding KindsBehindAnd names_kind
no_kind before [] kinds differs = refl
no_kind before (now ∷ roles) kinds differs = by_end (begins now || names_category roles) refl (λ other. no_kind now roles kinds.1 other)
  where
    no_and : (now : Role) → begins now ≡ false → now ≢ role.AndWord
    no_and now none is = true_not_false (begins now) (ap begins is) none

    not_here : (b : Bool) → is_kind_word now ≡ b → b ≡ false
    not_here true is = absurd (differs (kinds.0 is))
    not_here false is = refl

    by_end : (b : Bool) → (begins now || names_category roles) ≡ b → (now ≢ role.AndWord → met_in a_kind_word (within_portion roles) ≡ false) → met_in a_kind_word (within_portion (now ∷ roles)) ≡ false
    by_end true ends below = ap (met_in a_kind_word) (within_none now roles ends)
    by_end false goes_on below =
        ap (met_in a_kind_word) (within_more now roles (or_first (begins now) (names_category roles) goes_on) (or_second (begins now) (names_category roles) goes_on))
        ∙ (λ i. not_here (is_kind_word now) refl i || met_in a_kind_word (within_portion roles))
        ∙ below (no_and now (or_first (begins now) (names_category roles) goes_on))

found : (roles : List Role) (tokens : List Token) → AreFilled roles → KindsBehindAnd roles → Paired roles tokens → AreFound roles tokens
unfolding Paired FilledList KindsBehindAnd
found [] tokens filled kinds paired = tt
found (first ∷ roles) [] filled kinds paired = tt
found (first ∷ roles) (token ∷ tokens) filled kinds paired = (
  (λ starts one other. subst (λ (n : ℕ). portion first one (take n (first ∷ roles)) (take n (token ∷ tokens)) ≡ begun_by one (portion first other (take n (first ∷ roles)) (take n (token ∷ tokens))))
      (sym (add-one (portion_length roles)))
      (portion_found first (within_portion roles) (token ∷ take (portion_length roles) tokens) (filled.0, filled_within roles filled.2)
      (paired_take (portion_length roles) roles tokens paired) (no_kind_in first roles kinds)
      (λ none. filled.1 (begun_later (begins first) (names_category roles) starts none)) one other)),
  found roles tokens filled.2 kinds.1 paired,
)
  where
    no_kind_in : (first : Role) (roles : List Role) → KindsBehindAnd (first ∷ roles) → first ≡ role.TheoremWord → met_in a_kind_word (first ∷ within_portion roles) ≡ false
    no_kind_in first roles kinds is =
        (λ i. is_kind_word (is i) || met_in a_kind_word (within_portion roles))
        ∙ no_kind first roles kinds (λ is_and. let never : role.TheoremWord ≡ role.AndWord = sym is ∙ is_and in cc)

pub fields_found : FieldsAreFound
fields_found tokens roles outlined =
    found roles tokens (portions_filled tokens roles outlined)
    (subst (λ (all : List Role). KindsBehindAnd all) (sym outlined.2) (kinds_behind_and (writes outlined.1)))
    (subst (λ (all : List Role). Paired all tokens) (sym outlined.2) (paired_tokens None tokens outlined.0 (paired_marks outlined.1)))
