-- Which roles follow one another.
use Rattle.std.proofs.Common.{◌≡◌, ◌≢◌, inl, inr, Bool, true, false, not, if◌then◌else◌, ◌||◌, ◌&&◌, List, [], ◌∷◌, ◌++◌, refl, ap}
use denote.Enum.Bare.{same_true}
use Rattle.outline_reader.specs.contracts.symbols.Role.{the_type}
use Rattle.outline_reader.specs.declared.symbols.Role.{Role}
use Rattle.outline_reader.specs.declared.symbols.Role.TheVariants as role
use Rattle.outline_reader.specs.declared.symbols.Phrase.{Phrase}
use Rattle.outline_reader.specs.declared.symbols.Phrase.TheVariants as p
use Rattle.outline_reader.specs.declared.symbols.Times.TheVariants as times
use Rattle.outline_reader.specs.declared.symbols.Symbol.{Symbol}
use Rattle.outline_reader.specs.declared.symbols.Symbol.TheVariants.{One, Choice}
use Rattle.outline_reader.specs.Grammar.{Alternative, times_of, alternatives}
use Rattle.outline_reader.specs.Derives.{IsOneOf, whole}
use Rattle.outline_reader.specs.Fields.{same_role}
use Rattle.outline_reader.specs.Portions.{begins, names_category}
use Rattle.outline_reader.proofs.Truth.{and_left, and_right, and_both, either, where_true, true_not_false}
use Rattle.outline_reader.proofs.WritingLemmas.{then_come, Writes, nothing, one_token, begun, none, symbols}
use Rattle.outline_reader.proofs.FilledLemmas.{every, every_one, every_append, calm, tail_calm, tail_of_calm, tail_append, calm_first, tails_begun}

-- ---- what follows a role

-- tokens of a list: of terminals or of productions
unfoldable pub is_listed : Role → Bool
is_listed role.Item = true
is_listed role.Or = true
is_listed role.NewCategory = true
is_listed _ = false

-- the list goes on, or a portion begins
unfoldable pub list_next : List Role → Bool
list_next [] = true
list_next (one ∷ roles) = is_listed one || begins one

unfoldable pub first_is : Role → List Role → Bool
first_is wanted [] = false
first_is wanted (one ∷ roles) = same_role one wanted

unfoldable pub label_next : List Role → Bool
label_next [] = false
label_next (one ∷ roles) = same_role one role.Sign && first_is role.Form roles

unfoldable pub define_next : List Role → Bool
define_next [] = false
define_next (one ∷ roles) = same_role one role.Sign && list_next roles

-- a name in the head of a case is followed by a sign and a form, a conclusion by more of it, a token of a list by others of it
unfoldable pub follows : Role → List Role → Bool
follows role.HeadName = label_next
follows role.HeadConclusion = label_next
follows role.Output = first_is role.More
follows role.TerminalsWord = list_next
follows role.Item = list_next
follows role.Or = list_next
follows role.NewCategory = list_next
follows role.CategoryName = define_next
follows _ = λ roles. true

-- only a token of a list stands before the `::=` of a later category
unfoldable pub Follow : List Role → Type 0
Follow [] = Unit {0}
Follow (one ∷ roles) = (follows one roles ≡ true) × (same_role one role.Item ≡ false → names_category roles ≡ false) × Follow roles

-- ---- what is to come behind a role

unfoldable pub gives : Role → List Symbol → Bool
gives wanted (One place class one ∷ rest) = same_role one wanted
gives wanted _ = false

unfoldable pub gives_label : List Symbol → Bool
gives_label (One place class one ∷ rest) = same_role one role.Sign && gives role.Form rest
gives_label _ = false

unfoldable pub gives_more : List Symbol → Bool
gives_more (One place class one ∷ rest) = same_role one role.More
gives_more (Choice p.OutputTokens ∷ rest) = gives_more rest
gives_more (Choice p.OutputAfterDot ∷ rest) = true
gives_more _ = false

-- what begins with a token of a list, or with a portion
unfoldable pub listy : Symbol → Bool
listy (Choice p.Parts) = true
listy (Choice p.FirstTheorem) = true
listy (Choice p.LaterParts) = true
listy (Choice p.MoreListed) = true
listy (Choice p.Productions) = true
listy (Choice p.AfterLineName) = true
listy (Choice p.AfterLineToken) = true
listy _ = false

-- what begins with a line of its own, where a portion begins
unfoldable pub top : Symbol → Bool
top (Choice p.Parts) = true
top (Choice p.FirstTheorem) = true
top (Choice p.LaterParts) = true
top _ = false

unfoldable pub gives_definition : List Symbol → Bool
gives_definition (Choice p.FirstDefine ∷ rest) = every listy rest
gives_definition _ = false

unfoldable pub coming : Role → List Symbol → Bool
coming role.HeadName all = gives_label all
coming role.HeadConclusion all = gives_label all
coming role.Output all = gives_more all
coming role.TerminalsWord all = gives role.Item all
coming role.Item all = every listy all
coming role.Or all = every listy all
coming role.NewCategory all = every listy all
coming role.CategoryName all = gives_definition all
coming _ all = true

-- ---- what is seen of the table alone

gives_more_ok : Phrase → Bool
gives_more_ok phrase = if gives_more (Choice phrase ∷ []) then every (λ a. same_role a.2 role.More) (alternatives phrase) else true

listy_ok : Phrase → Bool
listy_ok phrase = if listy (Choice phrase) then every (λ a. is_listed a.2 || begins a.2) (alternatives phrase) else true

listy_table : (phrase : Phrase) → listy_ok phrase ≡ true
unfolding listy_ok listy is_listed every
listy_table p.Parts = refl
listy_table _ = refl

tokens_table : every (λ (a : Alternative). same_role a.2 role.More) (alternatives p.OutputTokens) ≡ true
unfolding every
tokens_table = refl

dot_table : every (λ (a : Alternative). same_role a.2 role.More) (alternatives p.OutputAfterDot) ≡ true
unfolding every
dot_table = refl

define_table : every (λ (a : Alternative). same_role a.2 role.Sign && every listy (then_come p.FirstDefine a.3)) (alternatives p.FirstDefine) ≡ true
unfolding every listy
define_table = refl

listy_begun : (phrase : Phrase) (chosen : Alternative) → IsOneOf chosen (alternatives phrase) → listy (Choice phrase) ≡ true → (is_listed chosen.2 || begins chosen.2) ≡ true
unfolding listy_ok
listy_begun phrase chosen is_one h =
    every_one (λ a. is_listed a.2 || begins a.2) is_one
    (where_true (listy (Choice phrase)) (every (λ (a : Alternative). is_listed a.2 || begins a.2) (alternatives phrase)) (listy_table phrase) h)

-- ---- what is written

gives_written : (wanted : Role) {all : List Symbol} {roles : List Role} → Writes all roles → gives wanted all ≡ true → first_is wanted roles ≡ true
unfolding gives first_is
gives_written wanted nothing h = h
gives_written wanted (one_token place class one rest roles w) h = h
gives_written wanted (begun phrase rest chosen roles is_one w) h = absurd (let no : false ≡ true = h in cc)
gives_written wanted (none phrase rest roles optional w) h = absurd (let no : false ≡ true = h in cc)

label_written : {all : List Symbol} {roles : List Role} → Writes all roles → gives_label all ≡ true → label_next roles ≡ true
unfolding gives_label label_next
label_written nothing h = h
label_written (one_token place class one rest roles w) h =
    and_both (same_role one role.Sign) (first_is role.Form roles) (and_left (same_role one role.Sign) (gives role.Form rest) h)
    (gives_written role.Form w (and_right (same_role one role.Sign) (gives role.Form rest) h))
label_written (begun phrase rest chosen roles is_one w) h = absurd (let no : false ≡ true = h in cc)
label_written (none phrase rest roles optional w) h = absurd (let no : false ≡ true = h in cc)

more_begun : (phrase : Phrase) (rest : List Symbol) (chosen : Alternative) → IsOneOf chosen (alternatives phrase) → gives_more (Choice phrase ∷ rest) ≡ true → same_role chosen.2 role.More ≡ true
unfolding gives_more
more_begun p.OutputTokens rest chosen is_one h = every_one (λ a. same_role a.2 role.More) is_one tokens_table
more_begun p.OutputAfterDot rest chosen is_one h = every_one (λ a. same_role a.2 role.More) is_one dot_table
more_begun _ rest chosen is_one h = absurd (let no : false ≡ true = h in cc)

more_left : (phrase : Phrase) (rest : List Symbol) → times_of phrase ≢ times.Once → gives_more (Choice phrase ∷ rest) ≡ true → gives_more rest ≡ true
unfolding gives_more
more_left p.OutputTokens rest optional h = h
more_left p.OutputAfterDot rest optional h = absurd (optional refl)
more_left _ rest optional h = absurd (let no : false ≡ true = h in cc)

more_written : {all : List Symbol} {roles : List Role} → Writes all roles → gives_more all ≡ true → first_is role.More roles ≡ true
unfolding gives_more first_is
more_written nothing h = h
more_written (one_token place class one rest roles w) h = h
more_written (begun phrase rest chosen roles is_one w) h = more_begun phrase rest chosen is_one h
more_written (none phrase rest roles optional w) h = more_written w (more_left phrase rest optional h)

list_written : {all : List Symbol} {roles : List Role} → Writes all roles → every listy all ≡ true → list_next roles ≡ true
unfolding every listy list_next
list_written nothing h = refl
list_written (one_token place class one rest roles w) h = absurd (let no : false ≡ true = and_left false (every listy rest) h in cc)
list_written (begun phrase rest chosen roles is_one w) h = listy_begun phrase chosen is_one (and_left (listy (Choice phrase)) (every listy rest) h)
list_written (none phrase rest roles optional w) h = list_written w (and_right (listy (Choice phrase)) (every listy rest) h)

define_written : {all : List Symbol} {roles : List Role} → Writes all roles → gives_definition all ≡ true → define_next roles ≡ true
unfolding gives_definition define_next
define_written nothing h = h
define_written (one_token place class one rest roles w) h = absurd (let no : false ≡ true = h in cc)
define_written (begun p.FirstDefine rest chosen roles is_one w) h =
    let here = every_one (λ a. same_role a.2 role.Sign && every listy (then_come p.FirstDefine a.3)) is_one define_table in
    and_both (same_role chosen.2 role.Sign) (list_next roles) (and_left (same_role chosen.2 role.Sign) (every listy (then_come p.FirstDefine chosen.3)) here)
    (list_written w (every_append listy (then_come p.FirstDefine chosen.3) rest (and_right (same_role chosen.2 role.Sign) (every listy (then_come p.FirstDefine chosen.3)) here) h))
define_written (begun _ rest chosen roles is_one w) h = absurd (let no : false ≡ true = h in cc)
define_written (none p.FirstDefine rest roles optional w) h = absurd (optional refl)
define_written (none _ rest roles optional w) h = absurd (let no : false ≡ true = h in cc)

pub is_role : (one wanted : Role) → same_role one wanted ≡ true → one ≡ wanted
is_role one wanted e = same_true the_type tt one wanted e

item_next : (roles : List Role) → first_is role.Item roles ≡ true → list_next roles ≡ true
unfolding first_is list_next is_listed
item_next [] h = absurd (let no : false ≡ true = h in cc)
item_next (one ∷ roles) h = ap (λ r. is_listed r || begins r) (is_role one role.Item h)

written : (one : Role) {all : List Symbol} {roles : List Role} → Writes all roles → coming one all ≡ true → follows one roles ≡ true
unfolding coming follows
written role.HeadName w h = label_written w h
written role.HeadConclusion w h = label_written w h
written role.Output w h = more_written w h
written role.TerminalsWord {roles = roles} w h = item_next roles (gives_written role.Item w h)
written role.Item w h = list_written w h
written role.Or w h = list_written w h
written role.NewCategory w h = list_written w h
written role.CategoryName w h = define_written w h
written _ w h = refl

-- ---- what is left below

-- the role is followed by what stands below its phrase
in_list : Role → Bool
in_list role.CategoryName = true
in_list other = is_listed other

-- below these stand only such as begin with a portion
unfoldable pub lists : Phrase → Bool
lists p.FirstDefine = true
lists phrase = listy (Choice phrase)

unfoldable pub right : List Symbol → Bool
right [] = true
right (One place class one ∷ rest) = coming one rest && right rest
right (Choice phrase ∷ rest) = (if lists phrase then every top rest else true) && right rest

-- right whatever stands below
steady : List Symbol → Bool
steady [] = true
steady (One place class one ∷ rest) = not (in_list one) && coming one rest && steady rest
steady (Choice phrase ∷ rest) = not (lists phrase) && steady rest

list_ok : Phrase → Bool
list_ok phrase = if lists phrase then every (λ a. coming a.2 (then_come phrase a.3) && right (then_come phrase a.3)) (alternatives phrase) else true

steady_ok : Phrase → Bool
steady_ok phrase = if not (lists phrase) then every (λ a. not (in_list a.2) && coming a.2 (then_come phrase a.3) && steady (then_come phrase a.3)) (alternatives phrase) else true

item_ok : Phrase → Bool
item_ok phrase = every (λ a. same_role a.2 role.Item || every calm (then_come phrase a.3)) (alternatives phrase)

list_table : (phrase : Phrase) → list_ok phrase ≡ true
unfolding list_ok lists listy top coming gives gives_label gives_more gives_definition right every
list_table p.Parts = refl
list_table _ = refl

steady_table : (phrase : Phrase) → steady_ok phrase ≡ true
unfolding steady_ok lists listy in_list is_listed coming gives gives_label gives_more gives_definition steady every
steady_table p.Parts = refl
steady_table _ = refl

item_table : (phrase : Phrase) → item_ok phrase ≡ true
unfolding item_ok calm every
item_table p.Parts = refl
item_table _ = refl

-- ---- what is put in front of others

pub no_true : {A : Type 0} → false ≡ true → A
no_true h = absurd (let no : false ≡ true = h in cc)

gives_append : (wanted : Role) (front rest : List Symbol) → gives wanted front ≡ true → gives wanted (front ++ rest) ≡ true
unfolding gives
gives_append wanted [] rest h = no_true h
gives_append wanted (One place class one ∷ front) rest h = h
gives_append wanted (Choice phrase ∷ front) rest h = no_true h

label_append : (front rest : List Symbol) → gives_label front ≡ true → gives_label (front ++ rest) ≡ true
unfolding gives_label
label_append [] rest h = no_true h
label_append (One place class one ∷ front) rest h =
    and_both (same_role one role.Sign) (gives role.Form (front ++ rest)) (and_left (same_role one role.Sign) (gives role.Form front) h)
    (gives_append role.Form front rest (and_right (same_role one role.Sign) (gives role.Form front) h))
label_append (Choice phrase ∷ front) rest h = no_true h

more_append : (front rest : List Symbol) → gives_more front ≡ true → gives_more (front ++ rest) ≡ true
unfolding gives_more
more_append [] rest h = no_true h
more_append (One place class one ∷ front) rest h = h
more_append (Choice p.OutputTokens ∷ front) rest h = more_append front rest h
more_append (Choice p.OutputAfterDot ∷ front) rest h = refl
more_append (Choice _ ∷ front) rest h = no_true h

definition_append : (front rest : List Symbol) → gives_definition front ≡ true → every listy rest ≡ true → gives_definition (front ++ rest) ≡ true
unfolding gives_definition
definition_append [] rest h below = no_true h
definition_append (One place class one ∷ front) rest h below = no_true h
definition_append (Choice p.FirstDefine ∷ front) rest h below = every_append listy front rest h below
definition_append (Choice _ ∷ front) rest h below = no_true h

coming_append : (one : Role) (front rest : List Symbol) → coming one front ≡ true → (in_list one ≡ true → every listy rest ≡ true) → coming one (front ++ rest) ≡ true
unfolding coming in_list is_listed
coming_append role.HeadName front rest h below = label_append front rest h
coming_append role.HeadConclusion front rest h below = label_append front rest h
coming_append role.Output front rest h below = more_append front rest h
coming_append role.TerminalsWord front rest h below = gives_append role.Item front rest h
coming_append role.Item front rest h below = every_append listy front rest h (below refl)
coming_append role.Or front rest h below = every_append listy front rest h (below refl)
coming_append role.NewCategory front rest h below = every_append listy front rest h (below refl)
coming_append role.CategoryName front rest h below = definition_append front rest h (below refl)
coming_append _ front rest h below = refl

-- what begins with a portion begins with a token of a list or with a portion
top_listy : (rest : List Symbol) → every top rest ≡ true → every listy rest ≡ true
unfolding every top listy
top_listy [] h = refl
top_listy (One place class one ∷ rest) h = no_true (and_left false (every top rest) h)
top_listy (Choice p.Parts ∷ rest) h = top_listy rest h
top_listy (Choice p.FirstTheorem ∷ rest) h = top_listy rest h
top_listy (Choice p.LaterParts ∷ rest) h = top_listy rest h
top_listy (Choice _ ∷ rest) h = no_true (and_left false (every top rest) h)

if_lists : (b : Bool) (front rest : List Symbol) → (if b then every top front else true) ≡ true → every top rest ≡ true → (if b then every top (front ++ rest) else true) ≡ true
if_lists true front rest h below = every_append top front rest h below
if_lists false front rest h below = refl

right_append : (front rest : List Symbol) → right front ≡ true → every top rest ≡ true → right rest ≡ true → right (front ++ rest) ≡ true
unfolding right
right_append [] rest h below ok = ok
right_append (One place class one ∷ front) rest h below ok =
    and_both (coming one (front ++ rest)) (right (front ++ rest)) (coming_append one front rest (and_left (coming one front) (right front) h) (λ listed. top_listy rest below))
    (right_append front rest (and_right (coming one front) (right front) h) below ok)
right_append (Choice phrase ∷ front) rest h below ok =
    and_both (if lists phrase then every top (front ++ rest) else true) (right (front ++ rest))
    (if_lists (lists phrase) front rest (and_left (if lists phrase then every top front else true) (right front) h) below)
    (right_append front rest (and_right (if lists phrase then every top front else true) (right front) h) below ok)

not_asked : {A : Type 0} (b : Bool) → not b ≡ true → b ≡ true → A
not_asked true h is = no_true h
not_asked false h is = no_true is

if_none : (b x : Bool) → not b ≡ true → (if b then x else true) ≡ true
if_none true x h = no_true h
if_none false x h = refl

steady_append : (front rest : List Symbol) → steady front ≡ true → right rest ≡ true → right (front ++ rest) ≡ true
unfolding right steady
steady_append [] rest h ok = ok
steady_append (One place class one ∷ front) rest h ok =
    let here = and_left (not (in_list one) && coming one front) (steady front) h in
    and_both (coming one (front ++ rest)) (right (front ++ rest))
    (coming_append one front rest (and_right (not (in_list one)) (coming one front) here) (λ listed. not_asked (in_list one) (and_left (not (in_list one)) (coming one front) here) listed))
    (steady_append front rest (and_right (not (in_list one) && coming one front) (steady front) h) ok)
steady_append (Choice phrase ∷ front) rest h ok =
    and_both (if lists phrase then every top (front ++ rest) else true) (right (front ++ rest))
    (if_none (lists phrase) (every top (front ++ rest)) (and_left (not (lists phrase)) (steady front) h))
    (steady_append front rest (and_right (not (lists phrase)) (steady front) h) ok)

-- ---- what is written by the grammar

abbrev pub Opens : Phrase → List Symbol → Alternative → Type 0
Opens phrase rest chosen = (coming chosen.2 (then_come phrase chosen.3 ++ rest) ≡ true) × (right (then_come phrase chosen.3 ++ rest) ≡ true)

opens_list : (phrase : Phrase) (rest : List Symbol) (chosen : Alternative) → IsOneOf chosen (alternatives phrase) → lists phrase ≡ true → every top rest ≡ true → right rest ≡ true → Opens phrase rest chosen
unfolding list_ok
opens_list phrase rest chosen is_one is below ok =
    let here = every_one (λ a. coming a.2 (then_come phrase a.3) && right (then_come phrase a.3)) is_one
    (where_true (lists phrase) (every (λ (a : Alternative). coming a.2 (then_come phrase a.3) && right (then_come phrase a.3)) (alternatives phrase)) (list_table phrase) is) in (
      coming_append chosen.2 (then_come phrase chosen.3) rest (and_left (coming chosen.2 (then_come phrase chosen.3)) (right (then_come phrase chosen.3)) here) (λ listed. top_listy rest below),
      right_append (then_come phrase chosen.3) rest (and_right (coming chosen.2 (then_come phrase chosen.3)) (right (then_come phrase chosen.3)) here) below ok,
    )

opens_steady : (phrase : Phrase) (rest : List Symbol) (chosen : Alternative) → IsOneOf chosen (alternatives phrase) → lists phrase ≡ false → right rest ≡ true → Opens phrase rest chosen
unfolding steady_ok
opens_steady phrase rest chosen is_one is_not ok =
    let all = every_one (λ a. not (in_list a.2) && coming a.2 (then_come phrase a.3) && steady (then_come phrase a.3)) is_one
    (where_true (not (lists phrase)) (every (λ (a : Alternative). not (in_list a.2) && coming a.2 (then_come phrase a.3) && steady (then_come phrase a.3)) (alternatives phrase))
    (steady_table phrase) (ap not is_not)) in
    let here = and_left (not (in_list chosen.2) && coming chosen.2 (then_come phrase chosen.3)) (steady (then_come phrase chosen.3)) all in (
      coming_append chosen.2 (then_come phrase chosen.3) rest (and_right (not (in_list chosen.2)) (coming chosen.2 (then_come phrase chosen.3)) here)
          (λ listed. not_asked (in_list chosen.2) (and_left (not (in_list chosen.2)) (coming chosen.2 (then_come phrase chosen.3)) here) listed),
      steady_append (then_come phrase chosen.3) rest (and_right (not (in_list chosen.2) && coming chosen.2 (then_come phrase chosen.3)) (steady (then_come phrase chosen.3)) all) ok,
    )

pub opens : (phrase : Phrase) (rest : List Symbol) (chosen : Alternative) → IsOneOf chosen (alternatives phrase) → (if lists phrase then every top rest else true) ≡ true → right rest ≡ true → Opens phrase rest chosen
opens phrase rest chosen is_one below ok = which (lists phrase) refl below
  where
    which : (b : Bool) → lists phrase ≡ b → (if b then every top rest else true) ≡ true → Opens phrase rest chosen
    which true is below = opens_list phrase rest chosen is_one is below ok
    which false is_not below = opens_steady phrase rest chosen is_one is_not ok

item_begun : (phrase : Phrase) (chosen : Alternative) → IsOneOf chosen (alternatives phrase) → (same_role chosen.2 role.Item || every calm (then_come phrase chosen.3)) ≡ true
unfolding item_ok
item_begun phrase chosen is_one = every_one (λ a. same_role a.2 role.Item || every calm (then_come phrase a.3)) is_one (item_table phrase)

follow : {all : List Symbol} {roles : List Role} → Writes all roles → right all ≡ true → tail_calm all ≡ true → Follow roles
unfolding right tail_calm Follow
follow nothing ok calms = tt
follow (one_token place class one rest roles w) ok calms =
    (written one w (and_left (coming one rest) (right rest) ok), (λ differs. calm_first w calms), follow w (and_right (coming one rest) (right rest) ok) (tail_of_calm rest calms))
follow (begun phrase rest chosen roles is_one w) ok calms =
    let below = and_left (if lists phrase then every top rest else true) (right rest) ok in
    let opened = opens phrase rest chosen is_one below (and_right (if lists phrase then every top rest else true) (right rest) ok) in (
      written chosen.2 w opened.0,
      (λ differs. elim (either (same_role chosen.2 role.Item) (every calm (then_come phrase chosen.3)) (item_begun phrase chosen is_one)) [
        | inl is_item ↦ true_not_false (same_role chosen.2 role.Item) is_item differs
        | inr all_calm ↦ calm_first w (every_append calm (then_come phrase chosen.3) rest all_calm calms)
      ]),
      follow w opened.1 (tail_append (then_come phrase chosen.3) rest (tails_begun phrase chosen is_one) calms),
    )
follow (none phrase rest roles optional w) ok calms = follow w (and_right (if lists phrase then every top rest else true) (right rest) ok) (tail_of_calm rest calms)

pub whole_right : right (symbols whole) ≡ true
unfolding right lists listy top every
whole_right = refl

whole_calm : tail_calm (symbols whole) ≡ true
unfolding tail_calm calm every
whole_calm = refl

pub outlined_follow : {roles : List Role} → Writes (symbols whole) roles → Follow roles
outlined_follow w = follow w whole_right whole_calm
