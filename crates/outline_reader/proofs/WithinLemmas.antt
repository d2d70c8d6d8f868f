-- Which roles follow one another within a portion.
use Rattle.std.proofs.Common.{◌≡◌, inl, inr, Bool, true, false, not, ◌||◌, List, [], ◌∷◌, refl, sym, ◌∙◌, ap, subst}
use Rattle.std.specs.List.{AllByRecursion}
use Rattle.binding_terms.proofs.Lists.{all_weaker}
use Rattle.outline_reader.specs.declared.symbols.Role.{Role}
use Rattle.outline_reader.specs.declared.symbols.Role.TheVariants as role
use Rattle.outline_reader.specs.Fields.{same_role}
use Rattle.outline_reader.specs.Filled.{within_portion}
use Rattle.outline_reader.specs.Portions.{begins, names_category}
use Rattle.outline_reader.proofs.Truth.{and_left, and_right, and_both, either}
use Rattle.outline_reader.proofs.FilledLemmas.{every, within_more}
use Rattle.outline_reader.proofs.FoundLemmas.{within_none, or_first, or_second}
use Rattle.outline_reader.proofs.SuitLemmas.{takes_formed}
use Rattle.outline_reader.proofs.FollowLemmas.{is_listed, list_next, first_is, label_next, define_next, follows, Follow, is_role, no_true}

-- each role is followed by what follows it
unfoldable pub Following : List Role → Type 0
Following [] = Unit {0}
Following (one ∷ roles) = (follows one roles ≡ true) × Following roles

-- what holds of the rest of a portion: of none, and of one more
at_end : (P : List Role → Type 0) (one : Role) (roles : List Role) → P [] → (begins one ≡ false → names_category roles ≡ false → P (one ∷ within_portion roles)) → P (within_portion (one ∷ roles))
at_end P one roles ends goes_on = which (begins one || names_category roles) refl
  where
    which : (b : Bool) → (begins one || names_category roles) ≡ b → P (within_portion (one ∷ roles))
    which true is = subst P (sym (within_none one roles is)) ends
    which false is =
        let no_start = or_first (begins one) (names_category roles) is in
        let no_name = or_second (begins one) (names_category roles) is in
        subst P (sym (within_more one roles no_start no_name)) (goes_on no_start no_name)

pub list_within : (roles : List Role) → list_next roles ≡ true → list_next (within_portion roles) ≡ true
unfolding list_next
list_within [] h = refl
list_within (one ∷ roles) h = at_end (λ rest. list_next rest ≡ true) one roles refl (λ no_start no_name. h)

-- a role that begins no portion, and before which no category begins, stays
stays : (one wanted : Role) (roles : List Role) → begins wanted ≡ false → same_role wanted role.Item ≡ false → same_role one wanted ≡ true → Follow (one ∷ roles) →
    within_portion (one ∷ roles) ≡ one ∷ within_portion roles
unfolding Follow
stays one wanted roles no_start no_item same follow =
    let is = is_role one wanted same in
    within_more one roles (ap begins is ∙ no_start) (follow.1 (ap (λ r. same_role r role.Item) is ∙ no_item))

first_within : (wanted : Role) (roles : List Role) → begins wanted ≡ false → same_role wanted role.Item ≡ false → first_is wanted roles ≡ true → Follow roles → first_is wanted (within_portion roles) ≡ true
unfolding first_is
first_within wanted [] no_start no_item h follow = no_true h
first_within wanted (one ∷ roles) no_start no_item h follow = subst (λ (rs : List Role). first_is wanted rs ≡ true) (sym (stays one wanted roles no_start no_item h follow)) h

label_within : (roles : List Role) → label_next roles ≡ true → Follow roles → label_next (within_portion roles) ≡ true
unfolding label_next Follow
label_within [] h follow = no_true h
label_within (one ∷ roles) h follow =
    let same = and_left (same_role one role.Sign) (first_is role.Form roles) h in
    subst (λ (rs : List Role). label_next rs ≡ true) (sym (stays one role.Sign roles refl refl same follow))
    (and_both (same_role one role.Sign) (first_is role.Form (within_portion roles)) same
    (first_within role.Form roles refl refl (and_right (same_role one role.Sign) (first_is role.Form roles) h) follow.2))

define_within : (roles : List Role) → define_next roles ≡ true → Follow roles → define_next (within_portion roles) ≡ true
unfolding define_next Follow
define_within [] h follow = no_true h
define_within (one ∷ roles) h follow =
    let same = and_left (same_role one role.Sign) (list_next roles) h in
    subst (λ (rs : List Role). define_next rs ≡ true) (sym (stays one role.Sign roles refl refl same follow))
    (and_both (same_role one role.Sign) (list_next (within_portion roles)) same (list_within roles (and_right (same_role one role.Sign) (list_next roles) h)))

pub follows_within : (one : Role) (roles : List Role) → follows one roles ≡ true → Follow roles → follows one (within_portion roles) ≡ true
unfolding follows
follows_within role.HeadName roles h follow = label_within roles h follow
follows_within role.HeadConclusion roles h follow = label_within roles h follow
follows_within role.Output roles h follow = first_within role.More roles refl refl h follow
follows_within role.TerminalsWord roles h follow = list_within roles h
follows_within role.Item roles h follow = list_within roles h
follows_within role.Or roles h follow = list_within roles h
follows_within role.NewCategory roles h follow = list_within roles h
follows_within role.CategoryName roles h follow = define_within roles h follow
follows_within _ roles h follow = refl

pub following_within : (roles : List Role) → Follow roles → Following (within_portion roles)
unfolding Follow Following
following_within [] follow = tt
following_within (one ∷ roles) follow = at_end Following one roles tt (λ no_start no_name. (follows_within one roles follow.0 follow.2, following_within roles follow.2))

abbrev pub no_beginning : Role → Bool
no_beginning one = not (begins one)

pub none_begins : (roles : List Role) → every no_beginning (within_portion roles) ≡ true
unfolding every
none_begins [] = refl
none_begins (one ∷ roles) =
    at_end (λ rest. every no_beginning rest ≡ true) one roles refl (λ no_start no_name. and_both (not (begins one)) (every no_beginning (within_portion roles)) (ap not no_start) (none_begins roles))

-- the `::=` of a later category stays in its portion
pub name_within : (roles : List Role) → names_category roles ≡ true → Follow roles → names_category (within_portion roles) ≡ true
unfolding Follow
name_within [] h follow = no_true h
name_within (role.NewCategory ∷ roles) h follow =
    subst (λ (rs : List Role). names_category rs ≡ true) (sym (within_more role.NewCategory roles refl (follow.1 refl))) refl
name_within (_ ∷ roles) h follow = no_true h

-- ---- lists of terminals and productions

listed_formed : (one : Role) → is_listed one ≡ true → takes_formed one ≡ true
unfolding is_listed takes_formed
listed_formed role.Item h = refl
listed_formed role.Or h = refl
listed_formed role.NewCategory h = refl
listed_formed _ h = no_true h

listed_follows : (one : Role) (roles : List Role) → is_listed one ≡ true → follows one roles ≡ true → list_next roles ≡ true
unfolding is_listed follows
listed_follows role.Item roles is h = h
listed_follows role.Or roles is h = h
listed_follows role.NewCategory roles is h = h
listed_follows _ roles is h = no_true is

no_start_here : {A : Type 0} (b : Bool) → not b ≡ true → b ≡ true → A
no_start_here true h is = no_true h
no_start_here false h is = no_true is

pub all_listed : (roles : List Role) → list_next roles ≡ true → Following roles → every no_beginning roles ≡ true → AllByRecursion (λ one. is_listed one ≡ true) roles
unfolding list_next Following every
all_listed [] next following none = tt
all_listed (one ∷ roles) next following none = elim (either (is_listed one) (begins one) next) [
  | inl listed ↦ (listed, all_listed roles (listed_follows one roles listed following.0) following.1 (and_right (not (begins one)) (every no_beginning roles) none))
  | inr starts ↦ no_start_here (begins one) (and_left (not (begins one)) (every no_beginning roles) none) starts
]

pub all_formed : (roles : List Role) → list_next roles ≡ true → Following roles → every no_beginning roles ≡ true → AllByRecursion (λ one. takes_formed one ≡ true) roles
all_formed roles next following none = all_weaker (λ one listed. listed_formed one listed) roles (all_listed roles next following none)
