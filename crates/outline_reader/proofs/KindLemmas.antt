-- The word `theorem` or `lemma` after `and` stands nowhere else.
use Rattle.std.proofs.Common.{◌≡◌, Bool, true, false, not, if◌then◌else◌, ◌||◌, List, [], ◌∷◌, ◌++◌, refl, sym, ◌∙◌, ap}
use Rattle.outline_reader.specs.declared.symbols.Role.{Role}
use Rattle.outline_reader.specs.declared.symbols.Role.TheVariants as role
use Rattle.outline_reader.specs.declared.symbols.Phrase.{Phrase}
use Rattle.outline_reader.specs.declared.symbols.Phrase.TheVariants as p
use Rattle.outline_reader.specs.declared.symbols.Symbol.{Symbol}
use Rattle.outline_reader.specs.declared.symbols.Symbol.TheVariants.{One, Choice}
use Rattle.outline_reader.specs.Grammar.{Alternative, alternatives}
use Rattle.outline_reader.specs.Derives.{IsOneOf, whole}
use Rattle.outline_reader.specs.Filled.{is_kind_word}
use Rattle.outline_reader.proofs.WritingLemmas.{then_come, Writes, nothing, one_token, begun, none, symbols}
use Rattle.outline_reader.proofs.FilledLemmas.{every, every_one, every_append}
use Rattle.outline_reader.proofs.Truth.{and_left, and_right, not_true, where_true, true_not_false}

-- such a word comes first
unfoldable pub names_kind : List Role → Bool
names_kind [] = false
names_kind (one ∷ roles) = is_kind_word one

-- the word stands only behind `and`
unfoldable pub KindsBehindAnd : List Role → Type 0
KindsBehindAnd [] = Unit {0}
KindsBehindAnd (one ∷ roles) = (names_kind roles ≡ true → one ≡ role.AndWord) × KindsBehindAnd roles

-- symbols that do not begin with the word
plain : Symbol → Bool
plain (One place class role) = not (is_kind_word role)
plain (Choice p.AndKind) = false
plain (Choice _) = true

tail_plain : List Symbol → Bool
tail_plain [] = true
tail_plain (symbol ∷ rest) = every plain rest

tail_of_plain : (rest : List Symbol) → every plain rest ≡ true → tail_plain rest ≡ true
unfolding every tail_plain
tail_of_plain [] h = refl
tail_of_plain (symbol ∷ rest) h = and_right (plain symbol) (every plain rest) h

tail_append : (front rest : List Symbol) → tail_plain front ≡ true → every plain rest ≡ true → tail_plain (front ++ rest) ≡ true
unfolding tail_plain
tail_append [] rest ends more = tail_of_plain rest more
tail_append (symbol ∷ front) rest ends more = every_append plain front rest ends more

is_and : Role → Bool
is_and role.AndWord = true
is_and _ = false

and_is : (one : Role) → is_and one ≡ true → one ≡ role.AndWord
unfolding is_and
and_is role.AndWord h = refl
and_is _ h = absurd (let no : false ≡ true = h in cc)

-- ---- what is seen of the table alone

plain_ok : Phrase → Bool
plain_ok phrase = if plain (Choice phrase) then every (λ a. not (is_kind_word a.2)) (alternatives phrase) else true

tails_ok : Phrase → Bool
tails_ok phrase = every (λ a. tail_plain (then_come phrase a.3)) (alternatives phrase)

others_ok : Phrase → Bool
others_ok phrase = every (λ a. is_and a.2 || every plain (then_come phrase a.3)) (alternatives phrase)

plain_table : (phrase : Phrase) → plain_ok phrase ≡ true
unfolding plain_ok plain every
plain_table p.Parts = refl
plain_table _ = refl

tails_table : (phrase : Phrase) → tails_ok phrase ≡ true
unfolding tails_ok tail_plain plain every
tails_table p.Parts = refl
tails_table _ = refl

others_table : (phrase : Phrase) → others_ok phrase ≡ true
unfolding others_ok is_and plain every
others_table p.Parts = refl
others_table _ = refl

plain_begun : (phrase : Phrase) (chosen : Alternative) → IsOneOf chosen (alternatives phrase) → plain (Choice phrase) ≡ true → is_kind_word chosen.2 ≡ false
unfolding plain_ok
plain_begun phrase chosen is_one h =
    not_true (is_kind_word chosen.2)
    (every_one (λ a. not (is_kind_word a.2)) is_one
    (where_true (plain (Choice phrase)) (every (λ (a : Alternative). not (is_kind_word a.2)) (alternatives phrase)) (plain_table phrase) h))

tails_begun : (phrase : Phrase) (chosen : Alternative) → IsOneOf chosen (alternatives phrase) → tail_plain (then_come phrase chosen.3) ≡ true
unfolding tails_ok
tails_begun phrase chosen is_one = every_one (λ a. tail_plain (then_come phrase a.3)) is_one (tails_table phrase)

others_begun : (phrase : Phrase) (chosen : Alternative) → IsOneOf chosen (alternatives phrase) → (is_and chosen.2 || every plain (then_come phrase chosen.3)) ≡ true
unfolding others_ok
others_begun phrase chosen is_one = every_one (λ a. is_and a.2 || every plain (then_come phrase a.3)) is_one (others_table phrase)

-- ---- what is written

plain_first : {all : List Symbol} {roles : List Role} → Writes all roles → every plain all ≡ true → names_kind roles ≡ false
unfolding every plain names_kind
plain_first nothing h = refl
plain_first (one_token place class role rest roles w) h = not_true (is_kind_word role) (and_left (not (is_kind_word role)) (every plain rest) h)
plain_first (begun phrase rest chosen roles is_one w) h = plain_begun phrase chosen is_one (and_left (plain (Choice phrase)) (every plain rest) h)
plain_first (none phrase rest roles optional w) h = plain_first w (and_right (plain (Choice phrase)) (every plain rest) h)

kinds : {all : List Symbol} {roles : List Role} → Writes all roles → tail_plain all ≡ true → KindsBehindAnd roles
unfolding KindsBehindAnd tail_plain
kinds nothing h = tt
kinds (one_token place class role rest roles w) h = ((λ named. true_not_false (names_kind roles) named (plain_first w h)), kinds w (tail_of_plain rest h))
kinds (begun phrase rest chosen roles is_one w) h =
    let next = then_come phrase chosen.3 in
    ((λ named. by_and w named (is_and chosen.2) refl), kinds w (tail_append next rest (tails_begun phrase chosen is_one) h))
  where
    by_and : Writes (then_come phrase chosen.3 ++ rest) roles → names_kind roles ≡ true → (b : Bool) → is_and chosen.2 ≡ b → chosen.2 ≡ role.AndWord
    by_and w named true is = and_is chosen.2 is
    by_and w named false is_not =
        true_not_false (names_kind roles) named
        (plain_first w (every_append plain (then_come phrase chosen.3) rest (ap (λ b. b || every plain (then_come phrase chosen.3)) (sym is_not) ∙ others_begun phrase chosen is_one) h))
kinds (none phrase rest roles optional w) h = kinds w (tail_of_plain rest h)

pub kinds_behind_and : {roles : List Role} → Writes (symbols whole) roles → KindsBehindAnd roles
unfolding tail_plain plain every
kinds_behind_and w = kinds w refl
