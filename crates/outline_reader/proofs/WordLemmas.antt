-- What the sort of a token says of its text.
use Rattle.std.proofs.Common.{codes, ◌≡◌, ◌⊎◌, inl, inr, ℕ, Bool, true, false, not, cond, if◌then◌else◌, List, [], ◌∷◌, map, refl, sym, ◌∙◌, ap}
use Rattle.std.proofs.lemmas.Slice.Eq.{bytes_eq-Decides}
use Rattle.std.specs.Str.{bytes_eq}
use Rattle.binding_terms.specs.Numbered.{AnyByRecursion}
use Rattle.sy_base.specs.Tokens.{is_numeral}
use Rattle.proof_lexer.specs.View.{kind_number, token_view}
use Rattle.proof_lexer.specs.declared.token.Kind.{Kind}
use Rattle.proof_lexer.specs.declared.token.Kind.TheVariants as kind
use Rattle.proof_lexer.specs.declared.token.Token.{Token}
use Rattle.outline_reader.specs.declared.sort.Sort.{Sort}
use Rattle.outline_reader.specs.declared.sort.Sort.TheVariants as s
use Rattle.outline_reader.specs.Sorts.{reserved, signs, look_up, word_sort, sort_by, sort_of, IsReserved}
use Rattle.outline_reader.specs.Derives.{is_formed, same_sort}
use Rattle.outline_reader.specs.Words.{IsName, IsUnreserved}
use Rattle.outline_reader.proofs.FilledLemmas.{every}
use Rattle.outline_reader.proofs.Truth.{and_left, and_right}

abbrev Entry : Type 0
Entry = List ℕ × Sort

no_sort : {A : Type 0} (b : Bool) → not b ≡ true → b ≡ true → A
no_sort true none is = absurd (let no : false ≡ true = none in cc)
no_sort false none is = absurd (let no : false ≡ true = is in cc)

-- a text whose sort is none of those in the list stands not in it
look_up_other : (test : Sort → Bool) (entries : List Entry) (text : List ℕ) (otherwise : Sort) → every (λ entry. not (test entry.1)) entries ≡ true → test (look_up entries text otherwise) ≡ true →
    (look_up entries text otherwise ≡ otherwise) × (AnyByRecursion (λ one. one ≡ text) (map (λ entry. entry.0) entries) → ⊥)
unfolding every
look_up_other test [] text otherwise none is = (refl, λ among. absurd among)
look_up_other test (entry ∷ entries) text otherwise none is =
    which (bytes_eq entry.0 text) refl is (λ later. look_up_other test entries text otherwise (and_right (not (test entry.1)) (every (λ (entry : Entry). not (test entry.1)) entries) none) later)
  where
    which : (b : Bool) → bytes_eq entry.0 text ≡ b → test (cond b entry.1 (look_up entries text otherwise)) ≡ true →
        (test (look_up entries text otherwise) ≡ true → (look_up entries text otherwise ≡ otherwise) × (AnyByRecursion (λ one. one ≡ text) (map (λ entry. entry.0) entries) → ⊥)) →
        (cond b entry.1 (look_up entries text otherwise) ≡ otherwise) × ((entry.0 ≡ text) ⊎ AnyByRecursion (λ one. one ≡ text) (map (λ entry. entry.0) entries) → ⊥)
    which true same is below = no_sort (test entry.1) (and_left (not (test entry.1)) (every (λ (entry : Entry). not (test entry.1)) entries) none) is
    which false differs is below = (
      (below is).0,
      λ among. elim among [
        | inl here ↦ (let never : false ≡ true = sym differs ∙ (bytes_eq-Decides entry.0 text).1 here in cc)
        | inr later ↦ (below is).1 later
      ],
    )

no_reserved_formed : every (λ (entry : Entry). not (is_formed entry.1)) reserved ≡ true
unfolding every
no_reserved_formed = refl

no_sign_name : every (λ (entry : Entry). not (same_sort entry.1 s.Name)) signs ≡ true
unfolding every
no_sign_name = refl

abbrev plain_sort : List ℕ → Sort
plain_sort word = if is_numeral word then s.Other else s.Name

word_formed : (word : List ℕ) → is_formed (word_sort word) ≡ true → (word_sort word ≡ plain_sort word) × (IsReserved word → ⊥)
unfolding word_sort IsReserved
word_formed word is = look_up_other is_formed reserved word (plain_sort word) no_reserved_formed is

not_numeral : (numeral : Bool) → (if numeral then s.Other else s.Name) ≡ s.Name → numeral ≡ false
not_numeral true is = absurd (let never : s.Other ≡ s.Name = is in cc)
not_numeral false is = refl

no_sign : {A : Type 0} (text : List ℕ) (other : Sort) → (other ≡ s.Name → ⊥) → look_up signs text other ≡ s.Name → A
no_sign text other differs is =
    absurd (differs (sym (look_up_other (λ sort. same_sort sort s.Name) signs text other no_sign_name (ap (λ sort. same_sort sort s.Name) is)).0 ∙ is))

name_by : (one : Kind) (text : List ℕ) → sort_by one text ≡ s.Name → (kind_number one ≡ 0) × (IsReserved text → ⊥) × (is_numeral text ≡ false)
name_by kind.Word text is =
    let told = word_formed text (ap is_formed is) in (refl, told.1, not_numeral (is_numeral text) (sym told.0 ∙ is))
name_by kind.Symbol text is = no_sign text s.Other (λ e. let never : s.Other ≡ s.Name = e in cc) is
name_by kind.Punct text is = no_sign text s.Mark (λ e. let never : s.Mark ≡ s.Name = e in cc) is
name_by kind.Bar text is = absurd (let never : s.Bar ≡ s.Name = is in cc)
name_by kind.Quoted text is = absurd (let never : s.Other ≡ s.Name = is in cc)

formed_by : (one : Kind) (text : List ℕ) → is_formed (sort_by one text) ≡ true → kind_number one ≡ 0 → IsReserved text → ⊥
formed_by kind.Word text is word = (word_formed text is).1
formed_by kind.Symbol text is word = absurd (let never : 1 ≡ 0 = word in cc)
formed_by kind.Punct text is word = absurd (let never : 2 ≡ 0 = word in cc)
formed_by kind.Bar text is word = absurd (let never : 3 ≡ 0 = word in cc)
formed_by kind.Quoted text is word = absurd (let never : 4 ≡ 0 = word in cc)

pub name_is : (token : Token) → sort_of token ≡ s.Name → IsName (token_view token)
unfolding sort_of
name_is token is = let told = name_by token.kind token.text.now is in record { word = told.0; not_reserved = told.1; no_numeral = told.2 }

pub formed_is : (token : Token) → is_formed (sort_of token) ≡ true → IsUnreserved (token_view token)
unfolding sort_of
formed_is token is = formed_by token.kind token.text.now is

-- a text that stands in no list has the other sort
look_up_none : (entries : List Entry) (text : List ℕ) (otherwise : Sort) → (AnyByRecursion (λ one. one ≡ text) (map (λ entry. entry.0) entries) → ⊥) → look_up entries text otherwise ≡ otherwise
look_up_none [] text otherwise none = refl
look_up_none (entry ∷ entries) text otherwise none = which (bytes_eq entry.0 text) refl (look_up_none entries text otherwise (λ later. none (inr later)))
  where
    which : (b : Bool) → bytes_eq entry.0 text ≡ b → look_up entries text otherwise ≡ otherwise → cond b entry.1 (look_up entries text otherwise) ≡ otherwise
    which true same below = absurd (none (inl ((bytes_eq-Decides entry.0 text).0 same)))
    which false differs below = below

word_name : (word : List ℕ) → (IsReserved word → ⊥) → is_numeral word ≡ false → word_sort word ≡ s.Name
unfolding word_sort IsReserved
word_name word none numeral = look_up_none reserved word (plain_sort word) none ∙ ap (λ b. if b then s.Other else s.Name) numeral

name_sort_by : (one : Kind) (text : List ℕ) → kind_number one ≡ 0 → (IsReserved text → ⊥) → is_numeral text ≡ false → sort_by one text ≡ s.Name
name_sort_by kind.Word text word none numeral = word_name text none numeral
name_sort_by kind.Symbol text word none numeral = absurd (let never : 1 ≡ 0 = word in cc)
name_sort_by kind.Punct text word none numeral = absurd (let never : 2 ≡ 0 = word in cc)
name_sort_by kind.Bar text word none numeral = absurd (let never : 3 ≡ 0 = word in cc)
name_sort_by kind.Quoted text word none numeral = absurd (let never : 4 ≡ 0 = word in cc)

pub name_sort : (token : Token) → IsName (token_view token) → sort_of token ≡ s.Name
unfolding sort_of
name_sort token is = name_sort_by token.kind token.text.now is.word is.not_reserved is.no_numeral

define_by : (one : Kind) (text : List ℕ) → kind_number one ≡ 1 → text ≡ codes "::=" → sort_by one text ≡ s.Define
define_by kind.Symbol text symbol is = ap (λ t. look_up signs t s.Other) is
define_by kind.Word text symbol is = absurd (let never : 0 ≡ 1 = symbol in cc)
define_by kind.Punct text symbol is = absurd (let never : 2 ≡ 1 = symbol in cc)
define_by kind.Bar text symbol is = absurd (let never : 3 ≡ 1 = symbol in cc)
define_by kind.Quoted text symbol is = absurd (let never : 4 ≡ 1 = symbol in cc)

pub define_sort : (token : Token) → (kind_number token.kind ≡ 1) × (token.text.now ≡ codes "::=") → sort_of token ≡ s.Define
unfolding sort_of
define_sort token is = define_by token.kind token.text.now is.0 is.1
