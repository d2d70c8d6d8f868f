-- The tokens of a source stand in order, and which of them stands first.
use native.Mathlib.Omega.{arith}
use Rattle.std.proofs.Common.{◌≡◌, ◌⊎◌, ◌<◌, ◌≤◌, ℕ, suc, ◌+◌, ◌==◌, List, [], ◌∷◌, ◌++◌, length, take, cond, inl, inr, refl, sym, subst, ◌∙◌}
use Rattle.std.specs.Prelude.{count_by}
use Rattle.std.specs.List.{AllByRecursion}
use Rattle.std.proofs.lemmas.Bool.{cases_order}
use Rattle.std.proofs.lemmas.List.{take-take}
use Rattle.std.proofs.lemmas.List.Sums.{sum_by-take-le}
use Rattle.sy_base.specs.Tokens.{PlainToken, AreTokens}
use Rattle.sy_base.specs.TokenLaws.{StandsInSource, AreInOrder, TokensStandInSource}
use Rattle.proof_check.specs.NotBuilt.{StandsFirst}
use Rattle.binding_terms.proofs.Lists.{all_middle}

-- a token behind others begins where these end, or later
later : (source : List ℕ) (end : ℕ) (front rest : List PlainToken) (token : PlainToken) → AreInOrder end (front ++ token ∷ rest) →
    AllByRecursion (StandsInSource source) (front ++ token ∷ rest) → end ≤ token.from
later source end [] rest token order all = order.0
later source end (first ∷ front) rest token order all =
    let below = later source first.to front rest token order.1 all.1 in
    between end first.from first.to token.from order.0 all.0.some below
  where
    between : (a b c d : ℕ) → a ≤ b → b < c → c ≤ d → a ≤ d
    between a b c d one two three = (omega arith)

from_order : (source : List ℕ) (end : ℕ) (front others rest behind : List PlainToken) (token other : PlainToken) → AreInOrder end (front ++ token ∷ rest) →
    AllByRecursion (StandsInSource source) (front ++ token ∷ rest) → front ++ token ∷ rest ≡ others ++ other ∷ behind → length front ≤ length others → token.from ≤ other.from
from_order source end [] [] rest behind token other order all same le =
    let one : token ≡ other = cc in subst (λ (t : PlainToken). token.from ≤ t.from) one (reflexive token.from)
  where
    reflexive : (n : ℕ) → n ≤ n
    reflexive n = (omega arith)
from_order source end [] (o ∷ others) rest behind token other order all same le =
    let tail : rest ≡ others ++ other ∷ behind = cc in
    let below = later source token.to others behind other (subst (AreInOrder token.to) tail order.1) (subst (AllByRecursion (StandsInSource source)) tail all.1) in
    between token.from token.to other.from all.0.some below
  where
    between : (a b c : ℕ) → a < b → b ≤ c → a ≤ c
    between a b c one two = (omega arith)
from_order source end (f ∷ front) [] rest behind token other order all same le = absurd (never (length front) le)
  where
    never : (n : ℕ) → suc n ≤ 0 → ⊥
    never n lt = (omega arith)
from_order source end (f ∷ front) (o ∷ others) rest behind token other order all same le =
    let tail : front ++ token ∷ rest ≡ others ++ other ∷ behind = cc in
    from_order source f.to front others rest behind token other order.1 all.1 tail (less (length front) (length others) le)
  where
    less : (m n : ℕ) → suc m ≤ suc n → m ≤ n
    less m n lt = (omega arith)

from_strict : (source : List ℕ) (end : ℕ) (front others rest behind : List PlainToken) (token other : PlainToken) → AreInOrder end (front ++ token ∷ rest) →
    AllByRecursion (StandsInSource source) (front ++ token ∷ rest) → front ++ token ∷ rest ≡ others ++ other ∷ behind → length front < length others → token.from < other.from
from_strict source end [] [] rest behind token other order all same lt = absurd (never lt)
  where
    never : 0 < 0 → ⊥
    never lt = (omega arith)
from_strict source end [] (o ∷ others) rest behind token other order all same lt =
    let tail : rest ≡ others ++ other ∷ behind = cc in
    let below = later source token.to others behind other (subst (AreInOrder token.to) tail order.1) (subst (AllByRecursion (StandsInSource source)) tail all.1) in
    between token.from token.to other.from all.0.some below
  where
    between : (a b c : ℕ) → a < b → b ≤ c → a < c
    between a b c one two = (omega arith)
from_strict source end (f ∷ front) [] rest behind token other order all same lt = absurd (never (length front) lt)
  where
    never : (n : ℕ) → suc n < 0 → ⊥
    never n lt = (omega arith)
from_strict source end (f ∷ front) (o ∷ others) rest behind token other order all same lt =
    let tail : front ++ token ∷ rest ≡ others ++ other ∷ behind = cc in
    from_strict source f.to front others rest behind token other order.1 all.1 tail (less (length front) (length others) lt)
  where
    less : (m n : ℕ) → suc m < suc n → m < n
    less m n lt = (omega arith)

line_feeds_rise : (source : List ℕ) (m n : ℕ) → m ≤ n → count_by (λ byte. byte == 10) (take m source) ≤ count_by (λ byte. byte == 10) (take n source)
line_feeds_rise source m n le =
    subst (λ (bytes : List ℕ). count_by (λ byte. byte == 10) bytes ≤ count_by (λ byte. byte == 10) (take n source)) (take-take m n source le)
    (sum_by-take-le (λ byte. cond (byte == 10) 1 0) (take n source) m)

-- what stands no later in the text stands no later by line and place
stands_by_place : (source : List ℕ) (token other : PlainToken) → StandsInSource source token → StandsInSource source other → token.from ≤ other.from → StandsFirst token other
stands_by_place source token other stands other_stands le = which (cases_order token.line other.line)
  where
    rises : (a b m n : ℕ) → a ≡ 1 + m → b ≡ 1 + n → m ≤ n → b < a → ⊥
    rises a b m n one two le lt = (omega arith)

    which : (token.line ≡ other.line) ⊎ ((token.line < other.line) ⊎ (other.line < token.line)) → StandsFirst token other
    which (inl same) = inr (same, le)
    which (inr (inl before)) = inl before
    which (inr (inr after)) = absurd (rises token.line other.line _ _ stands.line other_stands.line (line_feeds_rise source token.from other.from le) after)

pub stands_first : (source : List ℕ) (tokens front others rest behind : List PlainToken) (token other : PlainToken) → TokensStandInSource → AreTokens source tokens →
    tokens ≡ front ++ token ∷ rest → tokens ≡ others ++ other ∷ behind → length front ≤ length others → StandsFirst token other
stands_first source tokens front others rest behind token other law are split other_split le =
    let stand = law source tokens are in
    let all = subst (AllByRecursion (StandsInSource source)) split stand.0 in
    stands_by_place source token other (all_middle (StandsInSource source) front rest token all)
    (all_middle (StandsInSource source) others behind other (subst (AllByRecursion (StandsInSource source)) other_split stand.0))
    (from_order source 0 front others rest behind token other (subst (AreInOrder 0) split stand.1) all (sym split ∙ other_split) le)

pub first_trans : (one two three : PlainToken) → StandsFirst one two → StandsFirst two three → StandsFirst one three
first_trans one two three (inl a) (inl b) = inl (omega arith)
first_trans one two three (inl a) (inr b) = let same = b.0 in inl (omega arith)
first_trans one two three (inr a) (inl b) = let same = a.0 in inl (omega arith)
first_trans one two three (inr a) (inr b) = let le = a.1 in let more = b.1 in inr (a.0 ∙ b.0, (omega arith))

pub first_itself : (token : PlainToken) → StandsFirst token token
first_itself token = inr (refl, (omega arith))

-- the first of two is on no later line
pub first_line : (one two : PlainToken) → StandsFirst one two → one.line ≤ two.line
first_line one two (inl before) = (omega arith)
first_line one two (inr same) = let e = same.0 in (omega arith)

-- two that stand before each other stand on one line and at one place
pub first_both : (one two : PlainToken) → StandsFirst one two → StandsFirst two one → (one.line ≡ two.line) × (one.from ≡ two.from)
first_both one two (inl a) (inl b) = absurd (let never : ⊥ = (omega arith) in never)
first_both one two (inl a) (inr b) = absurd (let e = b.0 in let never : ⊥ = (omega arith) in never)
first_both one two (inr a) (inl b) = absurd (let e = a.0 in let never : ⊥ = (omega arith) in never)
first_both one two (inr a) (inr b) = let le = a.1 in let more = b.1 in (a.0, (omega arith))

pub stands_before : (source : List ℕ) (tokens front others rest behind : List PlainToken) (token other : PlainToken) → TokensStandInSource → AreTokens source tokens →
    tokens ≡ front ++ token ∷ rest → tokens ≡ others ++ other ∷ behind → length front < length others → token.from < other.from
stands_before source tokens front others rest behind token other law are split other_split lt =
    let stand = law source tokens are in
    from_strict source 0 front others rest behind token other (subst (AreInOrder 0) split stand.1) (subst (AllByRecursion (StandsInSource source)) split stand.0) (sym split ∙ other_split) lt
