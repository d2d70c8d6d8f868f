-- Brackets are read in one way, where no bracket follows them.
use Rattle.std.proofs.Common.{◌≡◌, ℕ, List, [], ◌∷◌, refl, ap, ◌∙◌, sym}
use Rattle.sy_base.specs.Tokens.{PlainToken}
use Rattle.user_grammar.specs.Names.{AllDiffer}
use Rattle.user_grammar.specs.Production.{IsMark, AreBrackets, no_brackets, brackets, AreWords, one_more, last_one, AreNumbers}
use Rattle.user_grammar.proofs.Spellings.{one_place}

-- the tokens do not begin with an opening bracket
abbrev pub NotOpened : List PlainToken → Type 0
NotOpened [] = Unit {0}
NotOpened (token ∷ tokens) = IsMark 91 token → ⊥

-- a token is one mark alone
two_marks : (token : PlainToken) → IsMark 44 token → IsMark 93 token → ⊥
two_marks token comma closing = absurd (differ (sym comma.1 ∙ closing.1))
  where
    differ : ◌≡◌ {A = List ℕ} (44 ∷ []) (93 ∷ []) → ⊥
    differ same = cc

mutual
  pub one_way : {words others : List (List ℕ)} {tokens rest left : List PlainToken} → AreBrackets words tokens rest → AreBrackets others tokens left
      → NotOpened rest → NotOpened left → (words ≡ others) × (rest ≡ left)
  one_way no_brackets no_brackets closed shut = (refl, refl)
  one_way no_brackets (brackets mark more) closed shut = absurd (closed mark)
  one_way (brackets mark more) no_brackets closed shut = absurd (shut mark)
  one_way (brackets mark more) (brackets other again) closed shut = one_way_in more again closed shut

  one_way_in : {words others : List (List ℕ)} {tokens rest left : List PlainToken} → AreWords words tokens rest → AreWords others tokens left
      → NotOpened rest → NotOpened left → (words ≡ others) × (rest ≡ left)
  one_way_in (one_more {token = token} kind mark more) (one_more other_kind other again) closed shut =
      let same = one_way_in more again closed shut in (ap (λ ws. token.text ∷ ws) same.0, same.1)
  one_way_in (one_more {comma = comma} kind mark more) (last_one other_kind other again) closed shut = absurd (two_marks comma mark other)
  one_way_in (last_one {closing = closing} kind mark more) (one_more other_kind other again) closed shut = absurd (two_marks closing other mark)
  one_way_in (last_one {token = token} kind mark more) (last_one other_kind other again) closed shut =
      let same = one_way more again closed shut in (ap (λ ws. token.text ∷ ws) same.0, same.1)

-- words have one list of numbers
pub one_list : (own words : List (List ℕ)) (ns ms : List ℕ) → AllDiffer own → AreNumbers own words ns → AreNumbers own words ms → ns ≡ ms
one_list own [] [] [] differ one other = refl
one_list own [] [] (m ∷ ms) differ one other = absurd other
one_list own [] (n ∷ ns) ms differ one other = absurd one
one_list own (word ∷ words) [] ms differ one other = absurd one
one_list own (word ∷ words) (n ∷ ns) [] differ one other = absurd other
one_list own (word ∷ words) (n ∷ ns) (m ∷ ms) differ one other =
    ap (λ k. k ∷ ns) (one_place own n m word differ one.0 other.0) ∙ ap (λ ks. m ∷ ks) (one_list own words ns ms differ one.1 other.1)
