-- The first token of a source that is not built.
use native.Mathlib.Omega.{arith}
use Rattle.std.proofs.Common.{◌≡◌, ◌⊎◌, ◌<◌, ◌≤◌, ℕ, List, [], ◌∷◌, ◌++◌, length, map, Option, Some, None, inl, inr, sym, subst, ◌∙◌}
use Rattle.std.specs.Prelude.{MatchOption}
use Rattle.std.proofs.lemmas.Bool.{cases_lt}
use Rattle.sy_base.specs.Tokens.{PlainToken, AreTokens}
use Rattle.sy_base.specs.CodeName.{code_name}
use Rattle.sy_base.specs.declared.fault.Code.TheVariants as variant
use Rattle.sy_base.specs.declared.fault.Fault.{Fault}
use Rattle.sy_base.proofs.PlaceLemmas.{tokens_stand}
use Rattle.proof_lexer.specs.View.{token_view}
use Rattle.proof_lexer.specs.declared.token.Token.{Token}
use Rattle.proof_lexer.proofs.UniqueLemmas.{tokens_unique}
use Rattle.outline_reader.specs.declared.fault.OutlineFault.{OutlineFault}
use Rattle.outline_reader.specs.Outline.{IsFault}
use Rattle.outline_reader.specs.Plain.{PlainPortion, HasPortions}
use Rattle.outline_reader.proofs.UniqueLemmas.{portions_unique}
use Rattle.proof_check.specs.Faults.{IsToldOn, IsOutlineTold, HasOutlineFault, IsFirstFault, of_outline, of_not_built, TellsFirst}
use Rattle.proof_check.specs.NotBuilt.{judgment_word, IsFirstJudgment, HasVariable, IsUnbuiltAt, IsNotBuilt, by_its_token, of_a_judgment, StandsFirst}
use Rattle.proof_check.specs.Places.{NoneAmongFirst, IsFirstUnbuilt, FindsUnbuilt, FindsJudgment, FindsNotBuilt, IsEarlier, IsEarlierIfAny}
use Rattle.proof_check.proofs.FirstLemmas.{stands_first, first_trans, first_itself, first_line}
use Rattle.proof_check.proofs.FaultLemmas.{portions_exclude, same_outline_fault}
use Rattle.binding_terms.proofs.Lists.{below_whole}

-- none of the tokens of the source is not built by its token
none_by_token : (source : List ℕ) (tokens : List PlainToken) → AreTokens source tokens → NoneAmongFirst tokens (length tokens) →
    (others front rest : List PlainToken) (token : PlainToken) → AreTokens source others → others ≡ front ++ token ∷ rest → IsUnbuiltAt front token rest → ⊥
none_by_token source tokens are none others front rest token others_are split unbuilt =
    let here : tokens ≡ front ++ token ∷ rest = tokens_unique source tokens others are others_are ∙ split in
    none front rest token here (subst (λ (ts : List PlainToken). length front < length ts) (sym here) (below_whole front rest token)) unbuilt

-- the first one stands before all others
unbuilt_first : (source : List ℕ) (tokens : List PlainToken) (token : PlainToken) → AreTokens source tokens → IsFirstUnbuilt tokens token →
    (others front rest : List PlainToken) (other : PlainToken) → AreTokens source others → others ≡ front ++ other ∷ rest → IsUnbuiltAt front other rest → StandsFirst token other
unbuilt_first source tokens token are first others front rest other others_are split unbuilt =
    let here : tokens ≡ front ++ other ∷ rest = tokens_unique source tokens others are others_are ∙ split in
    which here (cases_lt (length front) (length first.front))
  where
    which : tokens ≡ front ++ other ∷ rest → (length front < length first.front) ⊎ (length first.front ≤ length front) → StandsFirst token other
    which here (inl before) = absurd (first.none_before front rest other here before unbuilt)
    which here (inr behind) = stands_first source tokens first.front front first.rest rest token other tokens_stand are first.split here behind

is_by_token : (source : List ℕ) (tokens : List PlainToken) (token : PlainToken) → AreTokens source tokens → IsFirstUnbuilt tokens token → IsNotBuilt source token
is_by_token source tokens token are first = by_its_token tokens first.front first.rest are first.split first.unbuilt

same_word : (word : Option PlainToken) (portions : List PlainPortion) (one two : PlainToken) → (IsFirstJudgment portions one → IsFirstJudgment portions two → one ≡ two) →
    MatchOption word (IsFirstJudgment portions one) (λ t. one ≡ t) → MatchOption word (IsFirstJudgment portions two) (λ t. two ≡ t) → one ≡ two
same_word None portions one two below first second = below first second
same_word (Some word) portions one two below first second = first ∙ sym second

one_judgment : (portions : List PlainPortion) (one two : PlainToken) → IsFirstJudgment portions one → IsFirstJudgment portions two → one ≡ two
one_judgment [] one two first second = absurd first
one_judgment (portion ∷ portions) one two first second =
    same_word (judgment_word portion) portions one two (λ a b. one_judgment portions one two a b) first second

-- the judgment part of the source that is not built is that of these portions
judgment_here : (source : List ℕ) (portions others : List PlainPortion) (token : PlainToken) → HasPortions source portions → HasPortions source others →
    HasVariable others → IsFirstJudgment others token → HasVariable portions × IsFirstJudgment portions token
judgment_here source portions others token has others_has declares first =
    subst (λ (ps : List PlainPortion). HasVariable ps × IsFirstJudgment ps token) (portions_unique source others portions others_has has) (declares, first)

module _ (source : List ℕ) (tokens : List PlainToken) (portions : List PlainPortion) (are : AreTokens source tokens) (has : HasPortions source portions) where
  abbrev NoJudgment : Type 0
  NoJudgment = (token : PlainToken) → HasVariable portions → IsFirstJudgment portions token → ⊥

  nothing_found : NoneAmongFirst tokens (length tokens) → NoJudgment → (token : PlainToken) → IsNotBuilt source token → ⊥
  nothing_found none absent token (by_its_token others front rest others_are split unbuilt) = none_by_token source tokens are none others front rest token others_are split unbuilt
  nothing_found none absent token (of_a_judgment others others_has declares first) =
      let here = judgment_here source portions others token has others_has declares first in absent token here.0 here.1

  before_tokens : (token : PlainToken) → IsFirstUnbuilt tokens token → NoJudgment → (other : PlainToken) → IsNotBuilt source other → StandsFirst token other
  before_tokens token first absent other (by_its_token others front rest others_are split unbuilt) = unbuilt_first source tokens token are first others front rest other others_are split unbuilt
  before_tokens token first absent other (of_a_judgment others others_has declares word) =
      let here = judgment_here source portions others other has others_has declares word in absurd (absent other here.0 here.1)

  before_judgment : (token : PlainToken) → IsFirstJudgment portions token → NoneAmongFirst tokens (length tokens) → (other : PlainToken) → IsNotBuilt source other → StandsFirst token other
  before_judgment token word none other (by_its_token others front rest others_are split unbuilt) =
      absurd (none_by_token source tokens are none others front rest other others_are split unbuilt)
  before_judgment token word none other (of_a_judgment others others_has declares first) =
      let here = judgment_here source portions others other has others_has declares first in
      subst (λ (t : PlainToken). StandsFirst token t) (one_judgment portions token other word here.1) (first_itself token)

  before_both : (one two : PlainToken) → IsFirstUnbuilt tokens one → IsFirstJudgment portions two → (token : PlainToken) → IsEarlier one two token → (other : PlainToken) → IsNotBuilt source other →
      StandsFirst token other
  before_both one two first word token earlier other (by_its_token others front rest others_are split unbuilt) =
      first_trans token one other earlier.before_one (unbuilt_first source tokens one are first others front rest other others_are split unbuilt)
  before_both one two first word token earlier other (of_a_judgment others others_has declares second) =
      let here = judgment_here source portions others other has others_has declares second in
      subst (λ (t : PlainToken). StandsFirst token t) (one_judgment portions two other word here.1) earlier.before_other

  either : (one two : PlainToken) → IsFirstUnbuilt tokens one → HasVariable portions → IsFirstJudgment portions two → (token : PlainToken) → (token ≡ one) ⊎ (token ≡ two) → IsNotBuilt source token
  either one two first declares word token (inl same) = subst (IsNotBuilt source) (sym same) (is_by_token source tokens one are first)
  either one two first declares word token (inr same) = subst (IsNotBuilt source) (sym same) (of_a_judgment portions has declares word)

  pub first_not_built : (one other found : Option PlainToken) → FindsUnbuilt tokens one → FindsJudgment portions other → IsEarlierIfAny one other found → FindsNotBuilt source found
  first_not_built None None found none absent same = subst (FindsNotBuilt source) (sym same) (λ is. nothing_found none absent is.token is.is)
  first_not_built None (Some word) found none told same =
      subst (FindsNotBuilt source) (sym same) (record { is = of_a_judgment portions has told.0 told.1; first = before_judgment word told.1 none })
  first_not_built (Some one) None found first absent same =
      subst (FindsNotBuilt source) (sym same) (record { is = is_by_token source tokens one are first; first = before_tokens one first absent })
  first_not_built (Some one) (Some word) None first told same = absurd same
  first_not_built (Some one) (Some word) (Some token) first told earlier =
      record { is = either one word first told.0 told.1 token earlier.is_either; first = before_both one word first told.1 token earlier }

-- ---- tokens that have no outline

module _ (source : List ℕ) (tokens : List Token) (fault : OutlineFault) (are : AreTokens source (map token_view tokens)) (is_fault : IsFault tokens fault)
    (line : ℕ) (spelling detail : List ℕ) (told : IsOutlineTold (map token_view tokens) fault line spelling detail) where
  outline_fault : HasOutlineFault source line spelling detail
  outline_fault = record { tokens = tokens; fault = fault; are_tokens = are; is_fault = is_fault; told = told }

  none_at_all : NoneAmongFirst (map token_view tokens) (length (map token_view tokens)) → (token : PlainToken) → IsNotBuilt source token → line ≤ token.line
  none_at_all none token (by_its_token others front rest others_are split unbuilt) =
      absurd (none_by_token source (map token_view tokens) are none others front rest token others_are split unbuilt)
  none_at_all none token (of_a_judgment portions has declares first) = absurd (portions_exclude source portions line spelling detail has outline_fault)

  pub no_earlier_token : NoneAmongFirst (map token_view tokens) (length (map token_view tokens)) → IsFirstFault source line spelling detail
  no_earlier_token none = of_outline outline_fault (none_at_all none)

  module _ (token : PlainToken) (first : IsFirstUnbuilt (map token_view tokens) token) where
    before_all : (other : PlainToken) → IsNotBuilt source other → StandsFirst token other
    before_all other (by_its_token others front rest others_are split unbuilt) = unbuilt_first source (map token_view tokens) token are first others front rest other others_are split unbuilt
    before_all other (of_a_judgment portions has declares word) = absurd (portions_exclude source portions line spelling detail has outline_fault)

    pub later_token : (token.line < line → ⊥) → IsFirstFault source line spelling detail
    later_token not_before = of_outline outline_fault (λ other is. between (first_line token other (before_all other is)) (cases_lt token.line line))
      where
        behind : (a b c : ℕ) → a ≤ b → b ≤ c → a ≤ c
        behind a b c one two = (omega arith)

        between : {other : ℕ} → token.line ≤ other → (token.line < line) ⊎ (line ≤ token.line) → line ≤ other
        between le (inl before) = absurd (not_before before)
        between le (inr after) = behind line token.line _ after le

    pub earlier_token : token.line < line → (at : ℕ) (others words : List ℕ) → IsToldOn token.line variant.NotBuilt token.text at others words → IsFirstFault source at others words
    earlier_token before at others words told_so =
        of_not_built token (record { is = is_by_token source (map token_view tokens) token are first; first = before_all })
        (λ other spelled said second. subst (λ (n : ℕ). token.line < n) (same_outline_fault source line other spelling spelled detail said outline_fault second).0 before) told_so

-- the one of a fault of the outline and a token that is not built that is told first
pub first_told : (source : List ℕ) (tokens : List Token) (fault : OutlineFault) (told found : Fault) (token : PlainToken) → AreTokens source (map token_view tokens) →
    IsFault tokens fault × IsOutlineTold (map token_view tokens) fault told.line (code_name told.code) told.detail → FindsUnbuilt (map token_view tokens) (Some token) →
    ((token.line < told.line) × IsToldOn token.line variant.NotBuilt token.text found.line (code_name found.code) found.detail) ⊎ ((token.line < told.line → ⊥) × (found ≡ told)) →
    TellsFirst source found
first_told source tokens fault told found token are is first (inl earlier) =
    earlier_token source tokens fault are is.0 told.line (code_name told.code) told.detail is.1 token first earlier.0 found.line (code_name found.code) found.detail earlier.1
first_told source tokens fault told found token are is first (inr later) =
    subst (TellsFirst source) (sym later.1) (later_token source tokens fault are is.0 told.line (code_name told.code) told.detail is.1 token first later.0)

pub only_told : (source : List ℕ) (tokens : List Token) (fault : OutlineFault) (told : Fault) → AreTokens source (map token_view tokens) →
    IsFault tokens fault × IsOutlineTold (map token_view tokens) fault told.line (code_name told.code) told.detail → FindsUnbuilt (map token_view tokens) None → TellsFirst source told
only_told source tokens fault told are is none = no_earlier_token source tokens fault are is.0 told.line (code_name told.code) told.detail is.1 none
