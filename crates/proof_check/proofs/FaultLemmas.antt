-- A source has one first fault at most, and a right file has none.
use native.Mathlib.Omega.{arith}
use Rattle.std.proofs.Common.{◌≡◌, ◌⊎◌, ◌<◌, ◌≤◌, ℕ, zero, suc, ◌+◌, List, [], ◌∷◌, map, Option, Some, None, Ok, Err, inl, inr, refl, sym, ◌∙◌, ap, subst}
use Rattle.std.specs.Prelude.{slice_get, MatchOption, IfErr, IsErrOf, Result}
use Rattle.sy_base.specs.Tokens.{PlainToken, AreTokens, TokenFault, HasFault}
use Rattle.proof_lexer.proofs.UniqueLemmas.{tokens_unique, fault_unique, tokens_exclude}
use Rattle.proof_lexer.specs.View.{kind_number, token_view}
use Rattle.proof_lexer.specs.declared.token.Kind.{Kind}
use Rattle.proof_lexer.specs.declared.token.Kind.TheVariants as kind
use Rattle.proof_lexer.specs.declared.token.Token.{Token}
use Rattle.outline_reader.specs.declared.fault.OutlineFault.{OutlineFault}
use Rattle.outline_reader.specs.declared.fault.OutlineFault.TheVariants.{Unexpected, MissingEnd, TooMany, NoMemory}
use Rattle.outline_reader.specs.declared.limits.Counts.{Counts}
use Rattle.outline_reader.specs.declared.machine.Awaited.{Awaited}
use Rattle.outline_reader.specs.declared.symbols.Role.{Role}
use Rattle.outline_reader.specs.Sorts.{sort_of}
use Rattle.outline_reader.specs.Derives.{level, whole}
use Rattle.outline_reader.specs.Limits.{nothing_counted, counted}
use Rattle.outline_reader.specs.Machine.{take}
use Rattle.outline_reader.specs.Reading.{Answer, read, roles, with_roles, first_fault}
use Rattle.outline_reader.specs.Outline.{IsFault, IsOutline}
use Rattle.outline_reader.specs.declared.parts.Outline.{Outline}
use Rattle.outline_reader.specs.declared.parts.Portion.{Portion}
use Rattle.outline_reader.specs.Plain.{PlainPortion, plain_portion, outlined, HasPortions}
use Rattle.outline_reader.specs.Views.{Piece, portion_view}
use Rattle.outline_reader.proofs.UniqueLemmas.{portions_unique}
use Rattle.outline_reader.proofs.ReadingLemmas.{seen_as}
use Rattle.outline_reader.proofs.AnswerLemmas.{answer_is_read}
use Rattle.outline_reader.proofs.FieldLemmas.{placeless, all_placeless}
use Rattle.sy_base.specs.declared.fault.Code.{Code}
use Rattle.sy_base.specs.declared.fault.Code.TheVariants as variant
use Rattle.sy_base.specs.CodeName.{code_name}
use Rattle.user_grammar.specs.Fault.{IsFirstFault as IsFirstOfGrammar}
use Rattle.user_grammar.specs.Grammar.{IsSignatureOf}
use Rattle.user_grammar.specs.Laws.{FaultyFilesHaveNoSignature}
use Rattle.sy_base.specs.declared.fault.Fault.{Fault}
use Rattle.sy_base.specs.declared.fault.Refusal.{Refusal}
use Rattle.sy_base.specs.declared.fault.Refusal.TheVariants.{Refused, NoMemory as OutOfMemory}
use Rattle.binding_terms.specs.Signature.{Signature}
use Rattle.proof_check.specs.File.{IsRightFile, IsSomeRight, IsGrammarFile}
use Rattle.proof_check.specs.NotBuilt.{IsNotBuilt, by_its_token, of_a_judgment, HasNotBuilt, IsFirstNotBuilt}
use Rattle.proof_check.specs.Faults.{IsToldAt, IsToldOn, IsOutlineTold, HasOutlineFault, IsFirstFault, of_tokens, of_outline, of_not_built, of_grammar, fault_place, fault_code, HasNoFaultYet, IsRefusedWith}
use Rattle.proof_check.proofs.TokenLemmas.{one_first_not_built}
use Rattle.proof_check.proofs.GrammarLemmas.{one_grammar_fault}

-- ---- the answer of an outline does not depend on where the tokens lie

numbered : ℕ → Kind
numbered zero = kind.Word
numbered (suc zero) = kind.Symbol
numbered (suc (suc zero)) = kind.Punct
numbered (suc (suc (suc zero))) = kind.Bar
numbered (suc (suc (suc (suc n)))) = kind.Quoted

numbered_kind : (one : Kind) → numbered (kind_number one) ≡ one
unfolding numbered
numbered_kind kind.Word = refl
numbered_kind kind.Symbol = refl
numbered_kind kind.Punct = refl
numbered_kind kind.Bar = refl
numbered_kind kind.Quoted = refl

-- the token with this view, and its text at no place
of_view : PlainToken → Token
of_view token = record { kind = numbered token.kind; text = record { ref_ptr = (0, 0); now = token.text }; span = record { from = token.from; to = token.to }; line = token.line }

placeless_of_view : (token : Token) → placeless token ≡ of_view (token_view token)
unfolding of_view
placeless_of_view token =
    ap (λ one. record { kind = one; text = record { ref_ptr = (0, 0); now = token.text.now }; span = token.span; line = token.line }) (sym (numbered_kind token.kind))

all_placeless_of_view : (tokens : List Token) → all_placeless tokens ≡ map of_view (map token_view tokens)
all_placeless_of_view [] = refl
all_placeless_of_view (token ∷ tokens) = λ i. placeless_of_view token i ∷ all_placeless_of_view tokens i

read_placeless : (place : ℕ) (awaited : List Awaited) (counts : Counts) (before : Option ℕ) (tokens : List Token) →
    read place awaited counts before (all_placeless tokens) ≡ read place awaited counts before tokens
unfolding read sort_of
read_placeless place awaited counts before [] = refl
read_placeless place awaited counts before (token ∷ tokens) =
    found_same (λ taken. read_placeless (place + 1) taken.1 (counted counts taken.0 token.line (level taken.1)) (Some token.line) tokens) (take awaited (seen_as before token))
  where
    after : List Token → Option (Role × List Awaited) → Answer
    after rest None = Err (first_fault counts token.line (Unexpected place))
    after rest (Some taken) = with_roles (taken.0 ∷ []) (read (place + 1) taken.1 (counted counts taken.0 token.line (level taken.1)) (Some token.line) rest)

    found_same : ((taken : Role × List Awaited) → read (place + 1) taken.1 (counted counts taken.0 token.line (level taken.1)) (Some token.line) (all_placeless tokens) ≡ read (place + 1) taken.1 (counted counts taken.0 token.line (level taken.1)) (Some token.line) tokens) →
        (found : Option (Role × List Awaited)) → after (all_placeless tokens) found ≡ after tokens found
    found_same below None = refl
    found_same below (Some taken) = ap (with_roles (taken.0 ∷ [])) (below taken)

roles_placeless : (tokens : List Token) → roles (all_placeless tokens) ≡ roles tokens
roles_placeless tokens = read_placeless 0 whole nothing_counted None tokens

-- tokens with equal views have the same answer
same_roles : (tokens others : List Token) → map token_view tokens ≡ map token_view others → roles tokens ≡ roles others
same_roles tokens others same_views =
    let same : all_placeless tokens ≡ all_placeless others =
    all_placeless_of_view tokens ∙ ap (map of_view) same_views ∙ sym (all_placeless_of_view others) in
    sym (roles_placeless tokens) ∙ ap roles same ∙ roles_placeless others

err_one : (x y : OutlineFault) → (let a : Answer = Err x in a) ≡ Err y → x ≡ y
err_one x y e = cc

-- tokens with equal views have one fault at most
one_fault : (tokens others : List Token) (fault other : OutlineFault) → map token_view tokens ≡ map token_view others → IsFault tokens fault → IsFault others other → fault ≡ other
one_fault tokens others fault other same is other_is =
    err_one fault other (sym (answer_is_read tokens (Err fault) is) ∙ same_roles tokens others same ∙ answer_is_read others (Err other) other_is)

-- ---- a source has one first fault at most

abbrev AreSame : ℕ → ℕ → (spelling others detail others_detail : List ℕ) → Type 0
AreSame line other spelling others detail others_detail = (line ≡ other) × (spelling ≡ others) × (detail ≡ others_detail)

same_at : (source : List ℕ) (place : ℕ) (code : Code) (line other : ℕ) (spelling others detail others_detail : List ℕ) →
    IsToldAt source place code line spelling detail → IsToldAt source place code other others others_detail → AreSame line other spelling others detail others_detail
same_at source place code line other spelling others detail others_detail one two =
    (one.line_is ∙ sym two.line_is, one.code_is ∙ sym two.code_is, one.detail_is ∙ sym two.detail_is)

same_on : (at : ℕ) (code : Code) (words : List ℕ) (line other : ℕ) (spelling others detail others_detail : List ℕ) →
    IsToldOn at code words line spelling detail → IsToldOn at code words other others others_detail → AreSame line other spelling others detail others_detail
same_on at code words line other spelling others detail others_detail one two =
    (one.line_is ∙ sym two.line_is, one.code_is ∙ sym two.code_is, one.detail_is ∙ sym two.detail_is)

same_unexpected : (found : Option PlainToken) (line other : ℕ) (spelling others detail others_detail : List ℕ) →
    MatchOption found ⊥ (λ token. IsToldOn token.line variant.Unexpected token.text line spelling detail) →
    MatchOption found ⊥ (λ token. IsToldOn token.line variant.Unexpected token.text other others others_detail) → AreSame line other spelling others detail others_detail
same_unexpected None line other spelling others detail others_detail one two = absurd one
same_unexpected (Some token) line other spelling others detail others_detail one two = same_on _ _ _ _ _ _ _ _ _ one two

same_outline : (tokens : List PlainToken) (fault : OutlineFault) (line other : ℕ) (spelling others detail others_detail : List ℕ) →
    IsOutlineTold tokens fault line spelling detail → IsOutlineTold tokens fault other others others_detail → AreSame line other spelling others detail others_detail
same_outline tokens (Unexpected place) line other spelling others detail others_detail one two =
    same_unexpected (slice_get tokens place) line other spelling others detail others_detail one two
same_outline tokens (MissingEnd at part) line other spelling others detail others_detail one two = same_on _ _ _ _ _ _ _ _ _ one two
same_outline tokens (TooMany at limit) line other spelling others detail others_detail one two = same_on _ _ _ _ _ _ _ _ _ one two
same_outline tokens NoMemory line other spelling others detail others_detail one two = absurd one

-- ---- what has tokens, an outline or portions

-- the tokens of a source that has a place that is not built
tokens_of_not_built : (source : List ℕ) (token : PlainToken) → IsNotBuilt source token → (tokens : List PlainToken) × AreTokens source tokens
tokens_of_not_built source token (by_its_token tokens front rest are split at) = (tokens, are)
tokens_of_not_built source token (of_a_judgment portions has declares first) = (map token_view has.tokens, has.are_tokens)

ok_is_no_err : (x : List Role) (y : OutlineFault) → (let a : Answer = Ok x in a) ≡ Err y → ⊥
ok_is_no_err x y e = cc

-- tokens with a fault of their outline have no outline
no_outline : (tokens others : List Token) (fault : OutlineFault) (pieces : List Piece) → map token_view tokens ≡ map token_view others → IsFault tokens fault → IsOutline others pieces → ⊥
no_outline tokens others fault pieces same is outline =
    ok_is_no_err outline.0 fault (sym (answer_is_read others (Ok outline.0) outline.1) ∙ sym (same_roles tokens others same) ∙ answer_is_read tokens (Err fault) is)

-- a source with portions has no fault of its outline
pub portions_exclude : (source : List ℕ) (portions : List PlainPortion) (line : ℕ) (spelling detail : List ℕ) → HasPortions source portions → HasOutlineFault source line spelling detail → ⊥
portions_exclude source portions line spelling detail has fault =
    no_outline fault.tokens has.tokens fault.fault has.pieces (tokens_unique source _ _ fault.are_tokens has.are_tokens) fault.is_fault has.outline

-- an outline of the tokens of a source gives its portions
pub portions_of : (source : List ℕ) (tokens : List Token) → AreTokens source (map token_view tokens) → (outline : Outline) → IsOutline tokens (map portion_view outline.parts.items) →
    HasPortions source (outlined outline)
portions_of source tokens are outline is =
    record { tokens = tokens; are_tokens = are; pieces = map portion_view outline.parts.items; outline = is; plain = plain_twice outline.parts.items }
  where
    plain_twice : (parts : List Portion) → map (λ portion. plain_portion (portion_view portion)) parts ≡ map plain_portion (map portion_view parts)
    plain_twice [] = refl
    plain_twice (part ∷ parts) = ap (λ rest. plain_portion (portion_view part) ∷ rest) (plain_twice parts)

-- ---- one first fault

pub same_outline_fault : (source : List ℕ) (line other : ℕ) (spelling others detail others_detail : List ℕ) → HasOutlineFault source line spelling detail → HasOutlineFault source other others others_detail →
    AreSame line other spelling others detail others_detail
same_outline_fault source line other spelling others detail others_detail one two =
    let same : map token_view one.tokens ≡ map token_view two.tokens = tokens_unique source _ _ one.are_tokens two.are_tokens in
    let same_fault : one.fault ≡ two.fault = one_fault one.tokens two.tokens one.fault two.fault same one.is_fault two.is_fault in
    same_outline (map token_view one.tokens) one.fault line other spelling others detail others_detail one.told
    (subst (λ (ts : List PlainToken). IsOutlineTold ts one.fault other others others_detail) (sym same)
    (subst (λ (f : OutlineFault). IsOutlineTold (map token_view two.tokens) f other others others_detail) (sym same_fault) two.told))

same_not_built : (source : List ℕ) (one two : PlainToken) (line other : ℕ) (spelling others detail others_detail : List ℕ) → IsFirstNotBuilt source one → IsFirstNotBuilt source two →
    IsToldOn one.line variant.NotBuilt one.text line spelling detail → IsToldOn two.line variant.NotBuilt two.text other others others_detail → AreSame line other spelling others detail others_detail
same_not_built source one two line other spelling others detail others_detail first second told other_told =
    let same = one_first_not_built source one two first second in
    same_on one.line variant.NotBuilt one.text line other spelling others detail others_detail told
    (subst (λ (t : PlainToken). IsToldOn t.line variant.NotBuilt t.text other others others_detail) (sym same) other_told)

not_before : (a b : ℕ) → a ≤ b → b < a → ⊥
not_before a b le lt = (omega arith)

-- a source with tokens has no fault of its tokens
none_of_tokens : {A : Type 0} (source : List ℕ) (fault : TokenFault) (tokens : List PlainToken) → AreTokens source tokens → HasFault source fault → A
none_of_tokens source fault tokens are has = absurd (tokens_exclude source tokens fault are has)

first_is_one : (source : List ℕ) (line other : ℕ) (spelling others detail others_detail : List ℕ) →
    IsFirstFault source line spelling detail → IsFirstFault source other others others_detail → AreSame line other spelling others detail others_detail
first_is_one source line other spelling others detail others_detail (of_tokens fault has told) (of_tokens second has_second told_second) =
    same_at source (fault_place fault) (fault_code fault) line other spelling others detail others_detail told
    (subst (λ (f : TokenFault). IsToldAt source (fault_place f) (fault_code f) other others others_detail) (sym (fault_unique source fault second has has_second)) told_second)
first_is_one source line other spelling others detail others_detail (of_tokens fault has told) (of_outline second first) = none_of_tokens source fault _ second.are_tokens has
first_is_one source line other spelling others detail others_detail (of_tokens fault has told) (of_not_built token first before second) =
    let tokens = tokens_of_not_built source token first.is in none_of_tokens source fault tokens.0 tokens.1 has
first_is_one source line other spelling others detail others_detail (of_tokens fault has told) (of_grammar portions code has_portions built first is) =
    none_of_tokens source fault _ has_portions.are_tokens has
first_is_one source line other spelling others detail others_detail (of_outline one first) (of_tokens fault has told) = none_of_tokens source fault _ one.are_tokens has
first_is_one source line other spelling others detail others_detail (of_outline one first) (of_outline two second) =
    same_outline_fault source line other spelling others detail others_detail one two
first_is_one source line other spelling others detail others_detail (of_outline one first) (of_not_built token second before told) =
    absurd (not_before line token.line (first token second.is) (before line spelling detail one))
first_is_one source line other spelling others detail others_detail (of_outline one first) (of_grammar portions code has_portions built second is) =
    absurd (portions_exclude source portions line spelling detail has_portions one)
first_is_one source line other spelling others detail others_detail (of_not_built token first before second) (of_tokens fault has told) =
    let tokens = tokens_of_not_built source token first.is in none_of_tokens source fault tokens.0 tokens.1 has
first_is_one source line other spelling others detail others_detail (of_not_built token second before told) (of_outline one first) =
    absurd (not_before other token.line (first token second.is) (before other others others_detail one))
first_is_one source line other spelling others detail others_detail (of_not_built token first before told) (of_not_built another second behind other_told) =
    same_not_built source token another line other spelling others detail others_detail first second told other_told
first_is_one source line other spelling others detail others_detail (of_not_built token first before told) (of_grammar portions code has_portions built second is) =
    absurd (built (record { token = token; is = first.is }))
first_is_one source line other spelling others detail others_detail (of_grammar portions code has_portions built first is) (of_tokens fault has told) =
    none_of_tokens source fault _ has_portions.are_tokens has
first_is_one source line other spelling others detail others_detail (of_grammar portions code has_portions built second is) (of_outline one first) =
    absurd (portions_exclude source portions other others others_detail has_portions one)
first_is_one source line other spelling others detail others_detail (of_grammar portions code has_portions built second is) (of_not_built token first before told) =
    absurd (built (record { token = token; is = first.is }))
first_is_one source line other spelling others detail others_detail (of_grammar portions code has built first is) (of_grammar other_portions other_code other_has other_built second other_is) =
    let same : portions ≡ other_portions = portions_unique source portions other_portions has other_has in
    let told = one_grammar_fault source portions has line other code other_code detail others_detail first
    (subst (λ (ps : List PlainPortion). IsFirstOfGrammar ps other other_code others_detail) (sym same) second) in
    (told.0, is ∙ ap code_name told.1 ∙ sym other_is, told.2)

-- ---- no first fault

-- a source whose grammar has no fault either has none
pub no_fault_yet : (source : List ℕ) (portions : List PlainPortion) (sig : Signature) → FaultyFilesHaveNoSignature → HasPortions source portions → (HasNotBuilt source → ⊥) →
    IsSignatureOf portions sig → HasNoFaultYet source
no_fault_yet source portions sig law has built is line spelling detail (of_tokens fault has_fault told) = none_of_tokens source fault _ has.are_tokens has_fault
no_fault_yet source portions sig law has built is line spelling detail (of_outline fault first) = portions_exclude source portions line spelling detail has fault
no_fault_yet source portions sig law has built is line spelling detail (of_not_built token first before told) = built (record { token = token; is = first.is })
no_fault_yet source portions sig law has built is line spelling detail (of_grammar others code others_has none first named) =
    let same : others ≡ portions = portions_unique source others portions others_has has in
    law others sig code first.point detail (subst (λ (ps : List PlainPortion). IsSignatureOf ps sig) (sym same) is) first.is_first.stands

pub told_signature : (source : List ℕ) (portions : List PlainPortion) (sig : Signature) → FaultyFilesHaveNoSignature → HasPortions source portions → (HasNotBuilt source → ⊥) →
    IsSignatureOf portions sig → IsSignatureOf portions sig × HasNoFaultYet source
told_signature source portions sig law has built is = (is, no_fault_yet source portions sig law has built is)

-- a source with an outline is refused for its first token that is not built
pub told_not_built : (source : List ℕ) (portions : List PlainPortion) (token : PlainToken) (line : ℕ) (spelling detail : List ℕ) → HasPortions source portions → IsFirstNotBuilt source token →
    IsToldOn token.line variant.NotBuilt token.text line spelling detail → IsFirstFault source line spelling detail
told_not_built source portions token line spelling detail has first told =
    of_not_built token first (λ other others words fault. absurd (portions_exclude source portions other others words has fault)) told

-- a source whose grammar is refused is refused for the same
pub refused_with : (source : List ℕ) (portions : List PlainPortion) (answer : Result Signature Refusal) → HasPortions source portions → (HasNotBuilt source → ⊥) →
    ((fault : Fault) → IsErrOf answer (Refused fault) → IsFirstOfGrammar portions fault.line fault.code fault.detail) → IfErr answer (IsRefusedWith source)
refused_with source portions (Ok sig) has built is = tt
refused_with source portions (Err (Refused fault)) has built is = of_grammar portions fault.code has built (is fault refl) refl
refused_with source portions (Err OutOfMemory) has built is = tt

-- a right file has no first fault
right_has_none : (source : List ℕ) → FaultyFilesHaveNoSignature → (HasNotBuilt source → ⊥) → IsSomeRight source ⊎ IsGrammarFile source → HasNoFaultYet source
right_has_none source law built (inl some) = no_fault_yet source some.right.portions some.th.sig law some.right.has built some.right.file.signature
right_has_none source law built (inr alone) = no_fault_yet source alone.portions alone.sig law alone.has built alone.signature

pub faulty_is_wrong : (source : List ℕ) (line : ℕ) (spelling detail : List ℕ) → FaultyFilesHaveNoSignature → IsFirstFault source line spelling detail → IsRightFile source → ⊥
faulty_is_wrong source line spelling detail law first right = right_has_none source law right.built right.right line spelling detail first
