-- A source has portions in one way at most.
use Rattle.std.proofs.Common.{◌≡◌, ℕ, zero, suc, ◌+◌, List, [], ◌∷◌, map, Option, Some, None, Ok, Err, refl, sym, ◌∙◌, ap}
use Rattle.sy_base.specs.Tokens.{PlainToken}
use Rattle.proof_lexer.specs.View.{kind_number, token_view}
use Rattle.proof_lexer.specs.declared.token.Kind.{Kind}
use Rattle.proof_lexer.specs.declared.token.Kind.TheVariants as kind
use Rattle.proof_lexer.specs.declared.token.Token.{Token}
use Rattle.proof_lexer.proofs.UniqueLemmas.{tokens_unique}
use Rattle.outline_reader.specs.declared.fault.OutlineFault.TheVariants.{Unexpected}
use Rattle.outline_reader.specs.declared.limits.Counts.{Counts}
use Rattle.outline_reader.specs.declared.machine.Awaited.{Awaited}
use Rattle.outline_reader.specs.declared.symbols.Role.{Role}
use Rattle.outline_reader.specs.Sorts.{sort_of}
use Rattle.outline_reader.specs.Derives.{level, whole}
use Rattle.outline_reader.specs.Limits.{nothing_counted, counted}
use Rattle.outline_reader.specs.Machine.{take}
use Rattle.outline_reader.specs.Reading.{Answer, read, roles, with_roles, first_fault}
use Rattle.outline_reader.specs.Portions.{portions}
use Rattle.outline_reader.specs.Plain.{plain_portion}
use Rattle.outline_reader.specs.Laws.{PortionsAreUnique, TokensAreOutlined}
use Rattle.outline_reader.proofs.ReadingLemmas.{seen_as}
use Rattle.outline_reader.proofs.AnswerLemmas.{answer_is_read}
use Rattle.outline_reader.proofs.OutlineLemmas as one_outline
use Rattle.outline_reader.proofs.FieldLemmas.{placeless, all_placeless}
use Rattle.outline_reader.proofs.PortionLemmas.{plain_portions}

-- ---- tokens with one view are the same but for their places

numbered : ℕ → Kind
numbered zero = kind.Word
numbered (suc zero) = kind.Symbol
numbered (suc (suc zero)) = kind.Punct
numbered (suc (suc (suc zero))) = kind.Bar
numbered (suc (suc (suc (suc n)))) = kind.Quoted

numbered_kind : (one : Kind) → numbered (kind_number one) ≡ one
unfolding numbered
numbered_kind kind.Word = refl
numbered_kind kind.Symbol = refl
numbered_kind kind.Punct = refl
numbered_kind kind.Bar = refl
numbered_kind kind.Quoted = refl

-- the token with this view, and its text at no place
of_view : PlainToken → Token
of_view token = record { kind = numbered token.kind; text = record { ref_ptr = (0, 0); now = token.text }; span = record { from = token.from; to = token.to }; line = token.line }

placeless_of_view : (token : Token) → placeless token ≡ of_view (token_view token)
unfolding of_view
placeless_of_view token =
    ap (λ one. record { kind = one; text = record { ref_ptr = (0, 0); now = token.text.now }; span = token.span; line = token.line }) (sym (numbered_kind token.kind))

all_placeless_of_view : (tokens : List Token) → all_placeless tokens ≡ map of_view (map token_view tokens)
all_placeless_of_view [] = refl
all_placeless_of_view (token ∷ tokens) = λ i. placeless_of_view token i ∷ all_placeless_of_view tokens i

-- ---- what is read does not depend on where the tokens lie

read_placeless : (place : ℕ) (awaited : List Awaited) (counts : Counts) (before : Option ℕ) (tokens : List Token) →
    read place awaited counts before (all_placeless tokens) ≡ read place awaited counts before tokens
unfolding read sort_of
read_placeless place awaited counts before [] = refl
read_placeless place awaited counts before (token ∷ tokens) =
    found_same (λ taken. read_placeless (place + 1) taken.1 (counted counts taken.0 token.line (level taken.1)) (Some token.line) tokens) (take awaited (seen_as before token))
  where
    after : List Token → Option (Role × List Awaited) → Answer
    after rest None = Err (first_fault counts token.line (Unexpected place))
    after rest (Some taken) = with_roles (taken.0 ∷ []) (read (place + 1) taken.1 (counted counts taken.0 token.line (level taken.1)) (Some token.line) rest)

    found_same : ((taken : Role × List Awaited) → read (place + 1) taken.1 (counted counts taken.0 token.line (level taken.1)) (Some token.line) (all_placeless tokens) ≡ read (place + 1) taken.1 (counted counts taken.0 token.line (level taken.1)) (Some token.line) tokens) →
        (found : Option (Role × List Awaited)) → after (all_placeless tokens) found ≡ after tokens found
    found_same below None = refl
    found_same below (Some taken) = ap (with_roles (taken.0 ∷ [])) (below taken)

roles_placeless : (tokens : List Token) → roles (all_placeless tokens) ≡ roles tokens
roles_placeless tokens = read_placeless 0 whole nothing_counted None tokens

-- tokens with equal views are the same but for their places
all_same : (tokens others : List Token) → map token_view tokens ≡ map token_view others → all_placeless tokens ≡ all_placeless others
all_same tokens others same_views = all_placeless_of_view tokens ∙ ap (map of_view) same_views ∙ sym (all_placeless_of_view others)

-- and have the same roles
pub same_roles : (tokens others : List Token) → map token_view tokens ≡ map token_view others → roles tokens ≡ roles others
same_roles tokens others same_views = sym (roles_placeless tokens) ∙ ap roles (all_same tokens others same_views) ∙ roles_placeless others

pub tokens_outlined : TokensAreOutlined
tokens_outlined source ones tokens has are =
    let same_views : map token_view has.tokens ≡ map token_view tokens = tokens_unique source _ _ has.are_tokens are in
    let told : roles has.tokens ≡ Ok has.outline.0 = answer_is_read has.tokens (Ok has.outline.0) has.outline.1 in
    let pieces = portions has.outline.0 tokens in
    (pieces, (one_outline.outlined tokens has.outline.0 pieces (sym (same_roles has.tokens tokens same_views) ∙ told) refl).0)

pub portions_unique : PortionsAreUnique
portions_unique source ones others first second =
    let same_views : map token_view first.tokens ≡ map token_view second.tokens = tokens_unique source _ _ first.are_tokens second.are_tokens in
    let same = all_same first.tokens second.tokens same_views in
    let first_roles : roles first.tokens ≡ Ok first.outline.0 = answer_is_read first.tokens (Ok first.outline.0) first.outline.1 in
    let second_roles : roles second.tokens ≡ Ok second.outline.0 = answer_is_read second.tokens (Ok second.outline.0) second.outline.1 in
    let one_list : first.outline.0 ≡ second.outline.0 =
    one_outline.ok_one _ _ (sym first_roles ∙ same_roles first.tokens second.tokens same_views ∙ second_roles) in
    first.plain
    ∙ ap (map plain_portion) first.outline.2
    ∙ sym (plain_portions first.outline.0 first.tokens)
    ∙ (λ i. map plain_portion (portions (one_list i) (same i)))
    ∙ plain_portions second.outline.0 second.tokens
    ∙ sym (ap (map plain_portion) second.outline.2)
    ∙ sym second.plain
