-- A source has its one fault, or portions.
use Rattle.std.proofs.Common.{◌≡◌, ◌⊎◌, List, map, Ok, Err, inl, inr, refl, sym, ◌∙◌, ap, subst}
use Rattle.proof_lexer.specs.View.{token_view}
use Rattle.proof_lexer.specs.declared.token.Token.{Token}
use Rattle.proof_lexer.proofs.UniqueLemmas.{tokens_unique, fault_unique, tokens_exclude}
use Rattle.outline_reader.specs.declared.fault.OutlineFault.{OutlineFault}
use Rattle.outline_reader.specs.Reading.{Answer, roles}
use Rattle.outline_reader.specs.Portions.{portions}
use Rattle.outline_reader.specs.Outline.{IsAnswer}
use Rattle.outline_reader.specs.Plain.{PlainPortion, plain_portion, HasPortions, HasFaultyOutline, of_tokens, of_outline}
use Rattle.outline_reader.specs.Laws.{SourceFaultIsUnique, PortionsExcludeFault, PortionsOrFault, FaultIsOfViews}
use Rattle.outline_reader.proofs.AnswerLemmas.{answer_is_read, read_is_answer}
use Rattle.outline_reader.proofs.OutlineLemmas.{ok_not_err, err_one}
use Rattle.outline_reader.proofs.UniqueLemmas.{same_roles}

-- tokens with equal views have the same answer
same_answer : (tokens others : List Token) (answer : Answer) → map token_view tokens ≡ map token_view others → IsAnswer tokens answer → roles others ≡ answer
same_answer tokens others answer same is = sym (same_roles tokens others same) ∙ answer_is_read tokens answer is

pub fault_is_of_views : FaultIsOfViews
fault_is_of_views tokens others fault same is =
    subst (λ (answer : Answer). IsAnswer others answer) (same_answer tokens others (Err fault) same is) (read_is_answer others)

pub source_fault_unique : SourceFaultIsUnique
source_fault_unique source (of_tokens one) (of_tokens two) first second = ap of_tokens (fault_unique source one two first second)
source_fault_unique source (of_tokens one) (of_outline two) first second = absurd (tokens_exclude source _ one second.are_tokens first)
source_fault_unique source (of_outline one) (of_tokens two) first second = absurd (tokens_exclude source _ two first.are_tokens second)
source_fault_unique source (of_outline one) (of_outline two) first second =
    let same : map token_view first.tokens ≡ map token_view second.tokens = tokens_unique source _ _ first.are_tokens second.are_tokens in
    ap of_outline (err_one one two (sym (same_answer first.tokens second.tokens (Err one) same first.is_fault) ∙ answer_is_read second.tokens (Err two) second.is_fault))

pub portions_exclude_fault : PortionsExcludeFault
portions_exclude_fault source found (of_tokens fault) has is = tokens_exclude source _ fault has.are_tokens is
portions_exclude_fault source found (of_outline fault) has is =
    let same : map token_view is.tokens ≡ map token_view has.tokens = tokens_unique source _ _ is.are_tokens has.are_tokens in
    ok_not_err has.outline.0 fault (sym (answer_is_read has.tokens (Ok has.outline.0) has.outline.1) ∙ same_answer is.tokens has.tokens (Err fault) same is.is_fault)

pub portions_or_fault : PortionsOrFault
portions_or_fault source tokens are = which (roles tokens) (read_is_answer tokens)
  where
    which : (answer : Answer) → IsAnswer tokens answer → ((portions : List PlainPortion) × HasPortions source portions) ⊎ ((fault : OutlineFault) × HasFaultyOutline source fault)
    which (Ok found) is =
        let pieces = portions found tokens in
        inl (map plain_portion pieces, record { tokens = tokens; are_tokens = are; pieces = pieces; outline = (found, is, refl); plain = refl })
    which (Err fault) is = inr (fault, record { tokens = tokens; are_tokens = are; is_fault = is })
