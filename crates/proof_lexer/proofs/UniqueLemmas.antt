-- A source has at most one list of tokens or one fault.
use Rattle.std.proofs.Common.{◌≡◌, ℕ, List, [], ◌∷◌, get_or, sym, ap, ◌∙◌, subst, arith}
use Rattle.sy_base.specs.Tokens.{PlainToken, Spot, start, size, Stretch, IsDecoded, AreTokens, HasOpenComment, HasOpenQuote, not_utf8, open_comment, open_quote}
use Rattle.sy_base.specs.TokenLaws.{TokensAreUnique, FaultIsUnique, TokensExcludeFault}
use Rattle.sy_base.proofs.StretchLemmas.{Stretch-same, IsFinal, IsFinal-end, IsFinal-comment, IsFinal-quote, IsDecoded-same}

-- How far the characters of a source lead.
record LeadsTo (source : List ℕ) (tokens : List PlainToken) (end : Spot) : Type 0 where
  pub characters : List ℕ
  pub stray : List ℕ
  pub decoded : IsDecoded source characters stray
  pub stretch : Stretch (start characters) tokens end
  pub final : IsFinal end.rest

leads_same : (source : List ℕ) (ts us : List PlainToken) (a b : Spot) → LeadsTo source ts a → LeadsTo source us b → (ts ≡ us) × (a ≡ b)
leads_same source ts us a b first second =
    let same = (IsDecoded-same source second.characters first.characters second.stray first.stray second.decoded first.decoded).0 in
    Stretch-same (start first.characters) a b ts us first.stretch
    (subst (λ (cs : List ℕ). Stretch (start cs) us b) same second.stretch) first.final second.final

tokens_lead : (source : List ℕ) (tokens : List PlainToken) (are : AreTokens source tokens) → LeadsTo source tokens are.end
tokens_lead source tokens are = record {
  characters = are.characters;
  stray = [];
  decoded = are.decoded;
  stretch = are.stretch;
  final = IsFinal-end are.end.rest are.at_end;
}

comment_leads : (source : List ℕ) (place : ℕ) (has : HasOpenComment source place) → LeadsTo source has.before has.spot
comment_leads source place has = record {
  characters = has.characters;
  stray = has.stray;
  decoded = has.decoded;
  stretch = has.stretch;
  final = IsFinal-comment has.spot.rest has.after has.stray has.opens has.no_end;
}

quote_leads : (source : List ℕ) (place : ℕ) (has : HasOpenQuote source place) → LeadsTo source has.before has.spot
quote_leads source place has = record {
  characters = has.characters;
  stray = has.stray;
  decoded = has.decoded;
  stretch = has.stretch;
  final = IsFinal-quote has.spot.rest has.after has.opens has.no_text;
}

pub tokens_unique : TokensAreUnique
tokens_unique source tokens others are other_are =
    (leads_same source tokens others are.end other_are.end (tokens_lead source tokens are) (tokens_lead source others other_are)).0

-- an end where nothing is left is none where something stands
something_left : (c : ℕ) (cs rest : List ℕ) → rest ≡ [] → rest ≡ c ∷ cs → ⊥
something_left c cs rest empty some = cc

first_left : (c d : ℕ) (cs ds rest : List ℕ) → rest ≡ c ∷ cs → rest ≡ d ∷ ds → c ≡ d
first_left c d cs ds rest first second = ap (λ l. get_or l 0 0) (sym first ∙ second)

pub tokens_exclude : TokensExcludeFault
tokens_exclude source tokens (not_utf8 place) are has =
    has.some (IsDecoded-same source has.characters are.characters has.stray [] has.decoded are.decoded).1
tokens_exclude source tokens (open_comment place) are has =
    let same = (leads_same source tokens has.before are.end has.spot (tokens_lead source tokens are) (comment_leads source place has)).1 in
    something_left _ _ are.end.rest are.at_end (ap (λ s. s.rest) same ∙ has.opens)
tokens_exclude source tokens (open_quote place) are has =
    let same = (leads_same source tokens has.before are.end has.spot (tokens_lead source tokens are) (quote_leads source place has)).1 in
    something_left _ _ are.end.rest are.at_end (ap (λ s. s.rest) same ∙ has.opens)

comment_and_quote : (source : List ℕ) (place other : ℕ) → HasOpenComment source place → HasOpenQuote source other → ⊥
comment_and_quote source place other has quote =
    let same = (leads_same source has.before quote.before has.spot quote.spot (comment_leads source place has) (quote_leads source other quote)).1 in
    absurd (omega (arith, first_left 47 34 _ _ has.spot.rest has.opens (ap (λ s. s.rest) same ∙ quote.opens)))

pub fault_unique : FaultIsUnique
fault_unique source (not_utf8 place) (not_utf8 other) has other_has =
    let same = (IsDecoded-same source has.characters other_has.characters has.stray other_has.stray has.decoded other_has.decoded).0 in
    ap not_utf8 (has.there ∙ ap size same ∙ sym other_has.there)
fault_unique source (not_utf8 place) (open_comment other) has other_has = absurd (has.no_open_comment other other_has)
fault_unique source (not_utf8 place) (open_quote other) has other_has = absurd (has.no_open_quote other other_has)
fault_unique source (open_comment place) (not_utf8 other) has other_has = absurd (other_has.no_open_comment place has)
fault_unique source (open_comment place) (open_comment other) has other_has =
    let same = (leads_same source has.before other_has.before has.spot other_has.spot (comment_leads source place has) (comment_leads source other other_has)).1 in
    ap open_comment (has.there ∙ ap (λ s. s.place) same ∙ sym other_has.there)
fault_unique source (open_comment place) (open_quote other) has other_has = absurd (comment_and_quote source place other has other_has)
fault_unique source (open_quote place) (not_utf8 other) has other_has = absurd (other_has.no_open_quote place has)
fault_unique source (open_quote place) (open_comment other) has other_has = absurd (comment_and_quote source other place other_has has)
fault_unique source (open_quote place) (open_quote other) has other_has =
    let same = (leads_same source has.before other_has.before has.spot other_has.spot (quote_leads source place has) (quote_leads source other other_has)).1 in
    ap open_quote (has.there ∙ ap (λ s. s.place) same ∙ sym other_has.there)
