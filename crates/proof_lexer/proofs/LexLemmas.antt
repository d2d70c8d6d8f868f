-- What a scan of a source has shown, at each turn and at its end.
use Rattle.std.proofs.Common.{◌≡◌, ℕ, zero, suc, ◌+◌, ◌<◌, ◌≤◌, false, List, [], ◌∷◌, ◌++◌, length, get_or, lit<, IsUtf8, refl, sym, ap, ◌∙◌, subst, arith, append-nil, length-append}
use Rattle.std.specs.Prelude.{◌==◌}
use Rattle.std.specs.Str.{chars, encode_utf8_all, StartsWithNoChar}
use Rattle.std.specs.Char.{encode_utf8}
use Rattle.std.proofs.lemmas.Str.{encode_ascii, length-encode, len_utf8_bounds}
use Rattle.std.proofs.lemmas.Bool.{both_ways, not-true, not_from_false, and_parts, and_from, and_right, false_from_ne_true, eqb-true, eq-eqb}
use Rattle.sy_base.specs.Tokens.{PlainToken, Piece, gap, token, begins, goes_on_comment, IsLongestRun, Spot, start, token_at, size, Stretch, nothing, first_gap, first_token, IsDecoded, AreTokens, HasOpenComment, HasOpenQuote, HasStrayByte}
use Rattle.sy_base.proofs.StretchLemmas.{Stretch-append, Stretch-same, IsFinal, IsFinal-end, IsFinal-comment, IsFinal-quote, IsDecoded-same, Stands-some}
use Rattle.proof_lexer.specs.Front.{StandsBefore, OpensComment, OpensQuote, GoesPast}
use Rattle.proof_lexer.proofs.TextLemmas.{chars-spell}

-- The tokens of a text up to a spot, where so many bytes are left.
pub record Scanned (text : List ℕ) (tokens : List PlainToken) (at : Spot) (left : ℕ) : Type 0 where
  pub stretch : Stretch (start (chars text)) tokens at
  pub sizes : at.place + left ≡ length text
  pub line : at.line ≤ at.place + 1

pub Scanned-start : (text : List ℕ) → Scanned text [] (start (chars text)) (length text)
Scanned-start text = record { stretch = nothing (start (chars text)); sizes = omega arith; line = omega arith }

size-some : (taken : List ℕ) → (taken ≡ [] → ⊥) → 0 < size taken
size-some [] some = absurd (some refl)
size-some (c ∷ taken) some = omega (arith, length-append (encode_utf8 c) (encode_utf8_all taken), length-encode c, (len_utf8_bounds c).0)

pub step_smaller : (at next : Spot) (left next_left : ℕ) (piece : Piece) → StandsBefore at.rest piece next.rest
    → GoesPast at next left next_left → next_left < left
step_smaller at next left next_left piece stands goes =
    let place : next.place ≡ at.place + size stands.taken = ap (λ s. s.place) (goes.spot stands.taken stands.parts) in
    omega (arith, goes.sizes, place, size-some stands.taken (Stands-some piece stands.taken next.rest stands.stands))

pub Scanned-gap : (text : List ℕ) (tokens : List PlainToken) (at next : Spot) (left next_left : ℕ) → Scanned text tokens at left
    → StandsBefore at.rest gap next.rest → GoesPast at next left next_left → Scanned text tokens next next_left
Scanned-gap text tokens at next left next_left scanned stands goes =
    let behind = goes.spot stands.taken stands.parts in
    let one : Stretch at [] next = first_gap at next stands.taken next.rest [] stands.parts stands.stands
    (subst (λ (s : Spot). Stretch s [] next) behind (nothing next)) in
    record {
      stretch = subst (λ (ts : List PlainToken). Stretch (start (chars text)) ts next) (append-nil tokens)
          (Stretch-append (start (chars text)) at next tokens [] scanned.stretch one);
      sizes = goes.sizes ∙ scanned.sizes;
      line = goes.line;
    }

pub Scanned-token : (text : List ℕ) (tokens : List PlainToken) (at next : Spot) (left next_left kind : ℕ) (word : List ℕ)
    → Scanned text tokens at left → IsUtf8 word → StandsBefore at.rest (token kind (chars word)) next.rest
    → GoesPast at next left next_left
    → Scanned text (tokens ++ record { kind = kind; text = word; from = at.place; to = next.place; line = at.line } ∷ []) next next_left
Scanned-token text tokens at next left next_left kind word scanned utf8 stands goes =
    let behind = goes.spot stands.taken stands.parts in
    let place : next.place ≡ at.place + size stands.taken = ap (λ s. s.place) behind in
    let one : Stretch at (token_at at kind (chars word) stands.taken ∷ []) next =
    first_token at next kind (chars word) stands.taken next.rest [] stands.parts stands.stands
    (subst (λ (s : Spot). Stretch s [] next) behind (nothing next)) in
    let same : token_at at kind (chars word) stands.taken ≡ record { kind = kind; text = word; from = at.place; to = next.place; line = at.line } =
    λ i. record { kind = kind; text = chars-spell word utf8 i; from = at.place; to = sym place i; line = at.line } in
    record {
      stretch = Stretch-append (start (chars text)) at next tokens _ scanned.stretch
          (subst (λ (t : PlainToken). Stretch at (t ∷ []) next) same one);
      sizes = goes.sizes ∙ scanned.sizes;
      line = goes.line;
    }

pub stands_at : (whole rest next : List ℕ) (piece : Piece) → next ≡ rest → StandsBefore whole piece rest → StandsBefore whole piece next
stands_at whole rest next piece same stands = subst (λ (l : List ℕ). StandsBefore whole piece l) (sym same) stands

-- whether `*/` stands among some bytes
pub run_over : (bytes : List ℕ) (k : ℕ) → suc k < length bytes → get_or bytes k 0 ≡ 42 → get_or bytes (suc k) 0 ≡ 47
    → IsLongestRun goes_on_comment bytes [] → ⊥
unfolding goes_on_comment
run_over [] k within star slash longest = absurd (omega arith)
run_over (c ∷ []) k within star slash longest = absurd (omega arith)
run_over (c ∷ d ∷ bytes) zero within star slash longest =
    both_ways _ (not-true _ longest.0) (and_from (c == 42) (d == 47) (eq-eqb c 42 star) (eq-eqb d 47 slash))
run_over (c ∷ d ∷ bytes) (suc k) within star slash longest = run_over (d ∷ bytes) k (omega arith) star slash longest.1

pub run_of_none : (bytes : List ℕ) → ((k : ℕ) → suc k < length bytes → get_or bytes k 0 ≡ 42 → get_or bytes (suc k) 0 ≡ 47 → ⊥)
    → IsLongestRun goes_on_comment bytes []
unfolding goes_on_comment
run_of_none [] none = tt
run_of_none (c ∷ []) none = (not_from_false _ (and_right (c == 42) false refl), tt)
run_of_none (c ∷ d ∷ bytes) none = (
  not_from_false _ (false_from_ne_true _ (λ both.
      let parts = and_parts (c == 42) (d == 47) both in none 0 (omega arith) (eqb-true c 42 parts.0) (eqb-true d 47 parts.1))),
  run_of_none (d ∷ bytes) (λ k within. none (suc k) (omega arith)),
)

module _ (source text stray : List ℕ) (decoded : IsDecoded source (chars text) stray) (utf8 : IsUtf8 text)
    (tokens : List PlainToken) (at : Spot) (stretch : Stretch (start (chars text)) tokens at) where
  -- a comment that is open elsewhere opens where the scan ended
  comment_at : (place : ℕ) → IsFinal at.rest → HasOpenComment source place
      → (after : List ℕ) × (at.rest ≡ 47 ∷ 42 ∷ after) × IsLongestRun goes_on_comment (after ++ stray) []
  comment_at place final other =
      let same = IsDecoded-same source other.characters (chars text) other.stray stray other.decoded decoded in
      let again = subst (λ (cs : List ℕ). Stretch (start cs) other.before other.spot) same.0 other.stretch in
      let ends = Stretch-same _ at other.spot tokens other.before stretch again final
      (IsFinal-comment other.spot.rest other.after other.stray other.opens other.no_end) in
      (other.after, ap (λ s. s.rest) ends.1 ∙ other.opens, subst (λ (l : List ℕ). IsLongestRun goes_on_comment (other.after ++ l) []) same.1 other.no_end)

  quote_at : (place : ℕ) → IsFinal at.rest → HasOpenQuote source place → (after : List ℕ) × (at.rest ≡ 34 ∷ after)
  quote_at place final other =
      let same = IsDecoded-same source other.characters (chars text) other.stray stray other.decoded decoded in
      let again = subst (λ (cs : List ℕ). Stretch (start cs) other.before other.spot) same.0 other.stretch in
      let ends = Stretch-same _ at other.spot tokens other.before stretch again final
      (IsFinal-quote other.spot.rest other.after other.opens other.no_text) in
      (other.after, ap (λ s. s.rest) ends.1 ∙ other.opens)

  pub tokens_at_end : at.rest ≡ [] → stray ≡ [] → AreTokens source tokens
  tokens_at_end at_end none = record {
    characters = chars text;
    decoded = subst (λ (l : List ℕ). IsDecoded source (chars text) l) none decoded;
    end = at;
    at_end = at_end;
    stretch = stretch;
  }

  pub stray_at_end : at.rest ≡ [] → (stray ≡ [] → ⊥) → HasStrayByte source (length text)
  stray_at_end at_end some = record {
    characters = chars text;
    stray = stray;
    decoded = decoded;
    some = some;
    there = ap length (sym (chars-spell text utf8));
    no_open_comment = λ place other. let there = (comment_at place (IsFinal-end at.rest at_end) other).1 in cc (at_end, there);
    no_open_quote = λ place other. let there = (quote_at place (IsFinal-end at.rest at_end) other).1 in cc (at_end, there);
  }

  final_comment : OpensComment at.rest → IsFinal at.rest
  final_comment opens =
      IsFinal-comment at.rest opens.after [] opens.opens
      (subst (λ (l : List ℕ). IsLongestRun goes_on_comment l []) (sym (append-nil opens.after)) opens.no_end)

  run_drop : (front back : List ℕ) → IsLongestRun goes_on_comment (front ++ back) [] → IsLongestRun goes_on_comment back []
  run_drop [] back longest = longest
  run_drop (c ∷ front) back longest = run_drop front back longest.1

  pub stray_in_comment : OpensComment at.rest → (IsLongestRun goes_on_comment stray [] → ⊥) → HasStrayByte source (length text)
  stray_in_comment opens closes = record {
    characters = chars text;
    stray = stray;
    decoded = decoded;
    some = λ none. closes (subst (λ (l : List ℕ). IsLongestRun goes_on_comment l []) (sym none) tt);
    there = ap length (sym (chars-spell text utf8));
    no_open_comment = λ place other.
        let there = comment_at place (final_comment opens) other in closes (run_drop there.0 stray there.2);
    no_open_quote = λ place other.
        let there = (quote_at place (final_comment opens) other).1 in
        absurd (omega (arith, ap (λ l. get_or l 0 0) (sym opens.opens ∙ there)));
  }

  -- no comment closes where a text meets bytes that begin with no character
  stray_first : (bytes : List ℕ) → StartsWithNoChar bytes → begins (λ d. d == 47) (bytes ++ []) ≡ false
  stray_first [] none = refl
  stray_first (d ∷ bytes) none =
      false_from_ne_true (d == 47) (λ is. none 47 bytes refl ((λ i. eqb-true d 47 is i ∷ bytes) ∙ ap (λ l. l ++ bytes) (sym (encode_ascii 47 (lit< tt)))))

  join : (after : List ℕ) → IsLongestRun goes_on_comment after [] → IsLongestRun goes_on_comment stray []
      → IsLongestRun goes_on_comment (after ++ stray) []
  unfolding goes_on_comment
  join [] longest stray_longest = stray_longest
  join (c ∷ []) longest stray_longest =
      (not_from_false _ (and_right (c == 42) _ (stray_first stray decoded.no_more)), stray_longest)
  join (c ∷ d ∷ after) longest stray_longest = (longest.0, join (d ∷ after) longest.1 stray_longest)

  pub comment_without_end : OpensComment at.rest → IsLongestRun goes_on_comment stray [] → HasOpenComment source at.place
  comment_without_end opens no_close = record {
    characters = chars text;
    stray = stray;
    decoded = decoded;
    before = tokens;
    spot = at;
    stretch = stretch;
    there = refl;
    after = opens.after;
    opens = opens.opens;
    no_end = join opens.after opens.no_end no_close;
  }

  pub quote_without_text : OpensQuote at.rest → HasOpenQuote source at.place
  quote_without_text opens = record {
    characters = chars text;
    stray = stray;
    decoded = decoded;
    before = tokens;
    spot = at;
    stretch = stretch;
    there = refl;
    after = opens.after;
    opens = opens.opens;
    no_text = opens.no_text;
  }
