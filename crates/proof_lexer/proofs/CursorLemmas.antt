-- Where a cursor stands after a part of the text.
use Rattle.std.proofs.Common.{◌≡◌, ℕ, ◌+◌, ◌≤◌, List, ◌++◌, length, IsUtf8, sym, ap, ◌∙◌, arith}
use Rattle.std.specs.Str.{chars}
use Rattle.std.proofs.lemmas.List.{append_cancel_right}
use Rattle.std.proofs.lemmas.List.Sums.{count_by-le-length}
use Rattle.std.proofs.lemmas.Str.{length-le-encodes}
use Rattle.std.specs.Prelude.{◌==◌}
use Rattle.sy_base.specs.Tokens.{Spot, past, size, line_feeds}
use Rattle.proof_lexer.proofs.TextLemmas.{chars-spell}

-- each line feed takes a byte
pub few_line_feeds : (bs : List ℕ) → IsUtf8 bs → line_feeds (chars bs) ≤ length bs
few_line_feeds bs text =
    omega (arith, count_by-le-length (λ c. c == 10) (chars bs), length-le-encodes (chars bs), ap length (chars-spell bs text))

pub past_same : (spot : Spot) (part taken rest : List ℕ) (feeds : ℕ) → IsUtf8 part → spot.rest ≡ chars part ++ rest → spot.rest ≡ taken ++ rest
    → feeds ≡ line_feeds (chars part)
    → record { place = spot.place + length part; line = spot.line + feeds; rest = rest } ≡ past spot taken rest
past_same spot part taken rest feeds text parts split feeds_are =
    let same : chars part ≡ taken = append_cancel_right (chars part) taken rest (sym parts ∙ split) in
    let place_same : length part ≡ size taken = ap length (sym (chars-spell part text)) ∙ ap size same in
    let line_same : feeds ≡ line_feeds taken = feeds_are ∙ ap line_feeds same in
    λ i. record { place = spot.place + place_same i; line = spot.line + line_same i; rest = rest }
