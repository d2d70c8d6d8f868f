use Rattle.std.proofs.Common.{◌≡◌, ◌+◌, ◌≤◌, length, chars}
use denote.Text.{Utf8}
use denote.Shadow.{shadow}
use Rattle.sy_base.specs.Tokens.{line_feeds}
use Rattle.proof_lexer.proofs.characters.line_feeds.Given as goal

abbrev pub invariant-loop-first : goal.invariant-loop-first
invariant-loop-first l = shadow (Utf8 l.rest)
    × (l.count + line_feeds (chars l.rest) ≡ line_feeds (chars l.text)) × (l.count + length l.rest ≤ length l.text)

abbrev pub decreases-loop-first : goal.decreases-loop-first
decreases-loop-first l = length l.rest
