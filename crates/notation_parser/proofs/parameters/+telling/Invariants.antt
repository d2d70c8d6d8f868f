use Rattle.std.proofs.Common.{◌+◌, ◌*◌, length}
use Rattle.notation_parser.proofs.parameters.+telling.Given as goal

abbrev pub decreases-behind : goal.decreases-behind
decreases-behind l = 2 * length l.tokens.now

abbrev pub decreases-bracket : goal.decreases-bracket
decreases-bracket l = 2 * length l.rest.now + 1

abbrev pub decreases-brackets : goal.decreases-brackets
decreases-brackets l = 2 * length l.tokens.now

abbrev pub decreases-mark : goal.decreases-mark
decreases-mark l = 2 * length l.rest.now + 1

abbrev pub decreases-word : goal.decreases-word
decreases-word l = 2 * length l.rest.now + 1

abbrev pub decreases-words : goal.decreases-words
decreases-words l = 2 * length l.tokens.now
