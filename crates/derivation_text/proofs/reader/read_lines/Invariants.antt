use Rattle.std.proofs.Common.{◌≤◌, ◌-◌, map, drop, length}
use Rattle.proof_lexer.specs.View.{token_view}
use Rattle.rule_schemes.specs.View.{theory}
use Rattle.derivation_text.specs.Found.{AllDerive}
use Rattle.derivation_text.specs.Lines.{text_lines}
use Rattle.derivation_text.proofs.ReaderLemmas.{Reaches}
use Rattle.derivation_text.proofs.reader.read_lines.Given as goal

abbrev pub invariant-loop-at : goal.invariant-loop-at
invariant-loop-at l =
    (l.at ≤ length l.tokens) × AllDerive (theory l.sys) l.named
    × Reaches (theory l.sys) (text_lines (map token_view l.tokens)) l.named (text_lines (map token_view (drop l.at l.tokens)))

abbrev pub decreases-loop-at : goal.decreases-loop-at
decreases-loop-at l = length l.tokens - l.at
