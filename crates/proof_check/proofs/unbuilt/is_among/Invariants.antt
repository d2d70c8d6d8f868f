use Rattle.std.proofs.Common.{◌↔◌, map, drop}
use Rattle.user_grammar.specs.Names.{IsAmong}
use Rattle.proof_check.proofs.unbuilt.is_among.Given as goal

abbrev pub invariant-loop-word : goal.invariant-loop-word
invariant-loop-word l = IsAmong (map (λ word. word.now) (drop l.word-index l.table)) l.text ↔ IsAmong (map (λ word. word.now) l.table) l.text
