use Rattle.std.proofs.Common.{◌↔◌, map, drop}
use Rattle.user_grammar.specs.Names.{IsNoSpelling}
use Rattle.user_grammar.proofs.made_tokens.spells_none.Given as goal

abbrev pub invariant-loop-name : goal.invariant-loop-name
invariant-loop-name l = IsNoSpelling (map (λ name. name.now) (drop l.name-index l.names)) l.word ↔ IsNoSpelling (map (λ name. name.now) l.names) l.word
