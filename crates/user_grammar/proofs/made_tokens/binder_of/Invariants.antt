use Rattle.std.proofs.Common.{◌↔◌, drop}
use Rattle.user_grammar.specs.Names.{variable_names, IsNoSpelling}
use Rattle.user_grammar.proofs.made_tokens.binder_of.Given as goal

abbrev pub invariant-loop-number : goal.invariant-loop-number
invariant-loop-number l = IsNoSpelling (variable_names (drop l.number l.cats)) l.word ↔ IsNoSpelling (variable_names l.cats) l.word
