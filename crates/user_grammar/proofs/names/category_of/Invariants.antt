use Rattle.std.proofs.Common.{◌↔◌, drop}
use Rattle.user_grammar.specs.Names.{category_names, IsNoSpelling}
use Rattle.user_grammar.proofs.names.category_of.Given as goal

abbrev pub invariant-loop-number : goal.invariant-loop-number
invariant-loop-number l = IsNoSpelling (category_names (drop l.number l.cats)) l.word ↔ IsNoSpelling (category_names l.cats) l.word
