use Rattle.std.proofs.Common.{◌↔◌, drop}
use Rattle.user_grammar.specs.Names.{AllApart, category_names}
use Rattle.judgments.proofs.words.all_apart.Given as goal

abbrev pub invariant-loop-i : goal.invariant-loop-i
invariant-loop-i l = AllApart (category_names (drop l.i l.cats)) ↔ AllApart (category_names l.cats)
