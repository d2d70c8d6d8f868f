use Rattle.std.proofs.Common.{◌↔◌, drop}
use Rattle.std.specs.List.{AllByRecursion}
use Rattle.user_grammar.specs.Names.{AreApart, category_names}
use Rattle.judgments.proofs.words.is_apart.Given as goal

abbrev pub invariant-loop-other : goal.invariant-loop-other
invariant-loop-other l =
    AllByRecursion (AreApart l.one.name) (category_names (drop l.other-index l.others))
    ↔ AllByRecursion (AreApart l.one.name) (category_names l.others)
