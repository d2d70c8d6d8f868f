use Rattle.std.proofs.Common.{◌≡◌, map, take}
use Rattle.user_grammar.specs.Indexed.{HaveSame, names_in}
use Rattle.user_grammar.specs.Names.{AllDiffer}
use Rattle.user_grammar.proofs.name_index.indexed.Given as goal

abbrev pub invariant-loop-text : goal.invariant-loop-text
invariant-loop-text l = record {
  same : HaveSame (names_in l.index) (map (λ text. text.now) (take l.text-index l.texts));
  in_order : AllDiffer (map (λ text. text.now) (take l.text-index l.texts)) → names_in l.index ≡ map (λ text. text.now) (take l.text-index l.texts);
}
