use Rattle.std.proofs.Common.{◌≡◌, drop}
use Rattle.std.specs.List.{list_all}
use Rattle.binding_terms.specs.Signature.{is_word}
use Rattle.cell_reader.proofs.testing.are_terminals.Given as goal

abbrev pub invariant-loop-item : goal.invariant-loop-item
invariant-loop-item l = list_all is_word l.items ≡ list_all is_word (drop l.item-index l.items)
