use Rattle.std.proofs.Common.{◌≡◌, length}
use Rattle.binding_terms.specs.Draft.{drafted}
use Rattle.binding_terms.specs.Numbered.{AllNumbered}
use Rattle.binding_terms.specs.Reach.{IsColumn}
use Rattle.binding_terms.proofs.fitting.Draft.reach_table.Given as goal

abbrev pub invariant-loop-number : goal.invariant-loop-number
invariant-loop-number l = record {
  long : length l.columns.items ≡ l.number;
  columns : AllNumbered (IsColumn (drafted l.self)) 0 l.columns.items;
}
