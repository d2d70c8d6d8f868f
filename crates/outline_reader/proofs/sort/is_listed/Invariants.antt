use Rattle.std.proofs.Common.{◌≡◌, length, map}
use Rattle.std.specs.List.{list_any}
use Rattle.std.specs.Str.{bytes_eq}
use Rattle.outline_reader.proofs.sort.is_listed.Given as goal

abbrev pub invariant-loop-table : goal.invariant-loop-table
invariant-loop-table l =
    list_any (λ one. bytes_eq one l.text) (map (λ entry. entry.0.now) l.table)
    ≡ list_any (λ one. bytes_eq one l.text) (map (λ entry. entry.0.now) l.initial.table)

abbrev pub decreases-loop-table : goal.decreases-loop-table
decreases-loop-table l = length l.table
