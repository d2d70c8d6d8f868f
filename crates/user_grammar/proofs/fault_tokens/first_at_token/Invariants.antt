use Rattle.std.proofs.Common.{map, take}
use Rattle.user_grammar.specs.File.{WrittenCategory}
use Rattle.sy_base.specs.FirstFault.{OfSome}
use Rattle.user_grammar.specs.Finding.{IsLeast, portions_of, written_view}
use Rattle.user_grammar.specs.FindingPlaces.{TokensOf}
use Rattle.user_grammar.proofs.fault_tokens.first_at_token.Given as goal

abbrev pub invariant-loop-written : goal.invariant-loop-written
invariant-loop-written l =
    IsLeast (OfSome (λ (w : WrittenCategory). OfSome (TokensOf (portions_of l.names.lists)) w.forms) (map written_view (take l.written-index l.names.lists.categories.now))) l.found
