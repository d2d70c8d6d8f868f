use Rattle.std.proofs.Common.{◌≡◌, ◌<◌, ℕ, Some, slice_get}
use Rattle.binding_terms.specs.declared.grammar.Prod.{Prod}
use Rattle.term_reader.specs.Chart.{IsClosed}
use Rattle.term_reader.specs.Charting.{charted, CannotTake}
use Rattle.term_reader.proofs.chart.Form.open_products.Given as goal

-- where the box of its category is closed, no production before this one takes the range
abbrev pub invariant-loop-prod : goal.invariant-loop-prod
invariant-loop-prod l =
    ((a b c : ℕ) → IsClosed l.terms a b c → IsClosed l.fn.terms a b c)
    × ((p : ℕ) (q : Prod) → p < l.prod → slice_get (charted l.self).sig.prods p ≡ Some q → IsClosed l.terms q.cat.0 l.from l.to
    → CannotTake (charted l.self) q.items l.from l.to)
    × (l.terms.columns ≡ l.fn.terms.columns)
