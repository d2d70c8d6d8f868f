use Rattle.std.proofs.Common.{◌≡◌, ◌<◌, ◌≤◌, ℕ, [], get_or}
use Rattle.rule_schemes.specs.Rows.{HasAlsoAt}
use Rattle.rule_schemes.proofs.keeping.join_all.Given as goal

abbrev pub invariant-loop-row : goal.invariant-loop-row
invariant-loop-row l = record {
  done : (x : ℕ) → x < l.row-index → HasAlsoAt l.judgment.0 (get_or l.fn.rows x []) l.more (get_or l.rows x []);
  rest : (x : ℕ) → l.row-index ≤ x → get_or l.rows x [] ≡ get_or l.fn.rows x [];
}
