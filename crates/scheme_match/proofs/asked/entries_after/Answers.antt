use Rattle.std.proofs.Common.{length, map, drop, ap, ◌∙◌}
use Rattle.scheme_terms.specs.View.{context_value, ground_entry}
use Rattle.scheme_match.specs.Demands.{entries_over}
use Rattle.scheme_match.proofs.Asking.{rest_seen}
use Rattle.scheme_match.proofs.asked.entries_after.Goals as goal

pub returns : goal.returns
returns c =
    rest_seen ground_entry c.entries_over-over.result.now (entries_over (context_value c.args.root.now) c.args.form) c.as_slice-entries.result.now c.entries_over-over.ensures
    ∙ ap (λ xs. drop (length (entries_over (context_value c.args.root.now) c.args.form)) (map ground_entry xs)) c.as_slice-entries.ensures
