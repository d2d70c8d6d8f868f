use Rattle.std.proofs.Common.{◌∙◌, map, ap, sym, true≢false}
use Rattle.scheme_terms.specs.View.{scheme_context, context_value, ground_entry, instance}
use Rattle.scheme_match.proofs.Contexts.{front_fails, front_holds}
use Rattle.scheme_match.proofs.equal.becomes_context.Goals as goal

pub returns-then-not-same_entries : goal.returns-then-not-same_entries
returns-then-not-same_entries c = (
  λ e. absurd (true≢false (sym e)),
  λ e. absurd (front_fails (instance c.args.inst.now) (scheme_context c.args.pattern.now) (context_value c.args.target.now) c.entries_over-root.result.now
      c.as_slice-entries.result.now c.entries_over-root.ensures (ap (map ground_entry) c.as_slice-entries.ensures)
      (λ h. true≢false (sym (c.same_entries.ensures.1 h) ∙ c.if-not-same_entries.true)) e),
)

pub returns : goal.returns
returns c =
    let both = front_holds (instance c.args.inst.now) (scheme_context c.args.pattern.now) (context_value c.args.target.now) c.entries_over-root.result.now
    c.as_slice-entries.result.now c.entries_over-root.ensures (ap (map ground_entry) c.as_slice-entries.ensures)
    (sym c.category_of.ensures ∙ c.same_category.ensures.0 c.if-not-same_category.false) (c.same_entries.ensures.0 c.if-not-same_entries.false) in
    let made = rw c.as_slice-own.ensures at c.in_ok-goes_on.ensures in
    (λ h. both.0 (made.0 h), λ h. made.1 (both.1 h))
