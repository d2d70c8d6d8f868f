use Rattle.std.proofs.Common.{true≢false, length, map, sym, ap, ◌∙◌}
use Rattle.std.proofs.lemmas.List.{length-map}
use Rattle.scheme_terms.specs.View.{scheme_entry, ground_entry, instance}
use Rattle.scheme_match.proofs.Contexts.{length_entries}
use Rattle.scheme_match.proofs.equal.become_entries.Goals as goal

pub returns-then-patterns-targets : goal.returns-then-patterns-targets
returns-then-patterns-targets c = (
  λ e. absurd (true≢false (sym e)),
  λ e. absurd (c.if-patterns-targets.true
      (sym (length-map c.args.patterns.now scheme_entry) ∙ sym (length_entries (instance c.args.inst.now) 0 (map scheme_entry c.args.patterns.now)) ∙ ap length e
      ∙ length-map c.args.targets.now ground_entry)),
)
