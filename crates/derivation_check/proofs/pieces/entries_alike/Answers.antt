use Rattle.std.proofs.Common.{◌∙◌, sym, true≢false}
use Rattle.std.proofs.lemmas.List.{length-map}
use Rattle.scheme_terms.specs.View.{scheme_entry, ground_entry}
use Rattle.derivation_check.proofs.PieceLists.{alike_long}
use Rattle.derivation_check.proofs.pieces.entries_alike.Goals as goal

pub returns-then-patterns-targets : goal.returns-then-patterns-targets
returns-then-patterns-targets c = (
  λ e. absurd (true≢false (sym e)),
  λ h. absurd (c.if-patterns-targets.true (sym (length-map c.args.patterns.now scheme_entry) ∙ alike_long _ _ h ∙ length-map c.args.targets.now ground_entry)),
)
