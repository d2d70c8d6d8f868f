use Rattle.std.proofs.Common.{◌∙◌, map, reverse, sym, true≢false}
use Rattle.std.proofs.lemmas.List.{length-map}
use Rattle.binding_terms.specs.View.{tree}
use Rattle.derivation_check.proofs.JudgedLemmas.{terms_long}
use Rattle.derivation_check.proofs.judged.are_terms.Goals as goal

pub returns-then-cats-terms : goal.returns-then-cats-terms
returns-then-cats-terms c = (
  λ e. absurd (true≢false (sym e)),
  λ h. absurd (c.if-cats-terms.true
      (sym (length-map c.args.cats.now (λ k. k.0)) ∙ terms_long c.args.sig.now (reverse (map (λ k. k.0) c.args.scope.now)) _ _ h ∙ length-map c.args.terms.now tree)),
)
