use Rattle.std.proofs.Common.{◌≡◌, ℕ, ap, ◌∙◌}
use Rattle.scheme_terms.specs.SchemeTree.{SchemeTree}
use Rattle.scheme_terms.specs.View.{scheme, scheme_part, scheme_parts, scheme_level, part_level}
use Rattle.scheme_terms.specs.declared.scheme.SArg.{roll-SArg}
use Rattle.scheme_terms.specs.declared.scheme.Scheme.TheFolds.{fold-roll-SArg}
use Rattle.term_reader.specs.Firsts.{with_last}
use Rattle.term_reader.proofs.PartLemmas.{scheme_parts_last}
use Rattle.term_reader.proofs.firsts.with_part.Goals as goal

pub returns : goal.returns
returns c =
    let last : scheme_part (roll-SArg (record { binds = c.args.binds; body = c.args.body })) ≡ (c.args.binds, scheme c.args.body) =
    fold-roll-SArg SchemeTree (ℕ × SchemeTree) scheme_level part_level (record { binds = c.args.binds; body = c.args.body }) in
    ap scheme_parts c.in_ok-push.ensures.ok ∙ scheme_parts_last c.args.parts _ ∙ ap (λ (a : ℕ × SchemeTree). with_last a.0 (scheme_parts c.args.parts) a.1) last
