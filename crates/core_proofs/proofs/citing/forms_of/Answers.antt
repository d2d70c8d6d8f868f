use Rattle.std.proofs.Common.{map, ap, sym, ◌∙◌}
use Rattle.std.specs.Option.{option_copied}
use Rattle.rule_schemes.specs.View.{judgment_scheme}
use Rattle.core_proofs.proofs.CitedForms.{cited_none, cited_more}
use Rattle.core_proofs.proofs.citing.forms_of.Goals as goal

pub returns-in-None : goal.returns-in-None
returns-in-None c =
    cited_none c.args.scoped.now c.args.on.now c.loop-id.id-index _ c.loop-id-test.true (map (λ j. judgment_scheme j.now) c.loop-id.cited.items) _
    (sym c.at.ensures ∙ ap option_copied c.in-None.is) c.loop-id.invariant

pub loop-id-preserved : goal.loop-id-preserved
loop-id-preserved c =
    cited_more c.args.scoped.now c.args.on.now c.loop-id.id-index _ c.loop-id-test.true c.loop-id.cited.items c.push.new.self.items c.in-Some.form _
    (sym c.at.ensures ∙ ap option_copied c.in-Some.is) c.in_ok-push-in-Some.ensures.items c.loop-id.invariant
