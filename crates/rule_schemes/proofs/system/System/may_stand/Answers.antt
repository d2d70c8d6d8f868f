use Rattle.rule_schemes.specs.View.{theory}
use Rattle.rule_schemes.proofs.RefusedLemmas.{IsKeptSystem-kept}
use Rattle.rule_schemes.proofs.system.System.may_stand.Goals as goal

pub may_stand-requires-clause-kept : goal.may_stand-requires-clause-kept
may_stand-requires-clause-kept c =
    rw c.deref.ensures.value (rw c.deref-2.ensures.value (rw c.deref-3.ensures.value
    (IsKeptSystem-kept (theory (record { sig = c.self.inside.sig; judgments = c.self.inside.judgments.items; rules = c.self.inside.rules.items })) c.self.inside.rows.items c.self.invariant)))
