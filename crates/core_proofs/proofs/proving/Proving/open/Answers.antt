use Rattle.std.proofs.Common.{map, sym, subst, arith}
use Rattle.rule_schemes.specs.View.{theory, statement}
use Rattle.core_proofs.specs.View.{step}
use Rattle.core_proofs.specs.Proof.{outside, Leads, no_step}
use Rattle.core_proofs.proofs.proving.Proving.open.Goals as goal

pub invariant_of-result : goal.invariant_of-result
invariant_of-result c = record {
  plain = c.requires.plain;
  provable = c.requires.provable;
  count = (let few = c.requires.count in omega (arith, few, c.args.statements.ok.0));
  leads = subst (λ ss. Leads (theory c.args.system) (map statement c.args.statements.items) (outside 0) (map step ss) (outside 0)) (sym c.new.ensures.items) no_step;
}
