use Rattle.binding_terms.proofs.Lists.{all_front, all_right}
use Rattle.rule_schemes.specs.StatementFault.{given_forms, FormMayStand}
use Rattle.rule_schemes.specs.View.{statement, theory}
use Rattle.rule_schemes.proofs.StatementFaults.{given_stand}
use Rattle.rule_schemes.proofs.system.System.statement_fault.Goals as goal

pub returns-in-None-clause-none : goal.returns-in-None-clause-none
returns-in-None-clause-none c =
    let th = theory c.args.self.now in
    let st = statement c.args.of.now in
    record {
      strict = c.in_default.ensures.none;
      inputs = given_stand th st st.inputs (all_front (FormMayStand th st.scope.root) (given_forms st.inputs) st.outputs c.in-None.ensures.none);
      outputs = all_right (FormMayStand th st.scope.root) (given_forms st.inputs) st.outputs c.in-None.ensures.none;
    }
