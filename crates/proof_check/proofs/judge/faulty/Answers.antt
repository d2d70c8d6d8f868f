use Rattle.proof_check.proofs.JudgeLemmas.{faulty_judged}
use Rattle.proof_check.proofs.judge.faulty.Goals as goal

pub returns : goal.returns
returns c =
    faulty_judged c.args.source.now c.in_ok-fault_lines.field-0.items c.args.fault.now c.faulty_files_have_no_signature.ensures c.requires c.in_ok-fault_lines.ensures
