use Rattle.judgments.proofs.ItemLemmas.{free_name}
use Rattle.judgments.proofs.inputs.is_named_freely.Goals as goal

pub returns : goal.returns
returns c =
    let free = free_name c.args.sig.now c.args.input.now.name.now.text.now c.requires.variables in
    let test = rw (c.as_slice.ensures.value, c.cats.ensures.value, c.as_bytes.ensures.value) at c.is_no_spelling.ensures in
    (λ t. free.0 (test.0 t), λ h. test.1 (free.1 h))
