use Rattle.proof_check.proofs.spelling.is_spelling_in.Goals as goal

pub returns : goal.returns
returns c = rw (c.as_slice.ensures.value, c.cats.ensures.value) at c.is_spelling_of_any.ensures
