use Rattle.judgments.proofs.Spelling.{apart_cats}
use Rattle.judgments.proofs.words.spelled_apart.Goals as goal

pub returns : goal.returns
returns c =
    let cats = rw (c.as_slice.ensures.value, c.cats.ensures.value) at c.all_apart.ensures in
    let both = apart_cats c.args.sig.now in
    (λ t. both.0 (cats.0 t), λ h. cats.1 (both.1 h))
