use Rattle.derivation_text.proofs.Pages.{page_text}
use Rattle.derivation_text.proofs.judgment.judgment_text.Goals as goal

pub returns : goal.returns
returns c = page_text c.new-page.result _ _ c.in_ok-write_judgment.ensures c.new-page.ensures.text c.new-page.ensures.joined
