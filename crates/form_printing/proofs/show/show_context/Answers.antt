use Rattle.form_printing.specs.View.{shown}
use Rattle.form_printing.proofs.Pages.{page_text}
use Rattle.form_printing.proofs.show.show_context.Goals as goal

pub returns : goal.returns
unfolding shown
returns c = page_text c.new-page.result _ _ c.in_ok-write_context.ensures c.new-page.ensures.text c.new-page.ensures.joined
