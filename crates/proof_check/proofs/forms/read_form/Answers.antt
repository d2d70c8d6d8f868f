use Rattle.std.proofs.Common.{sym}
use Rattle.scheme_terms.specs.View.{names}
use Rattle.judgments.proofs.SystemLemmas.{form_read}
use Rattle.proof_check.proofs.FormLemmas.{reading_found}
use Rattle.proof_check.proofs.forms.read_form.Goals as goal

pub returns : goal.returns
returns c =
    reading_found c.args.sys.now.sig c.args.sys.now.judgments (names c.args.scope.now.scope) _ _ c.in_ok-found.found (sym (form_read c.args.tokens.now))
    (rw (c.sig.ensures, c.judgments.ensures) at c.in_ok-found.ensures)
