use Rattle.std.proofs.Common.{◌≡◌, sym, ◌∙◌, ap, Ok, rules}
use Rattle.std.proofs.lemmas.Result.{err_from_is_err_and}
use Rattle.outline_reader.specs.Reading as spec
use Rattle.outline_reader.specs.Portions.{portions}
use Rattle.outline_reader.proofs.OutlineLemmas.{outlined, faulty}
use Rattle.outline_reader.proofs.reader.outline.Goals as goal

pub returns-in_err-roles : goal.returns-in_err-roles
returns-in_err-roles c =
    let p = err_from_is_err_and c.from_residual.result c.from_residual.ensures.1 in
    rw (p.1, p.2) (λ had_memory. faulty c.args.tokens.now.items _ (ap spec.roles (sym c.deref.ensures.value) ∙ c.in_err-roles.ensures had_memory))

pub returns : goal.returns
returns c =
    let read : spec.roles c.args.tokens.now.items ≡ Ok c.in_ok-roles.roles.items = search rules in
    outlined c.args.tokens.now.items c.in_ok-roles.roles.items _ read
    (c.in_ok-parts.ensures.ok ∙ ap (λ rs. portions rs c.deref-3.result.now) c.deref-2.ensures.value ∙ ap (λ ts. portions c.in_ok-roles.roles.items ts) c.deref-3.ensures.value)
